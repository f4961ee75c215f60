-- The steps of a pass.
use Rattle.std.proofs.Common.{◌≡◌, ℕ, List, ◌++◌, sym, ap, ◌∙◌, subst, true, false}
use Rattle.std.specs.Prelude.{Option, Some, IfSome}
use Rattle.baton.specs.Marks.{StartsWith, entries, made_by, marked}
use Rattle.baton.specs.Passes.{Taken}
use Rattle.baton.proofs.Entries.{happens}
use Rattle.baton.specs.declared.views.Known.{Known}
use Rattle.baton.specs.declared.views.PassView as views
use Rattle.spec_api.specs.History.{History, Entry}
use Rattle.spec_api.specs.ObjectRequests.{Request}
use Rattle.spec_server.specs.Servers.{Server, opened_server, after_entries}
use Rattle.desk.specs.Histories.{IsOpening, MayFollow, HasCome}
use Rattle.desk.specs.Steps.{Step, HasTaken, StepsHaveCome, having_seen, after_give}

-- a take, what is said at the history that it shows, and a give are a step
pub steps : (may_ask : Request → Type 0) (v w x : Known Server Entry) (change : History → Option Entry) (Says : History → Type 0) → HasTaken may_ask v w → Says (entries w.seen)
    → x ≡ after_give w (change (entries w.seen)) → Step may_ask v change Says x
steps may_ask v w x change Says t says is = record {
  history = w.seen;
  later = t.later;
  made = t.made;
  came = t.came;
  says = says;
  knows = is ∙ (λ i. after_give (t.same i) (change (entries w.seen))) ∙ (λ i. record v { seen = w.seen ++ marked v.name (change (entries w.seen)); made = v.made ++ entries (marked v.name (change (entries w.seen))); holds = sym t.free i });
}

-- what a pass has seen after a step
pub steps_come : (may_ask : Request → Type 0) → StepsHaveCome may_ask
steps_come may_ask v w h change came comes is =
    subst (λ (g : List (ℕ × Entry)). HasCome may_ask g) (sym (ap (λ z. z.seen) is)) (happens (MayFollow may_ask) h v.name change came comes)

-- at the same history more may be said, and the entry be named in other words
pub restated : (may_ask : Request → Type 0) (v w : Known Server Entry) (change other : History → Option Entry) (Says More : History → Type 0) (s : Step may_ask v change Says w) → other (entries s.history) ≡ change (entries s.history)
    → More (entries s.history) → Step may_ask v other More w
restated may_ask v w change other Says More s same says = record {
  history = s.history;
  later = s.later;
  made = s.made;
  came = s.came;
  says = says;
  knows = s.knows ∙ ap (having_seen v s.history) (sym same);
}

-- what a take tells of the pass
seen_then : (may_ask : Request → Type 0) (v w : views.PassView Server Entry) (x : Server) (t : Taken IsOpening after_entries (MayFollow may_ask) v x w) → w.own.seen ≡ t.history
seen_then may_ask v w x t = ap (λ z. z.own.seen) t.knows

pub taken : (may_ask : Request → Type 0) (v w : views.PassView Server Entry) (x : Server) → Taken IsOpening after_entries (MayFollow may_ask) v x w → v.own.holds ≡ false → HasTaken may_ask v.own w.own
taken may_ask v w x t free =
    let seen : w.own.seen ≡ t.history = seen_then may_ask v w x t in
    record {
      later = subst (λ (h : List (ℕ × Entry)). StartsWith h v.own.seen) (sym seen) t.later;
      made = subst (λ (h : List (ℕ × Entry)). made_by v.own.name h ≡ v.own.made) (sym seen) t.made;
      came = subst (λ (h : List (ℕ × Entry)). HasCome may_ask h) (sym seen) t.happened;
      same = ap (λ z. z.own) t.knows ∙ (λ i. record v.own { seen = sym seen i; holds = true });
      free = free;
    }

-- and of the server
pub held : (may_ask : Request → Type 0) (v w : views.PassView Server Entry) (x : Server) (size : ℕ) → Taken IsOpening after_entries (MayFollow may_ask) v x w → v.own.opening ≡ Some (opened_server size)
    → (w.own.opening ≡ Some (opened_server size)) × (w.own.holds ≡ true) × (x ≡ after_entries (opened_server size) (entries w.own.seen))
held may_ask v w x size t opened = (
  ap (λ z. z.own.opening) t.knows ∙ opened,
  ap (λ z. z.own.holds) t.knows,
  (t.state (opened_server size) opened).1 ∙ ap (λ (h : List (ℕ × Entry)). after_entries (opened_server size) (entries h)) (sym (seen_then may_ask v w x t)),
)
