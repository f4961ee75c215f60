-- What was asked, one thing after another.
use Rattle.std.proofs.Common.{◌≡◌, ◌≤◌, ◌+◌, ℕ, zero, suc, Bool, true, false, List, Option, Some, None, Result, inl, inr, refl, sym, subst, ◌∙◌, arith}
use Rattle.spec_api.specs.ListQueries.{ListOptions}
use Rattle.spec_api.specs.History.{View}
use Rattle.spec_api.specs.ObjectRequests.{Request}
use Rattle.spec_api.specs.Refusals.{Refusal}
use Rattle.spec_api.specs.Targets as targets
use Rattle.spec_api.specs.Verbs.{Outcome}
use Rattle.spec_api.specs.Versions.{Listed}
use Rattle.selector.specs.Views.{view_of}
use Rattle.http_watch.specs.Watches.{Look}
use Rattle.http_watch.specs.declared.standing.WatchStanding.{WatchStanding}
use Rattle.http_connection.specs.Arriving.{IsAskedBySome}
use Rattle.http_connection.specs.Looking.{LooksFrom}
use Rattle.http_connection.specs.Phases.{Answers}
use Rattle.http_connection.specs.declared.phase.ConnectionPhase.{ConnectionPhase}
use Rattle.http_connection.specs.declared.watching.Watching.{Watching}
use Rattle.http_event_loop.specs.Asked.{AreLooks, AreAsked, HasAsked}
use Rattle.http_event_loop.specs.declared.asker.Asker.{Asker}

module _ {S : Type 0} (calls : S → Request → List ℕ → Outcome → S → Type 0) (lists : S → View → ListOptions → Outcome → S → Type 0)
    (begins : S → View → Option ℕ → Result Listed Refusal → S → Type 0) (watches : S → View → ℕ → ℕ → Look → S → Type 0) where
  looks_on : (j k : ℕ) (s m t : S) → AreLooks calls lists begins watches j s m → AreLooks calls lists begins watches k m t → AreLooks calls lists begins watches (j + k) s t
  looks_on j zero s m t first same =
      let whole : j ≡ j + 0 = omega arith in
      subst (λ n. AreLooks calls lists begins watches n s t) whole (subst (AreLooks calls lists begins watches j s) (sym same) first)
  looks_on j (suc k) s m t first (mid, second, last) =
      let whole : suc (j + k) ≡ j + suc k = omega arith in
      subst (λ n. AreLooks calls lists begins watches n s t) whole (mid, looks_on j k s m mid first second, last)

  -- looks after what was asked
  looked_on : (n k : ℕ) (s m t : S) → AreAsked calls lists begins watches n s m → AreLooks calls lists begins watches k m t → AreAsked calls lists begins watches n s t
  looked_on zero k s m t (j, first) second = (j + k, looks_on j k s m t first second)
  looked_on (suc n) k s m t (before, after, asked, one, (j, first)) second = (before, after, asked, one, (j + k, looks_on j k after m t first second))

  asked_on : (n m : ℕ) (s mid t : S) → AreAsked calls lists begins watches n s mid → AreAsked calls lists begins watches m mid t → AreAsked calls lists begins watches (n + m) s t
  asked_on n zero s mid t first (k, looks) =
      let whole : n ≡ n + 0 = omega arith in
      subst (λ i. AreAsked calls lists begins watches i s t) whole (looked_on n k s mid t first looks)
  asked_on n (suc m) s mid t first (before, after, asked, one, looks) =
      let whole : suc (n + m) ≡ n + suc m = omega arith in
      subst (λ i. AreAsked calls lists begins watches i s t) whole (before, after, asked_on n m s mid before first asked, one, looks)

  -- a look
  looked : (w : Watching) (s t : S) (at : Option WatchStanding) (p : ConnectionPhase) → LooksFrom watches w s t at p → (k : ℕ) × AreLooks calls lists begins watches k s t
  looked w s t None p (same, is) = (0, same)
  looked w s t (Some at) p (inl (over, same, adds)) = (0, same)
  looked w s t (Some at) p (inr (short, (look, given, shows))) = (1, (s, refl, (view_of w.view, at.revision, look, given)))

-- ---- by what asks

module _ {S L : Type 0} (calls : S → Request → List ℕ → Outcome → S → Type 0) (lists : S → View → ListOptions → Outcome → S → Type 0)
    (begins : S → View → Option ℕ → Result Listed Refusal → S → Type 0) (watches : S → View → ℕ → ℕ → Look → S → Type 0) where
  pub asks_nothing : (a b : Asker S L) → b.site ≡ a.site → b.asked ≡ a.asked → a.taken.count ≤ b.taken.count → HasAsked calls lists begins watches a b
  asks_nothing a b site asked taken = record {
    requests = 0;
    chain = (0, site);
    counted = asked ∙ sym (omega arith);
    taken = taken;
  }

  -- a connection takes a turn, if one is left
  pub takes : (a b : Asker S L) (has : Bool) → b.site ≡ a.site → b.asked ≡ a.asked → (has ≡ true → b.taken.count ≡ a.taken.count + 1) → (has ≡ false → b.taken.count ≡ a.taken.count)
      → HasAsked calls lists begins watches a b
  takes a b true site asked some none = let one = some refl in asks_nothing a b site asked (omega (arith, one))
  takes a b false site asked some none = let same = none refl in asks_nothing a b site asked (omega (arith, same))

  pub asks_on : (a b c : Asker S L) → HasAsked calls lists begins watches a b → HasAsked calls lists begins watches b c → HasAsked calls lists begins watches a c
  asks_on a b c first second = record {
    requests = first.requests + second.requests;
    chain = asked_on calls lists begins watches first.requests second.requests a.site b.site c.site first.chain second.chain;
    counted = omega (arith, first.counted, second.counted);
    taken = omega (arith, first.taken, second.taken);
  }

  -- a request that is whole
  pub asks_one : (a b : Asker S L) (moment : List ℕ) (asked : targets.Asked) (p : ConnectionPhase) → IsAskedBySome asked → Answers calls lists begins watches moment a.site b.site asked p
      → b.asked ≡ a.asked + 1 → a.taken.count ≤ b.taken.count → HasAsked calls lists begins watches a b
  asks_one a b moment asked p some (r, responds, written) counted taken = record {
    requests = 1;
    chain = (a.site, b.site, (0, refl), (moment, asked, r, some, responds), (0, refl));
    counted = counted;
    taken = taken;
  }

  -- a look
  pub asks_look : (a b : Asker S L) (w : Watching) (at : Option WatchStanding) (p : ConnectionPhase) → LooksFrom watches w a.site b.site at p → b.asked ≡ a.asked → a.taken.count ≤ b.taken.count
      → HasAsked calls lists begins watches a b
  asks_look a b w at p looks asked taken = record {
    requests = 0;
    chain = looked calls lists begins watches w a.site b.site at p looks;
    counted = asked ∙ sym (omega arith);
    taken = taken;
  }
