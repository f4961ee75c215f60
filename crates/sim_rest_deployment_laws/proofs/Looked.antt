-- What a turn looked at was there, is named truly, and leads to what is there.
use Rattle.std.proofs.Common.{◌≡◌, ◌≤◌, ◌==◌, ℕ, List, [], ◌∷◌, Bool, true, false, cond, Option, Some, refl, sym, ap, ◌∙◌, subst, arith}
use Rattle.std.proofs.lemmas.Bool.{eqb-true}
use Rattle.std.specs.List.{AllByRecursion}
use Rattle.serde_json.specs.Data.{Data}
use Rattle.spec_api.proofs.KindOrder.{rank_tells}
use Rattle.spec_api.proofs.PutLaws.{IsAscending-filter, IsAscending-after_all}
use Rattle.spec_api.specs.declared.kinds.Kind.{Kind}
use Rattle.spec_api.specs.History.{History, Entries, present, state, list, found, up_to, entries_at, in_view}
use Rattle.spec_api.specs.Keys.{Key, key_cmp}
use Rattle.spec_api.specs.Kinds.{rank}
use Rattle.spec_api.specs.Reached.{IsReached}
use Rattle.spec_client_go.specs.Informers.{Looks}
use Rattle.spec_client_go.specs.WorkQueues.{WorkKey}
use Rattle.spec_laws.specs.SentLaws.{whole}
use Rattle.spec_laws.proofs.SentLists.{Lists, all_listed}
use Rattle.spec_laws.proofs.SentObjects.{IsHeld}
use Rattle.spec_server.specs.Snapshots.{Snapshot}
use Rattle.spec_sim.specs.Turns.{Sight, looked, satisfied, shown}
use Rattle.reconcile_locality_laws.proofs.AtPresent.{there}
use Rattle.sim_worker_laws.specs.IssuedLaws.{IsSeen}
use Rattle.sim_rest_laws.specs.WholeLaws.{ReferencesAreTrue, AreServerLists}
use Rattle.sim_rest_command_laws.specs.CommandLaws.{Unowed, NamesTruly}
use Rattle.sim_rest_command_laws.specs.FirstCommandLaws.{PassesBy}
use Rattle.sim_rest_command_laws.proofs.Listed.{all_found}

-- three of each make one
all_of : (P Q R S : Key × Data → Type 0) (es : Entries) → ((m : Key × Data) → P m → Q m → R m → S m) → AllByRecursion P es → AllByRecursion Q es → AllByRecursion R es → AllByRecursion S es
all_of P Q R S [] f p q r = tt
all_of P Q R S (e ∷ es) f p q r = (f e p.0 q.0 r.0, all_of P Q R S es f p.1 q.1 r.1)

module _ (h g : History) (Shown : Looks → Type 0) (j : WorkKey) (d : Data) (reached : IsReached h) (references : ReferencesAreTrue h) (servers : AreServerLists h Shown) (at_end : state h (present h) j.key ≡ Some d) where
  pub record Looked (k : Kind) (m : Key × Data) : Type 0 where
    pub kind : m.0.kind ≡ k
    pub at : (r : ℕ) × (state h r m.0 ≡ Some m.1)
    pub held : IsHeld m.0 m.1
    pub names : NamesTruly j.key d m.1
    pub leads : Unowed j Shown m.0 (Some m.1) (state h (present g) m.0)
    pub leads_on : Unowed j Shown m.0 (state h (present g) m.0) (state h (present h) m.0)

  module _ (k : Kind) (s : Snapshot) (passes : PassesBy h g j Shown k s) where
    abbrev Found : Key × Data → Type 0
    Found m = found m.0 s.members ≡ Some m.1

    one : (r : ℕ) → s.members ≡ list h (whole k) r → (m : Key × Data) → Found m → Lists k m → NamesTruly j.key d m.1 → Looked k m
    one r is m at held names =
        let kind = sym held.0 in
        let leads = passes.1 m.0 kind in
        record {
          kind = kind;
          at = (r, there h (whole k) r m.0 m.1 (ap (found m.0) (sym is) ∙ at));
          held = held.1;
          names = names;
          leads = subst (λ (o : Option Data). Unowed j Shown m.0 o (state h (present g) m.0)) at leads.0;
          leads_on = leads.1;
        }

    all_in : (r : ℕ) → r ≤ present h → s.members ≡ list h (whole k) r → AllByRecursion (Looked k) s.members
    all_in r le is =
        let ascending = IsAscending-filter key_cmp (λ m. in_view (whole k) m.0 m.1) (entries_at h r) (IsAscending-after_all [] (up_to r h) (tt {0})) in
        let all : AllByRecursion Found s.members = subst (λ es. AllByRecursion (λ m. found m.0 es ≡ Some m.1) es) (sym is) (all_found (list h (whole k) r) ascending) in
        all_of Found (Lists k) (λ m. NamesTruly j.key d m.1) (Looked k) s.members (one r is) all (subst (AllByRecursion (Lists k)) (sym is) (all_listed h k r reached))
        (subst (AllByRecursion (λ m. NamesTruly j.key d m.1)) (sym is) (references (present h) r j.key d k (omega arith) le at_end))

    pub each_looked : AllByRecursion (Looked k) s.members
    each_looked =
        let z = passes.0 in
        let of = servers z.0 z.1 k in all_in of.0 of.1 (z.2 ∙ of.2)

  pub shown_looked : (k : Kind) (ss : List Sight) → AllByRecursion (IsSeen (PassesBy h g j Shown)) ss → AllByRecursion (Looked k) (shown k ss)
  shown_looked k [] a = tt
  shown_looked k (satisfied b ∷ ss) a = shown_looked k ss a.1
  shown_looked k (looked i s ∷ ss) a = by (rank k == rank i) refl (shown_looked k ss a.1)
    where
      by : (b : Bool) → (rank k == rank i) ≡ b → AllByRecursion (Looked k) (shown k ss) → AllByRecursion (Looked k) (cond b s.members (shown k ss))
      by true is later = each_looked k s (subst (λ (i : Kind). PassesBy h g j Shown i s) (sym (rank_tells k i (eqb-true (rank k) (rank i) is))) a.0)
      by false is later = later
