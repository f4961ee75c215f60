-- What a turn looked at leads to what was there when its first command was issued.
use Rattle.std.proofs.Common.{◌≡◌, ◌<◌, ◌^◌, ◌==◌, ◌&&◌, ℕ, List, [], ◌∷◌, filter, length, Bool, true, false, cond, IfSome, Option, Some, None, refl, sym, ◌∙◌, subst, arith}
use Rattle.std.specs.List.{AllByRecursion}
use Rattle.serde_json.specs.Data.{Data}
use Rattle.spec_api.proofs.PutLaws.{IsAscending-after_all, IsAscending-filter}
use Rattle.spec_api.proofs.Truths.{left_true}
use Rattle.spec_api.specs.declared.kinds.Kind.{Kind}
use Rattle.spec_api.specs.declared.kinds.Kind.TheVariants.{ConfigMap, Pod, ReplicaSet, Deployment}
use Rattle.spec_api.specs.History.{History, Entries, up_to, list, state, present, entries_at, found, in_view, in_namespace}
use Rattle.spec_api.specs.Keys.{Key, key_cmp}
use Rattle.spec_api.specs.Kinds.{rank}
use Rattle.spec_api.specs.Metadata.{labels_of}
use Rattle.spec_api.specs.Reached.{IsParsed, IsReached}
use Rattle.spec_api.specs.SelectorFields.{fields_meet}
use Rattle.spec_api.specs.Selectors.{meets_all}
use Rattle.spec_client_go.specs.Hands.{Read}
use Rattle.spec_client_go.specs.Informers.{Looks}
use Rattle.spec_client_go.specs.WorkQueues.{WorkKey}
use Rattle.spec_laws.specs.AskedLaws.{AreStored, IsOfServer}
use Rattle.spec_laws.specs.SentLaws.{whole}
use Rattle.spec_laws.proofs.DeploymentPlans.{all_both}
use Rattle.spec_laws.proofs.ParsedEdits.{stored_parsed}
use Rattle.spec_server.specs.Snapshots.{Snapshot}
use Rattle.spec_sim.specs.Turns.{Turn, Sight, looked, satisfied, shown, hand}
use Rattle.sim_worker_laws.specs.IssuedLaws.{IsSeen, WasThere}
use Rattle.sim_rest_laws.specs.StillLaws.{of_kind, IsLookOf}
use Rattle.sim_rest_laws.specs.WholeLaws.{AreServerLists}
use Rattle.sim_rest_laws.proofs.ShiftRuns.{kinds_are}
use Rattle.sim_rest_command_laws.specs.CommandLaws.{Unowed}
use Rattle.sim_rest_command_laws.specs.FirstCommandLaws.{PassesBy}
use Rattle.sim_rest_command_laws.proofs.Listed.{all_found}
use Rattle.sim_control_plane_laws.proofs.StoredLists.{listed_stored, listed_few}

-- ---- server lists

-- an entry is found in a list, and is of a kind
abbrev IsIn : Kind → Entries → Key × Data → Type 0
IsIn k all e = (found e.0 all ≡ Some e.1) × (e.0.kind ≡ k)

all_of_kind : (k : Kind) (es : Entries) → AllByRecursion (λ (e : Key × Data). e.0.kind ≡ k) (filter (λ m. in_view (whole k) m.0 m.1) es)
all_of_kind k [] = tt
all_of_kind k (e ∷ es) = by (in_view (whole k) e.0 e.1) refl (all_of_kind k es)
  where
    by : (b : Bool) → in_view (whole k) e.0 e.1 ≡ b → AllByRecursion (λ (e : Key × Data). e.0.kind ≡ k) (filter (λ m. in_view (whole k) m.0 m.1) es)
        → AllByRecursion (λ (e : Key × Data). e.0.kind ≡ k) (cond b (e ∷ filter (λ m. in_view (whole k) m.0 m.1) es) (filter (λ m. in_view (whole k) m.0 m.1) es))
    by true is rest =
        let v = whole k in
        let in_space = in_namespace v.namespace e.0.namespace in
        let labels = meets_all v.labels (labels_of e.1) in
        let one : (rank k == rank e.0.kind) ≡ true =
        left_true (rank k == rank e.0.kind) in_space (left_true ((rank k == rank e.0.kind) && in_space) labels (left_true (((rank k == rank e.0.kind) && in_space) && labels) (fields_meet v.fields e.0.name e.0.namespace) is)) in
        (sym (kinds_are k e.0.kind one), rest)
    by false is rest = rest

listed_in : (h : History) (k : Kind) (r : ℕ) → AllByRecursion (IsIn k (list h (whole k) r)) (list h (whole k) r)
listed_in h k r =
    let all = list h (whole k) r in
    all_both (λ (e : Key × Data). found e.0 all ≡ Some e.1) (λ (e : Key × Data). e.0.kind ≡ k) all
    (all_found all (IsAscending-filter key_cmp (λ m. in_view (whole k) m.0 m.1) (entries_at h r) (IsAscending-after_all [] (up_to r h) tt))) (all_of_kind k (entries_at h r))

-- ---- looks

module _ (h g : History) (j : WorkKey) (Shown : Looks → Type 0) (servers : AreServerLists h Shown) where
  -- an entry of a kind leads to what was there
  abbrev pub Leads : Kind → Key × Data → Type 0
  Leads k e = (e.0.kind ≡ k) × Unowed j Shown e.0 (Some e.1) (state h (present g) e.0)

  each_leads : (k : Kind) (all es : Entries) → ((x : Key) → x.kind ≡ k → Unowed j Shown x (found x all) (state h (present g) x)) → AllByRecursion (IsIn k all) es → AllByRecursion (Leads k) es
  each_leads k all [] passes a = tt
  each_leads k all (e ∷ es) passes a =
      ((a.0.1, subst (λ (v : Option Data). Unowed j Shown e.0 v (state h (present g) e.0)) a.0.0 (passes e.0 a.0.1)), each_leads k all es passes a.1)

  list_at : (k : Kind) (s : Snapshot) → PassesBy h g j Shown k s → (r : ℕ) × (s.members ≡ list h (whole k) r)
  list_at k s z = let l = servers z.0.0 z.0.1 k in (l.0, z.0.2 ∙ l.2)

  look_leads : (k : Kind) (s : Snapshot) → PassesBy h g j Shown k s → AllByRecursion (Leads k) s.members
  look_leads k s z =
      let l = list_at k s z in
      each_leads k s.members s.members (λ x is. (z.1 x is).0) (subst (λ (es : Entries). AllByRecursion (IsIn k es) es) (sym l.1) (listed_in h k l.0))

  pub shown_leads : (k : Kind) (ss : List Sight) → AllByRecursion (IsSeen (PassesBy h g j Shown)) ss → AllByRecursion (Leads k) (shown k ss)
  shown_leads k [] a = tt
  shown_leads k (satisfied b ∷ ss) a = shown_leads k ss a.1
  shown_leads k (looked i s ∷ ss) a = by (rank k == rank i) refl (shown_leads k ss a.1)
    where
      by : (b : Bool) → (rank k == rank i) ≡ b → AllByRecursion (Leads k) (shown k ss) → AllByRecursion (Leads k) (cond b s.members (shown k ss))
      by true is later = subst (λ (n : Kind). AllByRecursion (Leads n) s.members) (sym (kinds_are k i is)) (look_leads i s a.0)
      by false is later = later

  -- and so does what was found under a key
  pub found_leads : (k : Kind) (ss : List Sight) (x : Key) (d : Data) → AllByRecursion (IsSeen (PassesBy h g j Shown)) ss → x.kind ≡ k → found x (shown k ss) ≡ Some d
      → Unowed j Shown x (Some d) (state h (present g) x) × Unowed j Shown x (state h (present g) x) (state h (present h) x)
  found_leads k [] x d a of_kind is = cc
  found_leads k (satisfied b ∷ ss) x d a of_kind is = found_leads k ss x d a.1 of_kind is
  found_leads k (looked i s ∷ ss) x d a of_kind is = by (rank k == rank i) refl is (found_leads k ss x d a.1 of_kind)
    where
      by : (b : Bool) → (rank k == rank i) ≡ b → found x (cond b s.members (shown k ss)) ≡ Some d
          → (found x (shown k ss) ≡ Some d → Unowed j Shown x (Some d) (state h (present g) x) × Unowed j Shown x (state h (present g) x) (state h (present h) x))
          → Unowed j Shown x (Some d) (state h (present g) x) × Unowed j Shown x (state h (present g) x) (state h (present h) x)
      by true same at later =
          let two = a.0.1 x (of_kind ∙ kinds_are k i same) in (subst (λ (v : Option Data). Unowed j Shown x v (state h (present g) x)) at two.0, two.1)
      by false same at later = later at

  pub are_looks : (ss : List Sight) → AllByRecursion (IsSeen (PassesBy h g j Shown)) ss → AllByRecursion (IsSeen (IsLookOf Shown)) ss
  are_looks [] a = tt
  are_looks (satisfied b ∷ ss) a = (tt, are_looks ss a.1)
  are_looks (looked i s ∷ ss) a = (a.0.0, are_looks ss a.1)

  -- they are stored as they should be, and not too many
  pub shown_stored : (k : Kind) (ss : List Sight) → IsReached h → AllByRecursion (IsSeen (PassesBy h g j Shown)) ss → AreStored (shown k ss) × (length (shown k ss) < 2 ^ 64)
  shown_stored k [] reached a = (tt, omega arith)
  shown_stored k (satisfied b ∷ ss) reached a = shown_stored k ss reached a.1
  shown_stored k (looked i s ∷ ss) reached a = by (rank k == rank i) (shown_stored k ss reached a.1)
    where
      by : (b : Bool) → AreStored (shown k ss) × (length (shown k ss) < 2 ^ 64) → AreStored (cond b s.members (shown k ss)) × (length (cond b s.members (shown k ss)) < 2 ^ 64)
      by true later =
          let l = list_at i s a.0 in subst (λ (es : Entries). AreStored es × (length es < 2 ^ 64)) (sym l.1) (listed_stored h i l.0 reached, listed_few h i l.0 reached)
      by false later = later

-- ---- the hand

read_parsed : (g : History) (rs : List Read) → IsReached g → AllByRecursion (WasThere g) rs → AllByRecursion (λ (r : Read). IfSome r.found IsParsed) rs
read_parsed g [] reached a = tt
read_parsed g (r ∷ rs) reached a =
    let at = a.0.0 in (subst (λ (o : Option Data). IfSome o IsParsed) (sym a.0.2) (by (state g at r.key) refl), read_parsed g rs reached a.1)
  where
    by : (o : Option Data) → state g a.0.0 r.key ≡ o → IfSome o IsParsed
    by None e = tt
    by (Some d) e = stored_parsed g a.0.0 r.key d reached e

-- so all that a turn has looked at and read is as the server stores it
pub of_server : (h g : History) (j : WorkKey) (Shown : Looks → Type 0) (servers : AreServerLists h Shown) (t : Turn) → IsReached h → IsReached g → AllByRecursion (IsSeen (PassesBy h g j Shown)) t.sights
    → AllByRecursion (WasThere g) t.reads → IsOfServer (hand t)
of_server h g j Shown servers t reached reached_g seen there =
    let stored = λ (k : Kind). shown_stored h g j Shown servers k t.sights reached seen in
    record {
      config_maps = (stored ConfigMap).0;
      pods = (stored Pod).0;
      replica_sets = (stored ReplicaSet).0;
      deployments = (stored Deployment).0;
      few = (stored Pod).1;
      reads = read_parsed g t.reads reached_g there;
    }
