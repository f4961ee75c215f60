-- The pods in the order of their ranks, by what was counted on their nodes.
use Rattle.std.proofs.Common.{◌≡◌, ℕ, suc, List, [], ◌∷◌, ◌++◌, length, map, Bool, true, false, cond, bytes_eq, refl, sym, ap, ◌∙◌}
use Rattle.std.specs.Prelude.{filter}
use Rattle.std.specs.Ordering.{on}
use Rattle.serde_json.specs.Data.{Data}
use Rattle.spec_api.specs.History.{Entries}
use Rattle.spec_api.specs.Keys.{Key}
use Rattle.spec_reconcile.specs.Orders.{in_order}
use Rattle.spec_reconcile.specs.PodRanks.{Rank, node, pods_on, rank, rank_beside, rank_cmp, ranked}
use Rattle.spec_reconcile.specs.ReplicaSets.{ready_pods}
use Rattle.spec_reconcile.proofs.InOrder.{in_order_map}
use Rattle.replicaset.specs.declared.ranks.Ranked.{Ranked}
use Rattle.replicaset.specs.Ranks.{AreRead, on_node_among, pods_of, rank_of, ranked_of, read, read_of, ready_among, with_on_node}
use Rattle.reconcile_types.specs.Entries.{entry_of}

-- by what was counted
abbrev pub beside : (List ℕ → ℕ) → Key × Data → Rank × (Key × Data)
beside counted p = (rank_beside (counted (node p.1)) p, p)

abbrev with_rank : Entries → Key × Data → Rank × (Key × Data)
with_rank pods p = (rank pods p, p)

beside_is : (counted : List ℕ → ℕ) (pods : Entries) → ((n : List ℕ) → counted n ≡ pods_on n pods) → (ps : Entries) → map (beside counted) ps ≡ map (with_rank pods) ps
beside_is counted pods h ps = ap (λ (f : List ℕ → ℕ). map (beside f) ps) (λ i n. h n i)

second_of : (pods ps : Entries) → map (λ (r : Rank × (Key × Data)). r.1) (map (with_rank pods) ps) ≡ ps
second_of pods [] = refl
second_of pods (p ∷ ps) = ap (λ (qs : Entries). p ∷ qs) (second_of pods ps)

pub ranked_by_count : (counted : List ℕ → ℕ) (pods : Entries) (rs : List (Rank × (Key × Data))) → ((n : List ℕ) → counted n ≡ pods_on n pods)
    → rs ≡ in_order (on (λ (r : Rank × (Key × Data)). r.0) rank_cmp) (map (beside counted) pods) → map (λ (r : Rank × (Key × Data)). r.1) rs ≡ ranked pods
ranked_by_count counted pods rs h is =
    ap (map (λ (r : Rank × (Key × Data)). r.1)) (is ∙ ap (in_order (on (λ (r : Rank × (Key × Data)). r.0) rank_cmp)) (beside_is counted pods h pods)
    ∙ sym (in_order_map (with_rank pods) (on (λ (r : Rank × (Key × Data)). r.0) rank_cmp) pods))
    ∙ second_of pods (ranked pods)

pub in_ranks : (rs : List Ranked) → pods_of rs ≡ map (λ (r : Rank × (Key × Data)). r.1) (map ranked_of rs)
in_ranks [] = refl
in_ranks (r ∷ rs) = ap (λ (qs : Entries). entry_of r.pod ∷ qs) (in_ranks rs)

-- ---- what was read of pods says what the pods say

map_twice : {A B C : Type 0} (f : A → B) (g : B → C) (xs : List A) → map g (map f xs) ≡ map (λ x. g (f x)) xs
map_twice f g [] = refl
map_twice f g (x ∷ xs) = ap (λ ys. g (f x) ∷ ys) (map_twice f g xs)

count_mapped : {A B : Type 0} (f : A → B) (test : B → Bool) (xs : List A) → length (filter test (map f xs)) ≡ length (filter (λ x. test (f x)) xs)
count_mapped f test [] = refl
count_mapped f test (x ∷ xs) = one (test (f x)) (count_mapped f test xs) where
  one : (b : Bool) → length (filter test (map f xs)) ≡ length (filter (λ y. test (f y)) xs)
      → length (cond b (f x ∷ filter test (map f xs)) (filter test (map f xs))) ≡ length (cond b (x ∷ filter (λ y. test (f y)) xs) (filter (λ y. test (f y)) xs))
  one true h = ap suc h
  one false h = h

-- so many of what was read pass as of the pods
count_read : (test : Rank × (List ℕ × (Key × Data)) → Bool) (rs : List Ranked) → AreRead rs
    → length (filter (λ (r : Ranked). test (read_of r)) rs) ≡ length (filter (λ (p : Key × Data). test (read p)) (pods_of rs))
count_read test rs are =
    sym (count_mapped read_of test rs) ∙ ap (λ qs. length (filter test qs)) are.are_read ∙ count_mapped read test (pods_of rs)

pub on_node_read : (n : List ℕ) (rs : List Ranked) → AreRead rs → on_node_among n rs ≡ pods_on n (pods_of rs)
on_node_read n rs are = count_read (λ q. bytes_eq q.1.0 n) rs are

pub ready_read : (rs : List Ranked) → AreRead rs → ready_among rs ≡ length (ready_pods (pods_of rs))
ready_read rs are = count_read (λ q. q.0.is_ready) rs are

pub beside_read : (counted : List ℕ → ℕ) (rs : List Ranked) → AreRead rs
    → map (λ (r : Ranked). (with_on_node (counted r.node.now) (rank_of r.rank), entry_of r.pod)) rs ≡ map (beside counted) (pods_of rs)
beside_read counted rs are =
    let counting : Rank × (List ℕ × (Key × Data)) → Rank × (Key × Data) = λ q. (with_on_node (counted q.1.0) q.0, q.1.1) in
    sym (map_twice read_of counting rs) ∙ ap (map counting) are.are_read ∙ map_twice read counting (pods_of rs)

pub all_read : (rs : List Ranked) → length (pods_of rs) ≡ length rs
all_read [] = refl
all_read (r ∷ rs) = ap suc (all_read rs)

grown-at : (rs : List Ranked) (r : Ranked) → map read_of rs ≡ map read (pods_of rs) → read_of r ≡ read (entry_of r.pod) → map read_of (rs ++ r ∷ []) ≡ map read (pods_of (rs ++ r ∷ []))
grown-at rs r are is =
    appended rs (r ∷ []) ∙ ap (λ qs. qs ++ read_of r ∷ []) are ∙ ap (λ q. map read (pods_of rs) ++ q ∷ []) is ∙ sym (appended_pods rs (r ∷ [])) where
      appended : (xs ys : List Ranked) → map read_of (xs ++ ys) ≡ map read_of xs ++ map read_of ys
      appended [] ys = refl
      appended (x ∷ xs) ys = ap (λ qs. read_of x ∷ qs) (appended xs ys)

      appended_pods : (xs ys : List Ranked) → map read (pods_of (xs ++ ys)) ≡ map read (pods_of xs) ++ map read (pods_of ys)
      appended_pods [] ys = refl
      appended_pods (x ∷ xs) ys = ap (λ qs. read (entry_of x.pod) ∷ qs) (appended_pods xs ys)

pub grown : (rs : List Ranked) (r : Ranked) → AreRead rs → read_of r ≡ read (entry_of r.pod) → AreRead (rs ++ r ∷ [])
grown rs r are is = record { are_read = grown-at rs r are.are_read is }
