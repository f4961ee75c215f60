-- What is handled of a kind after a history is the highest revision at which something of it was.
use Rattle.std.proofs.Common.{◌≡◌, ◌⊎◌, ◌≤◌, inl, inr, ⊎_elim, ℕ, List, [], ◌∷◌, ◌++◌, refl, sym, ap, ◌∙◌, subst, arith}
use Rattle.std.proofs.lemmas.Bool.{cases_lt}
use Rattle.std.specs.Prelude.{◌<◌, max}
use Rattle.baton.specs.Marks.{entries}
use Rattle.spec_api.specs.declared.kinds.Kind.{Kind}
use Rattle.spec_api.specs.declared.kinds.Kind.TheVariants.{ConfigMap, Pod, ReplicaSet, Deployment}
use Rattle.spec_client_go.specs.Boards.{Observation}
use Rattle.spec_client_go.specs.WorkQueues.{WorkKey}
use Rattle.object_keys.specs.PerKind.{of_kind, with_kind, each_kind}
use Rattle.object_keys.specs.declared.per_kind.PerKind.{PerKind}
use Rattle.control_desk.specs.Steps.{Step, take, finish, requeue, observe, add, expect_creations, expect_deletions, forget, tick, raised, all_raised}
use Rattle.control_desk.specs.Hands.{handled, HasHandled, IsHighest, HighestAreHandled}

-- ---- one kind

-- what is put for a kind stands for it, and for another what stood there
put : (j k : Kind) (x : ℕ) (n : PerKind ℕ) → ((j ≡ k) × (of_kind k (with_kind j x n) ≡ x)) ⊎ (of_kind k (with_kind j x n) ≡ of_kind k n)
put ConfigMap ConfigMap x n = inl (refl, refl)
put ConfigMap Pod x n = inr refl
put ConfigMap ReplicaSet x n = inr refl
put ConfigMap Deployment x n = inr refl
put Pod ConfigMap x n = inr refl
put Pod Pod x n = inl (refl, refl)
put Pod ReplicaSet x n = inr refl
put Pod Deployment x n = inr refl
put ReplicaSet ConfigMap x n = inr refl
put ReplicaSet Pod x n = inr refl
put ReplicaSet ReplicaSet x n = inl (refl, refl)
put ReplicaSet Deployment x n = inr refl
put Deployment ConfigMap x n = inr refl
put Deployment Pod x n = inr refl
put Deployment ReplicaSet x n = inr refl
put Deployment Deployment x n = inl (refl, refl)

put_here : (k : Kind) (x : ℕ) (n : PerKind ℕ) → of_kind k (with_kind k x n) ≡ x
put_here ConfigMap x n = refl
put_here Pod x n = refl
put_here ReplicaSet x n = refl
put_here Deployment x n = refl

abbrev no_kind : PerKind ℕ
no_kind = each_kind (λ j. 0)

none_yet : (k : Kind) → of_kind k no_kind ≡ 0
none_yet ConfigMap = refl
none_yet Pod = refl
none_yet ReplicaSet = refl
none_yet Deployment = refl

-- ---- one step

-- a step handles this kind at a revision
abbrev Handles : Step → Kind → ℕ → Type 0
Handles e k r = (ss : List Observation) × (ks : List WorkKey) × (e ≡ observe k r ss ks)

-- a step leaves what is handled of a kind, or handles it at what is handled then
abbrev Leaves : Step → PerKind ℕ → Kind → Type 0
Leaves e n k = (of_kind k (raised e n) ≡ of_kind k n) ⊎ Handles e k (of_kind k (raised e n))

higher : (m r : ℕ) → (max m r ≡ m) ⊎ (max m r ≡ r)
higher m r = ⊎_elim (λ (less : m < r). inr (omega arith)) (λ (not_less : r ≤ m). inl (omega arith)) (cases_lt m r)

observes : (j k : Kind) (r : ℕ) (ss : List Observation) (ks : List WorkKey) (n : PerKind ℕ) → Leaves (observe j r ss ks) n k
observes j k r ss ks n = by (put j k (max (of_kind j n) r) n)
  where
    by : ((j ≡ k) × (of_kind k (with_kind j (max (of_kind j n) r) n) ≡ max (of_kind j n) r)) ⊎ (of_kind k (with_kind j (max (of_kind j n) r) n) ≡ of_kind k n) → Leaves (observe j r ss ks) n k
    by (inr same) = inl same
    by (inl (is, at)) =
        ⊎_elim (λ (a : max (of_kind j n) r ≡ of_kind j n). inl (at ∙ a ∙ ap (λ i. of_kind i n) is))
        (λ (a : max (of_kind j n) r ≡ r). inr (ss, ks, λ i. observe (is i) (sym (at ∙ a) i) ss ks)) (higher (of_kind j n) r)

leaves : (e : Step) (n : PerKind ℕ) (k : Kind) → Leaves e n k
leaves (take j) n k = inl refl
leaves (finish j) n k = inl refl
leaves (requeue j ss least) n k = inl refl
leaves (observe j r ss ks) n k = observes j k r ss ks n
leaves (add ks) n k = inl refl
leaves (expect_creations o m) n k = inl refl
leaves (expect_deletions o pods) n k = inl refl
leaves (forget j) n k = inl refl
leaves (tick m) n k = inl refl

-- no step lowers it
observes_more : (j k : Kind) (r : ℕ) (n : PerKind ℕ) → of_kind k n ≤ of_kind k (with_kind j (max (of_kind j n) r) n)
observes_more j k r n = by (put j k (max (of_kind j n) r) n)
  where
    by : ((j ≡ k) × (of_kind k (with_kind j (max (of_kind j n) r) n) ≡ max (of_kind j n) r)) ⊎ (of_kind k (with_kind j (max (of_kind j n) r) n) ≡ of_kind k n)
        → of_kind k n ≤ of_kind k (with_kind j (max (of_kind j n) r) n)
    by (inr same) = omega (arith, same)
    by (inl (is, at)) = let here = ap (λ i. of_kind i n) is in omega (arith, at, here)

one_more : (e : Step) (n : PerKind ℕ) (k : Kind) → of_kind k n ≤ of_kind k (raised e n)
one_more (take j) n k = omega arith
one_more (finish j) n k = omega arith
one_more (requeue j ss least) n k = omega arith
one_more (observe j r ss ks) n k = observes_more j k r n
one_more (add ks) n k = omega arith
one_more (expect_creations o m) n k = omega arith
one_more (expect_deletions o pods) n k = omega arith
one_more (forget j) n k = omega arith
one_more (tick m) n k = omega arith

-- ---- a history

more : (es : List Step) (n : PerKind ℕ) (k : Kind) → of_kind k n ≤ of_kind k (all_raised es n)
more [] n k = omega arith
more (e ∷ es) n k = let a = one_more e n k in let b = more es (raised e n) k in omega (arith, a, b)

reached : (h front : List (ℕ × Step)) (name r : ℕ) (k : Kind) (ss : List Observation) (ks : List WorkKey) (rest : List (ℕ × Step)) (n : PerKind ℕ)
    → h ≡ front ++ (name, observe k r ss ks) ∷ rest → r ≤ of_kind k (all_raised (entries h) n)
reached h [] name r k ss ks rest n is =
    let here = put_here k (max (of_kind k n) r) n in
    let later = more (entries rest) (raised (observe k r ss ks) n) k in
    let whole = ap (λ l. of_kind k (all_raised (entries l) n)) is in
    omega (arith, here, later, whole)
reached h (x ∷ front) name r k ss ks rest n is =
    let later = reached (front ++ (name, observe k r ss ks) ∷ rest) front name r k ss ks rest (raised x.1 n) refl in
    let whole = ap (λ l. of_kind k (all_raised (entries l) n)) is in
    omega (arith, later, whole)

also : (x : ℕ × Step) (h : List (ℕ × Step)) (k : Kind) (r : ℕ) → HasHandled h k r → HasHandled (x ∷ h) k r
also x h k r (front, name, ss, ks, rest, is) = (x ∷ front, name, ss, ks, rest, ap (λ l. x ∷ l) is)

from : (h : List (ℕ × Step)) (n : PerKind ℕ) (k : Kind) → (of_kind k (all_raised (entries h) n) ≡ of_kind k n) ⊎ HasHandled h k (of_kind k (all_raised (entries h) n))
from [] n k = inl refl
from (x ∷ h) n k = by (from h (raised x.1 n) k) (leaves x.1 n k)
  where
    by : (of_kind k (all_raised (entries h) (raised x.1 n)) ≡ of_kind k (raised x.1 n)) ⊎ HasHandled h k (of_kind k (all_raised (entries h) (raised x.1 n))) → Leaves x.1 n k
        → (of_kind k (all_raised (entries h) (raised x.1 n)) ≡ of_kind k n) ⊎ HasHandled (x ∷ h) k (of_kind k (all_raised (entries h) (raised x.1 n)))
    by (inr some) left = inr (also x h k (of_kind k (all_raised (entries h) (raised x.1 n))) some)
    by (inl same) (inl left) = inl (same ∙ left)
    by (inl same) (inr (ss, ks, is)) =
        inr ([], x.0, ss, ks, h, λ i. (x.0, (is ∙ ap (λ r. observe k r ss ks) (sym same)) i) ∷ h)

pub highest : HighestAreHandled
highest h k = record {
  each = λ r has. reached h has.0 has.1 r k has.2 has.3 has.4 no_kind has.5;
  some = ⊎_elim (λ (same : of_kind k (handled h) ≡ of_kind k no_kind). inl (same ∙ none_yet k)) (λ (has : HasHandled h k (of_kind k (handled h))). inr has) (from h no_kind k);
}
