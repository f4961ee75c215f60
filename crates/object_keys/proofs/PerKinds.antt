-- Laws of what stands once for each kind.
use Rattle.std.proofs.Common.{◌≡◌, List, [], ◌∷◌, ◌++◌, All, refl, subst, inr}
use Rattle.std.proofs.lemmas.List.Elements.{All-nil, All-cons, All-head, All-tail}
use Rattle.std.specs.Borrow.{MutBor}
use Rattle.std.specs.Fn.{Mut, Called}
use Rattle.spec_api.specs.declared.kinds.Kind.{Kind}
use Rattle.spec_api.specs.declared.kinds.Kind.TheVariants.{ConfigMap, Pod, ReplicaSet, Deployment}
use Rattle.object_keys.specs.PerKind.{of_kind, with_kind, EachKind, values, GivesAtMut, MayChange}
use Rattle.object_keys.specs.declared.per_kind.PerKind.{PerKind}

module _ {T : Type 0} where
  -- what was put for a kind stands for it
  pub of_with_kind : (k : Kind) (x : T) (t : PerKind T) → of_kind k (with_kind k x t) ≡ x
  of_with_kind ConfigMap x t = refl
  of_with_kind Pod x t = refl
  of_with_kind ReplicaSet x t = refl
  of_with_kind Deployment x t = refl

module _ {T : Type 0} (P : T → Type 0) where
  -- what holds of all that stood in a list holds of what was left there, and of what was taken for each kind
  pub of_left : (left : List T) (t : PerKind T) → All P (left ++ values t) → All P left
  of_left [] t all = All-nil P
  of_left (x ∷ left) t all = All-cons P x left (All-head P x (left ++ values t) all) (of_left left t (All-tail P x (left ++ values t) all))

  of_values : (t : PerKind T) → All P (values t) → EachKind (λ k. P (of_kind k t))
  of_values t all =
      let pods = All-tail P t.config_maps (t.pods ∷ t.replica_sets ∷ t.deployments ∷ []) all in
      let sets = All-tail P t.pods (t.replica_sets ∷ t.deployments ∷ []) pods in
      (all_config_maps t all, All-head P t.pods (t.replica_sets ∷ t.deployments ∷ []) pods, All-head P t.replica_sets (t.deployments ∷ []) sets, All-head P t.deployments [] (All-tail P t.replica_sets (t.deployments ∷ []) sets))
    where
      all_config_maps : (t : PerKind T) → All P (values t) → P t.config_maps
      all_config_maps t all = All-head P t.config_maps (t.pods ∷ t.replica_sets ∷ t.deployments ∷ []) all

  pub of_taken : (left : List T) (t : PerKind T) → All P (left ++ values t) → EachKind (λ k. P (of_kind k t))
  of_taken [] t all = of_values t all
  of_taken (x ∷ left) t all = of_taken left t (All-tail P x (left ++ values t) all)

-- what a call gave, under another name
pub gave : {F A R : Type 0} (g : Mut F A R) {f f' : F} {a : A} {r s : R} → Called g f a r f' → r ≡ s → Called g f a s f'
gave g {f} {f'} {a} called is = subst (λ x. Called g f a x f') is called

module _ {F T R : Type 0} (g : Mut F (MutBor T × Unit {0}) (R × (MutBor T × Unit {0}))) where
  -- a call gives its result
  pub gives : {f f' : F} {p q : MutBor T} {r s : R} → Called g f (p, tt) (r, (q, tt)) f' → r ≡ s → GivesAtMut g p.now s q.now
  gives {f} {f'} {p} {q} {r} {s} called is = subst (λ x. GivesAtMut g p.now x q.now) is (f, f', record { shown = p; shows = refl; left = q; called = called; leaves = refl })

  -- and may change what it was lent
  pub changes : {f f' : F} {p q : MutBor T} {r : R} → Called g f (p, tt) (r, (q, tt)) f' → MayChange g p.now q.now
  changes {r = r} called = inr (r, gives called refl)
