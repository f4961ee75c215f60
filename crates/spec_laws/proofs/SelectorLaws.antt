-- Requirements that stand in both of two lists.
use Rattle.std.proofs.Common.{◌≡◌, inl, inr, ◌↔◌, ℕ, List, [], ◌∷◌, ◌++◌, Bool, true, false, ◌&&◌, None, refl, sym, ap, ◌∙◌}
use Rattle.serde_json.specs.Data.{Members}
use Rattle.spec_api.proofs.Truths.{and_true, left_true, right_true}
use Rattle.spec_api.specs.declared.selectors.Operator.TheVariants.{In, NotIn}
use Rattle.spec_api.specs.Labels.{label_at}
use Rattle.spec_api.specs.Selectors.{Requirement, holds, meets, meets_all}
use Rattle.spec_laws.specs.SelectorLaws.{IsSaid}

meets-said : (r : Requirement) (rs : List Requirement) (l : Members) → meets_all rs l ≡ true → IsSaid r rs → meets r l ≡ true
meets-said r [] l h m = absurd m
meets-said r (s ∷ rs) l h (inl e) = ap (λ q. meets q l) e ∙ left_true (meets s l) (meets_all rs l) h
meets-said r (s ∷ rs) l h (inr m) = meets-said r rs l (right_true (meets s l) (meets_all rs l) h) m

meets-each : (rs : List Requirement) (l : Members) → ((r : Requirement) → IsSaid r rs → meets r l ≡ true) → meets_all rs l ≡ true
meets-each [] l f = refl
meets-each (s ∷ rs) l f = and_true (meets s l) (meets_all rs l) (f s (inl refl)) (meets-each rs l (λ r m. f r (inr m)))

both-true : (u v : Bool) → (u ≡ true → v ≡ true) → (v ≡ true → u ≡ true) → u ≡ v
both-true true v f g = sym (f refl)
both-true false true f g = g refl
both-true false false f g = refl

pub meets-alike : (rs ss : List Requirement) (l : Members) → ((r : Requirement) → IsSaid r rs ↔ IsSaid r ss) → meets_all rs l ≡ meets_all ss l
meets-alike rs ss l f =
    both-true (meets_all rs l) (meets_all ss l)
    (λ h. meets-each ss l (λ r m. meets-said r rs l h ((f r).1 m)))
    (λ h. meets-each rs l (λ r m. meets-said r ss l h ((f r).0 m)))

pub excluded : (k : List ℕ) (values : List (List ℕ)) (l : Members) → label_at k l ≡ None → meets (record { key = k; operator = NotIn; values = values }) l ≡ true
excluded k values l h = ap (holds NotIn values) h

pub included : (k : List ℕ) (values : List (List ℕ)) (l : Members) → label_at k l ≡ None → meets (record { key = k; operator = In; values = values }) l ≡ false
included k values l h = ap (holds In values) h

and-assoc : (u v w : Bool) → (u && (v && w)) ≡ ((u && v) && w)
and-assoc true v w = refl
and-assoc false v w = refl

pub each-holds : (rs ss : List Requirement) (l : Members) → meets_all (rs ++ ss) l ≡ (meets_all rs l && meets_all ss l)
each-holds [] ss l = refl
each-holds (r ∷ rs) ss l = ap (λ b. meets r l && b) (each-holds rs ss l) ∙ and-assoc (meets r l) (meets_all rs l) (meets_all ss l)
