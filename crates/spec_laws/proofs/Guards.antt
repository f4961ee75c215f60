-- What is true of an outcome behind a guard.
use Rattle.std.proofs.Common.{◌≡◌, Bool, true, false, cond, Option, Some, None, refl}
use Rattle.serde_json.specs.Data.{Data}
use Rattle.spec_api.specs.declared.refusals.Field.{Field}
use Rattle.spec_api.specs.Keys.{Key}
use Rattle.spec_api.specs.Refusals.{Refusal, not_found, invalid}
use Rattle.spec_api.specs.Verbs.{Outcome, refused, refuse_if, refuse_field, or_not_found}

module _ (P : Outcome → Type 0) (refusal : (f : Refusal) → P (refused f)) where
  pub guard : (b : Bool) (f : Refusal) (o : Outcome) → (b ≡ false → P o) → P (refuse_if b f o)
  guard true f o next = refusal f
  guard false f o next = next refl

  pub guard_field : (k : Key) (f : Option Field) (o : Outcome) → (f ≡ None → P o) → P (refuse_field k f o)
  guard_field k None o next = next refl
  guard_field k (Some f) o next = refusal (invalid k f)

  pub there : (k : Key) (next : Data → Outcome) (now : Option Data) → ((d : Data) → now ≡ Some d → P (next d)) → P (or_not_found k next now)
  there k next None each = refusal (not_found k)
  there k next (Some d) each = each d refl

-- of two outcomes, one
pub either : (P : Outcome → Type 0) (b : Bool) (x y : Outcome) → (b ≡ true → P x) → (b ≡ false → P y) → P (cond b x y)
either P true x y first second = first refl
either P false x y first second = second refl
