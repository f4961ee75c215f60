-- What a delete does, from what its preconditions are told.
use Rattle.std.proofs.Common.{◌≡◌, ℕ, List, Bool, true, false, Option, Some, None, Result, Ok, Err, refl, sym, ap, ◌∙◌, if◌then◌else◌}
use Rattle.serde_json.specs.Data.{Data}
use Rattle.spec_api.specs.declared.kinds.Kind.{Kind}
use Rattle.spec_api.specs.declared.refusals.Mismatch.{Mismatch}
use Rattle.spec_api.specs.declared.refusals.Mismatch.TheVariants as why
use Rattle.spec_api.specs.Deletion.{Fate, fate, decided}
use Rattle.spec_api.specs.DeleteOptions.{Options}
use Rattle.spec_api.specs.Metadata.{uid, version, differs}
use Rattle.lifecycle.specs.Fates.{mismatch}

abbrev or_mismatch : Option Mismatch → Fate → Result Fate Mismatch
or_mismatch None f = Ok f
or_mismatch (Some w) f = Err w

by_tests : (a b : Bool) (f : Fate) → (if a then Err why.Uid else (if b then Err why.ResourceVersion else Ok f)) ≡ or_mismatch (if a then Some why.Uid else (if b then Some why.ResourceVersion else None)) f
by_tests true b f = refl
by_tests false true f = refl
by_tests false false f = refl

found_so : (k : Kind) (o : Options) (moment : List ℕ) (existing : Data) (found other : Option Mismatch) → found ≡ mismatch o existing → found ≡ other
    → decided k o moment existing ≡ or_mismatch other (fate k o.policy moment existing)
found_so k o moment existing found other is so =
    by_tests (differs o.uid (uid existing)) (differs o.version (version existing)) (fate k o.policy moment existing) ∙ ap (λ m. or_mismatch m (fate k o.policy moment existing)) (sym is ∙ so)

pub decided-mismatch : (k : Kind) (o : Options) (moment : List ℕ) (existing : Data) (found : Option Mismatch) (w : Mismatch) → found ≡ mismatch o existing → found ≡ Some w → decided k o moment existing ≡ Err w
decided-mismatch k o moment existing found w is so = found_so k o moment existing found (Some w) is so

pub decided-met : (k : Kind) (o : Options) (moment : List ℕ) (existing : Data) (found : Option Mismatch) → found ≡ mismatch o existing → found ≡ None → decided k o moment existing ≡ Ok (fate k o.policy moment existing)
decided-met k o moment existing found is so = found_so k o moment existing found None is so
