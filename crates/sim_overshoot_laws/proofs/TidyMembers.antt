-- What is found among members that are tidy.
use Rattle.std.proofs.Common.{◌≡◌, ℕ, List, Bool, true, false, cond, bytes_eq, Option, Some, None, option_and_then, Ordering, Less, Equal, Greater, nat_cmp, is_eq, refl, sym, subst}
use Rattle.std.proofs.lemmas.Map.Text.{is_eq-slice_cmp}
use Rattle.std.specs.Cmp.Lexicographic.{slice_cmp}
use Rattle.std.specs.Ordering.{match_ordering}
use Rattle.serde_json.specs.Data.{Data, null, boolean, number, string, array, object, Members, no_members, member}
use Rattle.serde_json.specs.Find.{get, get_member}
use Rattle.spec_api.specs.declared.schemas.Schema.{Schema}
use Rattle.spec_api.specs.declared.schemas.Shape.TheVariants.{Object as ObjectOf}
use Rattle.spec_api.specs.Reading.{is_absent, tidied}
use Rattle.spec_api.specs.Schemas.{property_at}
use Rattle.spec_api.specs.Values.{inner_of}
use Rattle.spec_laws.proofs.ReadAgain.{IsTidy, MembersTidy, same_name, tidied_members-MembersTidy}
use Rattle.sim_rest_command_laws.proofs.UnderNames.{Under}

-- ---- what is found among tidy members

-- a member that is not absent, and is tidy
abbrev pub Fine : Schema → List ℕ → Data → Type 0
Fine p q v = (is_absent (property_at p q) v ≡ false) × IsTidy (property_at p q).shape v

tidy_at : (p : Schema) (q : List ℕ) (ms : Members) (v : Data) → MembersTidy p ms → get_member q ms ≡ Some v → Fine p q v
tidy_at p q no_members v tidy at = cc
tidy_at p q (member l e ms) v tidy at = by (slice_cmp nat_cmp q l) refl at (tidy_at p q ms v tidy.2)
  where
    some : e ≡ v → Fine p l e → Fine p l v
    some is f = subst (Fine p l) is f

    by : (o : Ordering) → slice_cmp nat_cmp q l ≡ o → match_ordering o (get_member q ms) (Some e) (get_member q ms) ≡ Some v → (get_member q ms ≡ Some v → Fine p q v) → Fine p q v
    by Less is f later = later f
    by Equal is f later = let same : e ≡ v = cc in subst (λ n. Fine p n v) (sym (same_name q l is)) (some same (tidy.0, tidy.1))
    by Greater is f later = later f

-- in an object of a schema
pub tidy_in : (p : Schema) (q : List ℕ) (d v : Data) → IsTidy (ObjectOf p) d → get q d ≡ Some v → Fine p q v
tidy_in p q null v tidy at = cc
tidy_in p q (boolean b) v tidy at = cc
tidy_in p q (number n) v tidy at = cc
tidy_in p q (string s) v tidy at = cc
tidy_in p q (array ds) v tidy at = cc
tidy_in p q (object ms) v tidy at = tidy_at p q ms v tidy at

-- what is found inside of what may be there
pub inner_get : (q : List ℕ) (x : Option Data) → get_member q (inner_of x) ≡ option_and_then (get q) x
inner_get q None = refl
inner_get q (Some null) = refl
inner_get q (Some (boolean b)) = refl
inner_get q (Some (number n)) = refl
inner_get q (Some (string s)) = refl
inner_get q (Some (array ds)) = refl
inner_get q (Some (object ms)) = refl

pub then_some : (q : List ℕ) (x : Option Data) (v : Data) → option_and_then (get q) x ≡ Some v → (d : Data) × (x ≡ Some d) × (get q d ≡ Some v)
then_some q None v e = cc
then_some q (Some d) v e = (d, refl, e)

-- where there is nothing under a name
pub none_at : (q : List ℕ) (ms : Members) → Under q (λ d. ⊥) ms → get_member q ms ≡ None
none_at q no_members none = refl
none_at q (member l e ms) none = by (slice_cmp nat_cmp q l) (is_eq-slice_cmp q l) (none_at q ms none.1)
  where
    by : (o : Ordering) → is_eq o ≡ bytes_eq q l → get_member q ms ≡ None → match_ordering o (get_member q ms) (Some e) (get_member q ms) ≡ None
    by Less is later = later
    by Equal is later = absurd (none.0 (sym is))
    by Greater is later = later

-- what is fine is tidied to itself
pub tidied_fine : (p : Schema) (q : List ℕ) (v : Data) → Fine p q v → tidied (property_at p q).shape v ≡ v
tidied_fine p q v fine =
    by (is_absent (property_at p q) (tidied (property_at p q).shape v)) (tidied (property_at p q).shape v) (tidied_members-MembersTidy p (member q v no_members) (fine.0, fine.1, tt))
  where
    by : (b : Bool) (e : Data) → cond b no_members (member q e no_members) ≡ member q v no_members → e ≡ v
    by true e is = cc
    by false e is = cc
