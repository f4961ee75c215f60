-- The options of a delete are read back of its body.
use Rattle.std.proofs.Common.{◌≡◌, ◌≤◌, ℕ, List, [], ◌∷◌, Bool, true, false, ◌==◌, length, Option, Some, None, Ok, refl, arith}
use Rattle.std.proofs.lemmas.Bool.Decides.{nat_tests}
use Rattle.serde_json.specs.Data.{depth}
use Rattle.serde_json.specs.Read.{max_depth}
use Rattle.serde_json.specs.Written.{compact_text, has_float}
use Rattle.spec_api.proofs.Truths.{both_true}
use Rattle.spec_api.specs.declared.policies.Policy.{Policy}
use Rattle.spec_api.specs.declared.policies.Policy.TheVariants.{Orphan, Foreground, Background}
use Rattle.spec_api.specs.DeleteOptions.{Options, options_of}
use Rattle.spec_api.specs.Targets.{is_filled}
use Rattle.request_encoding.specs.Texts.{is_named, are_named}
use Rattle.request_encoding.specs.Deletes.{options_data}

some_byte : (t : List ℕ) → is_filled t ≡ true → (length t == 0) ≡ false
some_byte t h = grind (arith, nat_tests)

abbrev options : Option (List ℕ) → Option (List ℕ) → Option Policy → Options
options u v p = record { uid = u; version = v; policy = p }

back : (u v : Option (List ℕ)) (p : Option Policy) → is_named u ≡ true → is_named v ≡ true → options_of (options_data (options u v p)) ≡ Ok (options u v p)
back None None None a b = refl
back None None (Some Orphan) a b = refl
back None None (Some Foreground) a b = refl
back None None (Some Background) a b = refl
back None (Some v) None a b = rw (some_byte v b) refl
back None (Some v) (Some Orphan) a b = rw (some_byte v b) refl
back None (Some v) (Some Foreground) a b = rw (some_byte v b) refl
back None (Some v) (Some Background) a b = rw (some_byte v b) refl
back (Some u) None None a b = rw (some_byte u a) refl
back (Some u) None (Some Orphan) a b = rw (some_byte u a) refl
back (Some u) None (Some Foreground) a b = rw (some_byte u a) refl
back (Some u) None (Some Background) a b = rw (some_byte u a) refl
back (Some u) (Some v) None a b = rw (some_byte u a, some_byte v b) refl
back (Some u) (Some v) (Some Orphan) a b = rw (some_byte u a, some_byte v b) refl
back (Some u) (Some v) (Some Foreground) a b = rw (some_byte u a, some_byte v b) refl
back (Some u) (Some v) (Some Background) a b = rw (some_byte u a, some_byte v b) refl

pub options_back : (o : Options) → are_named o ≡ true → options_of (options_data o) ≡ Ok o
options_back o named =
    let parts = both_true (is_named o.uid) (is_named o.version) named in back o.uid o.version o.policy parts.0 parts.1

-- they nest no deeper than JSON is read, and hold no float
nests : (u v : Option (List ℕ)) (p : Option Policy) → depth (options_data (options u v p)) ≤ max_depth
nests None None None = omega arith
nests None None (Some p) = omega arith
nests None (Some v) None = omega arith
nests None (Some v) (Some p) = omega arith
nests (Some u) None None = omega arith
nests (Some u) None (Some p) = omega arith
nests (Some u) (Some v) None = omega arith
nests (Some u) (Some v) (Some p) = omega arith

pub options_nest : (o : Options) → depth (options_data o) ≤ max_depth
options_nest o = nests o.uid o.version o.policy

floats : (u v : Option (List ℕ)) (p : Option Policy) → has_float (options_data (options u v p)) ≡ false
floats None None None = refl
floats None None (Some p) = refl
floats None (Some v) None = refl
floats None (Some v) (Some p) = refl
floats (Some u) None None = refl
floats (Some u) None (Some p) = refl
floats (Some u) (Some v) None = refl
floats (Some u) (Some v) (Some p) = refl

pub no_float : (o : Options) → has_float (options_data o) ≡ false
no_float o = floats o.uid o.version o.policy

abbrev is_cons : List ℕ → Bool
is_cons [] = false
is_cons (b ∷ t) = true

long : (b : ℕ) (t : List ℕ) → (length (b ∷ t) == 0) ≡ false
long b t = grind (arith, nat_tests)

cons_long : (t : List ℕ) → is_cons t ≡ true → (length t == 0) ≡ false
cons_long [] h = cc
cons_long (b ∷ t) h = long b t

pub some_text : (o : Options) → (length (compact_text (options_data o)) == 0) ≡ false
some_text o = cons_long (compact_text (options_data o)) refl
