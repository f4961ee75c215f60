-- An object reads as itself where some of its owner references are left out, or have a truth value set.
use Rattle.std.proofs.Common.{◌≡◌, ◌≤◌, inl, inr, ℕ, suc, List, Bool, true, false, true≢false, codes, ◌||◌, Some, Ok, refl, sym, subst, arith}
use Rattle.std.proofs.lemmas.Bool.{ne_eqb, or_parts}
use Rattle.serde_json.specs.Data.{Data, null, boolean, number, string, array, object, Items, item, Members, put, depth, items_depth, members_depth}
use Rattle.serde_json.specs.Events.{items_len}
use Rattle.std.specs.Str.{IsUtf8}
use Rattle.json.proofs.Printed.Utf8.{IsUtf8-are_ascii}
use Rattle.serde_json.specs.Written.{has_float, items_have_float}
use Rattle.spec_api.proofs.Truths.{and_true, both_true}
use Rattle.spec_api.specs.declared.kinds.Kind.{Kind}
use Rattle.spec_api.specs.declared.schemas.Shape.TheVariants.{Object}
use Rattle.spec_api.specs.declared.schemas.Schema.TheVariants.{Root, Metadata, OwnerReference}
use Rattle.spec_api.specs.Metadata.{metadata, metadata_of, with_metadata}
use Rattle.spec_api.specs.Reading.{fits, items_fit, reading}
use Rattle.spec_api.specs.Values.{members_of}
use Rattle.spec_laws.specs.ParsedLaws.{IsFlag, AreEdited, none, left_out, as_it_was, set, ReferencesStayParsed, ReferencesReadAgain}
use Rattle.spec_laws.proofs.NeatMembers.{One, Neat, Neat-put, Neat-get, Neat-of, Neat-fits, Neat-tidy, Neat-depth, Neat-whole, Neat-good, Neat-metadata, Filled-put, one_metadata, opens}
use Rattle.spec_laws.proofs.Parsed.{joined, inside, Both-put}
use Rattle.spec_laws.proofs.ReadAgain.{IsTidy, ItemsTidy, Filled, Filled-filled, filled_members, settled}

flag_text : (q : List ℕ) → IsFlag q → IsUtf8 q
flag_text q (inl is) = subst IsUtf8 (sym is) (IsUtf8-are_ascii (codes "controller") refl)
flag_text q (inr is) = subst IsUtf8 (sym is) (IsUtf8-are_ascii (codes "blockOwnerDeletion") refl)

pub stay_parsed : ReferencesStayParsed
stay_parsed rs ss none p = p
stay_parsed rs ss (left_out r us vs e) p = stay_parsed us vs e p.1
stay_parsed rs ss (as_it_was r us vs e) p = (p.0, stay_parsed us vs e p.1)
stay_parsed rs ss (set q b r us vs flag e) p = (joined (put q (boolean b) (members_of r)) (Both-put q (flag_text q flag) (boolean b) (members_of r) tt (inside r p.0)), stay_parsed us vs e p.1)

-- ---- what stands in a list

abbrev refs : List ℕ
refs = codes "ownerReferences"

one_flag : (q : List ℕ) (b : Bool) → IsFlag q → One 96 OwnerReference q (boolean b)
one_flag q b (inl is) = subst (λ n. One 96 OwnerReference n (boolean b)) (sym is) (refl, refl, tt, omega arith, refl)
one_flag q b (inr is) = subst (λ n. One 96 OwnerReference n (boolean b)) (sym is) (refl, refl, tt, omega arith, refl)

-- a reference as it stands in a list
abbrev Fine : Data → Type 0
Fine r = (fits (Object OwnerReference) r ≡ true) × IsTidy (Object OwnerReference) r × (depth r ≤ 97) × (has_float r ≡ false)

fine_set : (q : List ℕ) (b : Bool) (r : Data) → IsFlag q → Fine r → Fine (object (put q (boolean b) (members_of r)))
fine_set q b null flag f = absurd (true≢false (sym f.0))
fine_set q b (boolean c) flag f = absurd (true≢false (sym f.0))
fine_set q b (number n) flag f = absurd (true≢false (sym f.0))
fine_set q b (string s) flag f = absurd (true≢false (sym f.0))
fine_set q b (array ds) flag f = absurd (true≢false (sym f.0))
fine_set q b (object ms) flag f =
    let new = put q (boolean b) ms in
    let deep : depth (object ms) ≤ 97 = f.2 in
    let g = Neat-put 96 OwnerReference q (boolean b) ms (one_flag q b flag) (Neat-of 96 OwnerReference ms f.0 f.1 (omega arith) f.3) in
    let more : members_depth new ≤ 96 = Neat-depth 96 OwnerReference new g in
    (Neat-fits 96 OwnerReference new g, Neat-tidy 96 OwnerReference new g, omega arith, Neat-whole 96 OwnerReference new g)

abbrev AllFine : Items → Type 0
AllFine rs = (items_fit (Object OwnerReference) rs ≡ true) × ItemsTidy (Object OwnerReference) rs × (items_depth rs ≤ 97) × (items_have_float rs ≡ false)

or_so : (a b : Bool) → a ≡ false → b ≡ false → (a || b) ≡ false
or_so a b p q = rw (p, q) refl

first_fine : (r : Data) (rs : Items) → AllFine (item r rs) → Fine r × AllFine rs
first_fine r rs f =
    let fit = both_true (fits (Object OwnerReference) r) (items_fit (Object OwnerReference) rs) f.0 in
    let floats = or_parts (has_float r) (items_have_float rs) f.3 in
    let deep : items_depth (item r rs) ≤ 97 = f.2 in
    ((fit.0, f.1.0, omega arith, floats.0), (fit.1, f.1.1, omega arith, floats.1))

more_fine : (r : Data) (rs : Items) → Fine r → AllFine rs → AllFine (item r rs)
more_fine r rs one rest =
    let first : depth r ≤ 97 = one.2 in
    let later : items_depth rs ≤ 97 = rest.2 in
    (and_true (fits (Object OwnerReference) r) (items_fit (Object OwnerReference) rs) one.0 rest.0, (one.1, rest.1), omega arith, or_so (has_float r) (items_have_float rs) one.3 rest.3)

all_fine : (rs ss : Items) → AreEdited rs ss → AllFine rs → AllFine ss
all_fine rs ss none f = f
all_fine rs ss (left_out r us vs e) f = all_fine us vs e (first_fine r us f).1
all_fine rs ss (as_it_was r us vs e) f = let parts = first_fine r us f in more_fine r vs parts.0 (all_fine us vs e parts.1)
all_fine rs ss (set q b r us vs flag e) f =
    let parts = first_fine r us f in more_fine (object (put q (boolean b) (members_of r))) vs (fine_set q b r flag parts.0) (all_fine us vs e parts.1)

-- ---- the object

one_edited : (rs : Items) (s : Data) (ss : Items) → AreEdited rs (item s ss) → One 98 Metadata refs (array rs) → One 98 Metadata refs (array (item s ss))
one_edited rs s ss e o =
    let deep : depth (array rs) ≤ 98 = o.3 in
    let all = all_fine rs (item s ss) e (o.0, o.2, omega arith, o.4) in
    let less : items_depth (item s ss) ≤ 97 = all.2 in
    (all.0, ne_eqb (suc (items_len ss)) 0 (λ e. absurd (omega arith)), all.1, omega arith, all.3)

in_whole : (k : Kind) (ms : Members) (s : Data) (rs ss : Items) → Neat 99 (Root k) ms → Filled k ms → metadata refs (object ms) ≡ Some (array rs) → AreEdited rs (item s ss)
    → (let e = with_metadata (put refs (array (item s ss)) (metadata_of (object ms))) (object ms) in reading k e ≡ Ok e)
in_whole k ms s rs ss n f at edited =
    let old = metadata_of (object ms) in
    let neat = Neat-metadata k ms n in
    let one : One 98 Metadata refs (array (item s ss)) = one_edited rs s ss edited (Neat-get 98 Metadata refs old (array rs) at neat) in
    let meta = put refs (array (item s ss)) old in
    let new = put (codes "metadata") (object meta) ms in
    let n' = Neat-put 99 (Root k) (codes "metadata") (object meta) ms (one_metadata k meta (Neat-put 98 Metadata refs (array (item s ss)) old one neat)) n in
    settled k new (Neat-good (Root k) new n') (Filled-put k (codes "metadata") (object meta) ms f) (Neat-whole 99 (Root k) new n')

pub read_again : ReferencesReadAgain
read_again k d s rs ss read at edited =
    let o = opens k d d read in
    subst (λ x. (let e = with_metadata (put refs (array (item s ss)) (metadata_of x)) x in reading k e ≡ Ok e)) (sym o.is)
    (in_whole k (filled_members k o.left) s rs ss o.neat (Filled-filled k o.left) (subst (λ x. metadata refs x ≡ Some (array rs)) o.is at) edited)
