-- How long the text of an object is, by its revision and by what is put among its members.
use Rattle.std.proofs.Common.{◌≡◌, ◌≤◌, ◌+◌, ℕ, List, ◌∷◌, ◌++◌, length, Bool, true, false, codes, decimal, nat_cmp, Ordering, Less, Equal, Greater, Some, refl, sym, ap, ◌∙◌, subst, arith, length-append}
use Rattle.std.proofs.lemmas.Cmp.{nat_list_cmp_total, tied_itself}
use Rattle.std.specs.Ordering.{match_ordering, ordering_reverse}
use Rattle.std.specs.Cmp.Lexicographic.{slice_cmp}
use Rattle.std.proofs.lemmas.Fmt.{length-decimal-le}
use Rattle.json.specs.Print.{quoted}
use Rattle.serde_json.specs.Data.{Data, string, object, Members, no_members, member, put}
use Rattle.serde_json.specs.Find.{get_member}
use Rattle.serde_json.specs.Written.{comma_if, compact_text, members_text}
use Rattle.spec_api.specs.Metadata.{at_revision}
use Rattle.spec_api.specs.Values.{members_of, without}
use Rattle.spec_api.proofs.EscapedTexts.{length-quoted}
use Rattle.spec_laws.proofs.JsonOrder.{IsOrdered, put_back}
use Rattle.spec_laws.proofs.ReadAgain.{same_name}

length-member : (later : Bool) (k : List ℕ) (d : Data) (ms : Members)
    → length (members_text later (member k d ms)) ≡ length (comma_if later) + (length (quoted k) + (length (compact_text d) + length (members_text true ms)) + 1)
length-member later k d ms =
    let inner = compact_text d ++ members_text true ms in
    omega (arith, length-append (comma_if later) (quoted k ++ 58 ∷ inner), length-append (quoted k) (58 ∷ inner), length-append (compact_text d) (members_text true ms))

other_at : (o : Ordering) (later : Bool) (k l : List ℕ) (d e f : Data) (ms : Members)
    → length (members_text true (put k d ms)) + length (compact_text e) ≡ length (members_text true (put k e ms)) + length (compact_text d)
    → length (members_text later (match_ordering o (member k d (member l f ms)) (member l d ms) (member l f (put k d ms)))) + length (compact_text e)
    ≡ length (members_text later (match_ordering o (member k e (member l f ms)) (member l e ms) (member l f (put k e ms)))) + length (compact_text d)
other_at Less later k l d e f ms h = omega (arith, length-member later k d (member l f ms), length-member later k e (member l f ms))
other_at Equal later k l d e f ms h = omega (arith, length-member later l d ms, length-member later l e ms)
other_at Greater later k l d e f ms h = omega (arith, length-member later l f (put k d ms), length-member later l f (put k e ms), h)

-- what is put in the place of something else makes the text longer by what it is longer
pub length-put : (later : Bool) (k : List ℕ) (d e : Data) (ms : Members)
    → length (members_text later (put k d ms)) + length (compact_text e) ≡ length (members_text later (put k e ms)) + length (compact_text d)
length-put later k d e no_members = omega (arith, length-member later k d no_members, length-member later k e no_members)
length-put later k d e (member l f ms) = other_at (slice_cmp nat_cmp k l) later k l d e f ms (length-put true k d e ms)

pub short_comma : (later : Bool) → length (comma_if later) ≤ 1
short_comma true = omega arith
short_comma false = omega arith

new_at : (o : Ordering) (later : Bool) (k l : List ℕ) (d e : Data) (ms : Members)
    → length (members_text true (put k d ms)) ≤ length (members_text true ms) + (length (quoted k) + length (compact_text d) + 2)
    → length (members_text later (match_ordering o (member k d (member l e ms)) (member l d ms) (member l e (put k d ms))))
    ≤ length (members_text later (member l e ms)) + (length (quoted k) + length (compact_text d) + 2)
new_at Less later k l d e ms h =
    omega (arith, length-member later k d (member l e ms), length-member true l e ms, length-member later l e ms)
new_at Equal later k l d e ms h = omega (arith, length-member later l d ms, length-member later l e ms)
new_at Greater later k l d e ms h = omega (arith, length-member later l e (put k d ms), length-member later l e ms, h)

-- what is put makes the text longer by its own length at most
pub length-put_new : (later : Bool) (k : List ℕ) (d : Data) (ms : Members)
    → length (members_text later (put k d ms)) ≤ length (members_text later ms) + (length (quoted k) + length (compact_text d) + 2)
length-put_new later k d no_members = omega (arith, length-member later k d no_members, short_comma later)
length-put_new later k d (member l e ms) = new_at (slice_cmp nat_cmp k l) later k l d e ms (length-put_new true k d ms)

-- at another revision an object is longer by what the revision is longer
length-at_revision : (r s : ℕ) (meta : Members) (d : Data)
    → length (compact_text (at_revision r meta d)) + length (quoted (decimal s)) ≡ length (compact_text (at_revision s meta d)) + length (quoted (decimal r))
length-at_revision r s meta d =
    omega (
      arith,
      length-put false (codes "metadata") (object (put (codes "resourceVersion") (string (decimal r)) meta)) (object (put (codes "resourceVersion") (string (decimal s)) meta)) (members_of d),
      length-put false (codes "resourceVersion") (string (decimal r)) (string (decimal s)) meta,
    )

-- ---- texts in quotes

-- a revision in quotes
length-revision : (r : ℕ) → r ≤ 9007199254740991 → length (quoted (decimal r)) ≤ 200
length-revision r low =
    let digits = length-decimal-le 20 r (omega arith) (omega arith) (omega arith) in
    omega (arith, length-quoted (decimal r), digits)

-- an object of one revision fits at another, with a little more room
pub fits_at : (limit r s : ℕ) (meta : Members) (d : Data) → length (compact_text (at_revision s meta d)) ≤ limit → r ≤ 9007199254740991
    → length (compact_text (at_revision r meta d)) ≤ limit + 256
fits_at limit r s meta d fits low = omega (arith, length-at_revision r s meta d, length-revision r low, fits)

-- ---- what is put twice, or is there already

twice_at : (o : Ordering) (k l : List ℕ) (d e f : Data) (ms : Members) → slice_cmp nat_cmp k l ≡ o → put k e (put k d ms) ≡ put k e ms
    → put k e (match_ordering o (member k d (member l f ms)) (member l d ms) (member l f (put k d ms))) ≡ match_ordering o (member k e (member l f ms)) (member l e ms) (member l f (put k e ms))
twice_at Less k l d e f ms is h = let here : slice_cmp nat_cmp k k ≡ Equal = tied_itself nat_list_cmp_total k in rw here refl
twice_at Equal k l d e f ms is h = rw is refl
twice_at Greater k l d e f ms is h = rw is (ap (member l f) h)

pub put_twice : (k : List ℕ) (d e : Data) (ms : Members) → put k e (put k d ms) ≡ put k e ms
put_twice k d e no_members = let here : slice_cmp nat_cmp k k ≡ Equal = tied_itself nat_list_cmp_total k in rw here refl
put_twice k d e (member l f ms) = twice_at (slice_cmp nat_cmp k l) k l d e f ms refl (put_twice k d e ms)

-- what is there already
pub put_same : (k : List ℕ) (d : Data) (ms : Members) → IsOrdered ms → get_member k ms ≡ Some d → put k d ms ≡ ms
put_same k d ms a h = let back = put_back k d ms a h in ap (put k d) (sym back) ∙ put_twice k d d (without k ms) ∙ back

-- ---- what is put at two names

above : (k l m : List ℕ) (o : Ordering) → slice_cmp nat_cmp k l ≡ Less → slice_cmp nat_cmp k m ≡ o → (o ≡ Less → ⊥) → slice_cmp nat_cmp l m ≡ Greater
above k l m Less below is other = absurd (other refl)
above k l m Equal below is other =
    subst (λ n. slice_cmp nat_cmp l n ≡ Greater) (same_name k m is) (nat_list_cmp_total.antisymm l k ∙ ap ordering_reverse below)
above k l m Greater below is other =
    let first : slice_cmp nat_cmp m k ≡ Less = nat_list_cmp_total.antisymm m k ∙ ap ordering_reverse is in
    nat_list_cmp_total.antisymm l m ∙ ap ordering_reverse (nat_list_cmp_total.trans m k l first below)

both_at : (o p : Ordering) (k l m : List ℕ) (d e f : Data) (ms : Members) → slice_cmp nat_cmp k l ≡ Less → slice_cmp nat_cmp l k ≡ Greater → slice_cmp nat_cmp k m ≡ o → slice_cmp nat_cmp l m ≡ p
    → ((o ≡ Less → ⊥) → p ≡ Greater) → put k d (put l e ms) ≡ put l e (put k d ms)
    → put k d (match_ordering p (member l e (member m f ms)) (member m e ms) (member m f (put l e ms)))
    ≡ put l e (match_ordering o (member k d (member m f ms)) (member m d ms) (member m f (put k d ms)))
both_at Less Less k l m d e f ms kl lk km lm far later = rw (kl, lk, lm) refl
both_at Less Equal k l m d e f ms kl lk km lm far later = rw (km, lk, lm) refl
both_at Less Greater k l m d e f ms kl lk km lm far later = rw (km, lk, lm) refl
both_at Equal Less k l m d e f ms kl lk km lm far later = let never : Less ≡ Greater = far (λ x. cc) in cc
both_at Equal Equal k l m d e f ms kl lk km lm far later = let never : Equal ≡ Greater = far (λ x. cc) in cc
both_at Equal Greater k l m d e f ms kl lk km lm far later = rw (km, lm) refl
both_at Greater Less k l m d e f ms kl lk km lm far later = let never : Less ≡ Greater = far (λ x. cc) in cc
both_at Greater Equal k l m d e f ms kl lk km lm far later = let never : Equal ≡ Greater = far (λ x. cc) in cc
both_at Greater Greater k l m d e f ms kl lk km lm far later = rw (km, lm) (ap (member m f) later)

-- two members may be put in either order
pub put_both : (k l : List ℕ) (d e : Data) (ms : Members) → slice_cmp nat_cmp k l ≡ Less → put k d (put l e ms) ≡ put l e (put k d ms)
put_both k l d e no_members kl = let lk : slice_cmp nat_cmp l k ≡ Greater = nat_list_cmp_total.antisymm l k ∙ ap ordering_reverse kl in rw (kl, lk) refl
put_both k l d e (member m f ms) kl =
    both_at (slice_cmp nat_cmp k m) (slice_cmp nat_cmp l m) k l m d e f ms kl (nat_list_cmp_total.antisymm l k ∙ ap ordering_reverse kl) refl refl
    (λ other. above k l m (slice_cmp nat_cmp k m) kl refl other) (put_both k l d e ms kl)
