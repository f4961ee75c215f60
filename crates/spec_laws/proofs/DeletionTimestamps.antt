-- Objects stay short, however often their deletionTimestamp is set.
use Rattle.std.proofs.Common.{◌≡◌, ◌≤◌, ◌<◌, ◌+◌, ℕ, List, length, nat_lt, nat_cmp, Bool, true, false, cond, codes, decimal, is_some, option_and_then, unwrap_or, Option, Some, None, Less, refl, sym, ap, ◌∙◌, subst, arith}
use Rattle.std.proofs.lemmas.Fmt.{length-decimal-le}
use Rattle.std.specs.Cmp.Lexicographic.{slice_cmp}
use Rattle.json.specs.Print.{quoted}
use Rattle.serde_json.specs.Data.{Data, null, boolean, number, unsigned, negative, float, string, array, object, Items, no_items, Members, put}
use Rattle.serde_json.specs.Find.{get_member, as_number, as_u64}
use Rattle.serde_json.specs.Written.{compact_text, members_text}
use Rattle.serde_json.proofs.Views.{get_member-put, get_member-put_other}
use Rattle.spec_api.specs.declared.kinds.Kind.{Kind}
use Rattle.spec_api.specs.declared.policies.Policy.{Policy}
use Rattle.spec_api.specs.Checks.{finalizers}
use Rattle.spec_api.specs.Defaults.{unsigned_value}
use Rattle.spec_api.specs.Deletion.{left_by, others_then, of_policy, with_deletion}
use Rattle.spec_api.specs.Kinds.{has_generation}
use Rattle.spec_api.specs.Metadata.{metadata_of, with_metadata, at_revision, is_being_deleted}
use Rattle.spec_api.specs.Replacements.{generation, with_next_generation}
use Rattle.spec_api.specs.Revisions.{greatest_revision}
use Rattle.spec_api.specs.SelectorValues.{items_in}
use Rattle.spec_api.specs.Values.{members_of}
use Rattle.spec_api.proofs.JsonMembers.{apart, metadata_of-with, text_in, text_in-put, text_in-put_other}
use Rattle.spec_laws.proofs.JsonOrder.{IsOrdered, IsOrdered-put}
use Rattle.spec_laws.proofs.LeftFinalizers.{others, of_left, length-others, length-with_policy, others_with_policy}
use Rattle.spec_api.proofs.EscapedTexts.{length-quoted}
use Rattle.spec_laws.proofs.TextLengths.{fits_at, length-put, length-put_new, put_both, put_same, put_twice}

-- how long the text of an object is with this metadata, at one revision
abbrev pub size : Data → Members → ℕ
size d meta = length (compact_text (at_revision 0 meta d))

abbrev pub with_finalizers : Items → Members → Members
with_finalizers ds meta = put (codes "finalizers") (array ds) meta

-- what an object may take up: a mark makes it longer, the first by the moment and the generation too
abbrev pub room : Bool → ℕ
room is_marked = cond is_marked 1573800 1573400

-- a mark leaves the finalizers as they are, or one of a policy after the others
pub record HasRoom (d : Data) : Type 0 where
  pub as_held : size d (with_finalizers (finalizers d) (metadata_of d)) ≤ room (is_being_deleted d)
  pub with_others : size d (with_finalizers (others (finalizers d)) (metadata_of d)) + 120 ≤ room (is_being_deleted d)

-- ---- what is put among the metadata

size_between : (d : Data) (a b : Members)
    → size d a + length (members_text false (put (codes "resourceVersion") (string (decimal 0)) b)) ≡ size d b + length (members_text false (put (codes "resourceVersion") (string (decimal 0)) a))
size_between d a b =
    let version = string (decimal 0) in
    omega (arith, length-put false (codes "metadata") (object (put (codes "resourceVersion") version a)) (object (put (codes "resourceVersion") version b)) (members_of d))

-- below the version, the version may be put first
version_first : (k : List ℕ) (v : Data) (meta : Members) → slice_cmp nat_cmp k (codes "resourceVersion") ≡ Less
    → length (members_text false (put (codes "resourceVersion") (string (decimal 0)) (put k v meta))) ≡ length (members_text false (put k v (put (codes "resourceVersion") (string (decimal 0)) meta)))
version_first k v meta below = ap (λ ms. length (members_text false ms)) (sym (put_both k (codes "resourceVersion") v (string (decimal 0)) meta below))

size-put_new : (k : List ℕ) (v : Data) (meta : Members) (d : Data) → slice_cmp nat_cmp k (codes "resourceVersion") ≡ Less
    → size d (put k v meta) ≤ size d meta + (length (quoted k) + length (compact_text v) + 2)
size-put_new k v meta d below =
    let version = string (decimal 0) in
    omega (arith, size_between d (put k v meta) meta, version_first k v meta below, length-put_new false k v (put (codes "resourceVersion") version meta))

size-put : (k : List ℕ) (v w : Data) (meta : Members) (d : Data) → slice_cmp nat_cmp k (codes "resourceVersion") ≡ Less
    → size d (put k v meta) + length (compact_text w) ≡ size d (put k w meta) + length (compact_text v)
size-put k v w meta d below =
    let version = string (decimal 0) in
    omega (arith, size_between d (put k v meta) (put k w meta), version_first k v meta below, version_first k w meta below, length-put false k v w (put (codes "resourceVersion") version meta))

-- ---- at a revision

size-at_revision : (r : ℕ) (a b : Members) (d : Data) → size (at_revision r a d) b ≡ size d b
size-at_revision r a b d =
    ap (λ ms. length (compact_text (object ms)))
    (put_twice (codes "metadata") (object (put (codes "resourceVersion") (string (decimal r)) a)) (object (put (codes "resourceVersion") (string (decimal 0)) b)) (members_of d))

size-version : (r : ℕ) (meta : Members) (d : Data) → size d (put (codes "resourceVersion") (string (decimal r)) meta) ≡ size d meta
size-version r meta d = ap (λ m. length (compact_text (with_metadata m d))) (put_twice (codes "resourceVersion") (string (decimal r)) (string (decimal 0)) meta)

-- ---- an object that is no mark

least_room : (b : Bool) → 1573400 ≤ room b
least_room true = omega arith
least_room false = omega arith

module _ (d : Data) (ordered : IsOrdered (metadata_of d)) (short : size d (metadata_of d) ≤ 1573120) where
  abbrev Fit : Items → Type 0
  Fit ds = (size d (with_finalizers ds (metadata_of d)) ≤ 1573250) × (size d (with_finalizers (others ds) (metadata_of d)) ≤ 1573250)

  without_any : Fit no_items
  without_any =
      let h : size d (with_finalizers no_items (metadata_of d)) ≤ 1573250 =
      omega (arith, short, size-put_new (codes "finalizers") (array no_items) (metadata_of d) d refl, length-quoted (codes "finalizers")) in
      (h, h)

  with_some : (ds : Items) → get_member (codes "finalizers") (metadata_of d) ≡ Some (array ds) → Fit ds
  with_some ds is =
      let same : size d (with_finalizers ds (metadata_of d)) ≡ size d (metadata_of d) = ap (size d) (put_same (codes "finalizers") (array ds) (metadata_of d) ordered is) in (
        omega (arith, short, same),
        omega (arith, short, same, size-put (codes "finalizers") (array (others ds)) (array ds) (metadata_of d) d refl, length-others false ds),
      )

  fit_found : (o : Option Data) → get_member (codes "finalizers") (metadata_of d) ≡ o → Fit (items_in o)
  fit_found None is = without_any
  fit_found (Some null) is = without_any
  fit_found (Some (boolean b)) is = without_any
  fit_found (Some (number n)) is = without_any
  fit_found (Some (string s)) is = without_any
  fit_found (Some (array ds)) is = with_some ds is
  fit_found (Some (object ms)) is = without_any

  room_held : HasRoom d
  room_held =
      let fit = fit_found (get_member (codes "finalizers") (metadata_of d)) refl in
      record { as_held = omega (arith, fit.0, least_room (is_being_deleted d)); with_others = omega (arith, fit.1, least_room (is_being_deleted d)) }

-- what is not too large has room
pub room_written : (r : ℕ) (meta : Members) (d : Data) → IsOrdered meta → length (compact_text (at_revision r meta d)) ≤ 1572864 → HasRoom (at_revision r meta d)
room_written r meta d a fits =
    let now = put (codes "resourceVersion") (string (decimal r)) meta in
    let is : metadata_of (at_revision r meta d) ≡ now = metadata_of-with now d in
    let same : size (at_revision r meta d) (metadata_of (at_revision r meta d)) ≡ size d meta =
    ap (size (at_revision r meta d)) is ∙ size-at_revision r meta now d ∙ size-version r meta d in
    room_held (at_revision r meta d) (subst IsOrdered (sym is) (IsOrdered-put (codes "resourceVersion") (string (decimal r)) meta a))
    (omega (arith, same, fits_at 1572864 0 r meta d fits (omega arith)))

-- ---- the next generation

-- a number that has no next one is there
abbrev number_in : Option Data → ℕ
number_in o = unwrap_or (option_and_then as_u64 (option_and_then as_number o)) 0

last_number : (o : Option Data) → nat_lt (number_in o) greatest_revision ≡ false → o ≡ Some (unsigned_value (number_in o))
last_number None h = cc
last_number (Some null) h = cc
last_number (Some (boolean b)) h = cc
last_number (Some (number (unsigned n))) h = refl
last_number (Some (number (negative z))) h = cc
last_number (Some (number (float x))) h = cc
last_number (Some (string s)) h = cc
last_number (Some (array ds)) h = cc
last_number (Some (object ms)) h = cc

short_number : (n : ℕ) → nat_lt n greatest_revision ≡ true → length (decimal (n + 1)) ≤ 20
short_number n h = let low : n < 9007199254740991 = grind arith in length-decimal-le 20 (n + 1) (omega arith) (omega arith) (omega arith)

module _ (existing : Data) (ordered : IsOrdered (metadata_of existing)) (ds : Items) where
  abbrev m : Members
  m = metadata_of existing

  number_at : (b : Bool) → nat_lt (generation existing) greatest_revision ≡ b
      → size existing (with_finalizers ds (put (codes "generation") (unsigned_value (cond b (generation existing + 1) (generation existing))) m)) ≤ size existing (with_finalizers ds m) + 100
  number_at true is =
      let new = unsigned_value (generation existing + 1) in
      let apart_from : size existing (with_finalizers ds (put (codes "generation") new m)) ≡ size existing (put (codes "generation") new (with_finalizers ds m)) =
      ap (size existing) (put_both (codes "finalizers") (codes "generation") (array ds) new m refl) in
      omega (arith, apart_from, size-put_new (codes "generation") new (with_finalizers ds m) existing refl, length-quoted (codes "generation"), short_number (generation existing) is)
  number_at false is =
      let same : size existing (with_finalizers ds (put (codes "generation") (unsigned_value (generation existing)) m)) ≡ size existing (with_finalizers ds m) =
      ap (λ x. size existing (with_finalizers ds x)) (put_same (codes "generation") (unsigned_value (generation existing)) m ordered (last_number (get_member (codes "generation") m) is)) in
      omega (arith, same)

  generation_at : (is_new : Bool) → size existing (with_finalizers ds (with_next_generation is_new existing m)) ≤ size existing (with_finalizers ds m) + 100
  generation_at true = number_at (nat_lt (generation existing) greatest_revision) refl
  generation_at false = omega arith

  -- the first mark makes an object longer by the moment and the generation
  deletion_at : (is_marked is_new : Bool) (moment : List ℕ) → length moment ≤ 20
      → size existing (with_finalizers ds (cond is_marked m (put (codes "deletionTimestamp") (string moment) (with_next_generation is_new existing m))))
      ≤ size existing (with_finalizers ds m) + cond is_marked 0 400
  deletion_at true is_new moment short = omega arith
  deletion_at false is_new moment short =
      let counted = with_next_generation is_new existing m in
      let apart_from : size existing (with_finalizers ds (put (codes "deletionTimestamp") (string moment) counted)) ≡ size existing (put (codes "deletionTimestamp") (string moment) (with_finalizers ds counted)) =
      ap (size existing) (sym (put_both (codes "deletionTimestamp") (codes "finalizers") (string moment) (array ds) counted refl)) in
      omega (
        arith,
        apart_from,
        size-put_new (codes "deletionTimestamp") (string moment) (with_finalizers ds counted) existing refl,
        generation_at is_new,
        length-quoted (codes "deletionTimestamp"),
        length-quoted moment,
        short,
      )

-- ---- a mark

whole_room : (b : Bool) → room b + cond b 0 400 ≡ 1573800
whole_room true = refl
whole_room false = refl

module _ (k : Kind) (moment : List ℕ) (short : length moment ≤ 20) (existing : Data) (ordered : IsOrdered (metadata_of existing)) (has : HasRoom existing) where
  abbrev from : Members
  from = with_deletion k moment existing

  abbrev Fits : Items → Type 0
  Fits ds = (size existing (with_finalizers ds from) ≤ 1573800) × (size existing (with_finalizers (others ds) from) + 120 ≤ 1573800)

  grown : (ds : Items) → size existing (with_finalizers ds from) ≤ size existing (with_finalizers ds (metadata_of existing)) + cond (is_being_deleted existing) 0 400
  grown ds = deletion_at existing ordered ds (is_being_deleted existing) (has_generation k) moment short

  fits_as_held : Fits (finalizers existing)
  fits_as_held =
      let full = whole_room (is_being_deleted existing) in
      (omega (arith, grown (finalizers existing), has.as_held, full), omega (arith, grown (others (finalizers existing)), has.with_others, full))

  fits_with_policy : (p : Policy) → Fits (others_then (of_policy p) (finalizers existing))
  fits_with_policy p =
      let ds = finalizers existing in
      let new = others_then (of_policy p) ds in
      let same : size existing (with_finalizers (others new) from) ≡ size existing (with_finalizers (others ds) from) = ap (λ x. size existing (with_finalizers x from)) (others_with_policy p ds) in (
        omega (arith, fits_as_held.1, size-put (codes "finalizers") (array new) (array (others ds)) from existing refl, length-with_policy p ds),
        omega (arith, fits_as_held.1, same),
      )

  fits_left : (o : Option Policy) → Fits (left_by o (finalizers existing))
  fits_left o = of_left Fits o (finalizers existing) fits_as_held fits_with_policy

  deleted_at : (is_marked : Bool) (meta : Members) → is_some (text_in (codes "deletionTimestamp") meta) ≡ is_marked → (more : Members)
      → is_some (text_in (codes "deletionTimestamp") (cond is_marked meta (put (codes "deletionTimestamp") (string moment) more))) ≡ true
  deleted_at true meta is more = is
  deleted_at false meta is more = ap is_some (text_in-put (codes "deletionTimestamp") moment more)

  module _ (r : ℕ) (ds : Items) where
    abbrev meta : Members
    meta = with_finalizers ds from

    abbrev new : Data
    new = at_revision r meta existing

    abbrev version : Data
    version = string (decimal r)

    metadata_is : metadata_of new ≡ put (codes "resourceVersion") version meta
    metadata_is = metadata_of-with (put (codes "resourceVersion") version meta) existing

    finalizers_are : finalizers new ≡ ds
    finalizers_are =
        ap items_in
        (ap (get_member (codes "finalizers")) metadata_is ∙ get_member-put_other (codes "finalizers") (codes "resourceVersion") version meta (apart (codes "finalizers") (codes "resourceVersion") refl)
        ∙ get_member-put (codes "finalizers") (array ds) from)

    is_deleted : is_being_deleted new ≡ true
    is_deleted =
        ap is_some
        (ap (text_in (codes "deletionTimestamp")) metadata_is ∙ text_in-put_other (codes "deletionTimestamp") (codes "resourceVersion") version meta refl
        ∙ text_in-put_other (codes "deletionTimestamp") (codes "finalizers") (array ds) from refl)
        ∙ deleted_at (is_being_deleted existing) (metadata_of existing) refl (with_next_generation (has_generation k) existing (metadata_of existing))

    -- other finalizers in the place of those of a mark
    size-marked : (es : Items) → size new (with_finalizers es (metadata_of new)) ≡ size existing (with_finalizers es from)
    size-marked es =
        ap (λ x. size new (with_finalizers es x)) metadata_is ∙ size-at_revision r meta (with_finalizers es (put (codes "resourceVersion") version meta)) existing
        ∙ ap (size existing) (put_both (codes "finalizers") (codes "resourceVersion") (array es) version meta refl) ∙ size-version r (with_finalizers es meta) existing
        ∙ ap (size existing) (put_twice (codes "finalizers") (array ds) (array es) from)

    room_with : Fits ds → HasRoom new
    room_with fit =
        let all : room (is_being_deleted new) ≡ 1573800 = ap room is_deleted in
        let first : size new (with_finalizers (finalizers new) (metadata_of new)) ≡ size existing (with_finalizers ds from) =
        ap (λ x. size new (with_finalizers x (metadata_of new))) finalizers_are ∙ size-marked ds in
        let second : size new (with_finalizers (others (finalizers new)) (metadata_of new)) ≡ size existing (with_finalizers (others ds) from) =
        ap (λ x. size new (with_finalizers (others x) (metadata_of new))) finalizers_are ∙ size-marked (others ds) in
        record { as_held = omega (arith, all, first, fit.0); with_others = omega (arith, all, second, fit.1) }

  abbrev after : ℕ → Option Policy → Data
  after r o = at_revision r (with_finalizers (left_by o (finalizers existing)) from) existing

  pub room_marked : (r : ℕ) (o : Option Policy) → HasRoom (after r o)
  room_marked r o = room_with r (left_by o (finalizers existing)) (fits_left o)

  pub marked_fits : (r : ℕ) (o : Option Policy) → r ≤ 9007199254740991 → length (compact_text (after r o)) ≤ 1574400
  marked_fits r o low =
      omega (arith, fits_at 1573800 r 0 (with_finalizers (left_by o (finalizers existing)) from) existing (fits_left o).0 low)
