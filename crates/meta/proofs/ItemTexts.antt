-- What an item shows, member by member, is the text of the object without the members that a list says once.
use Rattle.std.proofs.Common.{◌≡◌, ℕ, List, [], ◌∷◌, ◌++◌, Bool, true, false, cond, codes, ◌||◌, Ordering, Less, Equal, Greater, string_bytes, string_cmp, nat_cmp, is_eq, bytes_eq, subst, refl, sym, ap, ◌∙◌, append_assoc}
use Rattle.std.proofs.lemmas.Map.Text.{is_eq-slice_cmp}
use Rattle.std.proofs.lemmas.Slice.Eq.{bytes_eq-Decides}
use Rattle.std.specs.Cmp.Lexicographic.{slice_cmp, nat_list_eq_equiv}
use Rattle.std.specs.List.{AllByRecursion}
use Rattle.std.specs.List.Sorted.{IsStrictlySortedBy}
use Rattle.std.specs.Map.{keys_of}
use Rattle.serde_json.specs.Data.{Data, string, object, Members, no_members, member}
use Rattle.serde_json.specs.View.{members_view}
use Rattle.serde_json.specs.Written.{comma_if, compact_text, members_text}
use Rattle.serde_json.proofs.Views.{Entry}
use Rattle.spec_api.specs.Values.{without}
use Rattle.meta.specs.Items.{member_text, item_text}

-- ---- members in ascending order

abbrev Above : List ℕ → Members → Type 0
Above k no_members = Unit {0}
Above k (member l e ms) = (slice_cmp nat_cmp k l ≡ Less) × Above k ms

abbrev Ascending : Members → Type 0
Ascending no_members = Unit {0}
Ascending (member k d ms) = Above k ms × Ascending ms

above_entries : (e : Entry) (es : List Entry) → AllByRecursion (λ y. string_cmp e.0 y ≡ Less) (keys_of es) → Above (string_bytes e.0) (members_view es)
above_entries e [] h = tt
above_entries e (f ∷ es) h = (h.0, above_entries e es h.1)

ascending_entries : (es : List Entry) → IsStrictlySortedBy string_cmp (keys_of es) → Ascending (members_view es)
unfolding IsStrictlySortedBy
ascending_entries [] h = tt
ascending_entries (e ∷ es) h = (above_entries e es h.0, ascending_entries es h.1)

above_unless : (b : Bool) (j l : List ℕ) (e : Data) (ms ns : Members) → slice_cmp nat_cmp j l ≡ Less → Above j ms → Above j ns → Above j (cond b ms (member l e ns))
above_unless true j l e ms ns h p q = p
above_unless false j l e ms ns h p q = (h, q)

above_without : (j k : List ℕ) (ms : Members) → Above j ms → Above j (without k ms)
above_without j k no_members h = tt
above_without j k (member l e ms) h = above_unless (is_eq (slice_cmp nat_cmp k l)) j l e ms (without k ms) h.0 h.1 (above_without j k ms h.1)

ascending_unless : (b : Bool) (l : List ℕ) (e : Data) (ms ns : Members) → Ascending ms → Above l ns → Ascending ns → Ascending (cond b ms (member l e ns))
ascending_unless true l e ms ns p h q = p
ascending_unless false l e ms ns p h q = (h, q)

ascending_without : (k : List ℕ) (ms : Members) → Ascending ms → Ascending (without k ms)
ascending_without k no_members h = tt
ascending_without k (member l e ms) h =
    ascending_unless (is_eq (slice_cmp nat_cmp k l)) l e ms (without k ms) h.1 (above_without l k ms h.0) (ascending_without k ms h.1)

-- ---- each member at a name left out

abbrev dropped : List ℕ → Members → Members
dropped k no_members = no_members
dropped k (member l e ms) = cond (is_eq (slice_cmp nat_cmp k l)) (dropped k ms) (member l e (dropped k ms))

dropped_above : (k : List ℕ) (ms : Members) → Above k ms → dropped k ms ≡ ms
dropped_above k no_members h = refl
dropped_above k (member l e ms) h = rw h.0 (ap (member l e) (dropped_above k ms h.1))

without_at : (o : Ordering) (k l : List ℕ) (e : Data) (ms : Members) → slice_cmp nat_cmp k l ≡ o → Above l ms → without k ms ≡ dropped k ms → cond (is_eq o) ms (member l e (without k ms)) ≡ cond (is_eq o) (dropped k ms) (member l e (dropped k ms))
without_at Less k l e ms is h later = ap (member l e) later
without_at Equal k l e ms is h later =
    let same : k ≡ l = (bytes_eq-Decides k l).0 (sym (is_eq-slice_cmp k l) ∙ ap is_eq is) in
    sym (dropped_above k ms (subst (λ n. Above n ms) (sym same) h))
without_at Greater k l e ms is h later = ap (member l e) later

-- a name stands once, so to leave out the first is to leave out each
without-dropped : (k : List ℕ) (ms : Members) → Ascending ms → without k ms ≡ dropped k ms
without-dropped k no_members h = refl
without-dropped k (member l e ms) h = without_at (slice_cmp nat_cmp k l) k l e ms refl h.0 (without-dropped k ms h.1)

-- ---- the text

abbrev without_both : Members → Members
without_both ms = dropped (codes "kind") (dropped (codes "apiVersion") ms)

joined : (a b c r : List ℕ) → (a ++ (b ++ 58 ∷ c)) ++ r ≡ a ++ (b ++ 58 ∷ (c ++ r))
joined a b c r = append_assoc a (b ++ 58 ∷ c) r ∙ ap (λ t. a ++ t) (append_assoc b (58 ∷ c) r)

text_at : (a b : Bool) (later : Bool) (l : List ℕ) (e : Data) (ms : Members) → is_eq (slice_cmp nat_cmp (codes "kind") l) ≡ b → ((x : Bool) → item_text x ms ≡ members_text x (without_both ms))
    → cond (a || b) (item_text later ms) (member_text later l e ++ item_text true ms) ≡ members_text later (dropped (codes "kind") (cond a (dropped (codes "apiVersion") ms) (member l e (dropped (codes "apiVersion") ms))))
text_at true b later l e ms is rest = rest later
text_at false true later l e ms is rest = rw is (rest later)
text_at false false later l e ms is rest = rw is (ap (λ t. member_text later l e ++ t) (rest true) ∙ joined (comma_if later) (compact_text (string l)) (compact_text e) (members_text true (without_both ms)))

pub named : (k l : List ℕ) → bytes_eq l k ≡ is_eq (slice_cmp nat_cmp k l)
named k l = nat_list_eq_equiv.symm l k ∙ sym (is_eq-slice_cmp k l)

item_text-dropped : (ms : Members) (later : Bool) → item_text later ms ≡ members_text later (without_both ms)
item_text-dropped no_members later = refl
item_text-dropped (member l e ms) later =
    ap (λ c. cond c (item_text later ms) (member_text later l e ++ item_text true ms)) (λ i. named (codes "apiVersion") l i || named (codes "kind") l i)
    ∙ text_at (is_eq (slice_cmp nat_cmp (codes "apiVersion") l)) (is_eq (slice_cmp nat_cmp (codes "kind") l)) later l e ms refl (λ x. item_text-dropped ms x)

-- what an item shows is the object's text without the members that a list says once
pub item_text-without : (es : List Entry) → IsStrictlySortedBy string_cmp (keys_of es)
    → 123 ∷ item_text false (members_view es) ≡ compact_text (object (without (codes "kind") (without (codes "apiVersion") (members_view es))))
item_text-without es h =
    let ms = members_view es in
    let up : Ascending ms = ascending_entries es h in
    let both : without (codes "kind") (without (codes "apiVersion") ms) ≡ without_both ms =
    without-dropped (codes "kind") (without (codes "apiVersion") ms) (ascending_without (codes "apiVersion") ms up) ∙ ap (dropped (codes "kind")) (without-dropped (codes "apiVersion") ms up) in
    ap (λ t. 123 ∷ t) (item_text-dropped ms false) ∙ ap (λ ns. compact_text (object ns)) (sym both)
