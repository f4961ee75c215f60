-- The finalizers that a delete leaves: how long they are, and that they are texts.
use Rattle.std.proofs.Common.{◌≡◌, ◌≤◌, ◌+◌, ◌==◌, length, Bool, true, false, cond, codes, ◌++◌, Option, Some, None, refl, ap, ◌∙◌, arith, length-append}
use Rattle.serde_json.specs.Data.{Data, null, boolean, number, string, array, object, Items, no_items, item, Members, items_depth}
use Rattle.serde_json.specs.Events.{items_len}
use Rattle.serde_json.specs.Find.{get_member}
use Rattle.serde_json.specs.Written.{comma_if, compact_text, items_text, items_have_float}
use Rattle.spec_api.proofs.Truths.{both_true}
use Rattle.spec_api.specs.declared.policies.Policy.{Policy}
use Rattle.spec_api.specs.declared.policies.Policy.TheVariants.{Orphan, Foreground, Background}
use Rattle.spec_api.specs.declared.schemas.Schema.TheVariants.{Metadata}
use Rattle.spec_api.specs.declared.schemas.Shape.TheVariants.{Text}
use Rattle.spec_api.specs.Deletion.{orphan, foreground, is_of_policy, of_policy, others_then, are_of, left_by}
use Rattle.spec_api.specs.Reading.{fits, items_fit}
use Rattle.spec_api.specs.SelectorValues.{items_in}
use Rattle.spec_laws.proofs.NeatMembers.{Neat, Neat-get, One}
use Rattle.spec_laws.proofs.ReadAgain.{ItemsTidy}
use Rattle.spec_api.proofs.EscapedTexts.{length-quoted}
use Rattle.spec_laws.proofs.TextLengths.{short_comma}

-- those that are of no policy
abbrev pub others : Items → Items
others ds = others_then no_items ds

-- what is true of these finalizers, and of the others with that of any policy after them, is true of those that are left
either_left : (P : Items → Type 0) (b : Bool) (xs ys : Items) → P xs → P ys → P (cond b xs ys)
either_left P true xs ys p q = p
either_left P false xs ys p q = q

pub of_left : (P : Items → Type 0) (o : Option Policy) (ds : Items) → P ds → ((p : Policy) → P (others_then (of_policy p) ds)) → P (left_by o ds)
of_left P None ds same other = same
of_left P (Some p) ds same other = either_left P (are_of p ds) ds (others_then (of_policy p) ds) same (other p)

-- ---- lengths

length-item : (later : Bool) (d : Data) (ds : Items) → length (items_text later (item d ds)) ≡ length (comma_if later) + length (compact_text d) + length (items_text true ds)
length-item later d ds = omega (arith, length-append (comma_if later) (compact_text d ++ items_text true ds), length-append (compact_text d) (items_text true ds))

shorter_first : (later : Bool) (ds : Items) → length (items_text later ds) ≤ length (items_text true ds)
shorter_first later no_items = omega arith
shorter_first later (item d ds) = omega (arith, length-item later d ds, length-item true d ds, short_comma later)

then_at : (b later : Bool) (last : Items) (d : Data) (ds : Items)
    → ((l : Bool) → length (items_text l (others_then last ds)) ≤ length (items_text l (others ds)) + length (items_text true last))
    → length (items_text later (cond b (others_then last ds) (item d (others_then last ds)))) ≤ length (items_text later (cond b (others ds) (item d (others ds)))) + length (items_text true last)
then_at true later last d ds h = h later
then_at false later last d ds h = omega (arith, length-item later d (others_then last ds), length-item later d (others ds), h true)

length-others_then : (later : Bool) (last ds : Items) → length (items_text later (others_then last ds)) ≤ length (items_text later (others ds)) + length (items_text true last)
length-others_then later last no_items = omega (arith, shorter_first later last)
length-others_then later last (item d ds) = then_at (is_of_policy d) later last d ds (λ l. length-others_then l last ds)

others_at : (b later : Bool) (d : Data) (ds : Items) → ((l : Bool) → length (items_text l (others ds)) ≤ length (items_text l ds))
    → length (items_text later (cond b (others ds) (item d (others ds)))) ≤ length (items_text later (item d ds))
others_at true later d ds h = omega (arith, h later, shorter_first later ds, length-item later d ds)
others_at false later d ds h = omega (arith, h true, length-item later d ds, length-item later d (others ds))

pub length-others : (later : Bool) (ds : Items) → length (items_text later (others ds)) ≤ length (items_text later ds)
length-others later no_items = omega arith
length-others later (item d ds) = others_at (is_of_policy d) later d ds (λ l. length-others l ds)

length-of_policy : (p : Policy) → length (items_text true (of_policy p)) ≤ 120
length-of_policy Orphan = omega (arith, length-item true (string orphan) no_items, length-quoted orphan)
length-of_policy Foreground = omega (arith, length-item true (string foreground) no_items, length-quoted foreground)
length-of_policy Background = omega arith

-- that of a policy makes the text a little longer than that of the others
pub length-with_policy : (p : Policy) (ds : Items) → length (compact_text (array (others_then (of_policy p) ds))) ≤ length (compact_text (array (others ds))) + 120
length-with_policy p ds = omega (arith, length-others_then false (of_policy p) ds, length-of_policy p)

-- ---- the others, once more

others_of_policy : (p : Policy) → others (of_policy p) ≡ no_items
others_of_policy Orphan = refl
others_of_policy Foreground = refl
others_of_policy Background = refl

again_at : (b : Bool) (last : Items) (d : Data) (ds : Items) → is_of_policy d ≡ b → others (others_then last ds) ≡ others ds
    → others (cond b (others_then last ds) (item d (others_then last ds))) ≡ cond b (others ds) (item d (others ds))
again_at true last d ds is h = h
again_at false last d ds is h = ap (λ c. cond c (others (others_then last ds)) (item d (others (others_then last ds)))) is ∙ ap (item d) h

others_again : (last ds : Items) → others last ≡ no_items → others (others_then last ds) ≡ others ds
others_again last no_items h = h
others_again last (item d ds) h = again_at (is_of_policy d) last d ds refl (others_again last ds h)

pub others_with_policy : (p : Policy) (ds : Items) → others (others_then (of_policy p) ds) ≡ others ds
others_with_policy p ds = others_again (of_policy p) ds (others_of_policy p)

-- ---- texts

text_then : (b : Bool) (d : Data) (ds : Items) → fits Text d ≡ true → items_fit Text ds ≡ true → items_fit Text (cond b ds (item d ds)) ≡ true
text_then true d ds p q = q
text_then false d ds p q = rw (p, q) refl

texts_then : (last ds : Items) → items_fit Text last ≡ true → items_fit Text ds ≡ true → items_fit Text (others_then last ds) ≡ true
texts_then last no_items p q = p
texts_then last (item d ds) p q =
    let both = both_true (fits Text d) (items_fit Text ds) q in
    text_then (is_of_policy d) d (others_then last ds) both.0 (texts_then last ds p both.1)

text_of_policy : (p : Policy) → items_fit Text (of_policy p) ≡ true
text_of_policy Orphan = refl
text_of_policy Foreground = refl
text_of_policy Background = refl

pub texts_left : (o : Option Policy) (ds : Items) → items_fit Text ds ≡ true → items_fit Text (left_by o ds) ≡ true
texts_left o ds h = of_left (λ x. items_fit Text x ≡ true) o ds h (λ p. texts_then (of_policy p) ds (text_of_policy p) h)

texts_in : (o : Option Data) (meta : Members) → get_member (codes "finalizers") meta ≡ o → Neat 98 Metadata meta → items_fit Text (items_in o) ≡ true
texts_in None meta is m = refl
texts_in (Some null) meta is m = refl
texts_in (Some (boolean b)) meta is m = refl
texts_in (Some (number n)) meta is m = refl
texts_in (Some (string s)) meta is m = refl
texts_in (Some (array ds)) meta is m = (Neat-get 98 Metadata (codes "finalizers") meta (array ds) is m).0
texts_in (Some (object ms)) meta is m = refl

-- the finalizers in metadata that fits are texts
pub texts_held : (meta : Members) → Neat 98 Metadata meta → items_fit Text (items_in (get_member (codes "finalizers") meta)) ≡ true
texts_held meta m = texts_in (get_member (codes "finalizers") meta) meta refl m

-- ---- as a member

abbrev AreTexts : Items → Type 0
AreTexts ds = ItemsTidy Text ds × (items_depth ds ≤ 0) × (items_have_float ds ≡ false)

text_and : (d : Data) (ds : Items) → fits Text d ≡ true → AreTexts ds → AreTexts (item d ds)
text_and null ds h more = cc
text_and (boolean b) ds h more = cc
text_and (number n) ds h more = cc
text_and (string s) ds h more = ((tt, more.0), (let here : items_depth ds ≤ 0 = more.1 in omega arith), more.2)
text_and (array es) ds h more = cc
text_and (object ms) ds h more = cc

are_texts : (ds : Items) → items_fit Text ds ≡ true → AreTexts ds
are_texts no_items h = (tt, omega arith, refl)
are_texts (item d ds) h = let both = both_true (fits Text d) (items_fit Text ds) h in text_and d ds both.0 (are_texts ds both.1)

-- texts that are not none stand as finalizers
pub one_finalizers : (ds : Items) → items_fit Text ds ≡ true → (items_len ds == 0) ≡ false → One 98 Metadata (codes "finalizers") (array ds)
one_finalizers ds h some =
    let texts = are_texts ds h in
    let flat : items_depth ds ≤ 0 = texts.1 in
    (h, some, texts.0, omega arith, texts.2)
