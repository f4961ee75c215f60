-- Items as a list: which stay, one more at the end, and that none has a fraction.
use Rattle.std.proofs.Common.{◌≡◌, List, [], ◌∷◌, ◌++◌, map, Bool, true, false, cond, refl, sym, ap, ◌∙◌}
use Rattle.std.specs.Prelude.{filter}
use Rattle.std.proofs.lemmas.List.{map-append}
use Rattle.serde_json.specs.Data.{Data, Items, no_items, item}
use Rattle.serde_json.specs.View.{view, items_of, items_view}
use Rattle.serde_json.specs.declared.value.Value.{Value}
use Rattle.serde_json.specs.Written.{has_float, items_have_float}
use Rattle.spec_api.proofs.Truths.{left_false, right_false}
use Rattle.spec_api.proofs.NoFloatsRead.{both_false}
use Rattle.spec_reconcile.specs.MetadataEdits.{only, with_last}

only_of-at : (b : Bool) (d : Data) (ds : Items) (es : List Data) → ds ≡ items_of es → cond b (item d ds) ds ≡ items_of (cond b (d ∷ es) es)
only_of-at true d ds es is = ap (item d) is
only_of-at false d ds es is = is

pub only_of : (test : Data → Bool) (ds : List Data) → only test (items_of ds) ≡ items_of (filter test ds)
only_of test [] = refl
only_of test (d ∷ ds) = only_of-at (test d) d (only test (items_of ds)) (filter test ds) (only_of test ds)

pub with_last_of : (e : Data) (ds : List Data) → with_last e (items_of ds) ≡ items_of (ds ++ e ∷ [])
with_last_of e [] = refl
with_last_of e (d ∷ ds) = ap (item d) (with_last_of e ds)

only_no_float-at : (b : Bool) (d : Data) (ds : Items) → has_float d ≡ false → items_have_float ds ≡ false → items_have_float (cond b (item d ds) ds) ≡ false
only_no_float-at true d ds p q = both_false _ _ p q
only_no_float-at false d ds p q = q

pub only-no_float : (test : Data → Bool) (ds : Items) → items_have_float ds ≡ false → items_have_float (only test ds) ≡ false
only-no_float test no_items h = refl
only-no_float test (item d ds) h = only_no_float-at (test d) d (only test ds) (left_false (has_float d) _ h) (only-no_float test ds (right_false (has_float d) _ h))

pub with_last-no_float : (e : Data) (ds : Items) → has_float e ≡ false → items_have_float ds ≡ false → items_have_float (with_last e ds) ≡ false
with_last-no_float e no_items p q = both_false _ _ p refl
with_last-no_float e (item d ds) p q = both_false _ _ (left_false (has_float d) _ q) (with_last-no_float e ds p (right_false (has_float d) _ q))

-- ---- as lists of values

pub kept_are : (test : Data → Bool) (vs kept : List Value) → map view kept ≡ filter test (map view vs) → items_view kept ≡ only test (items_view vs)
kept_are test vs kept is = ap items_of is ∙ sym (only_of test (map view vs))

pub grown_are : (vs copies grown : List Value) (v : Value) → grown ≡ copies ++ v ∷ [] → map view copies ≡ map view vs → items_view grown ≡ with_last (view v) (items_view vs)
grown_are vs copies grown v is same =
    ap items_view is ∙ ap items_of (map-append view copies (v ∷ [])) ∙ ap (λ (ds : List Data). items_of (ds ++ view v ∷ [])) same ∙ sym (with_last_of (view v) (map view vs))
