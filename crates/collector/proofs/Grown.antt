-- What a loop has found, with what the rest gives.
use Rattle.std.proofs.Common.{◌≡◌, ◌≤◌, ℕ, List, [], ◌∷◌, ◌++◌, length, map, drop, Bool, true, false, cond, codes, refl, sym, ap, ◌∙◌, append-nil}
use Rattle.std.proofs.lemmas.List.{drop_all}
use Rattle.std.specs.List.{filter}
use Rattle.serde_json.specs.Data.{Data, Items, no_items, item, boolean}
use Rattle.serde_json.specs.View.{view, items_of, items_view}
use Rattle.serde_json.specs.Written.{has_float, items_have_float}
use Rattle.serde_json.specs.declared.value.Value.{Value}
use Rattle.spec_api.specs.Values.{members_of}
use Rattle.spec_api.proofs.NoFloatsRead.{both_false, members_have_float-put}
use Rattle.spec_api.proofs.Truths.{left_false, right_false}
use Rattle.json_values.proofs.NoFloats.{members_of-no_float}
use Rattle.spec_reconcile.specs.MetadataEdits.{only, unblocked, all_unblocked}

-- ---- any loop

-- where none is left
pub grown-end : {X Y : Type 0} (all : List X → List Y) → all [] ≡ [] → (xs : List X) (i : ℕ) (a w : List Y) → length xs ≤ i → a ++ all (drop i xs) ≡ w → a ≡ w
grown-end all none xs i a w le before = sym (append-nil a) ∙ ap (λ z. a ++ z) (sym none) ∙ ap (λ z. a ++ all z) (sym (drop_all i xs le)) ∙ before

-- ---- items that are picked

only_one : (b : Bool) (d : Data) (ds : List Data) (es : Items) → items_of ds ≡ es → items_of (cond b (d ∷ ds) ds) ≡ cond b (item d es) es
only_one true d ds es is = ap (item d) is
only_one false d ds es is = is

only-filter : (test : Data → Bool) (ds : List Data) → items_of (filter test ds) ≡ only test (items_of ds)
only-filter test [] = refl
only-filter test (d ∷ ds) = only_one (test d) d (filter test ds) (only test (items_of ds)) (only-filter test ds)

pub picked-all : (test : Data → Bool) (vs : List Value) (i : ℕ) (a : List Value) → length vs ≤ i → map view a ++ filter test (map view (drop i vs)) ≡ filter test (map view vs)
    → items_view a ≡ only test (items_view vs)
picked-all test vs i a le before =
    ap items_of (grown-end (λ us. filter test (map view us)) refl vs i (map view a) (filter test (map view vs)) le before)
    ∙ only-filter test (map view vs)

-- ---- references for which no owner waits

pub unblocked-all : (ds : List Data) → items_of (map unblocked ds) ≡ all_unblocked (items_of ds)
unblocked-all [] = refl
unblocked-all (d ∷ ds) = ap (item (unblocked d)) (unblocked-all ds)

-- ---- no float

only_no_float_at : (b : Bool) (d : Data) (ds : Items) → has_float d ≡ false → items_have_float ds ≡ false → items_have_float (cond b (item d ds) ds) ≡ false
only_no_float_at true d ds p q = both_false _ _ p q
only_no_float_at false d ds p q = q

pub only-no_float : (test : Data → Bool) (ds : Items) → items_have_float ds ≡ false → items_have_float (only test ds) ≡ false
only-no_float test no_items h = refl
only-no_float test (item d ds) h = only_no_float_at (test d) d (only test ds) (left_false (has_float d) _ h) (only-no_float test ds (right_false (has_float d) _ h))

pub all_unblocked-no_float : (ds : Items) → items_have_float ds ≡ false → items_have_float (all_unblocked ds) ≡ false
all_unblocked-no_float no_items h = refl
all_unblocked-no_float (item d ds) h =
    both_false _ _ (members_have_float-put (codes "blockOwnerDeletion") (boolean false) (members_of d) refl (members_of-no_float d (left_false (has_float d) _ h)))
    (all_unblocked-no_float ds (right_false (has_float d) _ h))
