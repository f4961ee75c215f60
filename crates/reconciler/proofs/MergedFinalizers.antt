-- What an object has once a server has merged a patch of finalizers.
use Rattle.std.proofs.Common.{◌≡◌, ℕ, List, [], Bool, true, false, not, ◌||◌, if◌then◌else◌, refl, ap, ◌∙◌}
use Rattle.std.specs.Prelude.{codes, unwrap_or}
use Rattle.std.specs.Str.{bytes_eq}
use Rattle.std.proofs.lemmas.Slice.Eq.{bytes_eq-Decides}
use Rattle.serde_json.specs.Data.{Data, Items, no_items, item, array, object, string, put}
use Rattle.serde_json.specs.Find.{get_member}
use Rattle.serde_json.proofs.Views.{get_member-put, get_member-put_other}
use Rattle.spec_api.proofs.JsonMembers.{apart}
use Rattle.spec_api.specs.Checks.{finalizers, has_text, text_is}
use Rattle.spec_api.specs.Metadata.{version}
use Rattle.spec_api.specs.SelectorValues.{items_in}
use Rattle.spec_api.specs.Values.{found_or_null, inner_of, members_of, merged}
use Rattle.spec_reconcile.specs.MetadataEdits.{only, with_last}
use Rattle.reconciler.specs.Finalizers.{but_finalizer, finalizers_patch, with_finalizer}
use Rattle.reconciler.specs.FinalizerLaws.{FinalizersAreAdded, FinalizersAreRemoved}

-- the finalizers are then those of the patch
patched : (items : Items) (d : Data) → finalizers (merged d (finalizers_patch items d)) ≡ items
patched items d =
    let meta = members_of (found_or_null (codes "metadata") (members_of d)) in
    let listed = put (codes "finalizers") (array items) meta in
    let said = string (unwrap_or (version d) []) in
    let whole = put (codes "resourceVersion") said listed in
    ap (λ m. items_in (get_member (codes "finalizers") (inner_of m))) (get_member-put (codes "metadata") (object whole) (members_of d))
    ∙ ap items_in (get_member-put_other (codes "finalizers") (codes "resourceVersion") said listed (apart (codes "finalizers") (codes "resourceVersion") refl))
    ∙ ap items_in (get_member-put (codes "finalizers") (array items) meta)

module _ (t : List ℕ) where
  abbrev is_other : Data → Bool
  is_other f = not (text_is (bytes_eq t) f)

  itself : text_is (bytes_eq t) (string t) ≡ true
  itself = (bytes_eq-Decides t t).1 refl

  has_last : (xs : Items) → has_text (with_last (string t) xs) t ≡ true
  has_last no_items = ap (λ b. b || false) itself
  has_last (item d ds) = ap (λ b. text_is (bytes_eq t) d || b) (has_last ds) ∙ or_true (text_is (bytes_eq t) d)
    where
      or_true : (b : Bool) → (b || true) ≡ true
      or_true true = refl
      or_true false = refl

  others_last : (xs : Items) → only is_other (with_last (string t) xs) ≡ only is_other xs
  others_last no_items = ap (λ b. if not b then item (string t) no_items else no_items) itself
  others_last (item d ds) = ap (λ r. if is_other d then item d r else r) (others_last ds)

  none_left : (xs : Items) → has_text (only is_other xs) t ≡ false
  none_left no_items = refl
  none_left (item d ds) = by (text_is (bytes_eq t) d) (none_left ds) refl
    where
      by : (b : Bool) → has_text (only is_other ds) t ≡ false → text_is (bytes_eq t) d ≡ b → has_text (if not b then item d (only is_other ds) else only is_other ds) t ≡ false
      by true rest e = rest
      by false rest e = ap (λ b. b || has_text (only is_other ds) t) e ∙ rest

  others_again : (xs : Items) → only is_other (only is_other xs) ≡ only is_other xs
  others_again no_items = refl
  others_again (item d ds) = by (text_is (bytes_eq t) d) (others_again ds) refl
    where
      by : (b : Bool) → only is_other (only is_other ds) ≡ only is_other ds → text_is (bytes_eq t) d ≡ b → only is_other (if not b then item d (only is_other ds) else only is_other ds) ≡ (if not b then item d (only is_other ds) else only is_other ds)
      by true rest e = rest
      by false rest e = ap (λ b. if not b then item d (only is_other (only is_other ds)) else only is_other (only is_other ds)) e ∙ ap (item d) rest

pub are_added : FinalizersAreAdded
are_added t d = record {
  has = ap (λ xs. has_text xs t) (patched (with_finalizer t d) d) ∙ has_last t (finalizers d);
  stay = ap (only (is_other t)) (patched (with_finalizer t d) d) ∙ others_last t (finalizers d);
}

pub are_removed : FinalizersAreRemoved
are_removed t d = record {
  gone = ap (λ xs. has_text xs t) (patched (but_finalizer t d) d) ∙ none_left t (finalizers d);
  stay = ap (only (is_other t)) (patched (but_finalizer t d) d) ∙ others_again t (finalizers d);
}
