-- A label's text is found in the list of labels as in the object.
use Rattle.std.proofs.Common.{◌≡◌, ℕ, List, Ordering, Less, Equal, Greater, Option, Some, None, option_and_then, cond, is_eq, nat_cmp, refl, ap, ◌∙◌}
use Rattle.std.specs.Cmp.Lexicographic.{slice_cmp}
use Rattle.std.specs.Ordering.{match_ordering}
use Rattle.serde_json.specs.Data.{Data, null, boolean, number, string, array, object, Members, no_members, member}
use Rattle.serde_json.specs.Find.{get, get_member, as_str, as_object}
use Rattle.meta.specs.Labels.{labels_in, labels_of, label_text}
use Rattle.meta.proofs.ItemTexts.{named}

label_text-at : (o : Ordering) (d : Data) (r : Option Data) → cond (is_eq o) (as_str d) (option_and_then as_str r) ≡ option_and_then as_str (match_ordering o r (Some d) r)
label_text-at Less d r = refl
label_text-at Equal d r = refl
label_text-at Greater d r = refl

label_text-member : (k : List ℕ) (ms : Members) → label_text k (labels_in ms) ≡ option_and_then as_str (get_member k ms)
label_text-member k no_members = refl
label_text-member k (member l d ms) =
    ap (λ b. cond b (as_str d) (label_text k (labels_in ms))) (named k l)
    ∙ ap (λ t. cond (is_eq (slice_cmp nat_cmp k l)) (as_str d) t) (label_text-member k ms)
    ∙ label_text-at (slice_cmp nat_cmp k l) d (get_member k ms)

pub label_text-label : (k : List ℕ) (o : Option Data) → label_text k (labels_of (option_and_then as_object o)) ≡ option_and_then as_str (option_and_then (get k) o)
label_text-label k None = refl
label_text-label k (Some null) = refl
label_text-label k (Some (boolean b)) = refl
label_text-label k (Some (number n)) = refl
label_text-label k (Some (string s)) = refl
label_text-label k (Some (array ds)) = refl
label_text-label k (Some (object ms)) = label_text-member k ms
