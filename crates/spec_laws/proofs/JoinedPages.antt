-- Pages, joined.
use Rattle.std.proofs.Common.{append-nil, ◌≡◌, ℕ, List, [], ◌∷◌, ◌++◌, length, take, drop, Option, Some, None, refl, sym, ap, ap₂, ◌∙◌, append_assoc, nat_le, nat_eq}
use Rattle.std.proofs.lemmas.List.{take-append-drop}
use Rattle.spec_api.specs.History.{History, View, Entries, list}
use Rattle.spec_api.specs.Pages.{Place, after_place, last_place, Page, page_of}
use Rattle.spec_api.proofs.PageLists.{order, no_next, has_next, left_after, ascending_list, all_after}
use Rattle.spec_api.proofs.PutLaws.{IsAscending}
use Rattle.spec_laws.specs.PageLaws.{ArePages, joined}

joined_from : (ms : Entries) (gs : List Page) (front rest : Entries) (p : Option Place) → IsAscending order ms → ms ≡ front ++ rest → after_place p ms ≡ rest → ArePages ms p gs → joined gs ≡ rest
joined_from ms [] front rest p a is left h = absurd h
joined_from ms (g ∷ []) front rest p a is left h =
    let n = h.0.0 in
    let none : (page_of ms n p).next ≡ None = ap (λ z. z.next) (sym h.0.1) ∙ h.1 in
    append-nil g.items ∙ ap (λ z. z.items) h.0.1 ∙ no_next ms n p (nat_eq n 0) (nat_le (length (after_place p ms)) n) refl refl none ∙ left
joined_from ms (g ∷ k ∷ gs) front rest p a is left h =
    let n = h.0.0 in
    let q = h.1.0 in
    let some : (page_of ms n p).next ≡ Some q = ap (λ z. z.next) (sym h.0.1) ∙ h.1.1 in
    let next = has_next ms n p q (nat_eq n 0) (nat_le (length (after_place p ms)) n) refl refl some in
    let last : last_place (take n rest) ≡ Some q = ap (λ z. last_place (take n z)) (sym left) ∙ next.1 in
    let more : ms ≡ (front ++ take n rest) ++ drop n rest = is ∙ ap (λ z. front ++ z) (sym (take-append-drop n rest)) ∙ sym (append_assoc front (take n rest) (drop n rest)) in
    let others = joined_from ms (k ∷ gs) (front ++ take n rest) (drop n rest) (Some q) a more (left_after ms front n rest q a is last) h.1.2 in
    ap₂ (λ x y. x ++ y) (ap (λ z. z.items) h.0.1 ∙ next.0 ∙ ap (take n) left) others ∙ take-append-drop n rest

pub pages_are_lists : (h : History) (v : View) (r : ℕ) (gs : List Page) → ArePages (list h v r) None gs → joined gs ≡ list h v r
pages_are_lists h v r gs are = joined_from (list h v r) gs [] (list h v r) None (ascending_list h v r) refl (all_after (list h v r)) are
