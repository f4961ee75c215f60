use Rattle.std.proofs.Common.{◌≡◌, List, [], ◌∷◌, ◌++◌, length, map, string_bytes, string_cmp, subst, refl, sym, ap, ◌∙◌, append_assoc, rules, arith}
use Rattle.std.specs.List.Sorted.{IsStrictlySortedBy}
use Rattle.std.specs.Map.{keys_of}
use Rattle.serde_json.specs.View.{view, items_of}
use Rattle.serde_json.proofs.Views.{Entry}
use Rattle.spec_api.specs.Reading.{tidied}
use Rattle.spec_api.specs.Schemas.{property_at}
use Rattle.meta.proofs.Tidying.{tidied_items-items_of, tidied_members-one_more, left}
use Rattle.meta.proofs.reading.+tidy.Goals as goal

none_left : {X : Type 0} (xs : List X) → length xs ≡ 0 → xs ≡ []
none_left [] h = refl
none_left (x ∷ xs) h = absurd (omega arith)

append_nil : {X : Type 0} (xs : List X) → xs ++ [] ≡ xs
append_nil [] = refl
append_nil (x ∷ xs) = ap (λ ys. x ∷ ys) (append_nil xs)

pub tidy_items-returns : goal.tidy_items-returns
tidy_items-returns t c =
    let l = c.loop-item in
    let none : length l.item-iterator.rest.items ≡ 0 = omega (arith, c.in-None.ensures.steps) in
    let all = l.invariant.1 ∙ ap (λ rest. l.invariant.0 ++ rest) (none_left l.item-iterator.rest.items none) ∙ append_nil l.invariant.0 in
    ap items_of (l.invariant.2 ∙ ap (λ vs. map (tidied c.args.shape) (map view vs)) (sym all)) ∙ sym (tidied_items-items_of c.args.shape (map view c.args.items.items))

pub tidy_members-loop-key-preserved : goal.tidy_members-loop-key-preserved
tidy_members-loop-key-preserved t c =
    let l = c.loop-key in
    let done = l.invariant.0 in
    let p = c.args.schema in
    let e : Entry = (c.in-Some.key, c.in-Some.member) in
    let rest = c.next.new.self in
    let all : c.args.members.entries ≡ done ++ e ∷ rest = l.invariant.1 ∙ ap (λ es. done ++ es) c.in-Some.ensures.steps in
    let last = tidied_members-one_more p done e rest (subst (λ es. IsStrictlySortedBy string_cmp (keys_of es)) all c.len.ensures.ordered) in
    let table : c.property_at-described.result ≡ property_at p (string_bytes e.0) = c.property_at-described.ensures ∙ ap (property_at p) c.as_str.ensures.value in
    let made : view c.in_ok-inner.inner ≡ left p e = c.in_ok-inner.ensures ∙ ap (λ m. tidied m.shape (view e.1)) table in (
      done ++ e ∷ [],
      all ∙ sym (append_assoc done (e ∷ []) rest),
      c.in_ok-put_if_there.ensures ∙ rw (table, made, l.invariant.2) last,
    )

map_last : {X Y : Type 0} (f : X → Y) (xs : List X) (x : X) → map f (xs ++ x ∷ []) ≡ map f xs ++ f x ∷ []
map_last f [] x = refl
map_last f (y ∷ xs) x = ap (λ ys. f y ∷ ys) (map_last f xs x)

pub tidy_items-loop-item-preserved : goal.tidy_items-loop-item-preserved
tidy_items-loop-item-preserved t c =
    let l = c.loop-item in
    let done = l.invariant.0 in
    let s = c.args.shape in
    let step = c.in-Some.ensures.steps in
    let taken : l.item-iterator.rest.items ≡ c.in-Some.item ∷ c.next.new.self.rest.items = search rules in (
      done ++ c.in-Some.item ∷ [],
      l.invariant.1 ∙ ap (λ es. done ++ es) taken ∙ sym (append_assoc done (c.in-Some.item ∷ []) c.next.new.self.rest.items),
      ap (map view) {y = l.kept.items ++ c.in_ok-tidy.field-0 ∷ []} c.in_ok-push.ensures.items ∙ map_last view l.kept.items c.in_ok-tidy.field-0 ∙ rw (l.invariant.2, c.in_ok-tidy.ensures, map_last view done c.in-Some.item, map_last (tidied s) (map view done) (view c.in-Some.item)),
    )
