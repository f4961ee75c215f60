-- The text of data as a parser gives it is read as the data, where no number is a float and it does not nest too deeply.
use Rattle.std.proofs.Common.{◌≡◌, ◌≤◌, ◌<◌, ◌^◌, ℕ, pos, negsuc, List, false, Some, option_map, option_and_then, Less, Greater, refl, sym, ap, ◌∙◌, subst, arith}
use Rattle.std.specs.Ordering.{nat_cmp, ordering_reverse}
use Rattle.std.specs.Cmp.Lexicographic.{slice_cmp, nat_list_cmp_total}
use Rattle.std.specs.Fmt.{signed_decimal}
use Rattle.json.specs.Lex.{tokens}
use Rattle.json.specs.Print.{IsNumber}
use Rattle.json.specs.Tree.{json_tokens, HasNumbers, ItemsHaveNumbers, MembersHaveNumbers}
use Rattle.json.proofs.Printed.Trees.{ArePrintable-json_tokens}
use Rattle.json.proofs.Printed.Tokens.{tokens-print}
use Rattle.json.proofs.Printed.Decimals.{IsNumber-decimal, IsNumber-signed_decimal}
use Rattle.serde_json.specs.Data.{Num, unsigned, negative, float, Data, null, boolean, number, string, array, object, Items, no_items, item, Members, no_members, member, put, depth}
use Rattle.serde_json.specs.Read.{read, of_json, of_items, of_members, number_of, max_depth}
use Rattle.serde_json.specs.Written.{number_text, compact_text, outline, items_outline, members_outline, has_float, items_have_float, members_have_float}
use Rattle.serde_json.proofs.Numbers.{number_of-decimal, number_of-negative}
use Rattle.serde_json.proofs.Texts.{print-outline}
use Rattle.std.proofs.lemmas.Bool.{cases_eq}
use Rattle.std.proofs.Common.{◌⊎◌, inl, inr}
use Rattle.serde_json.specs.Find.{is_float}
use Rattle.spec_api.proofs.Truths.{left_false, right_false}
use Rattle.spec_api.proofs.TokensOfData.{depth-outline, read_tokens}
use Rattle.spec_api.proofs.OnLiterals.{on_literals}
use Rattle.spec_api.specs.Reached.{IsBefore, IsInRange, IsParsed, AreParsed, AreInOrder}
use Rattle.spec_laws.proofs.JsonOrder.{IsOrdered}
use Rattle.spec_laws.proofs.Parsed.{parts}

-- ---- numbers

least_text : IsNumber (signed_decimal (negsuc 9223372036854775807))
unfolding on_literals
least_text = refl

negative_text : (n : ℕ) → n < 2 ^ 63 → IsNumber (signed_decimal (negsuc n))
negative_text n h = by (cases_eq n 9223372036854775807)
  where
    by : (n ≡ 9223372036854775807) ⊎ (n ≡ 9223372036854775807 → ⊥) → IsNumber (signed_decimal (negsuc n))
    by (inl e) = subst (λ m. IsNumber (signed_decimal (negsuc m))) (sym e) least_text
    by (inr e) = IsNumber-signed_decimal (negsuc n) (omega (arith, h, e))

number_said : (n : Num) → IsInRange n → is_float n ≡ false → (number_of (number_text n) ≡ Some n) × IsNumber (number_text n)
number_said (unsigned n) f w = (number_of-decimal n f, IsNumber-decimal n f)
number_said (negative (pos n)) f w = absurd f
number_said (negative (negsuc n)) f w = (number_of-negative n f, negative_text n f)
number_said (float x) f w = cc

-- ---- the order of members

abbrev then_members : Members → Members → Members
then_members no_members others = others
then_members (member k d ms) others = member k d (then_members ms others)

then-nothing : (ms : Members) → then_members ms no_members ≡ ms
then-nothing no_members = refl
then-nothing (member k d ms) = ap (member k d) (then-nothing ms)

then-then : (xs ys zs : Members) → then_members (then_members xs ys) zs ≡ then_members xs (then_members ys zs)
then-then no_members ys zs = refl
then-then (member k d xs) ys zs = ap (member k d) (then-then xs ys zs)

below_middle : (j k : List ℕ) (d : Data) (xs ys : Members) → IsBefore j (then_members xs (member k d ys)) → slice_cmp nat_cmp j k ≡ Less
below_middle j k d no_members ys b = b.0
below_middle j k d (member l e xs) ys b = below_middle j k d xs ys b.1

put_last : (k : List ℕ) (d : Data) (xs ys : Members) → IsOrdered (then_members xs (member k d ys)) → put k d xs ≡ then_members xs (member k d no_members)
put_last k d no_members ys a = refl
put_last k d (member l e xs) ys a =
    let above : slice_cmp nat_cmp k l ≡ Greater = nat_list_cmp_total.antisymm k l ∙ ap ordering_reverse (below_middle l k d xs ys a.0) in
    rw above (ap (member l e) (put_last k d xs ys a.1))

-- ---- what it converts to

mutual
  converts : (d : Data) → IsParsed d → has_float d ≡ false → of_json (outline d) ≡ Some d
  converts null p w = refl
  converts (boolean b) p w = refl
  converts (number n) p w = ap (option_map number) (number_said n p w).0
  converts (string t) p w = refl
  converts (array ds) p w = ap (option_map array) (items_convert ds p w)
  converts (object ms) p w = ap (option_map object) (members_convert ms no_members p w (parts ms p).0)

  items_convert : (ds : Items) → AreParsed ds → items_have_float ds ≡ false → of_items (items_outline ds) ≡ Some ds
  items_convert no_items p w = refl
  items_convert (item d ds) p w =
      ap (option_and_then (λ d. option_map (item d) (of_items (items_outline ds)))) (converts d p.0 (left_false (has_float d) (items_have_float ds) w))
      ∙ ap (option_map (item d)) (items_convert ds p.1 (right_false (has_float d) (items_have_float ds) w))

  members_convert : (ms found : Members) → AreInOrder ms → members_have_float ms ≡ false → IsOrdered (then_members found ms) → of_members (members_outline ms) found ≡ Some (then_members found ms)
  members_convert no_members found p w a = ap Some (sym (then-nothing found))
  members_convert (member k d ms) found p w a =
      let last = put_last k d found ms a in
      let same : then_members (put k d found) ms ≡ then_members found (member k d ms) = ap (λ z. then_members z ms) last ∙ then-then found (member k d no_members) ms in
      ap (option_and_then (λ d. of_members (members_outline ms) (put k d found))) (converts d p.1 (left_false (has_float d) (members_have_float ms) w))
      ∙ members_convert ms (put k d found) p.2 (right_false (has_float d) (members_have_float ms) w) (subst IsOrdered (sym same) a)
      ∙ ap Some same

-- ---- its text

number_texts : (n : Num) → IsInRange n → is_float n ≡ false → IsNumber (number_text n)
number_texts n f w = (number_said n f w).1

mutual
  numbered : (d : Data) → IsParsed d → has_float d ≡ false → HasNumbers (outline d)
  numbered null p w = tt
  numbered (boolean b) p w = tt
  numbered (number n) p w = number_texts n p w
  numbered (string t) p w = tt
  numbered (array ds) p w = items_numbered ds p w
  numbered (object ms) p w = members_numbered ms p w

  items_numbered : (ds : Items) → AreParsed ds → items_have_float ds ≡ false → ItemsHaveNumbers (items_outline ds)
  items_numbered no_items p w = tt
  items_numbered (item d ds) p w = (numbered d p.0 (left_false (has_float d) (items_have_float ds) w), items_numbered ds p.1 (right_false (has_float d) (items_have_float ds) w))

  members_numbered : (ms : Members) → AreInOrder ms → members_have_float ms ≡ false → MembersHaveNumbers (members_outline ms)
  members_numbered no_members p w = tt
  members_numbered (member k d ms) p w = (numbered d p.1 (left_false (has_float d) (members_have_float ms) w), members_numbered ms p.2 (right_false (has_float d) (members_have_float ms) w))

pub read_back : (d : Data) → IsParsed d → has_float d ≡ false → depth d ≤ max_depth → read (compact_text d) ≡ Some d
read_back d p w nests =
    let j = outline d in
    let all : tokens (compact_text d) ≡ json_tokens j = ap tokens (sym (print-outline d)) ∙ tokens-print (json_tokens j) (ArePrintable-json_tokens j (numbered d p w)) in
    read_tokens j (compact_text d) all (omega (arith, nests, depth-outline d)) ∙ converts d p w
