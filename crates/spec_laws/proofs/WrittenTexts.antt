-- The text of data as a parser gives it is in UTF-8.
use Rattle.std.proofs.Common.{◌≡◌, ℕ, suc, pos, negsuc, List, [], ◌∷◌, ◌++◌, Bool, true, false, refl, decimal, arith}
use Rattle.std.proofs.lemmas.Fmt.{IsAscii-decimal}
use Rattle.std.proofs.lemmas.Str.{IsUtf8-append, IsUtf8-nil, IsUtf8-from_ascii}
use Rattle.std.specs.Str.{IsUtf8}
use Rattle.json.specs.Print.{quoted}
use Rattle.json.proofs.Printed.Utf8.{are_ascii, IsUtf8-are_ascii, IsUtf8-quoted, IsUtf8-boolean}
use Rattle.serde_json.specs.Data.{Num, unsigned, negative, float, Data, null, boolean, number, string, array, object, Items, no_items, item, Members, no_members, member}
use Rattle.serde_json.specs.Written.{number_text, comma_if, compact_text, items_text, members_text}
use Rattle.spec_api.specs.Reached.{IsInRange, IsParsed, AreParsed, AreInOrder}

ascii_before : (b : ℕ) (t : List ℕ) → are_ascii (b ∷ []) ≡ true → IsUtf8 t → IsUtf8 (b ∷ t)
ascii_before b t e u = IsUtf8-append (b ∷ []) t (IsUtf8-are_ascii (b ∷ []) e) u

number_written : (n : Num) → IsInRange n → IsUtf8 (number_text n)
number_written (unsigned n) f = IsUtf8-from_ascii (decimal n) (IsAscii-decimal n f)
number_written (negative (pos n)) f = absurd f
number_written (negative (negsuc n)) f = ascii_before 45 (decimal (suc n)) refl (IsUtf8-from_ascii (decimal (suc n)) (IsAscii-decimal (suc n) (omega (arith, f))))
number_written (float x) f = IsUtf8-nil

comma_written : (b : Bool) → IsUtf8 (comma_if b)
comma_written true = IsUtf8-are_ascii (comma_if true) refl
comma_written false = IsUtf8-are_ascii (comma_if false) refl

mutual
  pub text_written : (d : Data) → IsParsed d → IsUtf8 (compact_text d)
  text_written null p = IsUtf8-are_ascii (compact_text null) refl
  text_written (boolean b) p = IsUtf8-boolean b
  text_written (number n) p = number_written n p
  text_written (string s) p = IsUtf8-quoted s p
  text_written (array ds) p = ascii_before 91 (items_text false ds) refl (items_written false ds p)
  text_written (object ms) p = ascii_before 123 (members_text false ms) refl (members_written false ms p)

  items_written : (later : Bool) (ds : Items) → AreParsed ds → IsUtf8 (items_text later ds)
  items_written later no_items p = IsUtf8-are_ascii (93 ∷ []) refl
  items_written later (item d ds) p =
      IsUtf8-append (comma_if later) (compact_text d ++ items_text true ds) (comma_written later) (IsUtf8-append (compact_text d) (items_text true ds) (text_written d p.0) (items_written true ds p.1))

  members_written : (later : Bool) (ms : Members) → AreInOrder ms → IsUtf8 (members_text later ms)
  members_written later no_members p = IsUtf8-are_ascii (125 ∷ []) refl
  members_written later (member k d ms) p =
      let rest = compact_text d ++ members_text true ms in
      IsUtf8-append (comma_if later) (quoted k ++ 58 ∷ rest) (comma_written later)
      (IsUtf8-append (quoted k) (58 ∷ rest) (IsUtf8-quoted k p.3)
      (ascii_before 58 rest refl (IsUtf8-append (compact_text d) (members_text true ms) (text_written d p.1) (members_written true ms p.2))))
