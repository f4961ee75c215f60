-- What the text of a selector says (Kubernetes, Labels and Selectors, API).
use Rattle.std.specs.Prelude.{ℕ, ◌==◌, ◌-◌, ◌&&◌, ◌||◌, List, [], ◌∷◌, Bool, false, not, length, slice_index, take, reverse, codes, nat_lt, if◌then◌else◌, Option, None, Some, option_and_then}
use Rattle.std.specs.List.{list_any, before_first, after_first, slice_split, onto_first}
use Rattle.std.specs.Str.{bytes_eq}
use Rattle.spec_api.specs.declared.selectors.Operator.{Operator}
use Rattle.spec_api.specs.declared.selectors.Operator.TheVariants.{In, NotIn, Exists, DoesNotExist}
use Rattle.spec_api.specs.Texts.Selectors.{Requirement, each_read, label_key, label_value, only_if, requiring}

abbrev pub is_blank : ℕ → Bool
is_blank b = (b == 32) || (b == 9)

abbrev pub without_first_blanks : List ℕ → List ℕ
without_first_blanks [] = []
without_first_blanks (b ∷ t) = if is_blank b then without_first_blanks t else b ∷ t

-- a text without the blanks around it
abbrev pub trimmed : List ℕ → List ℕ
trimmed t = reverse (without_first_blanks (reverse (without_first_blanks t)))

-- whether a byte that follows this one stands in parentheses
abbrev pub still_inside : Bool → ℕ → Bool
still_inside inside b = (b == 40) || (inside && not (b == 41))

-- the parts of a text between the commas outside parentheses
abbrev pub parts_from : Bool → List ℕ → List (List ℕ)
parts_from inside [] = [] ∷ []
parts_from inside (b ∷ t) =
    if (b == 44) && not inside then [] ∷ parts_from false t
    else onto_first b (parts_from (still_inside inside b) t)

abbrev pub parts : List ℕ → List (List ℕ)
parts t = parts_from false t

abbrev pub is_comma : ℕ → Bool
is_comma b = b == 44

abbrev pub is_equals : ℕ → Bool
is_equals b = b == 61

abbrev pub is_opening : ℕ → Bool
is_opening b = b == 40

-- the text before the last byte, where that is as given
abbrev pub before_last : ℕ → List ℕ → Option (List ℕ)
before_last b t = only_if (nat_lt 0 (length t) && (slice_index t (length t - 1) == b)) (take (length t - 1) t)

-- what stands left and right of `=`, `==` or `!=`
pub record Comparison : Type 0 where
  pub left : List ℕ
  pub operator : Operator
  pub right : List ℕ

abbrev pub without_equals : List ℕ → List ℕ
without_equals [] = []
without_equals (b ∷ t) = if is_equals b then t else b ∷ t

abbrev pub compared : Option (List ℕ) → List ℕ → List ℕ → Comparison
compared (Some left) all right = record { left = left; operator = NotIn; right = right }
compared None all right = record { left = all; operator = In; right = without_equals right }

-- the comparison that a text with a `=` writes, by its first `=`
abbrev pub comparison : List ℕ → Comparison
comparison t = let left = before_first is_equals t in compared (before_last 33 left) left (after_first is_equals t)

abbrev pub compared_requirement : Comparison → Option Requirement
compared_requirement c = requiring (label_key (trimmed c.left)) c.operator (each_read label_value (trimmed c.right ∷ []))

-- `in` and `notin`
abbrev pub set_operator : List ℕ → Option Operator
set_operator word = if bytes_eq word (codes "in") then Some In else only_if (bytes_eq word (codes "notin")) NotIn

abbrev pub value_in : List ℕ → Option (List ℕ)
value_in t = label_value (trimmed t)

-- the values between parentheses; an empty one is the empty value, but `()` is none
abbrev pub listed_values : List ℕ → Option (List (List ℕ))
listed_values t = if length (trimmed t) == 0 then None else each_read value_in (slice_split is_comma t)

-- `k in (v,..)` and `k notin (v,..)`, split at the parenthesis: the key, at least one blank, and the word
abbrev pub in_requirement : List ℕ → List ℕ → Option Requirement
in_requirement head list =
    option_and_then (λ operator. requiring (label_key (before_first is_blank head)) operator (option_and_then listed_values (before_last 41 list)))
    (set_operator (trimmed (after_first is_blank head)))

-- the requirement that begins with neither a blank nor `!`
abbrev pub plain_requirement : List ℕ → Option Requirement
plain_requirement t =
    if list_any is_opening t then in_requirement (before_first is_opening t) (after_first is_opening t)
    else (if list_any is_equals t then compared_requirement (comparison t) else requiring (label_key t) Exists (Some []))

abbrev pub unblanked_requirement : List ℕ → Option Requirement
unblanked_requirement [] = None
unblanked_requirement (b ∷ t) = if b == 33 then requiring (label_key (trimmed t)) DoesNotExist (Some []) else plain_requirement (b ∷ t)

-- the requirement that one part of a text writes
abbrev pub requirement : List ℕ → Option Requirement
requirement t = unblanked_requirement (trimmed t)

-- what the text of a selector says: all its parts; the empty text says nothing
abbrev pub selector_of_text : List ℕ → Option (List Requirement)
selector_of_text [] = Some []
selector_of_text (b ∷ t) = each_read requirement (parts (b ∷ t))
