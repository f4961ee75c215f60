-- The labels of an object: their keys and values.
use Rattle.std.specs.Prelude.{ℕ, ◌==◌, ◌-◌, ◌&&◌, ◌||◌, List, Bool, length, slice_index, nat_le, nat_lt, if◌then◌else◌, Option, option_and_then}
use Rattle.std.specs.List.{list_all, list_any, before_first, after_first}
use Rattle.spec_api.specs.Texts.Values.{Members, get_member, as_str}
use Rattle.spec_api.specs.Texts.Keys.{is_letter_or_digit, is_subdomain}

-- a letter of either case, or a digit
abbrev pub is_alphanumeric : ℕ → Bool
is_alphanumeric b = is_letter_or_digit b || (nat_le 65 b && nat_le b 90)

-- such a one, or `-`, `.`, `_`
abbrev pub is_name_byte : ℕ → Bool
is_name_byte b = is_alphanumeric b || (b == 45) || (b == 46) || (b == 95)

-- 1 to 63 of these, beginning and ending with a letter or digit (Kubernetes, Labels and Selectors, Syntax and character set)
abbrev pub is_short_name : List ℕ → Bool
is_short_name t =
    nat_lt 0 (length t) && nat_le (length t) 63 && list_all is_name_byte t && is_alphanumeric (slice_index t 0)
    && is_alphanumeric (slice_index t (length t - 1))

-- a label's value is empty or a short name
abbrev pub is_label_value : List ℕ → Bool
is_label_value t = (length t == 0) || is_short_name t

abbrev pub is_slash : ℕ → Bool
is_slash b = b == 47

-- a label's key is a short name, before which a DNS subdomain and `/` may stand
abbrev pub is_label_key : List ℕ → Bool
is_label_key t = if list_any is_slash t then is_subdomain (before_first is_slash t) && is_short_name (after_first is_slash t) else is_short_name t

-- the value of the label with this key, where it is there
abbrev pub label_at : List ℕ → Members → Option (List ℕ)
label_at k labels = option_and_then as_str (get_member k labels)
