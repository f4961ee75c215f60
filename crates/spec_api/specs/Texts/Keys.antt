-- The key of an object, by which it is known among all objects, and the order of keys.
use Rattle.std.specs.Prelude.{ℕ, ◌==◌, ◌-◌, ◌&&◌, ◌||◌, List, Bool, length, slice_index, nat_le, nat_lt}
use Rattle.std.specs.List.{list_all, slice_split}
use Rattle.std.specs.Ordering.{nat_cmp, then_cmp, on, is_eq}
use Rattle.std.specs.Cmp.Lexicographic.{slice_cmp}
use Rattle.std.specs.declared.cmp.Ordering.{Ordering}
use Rattle.spec_api.specs.declared.kinds.Kind.{Kind}
use Rattle.spec_api.specs.Texts.Kinds.{rank}

-- one object of a kind at a time has a given name in a namespace (Kubernetes, Object Names and IDs)
pub record Key : Type 0 where
  pub kind : Kind
  pub namespace : List ℕ
  pub name : List ℕ

-- by kind, then namespace, then name, the texts in byte order
abbrev pub key_cmp : Key → Key → Ordering
key_cmp = then_cmp (on (λ (n : Key). rank n.kind) nat_cmp) (then_cmp (on (λ (n : Key). n.namespace) (slice_cmp nat_cmp)) (on (λ (n : Key). n.name) (slice_cmp nat_cmp)))

abbrev pub is_same_key : Key → Key → Bool
is_same_key a b = is_eq (key_cmp a b)

abbrev pub is_letter_or_digit : ℕ → Bool
is_letter_or_digit b = (nat_le 97 b && nat_le b 122) || (nat_le 48 b && nat_le b 57)

-- lower-case letters, digits and `-`, beginning and ending with a letter or digit (RFC 1123, Host Names and Numbers)
abbrev pub is_label : List ℕ → Bool
is_label t =
    nat_lt 0 (length t) && list_all (λ b. is_letter_or_digit b || (b == 45)) t && is_letter_or_digit (slice_index t 0) && is_letter_or_digit (slice_index t (length t - 1))

-- a namespace: a label of at most 63 bytes (Kubernetes, Object Names and IDs, RFC 1123 Label Names)
abbrev pub is_namespace : List ℕ → Bool
is_namespace t = is_label t && nat_le (length t) 63

-- an object's name: labels joined by `.`, at most 253 bytes in all (Kubernetes, Object Names and IDs, DNS Subdomain Names)
abbrev pub is_subdomain : List ℕ → Bool
is_subdomain t = list_all is_label (slice_split (λ b. b == 46) t) && nat_le (length t) 253
