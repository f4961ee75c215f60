-- Namespaces and names as they have to be are ASCII.
use Rattle.std.proofs.Common.{◌≡◌, ◌<◌, ℕ, List, [], ◌∷◌, true, refl, nat_lt, nat_le, length, arith}
use Rattle.std.proofs.lemmas.Bool.{lt-ltb}
use Rattle.std.proofs.lemmas.Bool.Decides.{nat_tests}
use Rattle.std.specs.List.{list_all}
use Rattle.std.specs.Str.{IsUtf8}
use Rattle.json.proofs.Printed.Utf8.{are_ascii, IsUtf8-are_ascii}
use Rattle.spec_api.proofs.Truths.{and_true, left_true, right_true}
use Rattle.spec_api.specs.Keys.{is_label, is_namespace, is_subdomain}
use Rattle.spec_laws.proofs.SelectorPlain.{is_plain, label-plain, subdomain-plain}

plain_byte : (b : ℕ) → is_plain b ≡ true → b < 128
plain_byte b h = grind (arith, nat_tests)

plain_ascii : (t : List ℕ) → list_all is_plain t ≡ true → are_ascii t ≡ true
plain_ascii [] h = refl
plain_ascii (b ∷ t) h =
    and_true (nat_lt b 128) (are_ascii t) (lt-ltb b 128 (plain_byte b (left_true (is_plain b) (list_all is_plain t) h)))
    (plain_ascii t (right_true (is_plain b) (list_all is_plain t) h))

pub namespace_text : (t : List ℕ) → is_namespace t ≡ true → IsUtf8 t
namespace_text t h = IsUtf8-are_ascii t (plain_ascii t (label-plain t (left_true (is_label t) (nat_le (length t) 63) h)))

pub name_text : (t : List ℕ) → is_subdomain t ≡ true → IsUtf8 t
name_text t h = IsUtf8-are_ascii t (plain_ascii t (subdomain-plain t h))
