-- Heads that are well-formed, by a test.
use Rattle.std.proofs.Common.{◌≡◌, ℕ, List, length, Bool, true, false, ◌&&◌, nat_lt, refl, arith}
use Rattle.std.specs.Prelude.{All}
use Rattle.std.specs.List.{list_all}
use Rattle.std.specs.Str.{is_utf8}
use Rattle.std.proofs.lemmas.Bool.{ltb-true}
use Rattle.std.proofs.lemmas.List.Sums.{AllPass-from_list_all}
use Rattle.std.proofs.lemmas.Str.{IsUtf8-from_is_utf8}
use Rattle.httparse.specs.Grammar.{is_token, is_token_byte, IsToken, is_uri_byte, is_value_byte, Field, IsField, RequestHead, IsRequestHead}

abbrev pub is_field : Field → Bool
is_field f = is_token f.name && list_all is_value_byte f.raw

abbrev pub is_well_formed : RequestHead → Bool
is_well_formed h = is_token h.method && (nat_lt 0 (length h.target) && (list_all is_uri_byte h.target && (is_utf8 h.target && (nat_lt h.minor 2 && list_all is_field h.fields))))

each : (a b : Bool) → a && b ≡ true → (a ≡ true) × (b ≡ true)
each true b e = (refl, e)
each false b e = absurd (cc)

token_from : (t : List ℕ) → is_token t ≡ true → IsToken t
token_from t e =
    let parts = each (nat_lt 0 (length t)) (list_all is_token_byte t) e in
    (ltb-true 0 (length t) parts.0, AllPass-from_list_all is_token_byte t parts.1)

field_from : (f : Field) → is_field f ≡ true → IsField f
field_from f e =
    let parts = each (is_token f.name) (list_all is_value_byte f.raw) e in
    record { name = token_from f.name parts.0; raw = AllPass-from_list_all is_value_byte f.raw parts.1 }

fields_from : (fs : List Field) → list_all is_field fs ≡ true → All IsField fs
fields_from fs e = λ k d here. field_from _ (AllPass-from_list_all is_field fs e k d here)

pub well_formed : (h : RequestHead) → is_well_formed h ≡ true → IsRequestHead h
well_formed h e =
    let method = each _ _ e in
    let some = each _ _ method.1 in
    let uri = each _ _ some.1 in
    let text = each _ _ uri.1 in
    let minor = each _ _ text.1 in
    record {
      method = token_from h.method method.0;
      target = (ltb-true 0 (length h.target) some.0, AllPass-from_list_all is_uri_byte h.target uri.0);
      target_text = IsUtf8-from_is_utf8 h.target text.0;
      minor = omega (arith, ltb-true h.minor 2 minor.0);
      fields = fields_from h.fields minor.1;
    }
