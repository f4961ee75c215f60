-- The parameters of a query are read back.
use Rattle.std.proofs.Common.{◌≡◌, ℕ, List, [], ◌∷◌, map, Bool, cond, ◌||◌, Option, Some, None, All, IsUtf8, bytes_eq, if◌then◌else◌, refl, ap, ◌∙◌}
use Rattle.std.proofs.lemmas.List.Elements.{All-nil, All-cons, All-from_get_or}
use Rattle.std.proofs.lemmas.Str.{utf8_lossy-IsUtf8}
use Rattle.std.specs.List.{list_any}
use Rattle.std.specs.Str.Lossy.{utf8_lossy}
use Rattle.percent_encoding.proofs.PercentLemmas.{IsByte}
use Rattle.form_urlencoded.specs.Form.{raw_pairs, decode, extend_pairs}
use Rattle.form_urlencoded.proofs.FormLemmas.{IsBytePair, round_trip}
use Rattle.spec_api.proofs.TokenTexts.{IsBytes-utf8}
use Rattle.spec_api.specs.Queries.{Pairs, decoded_text, parameter, has_any}
use Rattle.request_encoding.specs.Targets.{Parameters}

-- names and values are texts
abbrev pub AreTexts : Parameters → Type 0
AreTexts [] = Unit {0}
AreTexts ((n, v) ∷ ps) = IsUtf8 n × IsUtf8 v × AreTexts ps

-- the value at a name, the first of several
abbrev pub given : List ℕ → Parameters → Option (List ℕ)
given name [] = None
given name ((n, v) ∷ ps) = if bytes_eq n name then Some v else given name ps

-- whether there is one of these names
abbrev pub any_given : List (List ℕ) → Parameters → Bool
any_given names ps = list_any (λ p. list_any (bytes_eq p.0) names) ps

bytes_of : (t : List ℕ) → IsUtf8 t → All IsByte t
bytes_of t text = All-from_get_or IsByte t 0 (λ i within. IsBytes-utf8 t text i)

byte_pairs : (ps : Parameters) → AreTexts ps → All IsBytePair ps
byte_pairs [] h = All-nil IsBytePair
byte_pairs ((n, v) ∷ ps) h = All-cons IsBytePair (n, v) ps (bytes_of n h.0, bytes_of v h.1) (byte_pairs ps h.2)

abbrev decoded : Pairs → Parameters
decoded ps = map (λ (n, v). (decode n, decode v)) ps

abbrev as_texts : Parameters → Parameters
as_texts ps = map (λ (n, v). (utf8_lossy n, utf8_lossy v)) ps

same_texts : (ps : Parameters) → AreTexts ps → as_texts ps ≡ ps
same_texts [] h = refl
same_texts ((n, v) ∷ ps) h = λ i. (utf8_lossy-IsUtf8 n h.0 i, utf8_lossy-IsUtf8 v h.1 i) ∷ same_texts ps h.2 i

-- what is written as a form is decoded
decoded_back : (ps : Parameters) → AreTexts ps → as_texts (decoded (raw_pairs (extend_pairs [] ps))) ≡ ps
decoded_back ps h = ap as_texts (round_trip ps (byte_pairs ps h)) ∙ same_texts ps h

parameter_in : (name : List ℕ) (ps : Pairs) → parameter name ps ≡ given name (as_texts (decoded ps))
parameter_in name [] = refl
parameter_in name ((n, v) ∷ ps) = ap (λ rest. cond (bytes_eq (decoded_text n) name) (Some (decoded_text v)) rest) (parameter_in name ps)

any_in : (names : List (List ℕ)) (ps : Pairs) → has_any names ps ≡ any_given names (as_texts (decoded ps))
any_in names [] = refl
any_in names ((n, v) ∷ ps) = ap (λ rest. list_any (bytes_eq (decoded_text n)) names || rest) (any_in names ps)

pub parameter_back : (name : List ℕ) (ps : Parameters) → AreTexts ps → parameter name (raw_pairs (extend_pairs [] ps)) ≡ given name ps
parameter_back name ps h = parameter_in name (raw_pairs (extend_pairs [] ps)) ∙ ap (given name) (decoded_back ps h)

pub any_back : (names : List (List ℕ)) (ps : Parameters) → AreTexts ps → has_any names (raw_pairs (extend_pairs [] ps)) ≡ any_given names ps
any_back names ps h = any_in names (raw_pairs (extend_pairs [] ps)) ∙ ap (any_given names) (decoded_back ps h)
