-- The values of fields, one field after another.
use Rattle.std.proofs.Common.{◌≡◌, ◌<◌, ℕ, ◌+◌, List, ◌∷◌, Bool, true, false, cond, length, map, drop, slice_index_or, sym, ap, ◌∙◌, arith}
use Rattle.std.proofs.lemmas.List.{at_drop_more}
use Rattle.std.specs.Str.{str_eq_ignore_ascii_case}
use Rattle.spec_http.specs.Heads.{values_of}
use Rattle.http_request_head.specs.declared.field.HeaderField.{HeaderField}
use Rattle.http_request_head.specs.Fields.{field_seen}

-- the values from a field on
pub values_at : (name : List ℕ) (fs : List HeaderField) (i : ℕ) (d : HeaderField) → i < length fs
    → values_of name (map field_seen (drop i fs))
    ≡ cond (str_eq_ignore_ascii_case (slice_index_or fs i d).name.now name) ((slice_index_or fs i d).value.now ∷ values_of name (map field_seen (drop (i + 1) fs))) (values_of name (map field_seen (drop (i + 1) fs)))
values_at name fs i d here = at_drop_more (λ xs. values_of name (map field_seen xs)) fs i d here

-- what is found is the first of all
pub first_found : (name : List ℕ) (fs : List HeaderField) (i : ℕ) (d : HeaderField) (t : Bool) → i < length fs → t ≡ str_eq_ignore_ascii_case (slice_index_or fs i d).name.now name → t ≡ true
    → values_of name (map field_seen (drop i fs)) ≡ values_of name (map field_seen fs)
    → (rest : List (List ℕ)) × (values_of name (map field_seen fs) ≡ (slice_index_or fs i d).value.now ∷ rest)
first_found name fs i d t here same is before =
    let passes : str_eq_ignore_ascii_case (slice_index_or fs i d).name.now name ≡ true = sym same ∙ is in
    let at = values_at name fs i d here in
    (values_of name (map field_seen (drop (i + 1) fs)), sym before ∙ at ∙ ap (λ b. cond b ((slice_index_or fs i d).value.now ∷ values_of name (map field_seen (drop (i + 1) fs))) (values_of name (map field_seen (drop (i + 1) fs)))) passes)

-- a field of another name leaves the values as they are
pub none_found : (name : List ℕ) (fs : List HeaderField) (i : ℕ) (d : HeaderField) (t : Bool) → i < length fs → t ≡ str_eq_ignore_ascii_case (slice_index_or fs i d).name.now name → t ≡ false
    → values_of name (map field_seen (drop (i + 1) fs)) ≡ values_of name (map field_seen (drop i fs))
none_found name fs i d t here same is =
    let fails : str_eq_ignore_ascii_case (slice_index_or fs i d).name.now name ≡ false = sym same ∙ is in
    let at = values_at name fs i d here in
    sym (at ∙ ap (λ b. cond b ((slice_index_or fs i d).value.now ∷ values_of name (map field_seen (drop (i + 1) fs))) (values_of name (map field_seen (drop (i + 1) fs)))) fails)

-- a field of the name is one value more
pub one_found : (name : List ℕ) (fs : List HeaderField) (i : ℕ) (d : HeaderField) (t : Bool) → i < length fs → t ≡ str_eq_ignore_ascii_case (slice_index_or fs i d).name.now name → t ≡ true
    → length (values_of name (map field_seen (drop i fs))) ≡ length (values_of name (map field_seen (drop (i + 1) fs))) + 1
one_found name fs i d t here same is =
    let passes : str_eq_ignore_ascii_case (slice_index_or fs i d).name.now name ≡ true = sym same ∙ is in
    let at = values_at name fs i d here in
    let first = at ∙ ap (λ b. cond b ((slice_index_or fs i d).value.now ∷ values_of name (map field_seen (drop (i + 1) fs))) (values_of name (map field_seen (drop (i + 1) fs)))) passes in
    omega (arith, ap length first)
