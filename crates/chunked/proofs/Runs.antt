-- A body that is read in pieces.
use Rattle.std.proofs.Common.{◌≡◌, ℕ, List, [], ◌∷◌, ◌++◌, Option, Some, None, refl, sym, ap, subst, ◌∙◌, append_assoc, append-nil, arith}
use Rattle.chunked.specs.Bodies.{IsBodyWithin, joined, last_chunk}
use Rattle.chunked.specs.Reading.{IsLeft, Passes, Stops, longest_line}
use Rattle.chunked.specs.Laws.{ReadsPieces, IsReadAs}
use Rattle.chunked.specs.declared.fault.ChunkFault.{ChunkFault}
use Rattle.chunked.specs.declared.fault.ChunkFault.TheVariants as fault
use Rattle.chunked.specs.declared.place.BodyPlace.{BodyPlace}
use Rattle.chunked.specs.declared.place.BodyPlace.TheVariants as place
use Rattle.chunked.proofs.Passing.{passes_stay, longer_body, longer_left, last_is_body, zeros, chunk_rest, chunk_is_left}

-- what is left of a body after pieces
run_leaves : (pieces : List (List ℕ)) (p q : BodyPlace) (input left all rest : List ℕ) → ReadsPieces p input pieces q left → IsLeft longest_line p input all rest
    → (more : List ℕ) × (all ≡ joined pieces ++ more) × IsLeft longest_line q left more rest
run_leaves [] p q input left all rest h at =
    (all, refl, subst (λ t. IsLeft longest_line q t all rest) h.1 (subst (λ r. IsLeft longest_line r input all rest) h.0 at))
run_leaves (piece ∷ pieces) p q input left all rest (mid, between, reaches, on) at =
    let first = reaches.2.1 longest_line between all rest (subst (λ t. IsLeft longest_line p t all rest) reaches.1 at) in
    let second = run_leaves pieces mid q between left first.0 rest on first.2 in
    (second.0, first.1 ∙ ap (λ t. piece ++ t) second.1 ∙ sym (append_assoc piece (joined pieces) second.0), second.2)

-- no fault but the device's comes where a body is left
no_fault : (p : BodyPlace) (left content rest : List ℕ) (after : Option (List ℕ)) (f : ChunkFault) → IsLeft longest_line p left content rest → Stops p (Some left) after f → f ≡ fault.Device
no_fault p left content rest None fault.Malformed at h = absurd h.1
no_fault p left content rest (Some a) fault.Malformed at h = absurd (h.2 a (content, rest, subst (λ t. IsLeft longest_line p t content rest) h.1 at))
no_fault p left content rest None fault.Truncated at h = absurd h.1
no_fault p left content rest (Some a) fault.Truncated at h =
    let all = h.1 ∙ ap (λ t. h.0 ++ t) h.2 ∙ append-nil h.0 in
    absurd (h.3 longest_line (content, rest, subst (λ t. IsLeft longest_line p t content rest) all at))
no_fault p left content rest after fault.Device at h = refl
no_fault p left content rest after fault.Want at h = absurd h

ends : (p : BodyPlace) (left more rest : List ℕ) → p ≡ place.Ended → IsLeft longest_line p left more rest → (more ≡ []) × (left ≡ rest)
ends p left more rest e at = subst (λ q. IsLeft longest_line q left more rest) e at

pub read_as : (chunks : List (List ℕ)) (input rest : List ℕ) → IsBodyWithin longest_line chunks input rest → IsReadAs chunks input rest
read_as chunks input rest body pieces p left run =
    let on = run_leaves pieces place.Line p input left (joined chunks) rest run (chunks, body, refl) in (
      (on.0, on.1),
      λ e. let end = ends p left on.0 rest e on.2 in (sym (on.1 ∙ ap (λ t. joined pieces ++ t) end.0 ∙ append-nil (joined pieces)), end.1),
      λ after f stops. no_fault p left on.0 rest after f on.2 stops,
    )

-- one passage after another, each with content
pub passes_more : (p q s : BodyPlace) (front back first second : List ℕ) → Passes p front first q → Passes q back second s → Passes p (front ++ back) (first ++ second) s
passes_more p q s front back first second a b = (
  λ longest tail more rest le h.
      let whole = a.0 longest (back ++ tail) (second ++ more) rest le (b.0 longest tail more rest le h) in
      subst (λ t. IsLeft longest p t ((first ++ second) ++ more) rest) (sym (append_assoc front back tail))
      (subst (λ t. IsLeft longest p (front ++ (back ++ tail)) t rest) (sym (append_assoc first second more)) whole),
  λ longest tail all rest h.
      let on = a.1 longest (back ++ tail) all rest (subst (λ t. IsLeft longest p t all rest) (append_assoc front back tail) h) in
      let last = b.1 longest tail on.0 rest on.2 in
      (last.0, on.1 ∙ ap (λ t. first ++ t) last.1 ∙ sym (append_assoc first second last.0), last.2),
)

-- pieces are one passage
run_passes : (pieces : List (List ℕ)) (p q : BodyPlace) (input left : List ℕ) → ReadsPieces p input pieces q left → (read : List ℕ) × (input ≡ read ++ left) × Passes p read (joined pieces) q
run_passes [] p q input left h = ([], h.1, subst (λ r. Passes p [] [] r) h.0 (passes_stay p))
run_passes (piece ∷ pieces) p q input left (mid, between, reaches, on) =
    let rest = run_passes pieces mid q between left on in (
      reaches.0 ++ rest.0,
      reaches.1 ∙ ap (λ t. reaches.0 ++ t) rest.1 ∙ sym (append_assoc reaches.0 rest.0 left),
      passes_more p mid q reaches.0 rest.0 piece (joined pieces) reaches.2 rest.2,
    )

-- at each place something can be left of a body
some_left : (p : BodyPlace) → (tail : List ℕ) × (content : List ℕ) × IsLeft longest_line p tail content []
some_left place.Line = (last_chunk, [], ([], longer_body 3 longest_line (omega arith) [] last_chunk [] (last_is_body []), refl))
some_left (place.Within n) = (chunk_rest n, zeros n ++ [], longer_left 3 longest_line (omega arith) (place.Within n) (chunk_rest n) (zeros n ++ []) [] (chunk_is_left n))
some_left place.Ended = ([], [], (refl, refl))

pub not_invented : (pieces : List (List ℕ)) (p : BodyPlace) (input left : List ℕ) → ReadsPieces place.Line input pieces p left
    → (read : List ℕ) × (input ≡ read ++ left)
    × ((tail : List ℕ) × (chunks : List (List ℕ)) × IsBodyWithin longest_line chunks (read ++ tail) [])
    × ((tail rest : List ℕ) (chunks : List (List ℕ)) → IsBodyWithin longest_line chunks (read ++ tail) rest → (more : List ℕ) × (joined chunks ≡ joined pieces ++ more))
not_invented pieces p input left h =
    let run = run_passes pieces place.Line p input left h in
    let some = some_left p in
    let body = run.2.0 longest_line some.0 some.1 [] (omega arith) some.2 in (
      run.0,
      run.1,
      (some.0, body.0, body.1),
      λ tail rest chunks b. let on = run.2.1 longest_line tail (joined chunks) rest (chunks, b, refl) in (on.0, on.1),
    )
