-- Where something was read of a reader, there was something.
use Rattle.std.proofs.Common.{◌≡◌, ◌+◌, ◌++◌, ℕ, List, [], ◌∷◌, IfSome, Option, Some, None, length, nat_lt, suc, true, sym, ap, ◌∙◌, arith}
use Rattle.std.proofs.lemmas.Bool.{lt-ltb}
use Rattle.std.specs.Io.BufRead.{take_through}

pub some_read : (o : Option (List ℕ)) (items old : List ℕ) (n : ℕ) → old ≡ [] → length items ≡ length old + n → (n ≡ 0 → ⊥) → IfSome o (λ xs. items ≡ old ++ take_through 10 xs) → IfSome o (λ bytes. true ≡ nat_lt 0 (length bytes))
some_read None items old n none count some is = tt
some_read (Some []) items old n none count some is =
    let read : length items ≡ 0 = ap length is ∙ ap (λ z. length (z ++ [])) none in
    let was : length old ≡ 0 = ap length none in absurd (some (omega (arith, read, was, count)))
some_read (Some (x ∷ xs)) items old n none count some is = sym (lt-ltb 0 (suc (length xs)) (omega arith))
