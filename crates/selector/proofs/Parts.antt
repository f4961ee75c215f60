-- Parts between commas, as far as a loop has come.
use Rattle.std.proofs.Common.{◌≡◌, ℕ, ◌+◌, ◌<◌, ◌≤◌, List, [], ◌∷◌, ◌++◌, length, take, drop, get_or, Bool, true, false, ◌&&◌, ◌==◌, not, refl, sym, ap, arith, append_assoc, append-nil}
use Rattle.std.proofs.lemmas.Grind.{common_steps}
use Rattle.std.specs.List.{onto_first}
use Rattle.spec_api.specs.SelectorTexts.{parts, parts_from, still_inside}

abbrev pub put_before : List ℕ → List (List ℕ) → List (List ℕ)
put_before xs [] = xs ∷ []
put_before xs (p ∷ ps) = (xs ++ p) ∷ ps

some-parts : (inside : Bool) (t : List ℕ) (f : List ℕ → List (List ℕ)) → put_before [] (parts_from inside t) ≡ parts_from inside t
some-parts inside [] f = refl
some-parts inside (b ∷ t) f = by ((b == 44) && not inside) refl
  where
    onto : (ps : List (List ℕ)) → put_before [] (onto_first b ps) ≡ onto_first b ps
    onto [] = refl
    onto (p ∷ ps) = refl

    by : (v : Bool) → ((b == 44) && not inside) ≡ v → put_before [] (parts_from inside (b ∷ t)) ≡ parts_from inside (b ∷ t)
    by true e = rw e refl
    by false e = rw e (onto (parts_from (still_inside inside b) t))

pub put-nothing : (t : List ℕ) → put_before [] (parts t) ≡ parts t
put-nothing t = some-parts false t parts

put-onto : (xs : List ℕ) (b : ℕ) (ps : List (List ℕ)) → put_before xs (onto_first b ps) ≡ put_before (xs ++ b ∷ []) ps
put-onto xs b [] = refl
put-onto xs b (p ∷ ps) = ap (λ z. z ∷ ps) (sym (append_assoc xs (b ∷ []) p))

step-cons : (xs : List ℕ) (inside : Bool) (b : ℕ) (r : List ℕ) → ((b == 44) && not inside) ≡ false
    → put_before xs (parts_from inside (b ∷ r)) ≡ put_before (xs ++ b ∷ []) (parts_from (still_inside inside b) r)
step-cons xs inside b r h = rw h (put-onto xs b (parts_from (still_inside inside b) r))

end-cons : (xs : List ℕ) (inside : Bool) (b : ℕ) (r : List ℕ) → ((b == 44) && not inside) ≡ true
    → put_before xs (parts_from inside (b ∷ r)) ≡ xs ∷ parts r
end-cons xs inside b r h = rw h (ap (λ z. z ∷ parts r) (append-nil xs))

pub part-goes-on : (t : List ℕ) (i : ℕ) (inside : Bool) → i < length t → ((get_or t i 0 == 44) && not inside) ≡ false
    → put_before (take i t) (parts_from inside (drop i t)) ≡ put_before (take (i + 1) t) (parts_from (still_inside inside (get_or t i 0)) (drop (i + 1) t))
part-goes-on t i inside l h =
    let d : drop i t ≡ get_or t i 0 ∷ drop (i + 1) t = grind (arith, common_steps) in
    let k : take (i + 1) t ≡ take i t ++ get_or t i 0 ∷ [] = grind (arith, common_steps) in
    rw (d, k) (step-cons (take i t) inside (get_or t i 0) (drop (i + 1) t) h)

pub part-ends : (t : List ℕ) (i : ℕ) (inside : Bool) → i < length t → ((get_or t i 0 == 44) && not inside) ≡ true
    → put_before (take i t) (parts_from inside (drop i t)) ≡ take i t ∷ parts (drop 1 (drop i t))
part-ends t i inside l h =
    let d : drop i t ≡ get_or t i 0 ∷ drop (i + 1) t = grind (arith, common_steps) in
    rw d (end-cons (take i t) inside (get_or t i 0) (drop (i + 1) t) h)

pub one-part : (t : List ℕ) (i : ℕ) (inside : Bool) → length t ≤ i → put_before (take i t) (parts_from inside (drop i t)) ≡ t ∷ []
one-part t i inside l =
    let d : drop i t ≡ [] = grind (arith, common_steps) in
    let k : take i t ≡ t = grind (arith, common_steps) in
    rw (d, k) (ap (λ z. z ∷ []) (append-nil t))
