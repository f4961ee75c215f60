-- Boards that are the same, and what is handled by them, by their codes.
use Rattle.std.proofs.Common.{◌≡◌, ◌≢◌, ℕ, refl, sym, ap, ◌∙◌, true, false, true≢false, Bool, ◌==◌, ◌&&◌, if◌then◌else◌, eq-eqb, arith}
use Rattle.std.specs.Prelude.{Some, None}
use Rattle.std.proofs.lemmas.Bool.Decides.{nat_tests}
use base.Stored.{Gv, gnil, gnum, gcons}
use Rattle.control_desk.specs.Hands.{ChangesAreTold}
use Rattle.control_desk.specs.States.{state_code}
use Rattle.control_desk.specs.Steps.{next_state, same_code, is_same}
use Rattle.control_desk.specs.declared.states.WorkState.{WorkState}

both : (a b : Bool) → (a && b) ≡ true → (a ≡ true) × (b ≡ true)
both true b e = (refl, e)
both false b e = absurd (true≢false (sym e))

code_tells : (a b : Gv) → same_code a b ≡ true → a ≡ b
unfolding same_code
code_tells gnil gnil e = refl
code_tells gnil (gnum n) e = absurd (true≢false (sym e))
code_tells gnil (gcons c d) e = absurd (true≢false (sym e))
code_tells (gnum m) gnil e = absurd (true≢false (sym e))
code_tells (gnum m) (gnum n) e = ap gnum (same_number m n e)
  where
    same_number : (m n : ℕ) → (m == n) ≡ true → m ≡ n
    same_number m n e = grind (arith, nat_tests)
code_tells (gnum m) (gcons c d) e = absurd (true≢false (sym e))
code_tells (gcons a b) gnil e = absurd (true≢false (sym e))
code_tells (gcons a b) (gnum n) e = absurd (true≢false (sym e))
code_tells (gcons a b) (gcons c d) e =
    let t = both (same_code a c) (same_code b d) e in
    let first = code_tells a c t.0 in
    let second = code_tells b d t.1 in
    λ i. gcons (first i) (second i)

pub same_is : (a b : WorkState) → is_same a b ≡ true → a ≡ b
unfolding is_same
same_is a b e = state_code.inj a b (code_tells (state_code.code a) (state_code.code b) e)

code_itself : (a : Gv) → same_code a a ≡ true
unfolding same_code
code_itself gnil = refl
code_itself (gnum n) = eq-eqb n n refl
code_itself (gcons a b) = ap (λ x. x && same_code b b) (code_itself a) ∙ code_itself b

is_same_itself : (a b : WorkState) → a ≡ b → is_same a b ≡ true
unfolding is_same
is_same_itself a b is = ap (λ x. same_code (state_code.code x) (state_code.code b)) is ∙ code_itself (state_code.code b)

pub differs : (a b : WorkState) → a ≢ b → is_same a b ≡ false
differs a b apart = by (is_same a b) refl
  where
    by : (r : Bool) → is_same a b ≡ r → is_same a b ≡ false
    by true e = absurd (apart (same_is a b e))
    by false e = e

pub apart : (a b : WorkState) → is_same a b ≡ false → a ≢ b
apart a b e is = true≢false (sym (is_same_itself a b is) ∙ e)

-- a step is told just where it changes the board or what is handled
pub changes_told : ChangesAreTold
changes_told e s = record {
  told = λ other. ap (λ r. if r then None else Some e) (differs (next_state s e) s other);
  untold = λ is. ap (λ r. if r then None else Some e) (is_same_itself (next_state s e) s is);
}
