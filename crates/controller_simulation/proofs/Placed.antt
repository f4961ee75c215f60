-- Turns in their places.
use Rattle.std.proofs.Common.{◌≡◌, ◌∙◌, ◌≤◌, ◌<◌, ℕ, zero, suc, List, [], ◌∷◌, length, get_or, Bool, true, false, Some, None, Option, Result, Ok, Err, OnOk, ap, refl, sym, arith, set, set-set, slice_get}
use Rattle.std.proofs.lemmas.List.{set_past}
use Rattle.std.proofs.lemmas.Option.{slice_get-get_or, slice_get_past}
use Rattle.spec_api.specs.declared.kinds.Kind.{Kind}
use Rattle.spec_server.specs.Snapshots.{Snapshot}
use Rattle.controller_simulation.specs.Turns.{HasLooked, in_place, turn_of}
use Rattle.controller_simulation.specs.Working.{LooksAt}
use Rattle.controller_simulation.specs.declared.turns.ControllerTurn.{ControllerTurn}

-- a worker's place with what stands there
pub same_there : {K : Type 0} (ts : List (Option (ControllerTurn K))) (w : ℕ) (t : ControllerTurn K) → in_place (slice_get ts w) ≡ Some t → set ts w (Some t) ≡ ts
same_there [] w t e = refl
same_there (None ∷ ts) zero t e = let is : None ≡ Some t = e in absurd (cc)
same_there (Some u ∷ ts) zero t e = ap (λ x. x ∷ ts) (let is : Some u ≡ Some t = e in cc)
same_there (x ∷ ts) (suc w) t e = ap (λ l. x ∷ l) (same_there ts w t e)

-- a worker in no turn stays in none
pub none_taken : {K : Type 0} (ts : List (Option (ControllerTurn K))) (w : ℕ) → turn_of w ts ≡ None → set ts w None ≡ ts
none_taken [] w e = refl
none_taken (None ∷ ts) zero e = refl
none_taken (Some u ∷ ts) zero e = let is : Some u ≡ None = e in absurd (cc)
none_taken (x ∷ ts) (suc w) e = ap (λ l. x ∷ l) (none_taken ts w e)

-- what was taken out and put back is there as before
pub put_back : {K : Type 0} (ts : List (Option (ControllerTurn K))) (w : ℕ) (t : ControllerTurn K) → turn_of w ts ≡ Some t → set (set ts w None) w (Some t) ≡ ts
put_back ts w t e = set-set ts w None (Some t) ∙ same_there ts w t e

-- there is no such worker
pub past_turn : {K : Type 0} (ts : List (Option (ControllerTurn K))) (w : ℕ) → length ts ≤ w → None ≡ turn_of w ts
past_turn ts w past = sym (ap in_place (slice_get_past ts w past))

pub past_left : {K : Type 0} (ts : List (Option (ControllerTurn K))) (w : ℕ) (x : Option (ControllerTurn K)) → length ts ≤ w → ts ≡ set ts w x
past_left ts w x past = sym (set_past ts w x past)

-- there is, and this is its turn
pub here_turn : {K : Type 0} (ts : List (Option (ControllerTurn K))) (w : ℕ) (d : Option (ControllerTurn K)) → w < length ts → get_or ts w d ≡ turn_of w ts
here_turn ts w d within = sym (ap in_place (slice_get-get_or ts w d within))

-- a turn that was taken out and put back, once it has looked, or as it was
pub looks_by :
    {K : Type 0} (worker : ℕ) (k : Kind) (s : Snapshot) (ts us : List (Option (ControllerTurn K))) (t u : ControllerTurn K) (b : Bool) → turn_of worker ts ≡ Some t → (b ≡ true → HasLooked k s t u)
    → (b ≡ false → u ≡ t) → us ≡ set (set ts worker None) worker (Some u) → LooksAt worker k s ts us b
looks_by worker k s ts us t u true at looked same put = (t, u, at, looked refl, put ∙ set-set ts worker None (Some u))
looks_by worker k s ts us t u false at looked same put = put ∙ (ap (λ (x : ControllerTurn _). set (set ts worker None) worker (Some x)) (same refl) ∙ put_back ts worker t at)

-- what follows of what was done
pub once_done : {X E P Q : Type 0} (r : Result X E) → (P → Q) → OnOk r P → OnOk r Q
once_done (Ok x) f p = f p
once_done (Err e) f p = p
