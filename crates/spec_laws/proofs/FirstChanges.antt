-- A watch is given the first of all its changes.
use Rattle.std.proofs.Common.{◌≡◌, ℕ, zero, suc, ◌+◌, ◌≤◌, ◌<◌, min, List, [], ◌∷◌, length, take, Bool, true, false, cond, nat_le, nat_lt, option_map, slice_get, unwrap_or, Ok, Err, refl, ap, ap₂, ◌∙◌, arith}
use Rattle.std.proofs.lemmas.Bool.Decides.{nat_tests}
use Rattle.std.proofs.lemmas.List.{length-take, take-take}
use Rattle.std.specs.Result.{result_map_both}
use Rattle.spec_api.specs.Events.{Event, events}
use Rattle.spec_api.specs.History.{present}
use Rattle.spec_api.specs.Refusals.{Refusal, expired, too_new}
use Rattle.spec_laws.specs.VersionLaws.{nth_revision, first_changes, WatchesGiveFirstChanges}
use Rattle.spec_api.specs.Versions.{last_change, watched}
use Rattle.spec_api.specs.Windows.{floor, within}

-- where there are n changes, a change that is found before says nothing of the start
any_start : (a b n : ℕ) (cs : List Event) → n < length cs → unwrap_or (option_map (λ (c : Event). c.revision) (slice_get cs n)) a ≡ unwrap_or (option_map (λ (c : Event). c.revision) (slice_get cs n)) b
any_start a b n [] l = absurd (omega (arith, l))
any_start a b zero (c ∷ cs) l = refl
any_start a b (suc n) (c ∷ cs) l = any_start a b n cs (omega (arith, l))

last_is_nth : (a n : ℕ) (cs : List Event) → n ≤ length cs → last_change a (take n cs) ≡ nth_revision a n cs
last_is_nth a zero cs l = refl
last_is_nth a (suc n) [] l = absurd (omega (arith, l))
last_is_nth a (suc zero) (c ∷ cs) l = refl
last_is_nth a (suc (suc n)) (c ∷ cs) l = last_is_nth c.revision (suc n) cs (omega (arith, l)) ∙ any_start c.revision a n cs (omega (arith, l))

one_more_tells : (n l m : ℕ) → m ≡ min (n + 1) l → nat_le m n ≡ nat_le l n
one_more_tells n l m is = grind (arith, nat_tests)

stands_at : (now a n : ℕ) (all : List Event) → cond (nat_le (length all) n) now (last_change a (take n all)) ≡ cond (nat_le (length all) n) now (nth_revision a n all)
stands_at now a n all = by (nat_le (length all) n) refl
  where
    more : (l : ℕ) → nat_le l n ≡ false → n ≤ l
    more l h = grind (arith, nat_tests)

    by : (b : Bool) → nat_le (length all) n ≡ b → cond b now (last_change a (take n all)) ≡ cond b now (nth_revision a n all)
    by true e = refl
    by false e = last_is_nth a n all (more (length all) e)

watched_is : (now a n : ℕ) (all : List Event) → watched now a n (take (n + 1) all) ≡ first_changes now a n all
watched_is now a n all =
    let firsts : take n (take (n + 1) all) ≡ take n all = take-take n (n + 1) all (omega arith) in
    let told : nat_le (length (take (n + 1) all)) n ≡ nat_le (length all) n = one_more_tells n (length all) (length (take (n + 1) all)) (length-take (n + 1) all) in
    let stands = ap₂ (λ b cs. cond b now (last_change a cs)) told firsts ∙ stands_at now a n all in
    λ i. record { events = firsts i; stands = stands i }

-- what is made of an answer within a window is answered within it
over : {X Y : Type 0} (f : X → Y) (floor now a : ℕ) (x : X) → result_map_both f (λ (e : Refusal). e) (within floor now a x) ≡ within floor now a (f x)
over {X} {Y} f floor now a x = by (nat_lt a floor) (nat_lt now a) (expired a floor) (too_new a now)
  where
    by : (below above : Bool) (e e' : Refusal) → result_map_both f (λ (e : Refusal). e) (cond below (Err e) (cond above (Err e') (Ok x))) ≡ cond below (Err e) (cond above (Err e') (Ok (f x)))
    by true above e e' = refl
    by false true e e' = refl
    by false false e e' = refl

pub first_given : WatchesGiveFirstChanges
first_given size h v a n =
    let all = events h v a (present h) in
    over (watched (present h) a n) (floor v.kind size h) (present h) a (take (n + 1) all) ∙ ap (within (floor v.kind size h) (present h) a) (watched_is (present h) a n all)
