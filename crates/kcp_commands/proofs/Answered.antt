-- What new loops have answered, by what each of them did.
use Rattle.std.proofs.Common.{◌≡◌, ◌≤◌, ℕ, suc, List, [], ◌∷◌, ◌++◌, length, take, Option, Some, None, IfSome, OnErr, Result, Ok, Err, All, map, refl, sym, ap, subst, ◌∙◌, arith}
use Rattle.http_event_loop.specs.Asked.{HasAsked}
use Rattle.http_event_loop.specs.Counted.{taken_over}
use Rattle.http_event_loop.specs.declared.event_loop.EventLoop.{EventLoop}
use Rattle.http_event_loop.specs.Rows.{RunsEach, ServesEach}
use Rattle.desk.specs.Askings.{IsReadable}
use Rattle.desk.specs.Seats.{Begins, Calls, Lists, Watches}
use Rattle.desk.specs.declared.askings.Readable.{Readable}
use Rattle.desk.specs.declared.seats.Seat.{Seat}
use Rattle.kcp_loopback.specs.Asking.{Rings}
use Rattle.kcp_loopback.specs.Serving.{IsServed, seat_of}
use Rattle.kcp_loopback.specs.declared.ringing.Ringer.{Ringer}
use Rattle.kcp_loopback.proofs.Threads.{served_each}
use Rattle.kcp_commands.specs.Answered.{AreNew, HaveAnswered, HaveAnsweredSome}

-- where a result is an error, this holds
pub on_err : {A E : Type 0} {X : Type 0} (r : Result A E) → X → OnErr r X
on_err (Ok x) holds = tt
on_err (Err e) holds = holds

take_length : {A : Type 0} (xs ys : List A) → take (length xs) (xs ++ ys) ≡ xs
take_length [] ys = refl
take_length (x ∷ xs) ys = ap (λ zs. x ∷ zs) (take_length xs ys)

-- as many as there are of the first list
pub all_taken : {A : Type 0} (xs ys : List A) (n : ℕ) → n ≡ length xs → take n (xs ++ ys) ≡ xs
all_taken xs ys n is = ap (λ k. take k (xs ++ ys)) is ∙ take_length xs ys

pub as_many : {A : Type 0} (step : A → A → Type 0) (firsts lasts : List A) → RunsEach step firsts lasts → length firsts ≡ length lasts
as_many step [] [] ran = refl
as_many step [] (b ∷ lasts) ran = elim ran [ ]
as_many step (a ∷ firsts) [] ran = elim ran [ ]
as_many step (a ∷ firsts) (b ∷ lasts) ran = ap suc (as_many step firsts lasts ran.1)

no_more : (limit : Option ℕ) → IfSome limit (λ most. 0 ≤ most)
no_more (Some n) = omega arith
no_more None = tt

within : (parts n : ℕ) (limit : Option ℕ) → IfSome limit (λ most. parts ≡ most) → n ≤ parts → IfSome limit (λ most. n ≤ most)
within parts n (Some most) is few = omega (arith, is, few)
within parts n None is few = tt

none_served : {R : Type 0} (ss : List (Seat Readable Ringer R)) → ServesEach IsServed 0 ss ss
none_served [] = refl
none_served (s ∷ ss) = (0, 0, refl, ((0, omega arith, (0, refl)), refl), none_served ss)

module _ {R L : Type 0} where
  -- what a loop has asked
  abbrev pub Ran : EventLoop (Seat Readable Ringer R) L → EventLoop (Seat Readable Ringer R) L → Type 0
  Ran a b = HasAsked (Calls IsReadable Rings) (Lists IsReadable) (Begins IsReadable) (Watches IsReadable) a.asker b.asker

  -- none yet
  pub nobody_yet : (limit : Option ℕ) (es : List (EventLoop (Seat Readable Ringer R) L)) → HaveAnsweredSome limit es
  nobody_yet limit es = (map seat_of es, (0, no_more limit, none_served (map seat_of es)))

  pub answered_all : (firsts lasts : List (EventLoop (Seat Readable Ringer R) L)) (n : ℕ) → AreNew firsts → RunsEach Ran firsts lasts → n ≡ taken_over lasts → HaveAnswered n firsts
  answered_all firsts lasts n (d, new) ran counted = (map seat_of lasts, subst (λ k. ServesEach IsServed k (map seat_of firsts) (map seat_of lasts)) (sym counted) (served_each d firsts lasts new ran))

  pub answered_some : (parts : ℕ) (limit : Option ℕ) (firsts lasts : List (EventLoop (Seat Readable Ringer R) L)) (n : ℕ) → AreNew firsts → RunsEach Ran firsts lasts → n ≡ taken_over lasts
      → IfSome limit (λ most. parts ≡ most) → n ≤ parts → HaveAnsweredSome limit firsts
  answered_some parts limit firsts lasts n new ran counted is few = let all = answered_all firsts lasts n new ran counted in (all.0, (n, within parts n limit is few, all.1))

  -- where there is a limit, and as many were answered
  pub answered_limit : (limit : Option ℕ) (firsts lasts : List (EventLoop (Seat Readable Ringer R) L)) (n : ℕ) → limit ≡ Some n → AreNew firsts → RunsEach Ran firsts lasts → n ≡ taken_over lasts
      → IfSome limit (λ most. HaveAnswered most firsts)
  answered_limit limit firsts lasts n is new ran counted = subst (λ l. IfSome l (λ most. HaveAnswered most firsts)) (sym is) (answered_all firsts lasts n new ran counted)
