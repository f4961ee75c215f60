-- The code's board, and the board that it says.
use Rattle.std.specs.Prelude.{ℕ, List, refl}
use Rattle.std.specs.Coded.{Coded, code_by, coded×, coded_ℕ}
use Rattle.std.specs.declared.cmp.Ordering.{Ordering}
use Rattle.keyed_queues.specs.Lists as queues
use Rattle.keyed_queues.specs.Lists.{Lists, coded_lists}
use Rattle.keyed_queues.specs.Numbers as numbers
use Rattle.keyed_queues.specs.Numbers.{coded_numbers}
use Rattle.boards.specs.Boards.{KeyBoard}

-- the keys of the queue, the keys with their moments and with their failures, the side table, and the time
pub record Parts (K T : Type 0) : Type 0 where
  pub work : Lists K
  pub delays : List (K × ℕ)
  pub failures : List (K × ℕ)
  pub side : T
  pub time : ℕ

-- by what the keys say
abbrev pub said : {K N T : Type 0} (R : N → N → Ordering) → (K → N) → Parts K T → KeyBoard R T
said R say p = record { work = queues.said R say p.work; delays = numbers.said R say p.delays; failures = numbers.said R say p.failures; side = p.side; time = p.time }

abbrev pub coded_parts : {K T : Type 0} → Coded K → Coded T → Coded (Parts K T)
coded_parts {K = K} {T = T} c t =
    code_by ((Lists K × List (K × ℕ)) × (List (K × ℕ) × (T × ℕ))) (coded× (coded× (coded_lists c) (coded_numbers c)) (coded× (coded_numbers c) (coded× t coded_ℕ)))
    (λ p. ((p.work, p.delays), (p.failures, (p.side, p.time)))) (λ q. record { work = q.0.0; delays = q.0.1; failures = q.1.0; side = q.1.1.0; time = q.1.1.1 }) (λ _. refl)
