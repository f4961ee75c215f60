-- Work queues as lists of keys.
use Rattle.std.specs.Prelude.{Bool, List, map, refl}
use Rattle.std.specs.Coded.{Coded, code_by, coded×, coded_list, coded_bool}
use Rattle.std.specs.FinSet as set
use Rattle.std.specs.declared.cmp.Ordering.{Ordering}
use Rattle.spec_client_go.specs.KeyQueues.{KeyQueue}

-- the keys that wait, those that are to be processed, those in workers' hands, and whether the queue is shut
pub record Lists (K : Type 0) : Type 0 where
  pub ready : List K
  pub dirty : List K
  pub processing : List K
  pub is_shut : Bool

-- the work queue that the lists say
abbrev pub said : {K N : Type 0} (R : N → N → Ordering) → (K → N) → Lists K → KeyQueue R
said R say l = record { queue = map say l.ready; dirty = set.from_list (map say l.dirty); processing = set.from_list (map say l.processing); is_shut = l.is_shut }

abbrev pub coded_lists : {K : Type 0} → Coded K → Coded (Lists K)
coded_lists {K = K} c =
    code_by ((List K × List K) × (List K × Bool)) (coded× (coded× (coded_list c) (coded_list c)) (coded× (coded_list c) coded_bool)) (λ l. ((l.ready, l.dirty), (l.processing, l.is_shut)))
    (λ p. record { ready = p.0.0; dirty = p.0.1; processing = p.1.0; is_shut = p.1.1 }) (λ _. refl)
