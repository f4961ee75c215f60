-- Worked facts of the queue, of delays and of expectations.
use Rattle.std.specs.Prelude.{◌≡◌, ◌≤◌, ◌-◌, ℕ, zero, suc, true, false, List, [], ◌∷◌, Option, Some, None, codes}
use Rattle.std.specs.FinMap as map
use Rattle.spec_client_go.specs.declared.controller.Controller.TheVariants.{ReplicaSet as ForReplicaSet, Deployment as ForDeployment}
use Rattle.spec_api.specs.declared.kinds.Kind.TheVariants.{ReplicaSet, Deployment}
use Rattle.spec_client_go.specs.WorkQueues.{WorkKey, idle, Call, add, get, finish, after_all, handed}
use Rattle.spec_client_go.specs.Delays.{Failures, failures, delay_after, failed, Delays, delayed, due}
use Rattle.spec_client_go.specs.Expectations.{Owner, Table, creations_expected, created, satisfied}

-- two ReplicaSets of one namespace, and a Deployment
abbrev pub work_key_x : WorkKey
work_key_x = record { controller = ForReplicaSet; key = record { kind = ReplicaSet; namespace = codes "default"; name = codes "x" } }

abbrev pub work_key_y : WorkKey
work_key_y = record { controller = ForReplicaSet; key = record { kind = ReplicaSet; namespace = codes "default"; name = codes "y" } }

abbrev pub work_key_d : WorkKey
work_key_d = record { controller = ForDeployment; key = record { kind = Deployment; namespace = codes "default"; name = codes "a" } }

-- ---- the queue

-- the queue, and the key that is handed out next
abbrev waiting : List Call → List WorkKey × Option WorkKey
waiting cs = ((after_all idle cs).queue, handed (after_all idle cs))

-- x is added twice, handed out, added while it is in hand, and done; then it is handed out again, and done
pub record KeysWaitOnce : Type 0 where
  pub nothing_waits : waiting [] ≡ ([], None)
  pub waits_once : waiting (add work_key_x ∷ add work_key_x ∷ []) ≡ ((work_key_x ∷ []), Some work_key_x)
  pub is_in_hand : waiting (add work_key_x ∷ add work_key_x ∷ get ∷ []) ≡ ([], None)
  pub is_not_handed_twice : waiting (add work_key_x ∷ add work_key_x ∷ get ∷ add work_key_x ∷ []) ≡ ([], None)
  pub waits_again : waiting (add work_key_x ∷ add work_key_x ∷ get ∷ add work_key_x ∷ finish work_key_x ∷ []) ≡ ((work_key_x ∷ []), Some work_key_x)
  pub is_done : waiting (add work_key_x ∷ add work_key_x ∷ get ∷ add work_key_x ∷ finish work_key_x ∷ get ∷ finish work_key_x ∷ []) ≡ ([], None)

-- ---- failures

-- a key that failed so often in a row, and no other
abbrev pub failing : ℕ → WorkKey → Failures
failing zero k = map.empty
failing (suc n) k = failed k (failing n k)

-- the delay of its n-th failure in a row, the first being 1
abbrev pub delay_of : ℕ → WorkKey → ℕ
delay_of n k = delay_after (failures k (failing (n - 1) k))

-- 5, 10 and 20 ms; the eighteenth is the last below 1,000 s
pub record DelaysDouble : Type 0 where
  pub first : (k : WorkKey) → delay_of 1 k ≡ 5
  pub second : (k : WorkKey) → delay_of 2 k ≡ 10
  pub third : (k : WorkKey) → delay_of 3 k ≡ 20
  pub eighteenth : (k : WorkKey) → delay_of 18 k ≡ 655360
  pub nineteenth : (k : WorkKey) → delay_of 19 k ≡ 1000000
  pub later : (n : ℕ) (k : WorkKey) → 19 ≤ n → delay_of n k ≡ 1000000

-- ---- delays

-- y and then x are delayed to one moment
abbrev pub both_delayed : Delays
both_delayed = delayed work_key_x 10 (delayed work_key_y 10 map.empty)

-- keys of one moment come due in their order, those of an earlier moment before them, and a key that is delayed again at the earlier moment
pub record KeysComeDue : Type 0 where
  pub not_before : due 9 both_delayed ≡ []
  pub in_order : due 10 both_delayed ≡ work_key_x ∷ work_key_y ∷ []
  pub earlier_first : due 10 (delayed work_key_d 5 both_delayed) ≡ work_key_d ∷ work_key_x ∷ work_key_y ∷ []
  pub and_alone : due 9 (delayed work_key_d 5 both_delayed) ≡ work_key_d ∷ []
  pub none_is_put_off : due 10 (delayed work_key_x 30 both_delayed) ≡ work_key_x ∷ work_key_y ∷ []
  pub one_is_brought_on : due 7 (delayed work_key_y 7 both_delayed) ≡ work_key_y ∷ []

-- ---- expectations

-- two creations are asked for at moment 0: what is true after 300,000 ms and one more, and what after both were seen
pub record CreationsAreAwaited : Type 0 where
  pub at_first : (o : Owner) (t : Table) → satisfied o 0 (creations_expected o 2 0 t) ≡ false
  pub five_minutes : (o : Owner) (t : Table) → satisfied o 300000 (creations_expected o 2 0 t) ≡ false
  pub a_moment_more : (o : Owner) (t : Table) → satisfied o 300001 (creations_expected o 2 0 t) ≡ true
  pub one_seen : (o : Owner) (t : Table) → satisfied o 300000 (created o (creations_expected o 2 0 t)) ≡ false
  pub both_seen : (o : Owner) (t : Table) → satisfied o 0 (created o (created o (creations_expected o 2 0 t))) ≡ true
