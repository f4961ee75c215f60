-- Ranks: which of its pods a ReplicaSet deletes first (Kubernetes, ReplicaSet, Scaling a ReplicaSet and Pod deletion cost).
use Rattle.std.specs.Prelude.{ℕ, ◌-◌, ◌&&◌, min, take, drop, length, filter, nat_lt, List, [], Bool, not, codes, option_and_then, unwrap_or, ℤ, pos, negsuc, ◌^◌, if◌then◌else◌}
use Rattle.std.specs.List.{list_all}
use Rattle.std.specs.Str.{bytes_eq}
use Rattle.std.specs.Str.Parse.{signed_digits_value, starts_with_minus}
use Rattle.std.specs.Ordering.{nat_cmp, int_cmp, bool_cmp, then_cmp, on, flip_args}
use Rattle.std.specs.Cmp.Lexicographic.{slice_cmp}
use Rattle.std.specs.declared.cmp.Ordering.{Ordering}
use Rattle.serde_json.specs.Data.{Data}
use Rattle.serde_json.specs.Find.{get}
use Rattle.spec_api.specs.Checks.{in_spec}
use Rattle.spec_api.specs.History.{Entries}
use Rattle.spec_api.specs.Keys.{Key, key_cmp}
use Rattle.spec_api.specs.Metadata.{metadata, metadata_text}
use Rattle.spec_api.specs.Moments.{is_digit}
use Rattle.spec_api.specs.SelectorValues.{text_in}
use Rattle.spec_reconcile.specs.Orders.{in_order}
use Rattle.spec_reconcile.specs.Pods.{phase, is_ready}

-- ---- what a rank is made of

-- the node that a pod is on; the empty text where it names none
abbrev pub node : Data → List ℕ
node pod = text_in (in_spec (codes "nodeName") pod)

abbrev pub is_placed : Data → Bool
is_placed pod = not (bytes_eq (node pod) [])

-- Pending, or any other phase; then Unknown; then Running
abbrev pub phase_rank : List ℕ → ℕ
phase_rank t = if bytes_eq t (codes "Running") then 2 else (if bytes_eq t (codes "Unknown") then 1 else 0)

abbrev pub after_minus : List ℕ → List ℕ
after_minus t = if starts_with_minus t then drop 1 t else t

-- digits, which a minus may precede
abbrev pub is_decimal : List ℕ → Bool
is_decimal t = nat_lt 0 (length (after_minus t)) && list_all is_digit (after_minus t)

abbrev pub is_of_32_bits : ℤ → Bool
is_of_32_bits (pos n) = nat_lt n (2 ^ 31)
is_of_32_bits (negsuc n) = nat_lt n (2 ^ 31)

-- what a text costs: a signed decimal number of 32 bits; any other text costs 0
abbrev pub cost : List ℕ → ℤ
cost t = if is_decimal t && is_of_32_bits (signed_digits_value 10 t) then signed_digits_value 10 t else pos 0

abbrev pub deletion_cost : Data → ℤ
deletion_cost pod = cost (text_in (option_and_then (get (codes "controller.kubernetes.io/pod-deletion-cost")) (metadata (codes "annotations") pod)))

-- how many of the pods are on a node
abbrev pub pods_on : List ℕ → Entries → ℕ
pods_on n pods = length (filter (λ p. bytes_eq (node p.1) n) pods)

abbrev pub creation : Data → List ℕ
creation pod = unwrap_or (metadata_text (codes "creationTimestamp") pod) []

-- ---- the rank of a pod among the set's own

pub record Rank : Type 0 where
  pub is_placed : Bool
  pub phase : ℕ
  pub is_ready : Bool
  pub cost : ℤ
  pub on_node : ℕ
  pub creation : List ℕ
  pub key : Key

-- the rank of a pod with so many of the pods on its node
abbrev pub rank_beside : ℕ → Key × Data → Rank
rank_beside n p =
    record {
      is_placed = is_placed p.1;
      phase = phase_rank (phase p.1);
      is_ready = is_ready p.1;
      cost = deletion_cost p.1;
      on_node = n;
      creation = creation p.1;
      key = p.0;
    }

abbrev pub rank : Entries → Key × Data → Rank
rank pods p = rank_beside (pods_on (node p.1) pods) p

-- which goes first: a pod on no node; by phase; one that is not ready; at the lower cost; on the node with more of the pods; created later; by key
abbrev pub rank_cmp : Rank → Rank → Ordering
rank_cmp =
    then_cmp (on (λ (r : Rank). r.is_placed) bool_cmp)
    (then_cmp (on (λ (r : Rank). r.phase) nat_cmp)
    (then_cmp (on (λ (r : Rank). r.is_ready) bool_cmp)
    (then_cmp (on (λ (r : Rank). r.cost) int_cmp)
    (then_cmp (flip_args (on (λ (r : Rank). r.on_node) nat_cmp))
    (then_cmp (flip_args (on (λ (r : Rank). r.creation) (slice_cmp nat_cmp))) (on (λ (r : Rank). r.key) key_cmp))))))

-- the pods, those that go first at the front
abbrev pub ranked : Entries → Entries
ranked pods = in_order (on (rank pods) rank_cmp) pods

-- ---- how many, and which

-- so many pods are created or deleted in one turn, at most
abbrev pub most : ℕ
most = 500

abbrev pub missing : ℕ → Entries → ℕ
missing replicas pods = min (replicas - length pods) most

abbrev pub surplus : ℕ → Entries → ℕ
surplus replicas pods = min (length pods - replicas) most

-- the pods that are deleted
abbrev pub victims : ℕ → Entries → Entries
victims replicas pods = take (surplus replicas pods) (ranked pods)
