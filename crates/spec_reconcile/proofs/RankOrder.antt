-- The order of ranks: it is total, and tells keys apart.
use Rattle.std.proofs.Common.{◌≡◌, Equal, Ordering}
use Rattle.std.specs.Cmp.{IsTotalOrder, nat_cmp_total, int_cmp_total, bool_cmp_total, on_total, then_total, back_total}
use Rattle.std.specs.Cmp.Lexicographic.{nat_list_cmp_total, slice_cmp}
use Rattle.std.specs.Ordering.{bool_cmp, int_cmp, nat_cmp, then_cmp, on, flip_args}
use Rattle.spec_api.specs.Keys.{key_cmp}
use Rattle.spec_client_go.proofs.WorkKeyOrder.{name_total, name_tells, then_Equal}
use Rattle.spec_reconcile.specs.PodRanks.{Rank, rank_cmp}

pub rank_total : IsTotalOrder rank_cmp
rank_total =
    then_total (on_total (λ (r : Rank). r.is_placed) bool_cmp_total) (then_total (on_total (λ (r : Rank). r.phase) nat_cmp_total) (then_total (on_total (λ (r : Rank). r.is_ready) bool_cmp_total)
    (then_total (on_total (λ (r : Rank). r.cost) int_cmp_total) (then_total (back_total (on_total (λ (r : Rank). r.on_node) nat_cmp_total))
    (then_total (back_total (on_total (λ (r : Rank). r.creation) nat_list_cmp_total)) (on_total (λ (r : Rank). r.key) name_total))))))

second : (R S : Rank → Rank → Ordering) (a b : Rank) → then_cmp R S a b ≡ Equal → S a b ≡ Equal
second R S a b e = (then_Equal (R a b) (S a b) e).1

abbrev by_key : Rank → Rank → Ordering
by_key = on (λ (r : Rank). r.key) key_cmp

abbrev by_creation : Rank → Rank → Ordering
by_creation = then_cmp (flip_args (on (λ (r : Rank). r.creation) (slice_cmp nat_cmp))) by_key

abbrev by_node : Rank → Rank → Ordering
by_node = then_cmp (flip_args (on (λ (r : Rank). r.on_node) nat_cmp)) by_creation

abbrev by_cost : Rank → Rank → Ordering
by_cost = then_cmp (on (λ (r : Rank). r.cost) int_cmp) by_node

abbrev by_readiness : Rank → Rank → Ordering
by_readiness = then_cmp (on (λ (r : Rank). r.is_ready) bool_cmp) by_cost

abbrev by_phase : Rank → Rank → Ordering
by_phase = then_cmp (on (λ (r : Rank). r.phase) nat_cmp) by_readiness

pub rank_tells : (a b : Rank) → rank_cmp a b ≡ Equal → a.key ≡ b.key
rank_tells a b e =
    let phase = second (on (λ (r : Rank). r.is_placed) bool_cmp) by_phase a b e in
    let readiness = second (on (λ (r : Rank). r.phase) nat_cmp) by_readiness a b phase in
    let cost = second (on (λ (r : Rank). r.is_ready) bool_cmp) by_cost a b readiness in
    let node = second (on (λ (r : Rank). r.cost) int_cmp) by_node a b cost in
    let age = second (flip_args (on (λ (r : Rank). r.on_node) nat_cmp)) by_creation a b node in
    name_tells a.key b.key (second (flip_args (on (λ (r : Rank). r.creation) (slice_cmp nat_cmp))) by_key a b age)
