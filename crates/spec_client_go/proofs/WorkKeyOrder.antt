-- Work keys are in a total order, which tells any two apart.
use Rattle.std.proofs.Common.{◌≡◌, refl, Ordering, Less, Equal, Greater}
use Rattle.std.specs.Cmp.{nat_cmp_total, IsTotalOrder, on_total, then_total}
use Rattle.std.specs.Cmp.Lexicographic.{nat_list_cmp_total}
use Rattle.std.specs.FinSet.{IsAntisymmetric, nat_cmp-IsAntisymmetric, slice_cmp-IsAntisymmetric}
use Rattle.std.specs.Ordering.{ordering_then}
use Rattle.spec_client_go.specs.declared.controller.Controller.{Controller}
use Rattle.spec_client_go.specs.declared.controller.Controller.TheVariants.{ReplicaSet as ForReplicaSet, Deployment as ForDeployment, Collector}
use Rattle.spec_api.specs.Kinds.{rank}
use Rattle.spec_api.specs.Keys.{Key, key_cmp}
use Rattle.spec_client_go.specs.WorkQueues.{WorkKey, work_key_cmp, turn}
use Rattle.spec_api.proofs.KindOrder.{rank_tells}

pub name_total : IsTotalOrder key_cmp
name_total =
    then_total (on_total (λ (n : Key). rank n.kind) nat_cmp_total) (then_total (on_total (λ (n : Key). n.namespace) nat_list_cmp_total) (on_total (λ (n : Key). n.name) nat_list_cmp_total))

pub work_key_total : IsTotalOrder work_key_cmp
work_key_total = then_total (on_total (λ (t : WorkKey). turn t.controller) nat_cmp_total) (on_total (λ (t : WorkKey). t.key) name_total)

-- two orders in turn tie only where both do
pub then_Equal : (a b : Ordering) → ordering_then a b ≡ Equal → (a ≡ Equal) × (b ≡ Equal)
then_Equal Less b e = cc
then_Equal Equal b e = (refl, e)
then_Equal Greater b e = cc

turn_tells : (a b : Controller) → turn a ≡ turn b → a ≡ b
turn_tells ForReplicaSet ForReplicaSet e = refl
turn_tells ForDeployment ForDeployment e = refl
turn_tells Collector Collector e = refl
turn_tells a b e = cc

pub name_tells : IsAntisymmetric key_cmp
name_tells m n e =
    let kinds = then_Equal _ _ e in
    let texts = then_Equal _ _ kinds.1 in
    let k = rank_tells m.kind n.kind (nat_cmp-IsAntisymmetric _ _ kinds.0) in
    let s = slice_cmp-IsAntisymmetric nat_cmp-IsAntisymmetric _ _ texts.0 in
    let t = slice_cmp-IsAntisymmetric nat_cmp-IsAntisymmetric _ _ texts.1 in
    λ i. record { kind = k i; namespace = s i; name = t i }

pub work_key_tells : IsAntisymmetric work_key_cmp
work_key_tells s t e =
    let parts = then_Equal _ _ e in
    let c = turn_tells s.controller t.controller (nat_cmp-IsAntisymmetric _ _ parts.0) in
    let k = name_tells s.key t.key parts.1 in
    λ i. record { controller = c i; key = k i }
