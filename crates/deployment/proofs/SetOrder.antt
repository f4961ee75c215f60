-- Sets in an order, as a sort gives them.
use Rattle.std.proofs.Common.{◌≡◌, Ordering, List, map, Bor, Result, Ok, Err, OnOk, ap, ◌∙◌, nat_cmp}
use Rattle.std.specs.Cmp.{IsTotalOrder, nat_cmp_total, on_total, then_total}
use Rattle.std.specs.Cmp.Lexicographic.{nat_list_cmp_total}
use Rattle.std.specs.Fn.{ComparesAs}
use denote.Param.Members.{Mut}
use Rattle.std.specs.List.Sorted.{IsSortedByClosure, IsStableByClosure}
use Rattle.std.specs.Ordering.{on, is_lt}
use Rattle.std.proofs.lemmas.List.Sorted.{ranks_by}
use Rattle.serde_json.specs.Data.{Data}
use Rattle.spec_client_go.proofs.WorkKeyOrder.{name_total}
use Rattle.spec_api.specs.Keys.{Key}
use Rattle.spec_reconcile.specs.Deployments.{age_cmp}
use Rattle.spec_reconcile.specs.Orders.{in_order}
use Rattle.spec_reconcile.specs.PodRanks.{creation}
use Rattle.spec_reconcile.specs.Revisions.{revision}
use Rattle.spec_reconcile.proofs.InOrder.{stable_is_in_order, in_order_map}
use Rattle.reconcile_types.specs.Entries.{entry_of}
use Rattle.reconcile_types.specs.declared.entries.Entry.{Entry}

pub age_total : IsTotalOrder age_cmp
age_total = then_total (on_total (λ (s : Key × Data). creation s.1) nat_list_cmp_total) (on_total (λ (s : Key × Data). s.0) name_total)

pub revision_total : IsTotalOrder (on (λ (s : Key × Data). revision s.1) nat_cmp)
revision_total = on_total (λ (s : Key × Data). revision s.1) nat_cmp_total

pub sorted_sets : {X E F : Type 0} {g : Mut F (Bor Entry × (Bor Entry × Unit {0})) Ordering} {f : F} (cmp : Key × Data → Key × Data → Ordering) → IsTotalOrder cmp → (r : Result X E) (xs ys : List Entry)
    → OnOk r (IsSortedByClosure g f ys) → IsStableByClosure g f xs ys → ComparesAs g (λ x y. is_lt (cmp (entry_of x) (entry_of y))) f
    → OnOk r (map entry_of ys ≡ in_order cmp (map entry_of xs))
sorted_sets cmp total (Ok x) xs ys up stable answers =
    ap (map entry_of) (stable_is_in_order (on_total entry_of total) xs ys (up (λ x y. is_lt (cmp (entry_of x) (entry_of y))) (ranks_by total entry_of) answers) (stable (λ x y. is_lt (cmp (entry_of x) (entry_of y))) (ranks_by total entry_of) answers))
    ∙ in_order_map entry_of cmp xs
sorted_sets cmp total (Err e) xs ys up stable answers = tt
