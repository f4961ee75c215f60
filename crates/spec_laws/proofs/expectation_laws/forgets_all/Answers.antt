use Rattle.std.proofs.Common.{ap, sym, ◌∙◌, cond, None, not}
use Rattle.std.specs.Cmp.{tied_itself}
use Rattle.std.specs.Ordering.{is_eq}
use Rattle.std.specs.FinMap as map
use Rattle.std.specs.FinMap.{get-retain_keys}
use Rattle.spec_api.specs.Keys.{is_same_key}
use Rattle.spec_client_go.specs.Expectations.{is_met}
use Rattle.spec_client_go.proofs.WorkKeyOrder.{name_total}
use Rattle.spec_client_go.proofs.Expected.{keys_tied}
use Rattle.spec_laws.proofs.expectation_laws.forgets_all.Goals as goal

pub returns : goal.returns
returns c =
    λ o now t. ap (is_met now)
    (get-retain_keys t (λ p. not (is_same_key o.key p.key)) o (λ x e. ap (λ k. not (is_same_key o.key k)) (sym (keys_tied o x e)))
    ∙ ap (λ b. cond (not b) (map.get t o) None) (ap is_eq (tied_itself name_total o.key)))
