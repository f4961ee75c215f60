use Rattle.std.proofs.Common.{◌≡◌, IfOk, List, [], ◌∷◌, true, false, map, sym, subst, ap, ◌∙◌}
use Rattle.std.specs.List.{list_all, list_any}
use Rattle.spec_client_go.specs.Commands.{Command, update}
use Rattle.spec_client_go.specs.OwnerReferences.{namespace_of}
use Rattle.object_keys.specs.Keys.{key_of}
use Rattle.reconcile_types.specs.Commands.{command_of}
use Rattle.reconcile_types.specs.Hands.{reads_of, looks_by, members_of}
use Rattle.spec_reconcile.specs.MetadataEdits.{keeping_owners}
use Rattle.spec_reconcile.specs.Standings.{standing, standings, is_solid, dependents}
use Rattle.collector.specs.Removed.{remove_by}
use Rattle.collector.proofs.ByCases.{second}
use Rattle.collector.proofs.planning.collect_by.Goals as goal

pub returns-then-any_solid : goal.returns-then-any_solid
returns-then-any_solid g c =
    let rs = reads_of c.args.reads.now in
    let k = key_of c.args.key.now in
    let d = c.args.object.now.value in
    let ms = dependents (looks_by (members_of g.S.Seen.snapshot) c.args.looks.now) d in
    let kept : c.in_ok-kept.kept.value ≡ keeping_owners (λ w. is_solid (standing rs (namespace_of d) w)) d =
    c.in_ok-kept.ensures ∙ ap (λ ns. keeping_owners (λ w. is_solid (standing rs ns w)) d) c.namespace_of.ensures in
    let not_all : list_all is_solid (standings rs d) ≡ false = ap (list_all is_solid) (sym c.requires) ∙ sym c.all_solid.ensures ∙ c.if-all_solid.false in
    let some : list_any is_solid (standings rs d) ≡ true = ap (list_any is_solid) (sym c.requires) ∙ sym c.any_solid.ensures ∙ c.if-any_solid.true in
    subst (λ (cs : List Command). IfOk c.one.result (λ v. map command_of v.items ≡ cs))
    (ap (λ x. x ∷ []) (c.in_ok-command.ensures ∙ ap (update k) kept)
    ∙ second (list_all is_solid (standings rs d)) (list_any is_solid (standings rs d)) [] (update k (keeping_owners (λ w. is_solid (standing rs (namespace_of d) w)) d) ∷ []) (remove_by k d (standings rs d) ms) not_all some)
    c.one.ensures
