use Rattle.std.proofs.Common.{◌≡◌, IfOk, List, [], ◌∷◌, ◌++◌, true, false, cond, map, sym, subst, ap, ◌∙◌}
use Rattle.spec_api.specs.Checks.{finalizers, has_text}
use Rattle.spec_api.specs.Deletion.{orphan, foreground}
use Rattle.spec_client_go.specs.Commands.{Command, update}
use Rattle.object_keys.specs.Keys.{key_of}
use Rattle.reconcile_types.specs.Commands.{command_of}
use Rattle.reconcile_types.specs.Entries.{entry_of}
use Rattle.reconcile_types.specs.Hands.{looks_by, members_of}
use Rattle.spec_reconcile.specs.GarbageCollection.{orphaned, is_blocked}
use Rattle.spec_reconcile.specs.MetadataEdits.{without_finalizer}
use Rattle.spec_reconcile.specs.Standings.{dependents}
use Rattle.collector.proofs.ByCases.{waited, neither}
use Rattle.collector.proofs.finishing.finish.Goals as goal

pub returns-then-has_text-2 : goal.returns-then-has_text-2
returns-then-has_text-2 g c =
    let k = key_of c.args.key.now in
    let d = c.args.object.now.value in
    let ms = dependents (looks_by (members_of g.S.Seen.snapshot) c.args.looks.now) d in
    let last = update k (without_finalizer foreground d) ∷ [] in
    let no_orphan : has_text (finalizers d) orphan ≡ false = ap (λ fs. has_text fs orphan) (sym c.finalizers.ensures.items) ∙ sym c.has_text.ensures ∙ c.if-has_text.false in
    let waits : has_text (finalizers d) foreground ≡ true = ap (λ fs. has_text fs foreground) (sym c.finalizers-2.ensures.items) ∙ sym c.has_text-2.ensures ∙ c.if-has_text-2.true in
    subst (λ (cs : List Command). IfOk c.wait_for_all.result (λ v. map command_of v.items ≡ cs))
    (ap (λ es. cond (is_blocked d (map entry_of es)) [] last) c.as_slice-then-has_text-2.ensures.value ∙ ap (λ es. cond (is_blocked d es) [] last) c.in_ok-dependents-2.ensures
    ∙ waited (has_text (finalizers d) orphan) (has_text (finalizers d) foreground) (is_blocked d ms) (orphaned d ms ++ update k (without_finalizer orphan d) ∷ []) last no_orphan waits)
    c.wait_for_all.ensures

pub returns : goal.returns
returns g c =
    let k = key_of c.args.key.now in
    let d = c.args.object.now.value in
    let ms = dependents (looks_by (members_of g.S.Seen.snapshot) c.args.looks.now) d in
    let no_orphan : has_text (finalizers d) orphan ≡ false = ap (λ fs. has_text fs orphan) (sym c.finalizers.ensures.items) ∙ sym c.has_text.ensures ∙ c.if-has_text.false in
    let none : has_text (finalizers d) foreground ≡ false = ap (λ fs. has_text fs foreground) (sym c.finalizers-2.ensures.items) ∙ sym c.has_text-2.ensures ∙ c.if-has_text-2.false in
    ap (map command_of) c.new.ensures.items
    ∙ neither (has_text (finalizers d) orphan) (has_text (finalizers d) foreground) (is_blocked d ms) (orphaned d ms ++ update k (without_finalizer orphan d) ∷ []) (update k (without_finalizer foreground d) ∷ []) no_orphan none
