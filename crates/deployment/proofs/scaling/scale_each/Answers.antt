use Rattle.std.proofs.Common.{◌≡◌, ◌⊎◌, inl, inr, length, map}
use Rattle.spec_reconcile.specs.Deployments.{scale_each}
use Rattle.reconcile_types.specs.Commands.{command_of}
use Rattle.reconcile_types.specs.Entries.{entry_of}
use Rattle.deployment.proofs.Ended.{ended}
use Rattle.deployment.proofs.scaling.scale_each.Goals as goal

pub returns : goal.returns
returns c =
    let left = c.loop-set.set-iterator in
    let end : (length left.a.rest.now ≡ 0) ⊎ (length left.b.rest.now ≡ 0) = elim c.in-None.ensures.steps [ inl s ↦ inl s.1.0 | inr s ↦ inr s.1.0 ] in
    ended (map command_of c.loop-set.commands.items) (scale_each (map entry_of c.args.sets.now) c.args.numbers.now) left.a.rest.now left.b.rest.now end c.loop-set.invariant
