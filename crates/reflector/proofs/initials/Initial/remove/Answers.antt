use Rattle.std.proofs.Common.{ap, ◌∙◌}
use Rattle.spec_client_go.specs.Reflectors.{remove_step, Initial, played}
use Rattle.reflector.proofs.Playing.{removed_seen, removed_kinds}
use Rattle.reflector.proofs.initials.Initial.remove.Goals as goal

pub invariant_of-self-2 : goal.invariant_of-self-2
invariant_of-self-2 c = removed_kinds c.self.inside.members c.remove.new.self c.in_ok-key.key c.in_ok-remove.ensures.ok c.self.invariant

pub returns : goal.returns
returns c =
    let members = removed_seen c.self.inside.members c.remove.new.self c.in_ok-key.key c.args.object.now c.in_ok-remove.ensures.ok c.in_ok-key.ensures in
    (λ i. record { members = members i; highest = c.higher-self-inside.ensures i }) ∙ ap (λ (s : Initial). played s (remove_step (record { object = c.args.object.now; revision = c.args.revision }))) c.self.view_is
