use Rattle.std.proofs.Common.{◌≡◌, Some, sym, ◌∙◌}
use Rattle.kcp_options.specs.Usages.{usage_of_command}
use Rattle.kcp_options.proofs.mistake.Mistake.of_named.Goals as goal

pub returns-in-Some-clause-word : goal.returns-in-Some-clause-word
returns-in-Some-clause-word c =
    let named : usage_of_command c.args.name.now ≡ Some c.in-Some.usage = sym c.of_command.ensures ∙ c.in-Some.is in rw named (rw c.settings_of.ensures at c.not_understood.ensures)
