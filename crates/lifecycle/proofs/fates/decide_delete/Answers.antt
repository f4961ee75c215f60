use Rattle.std.proofs.Common.{Ok, sym, ap, ◌∙◌}
use Rattle.lifecycle.specs.Options.{options_seen}
use Rattle.lifecycle.proofs.Preconditions.{decided-mismatch, decided-met}
use Rattle.lifecycle.proofs.fates.decide_delete.Goals as goal

pub returns-in-Some : goal.returns-in-Some
returns-in-Some c =
    decided-mismatch c.args.kind (options_seen c.args.options.now) c.args.moment c.args.existing.now.value c.mismatch.result c.in-Some.why c.mismatch.ensures c.in-Some.is

pub returns-in_ok-fate_of-in-None : goal.returns-in_ok-fate_of-in-None
returns-in_ok-fate_of-in-None c =
    decided-met c.args.kind (options_seen c.args.options.now) c.args.moment c.args.existing.now.value c.mismatch.result c.mismatch.ensures c.in-None.is ∙ ap Ok (sym c.in_ok-fate_of-in-None.ensures)
