use Rattle.std.proofs.Common.{ap, subst, ◌∙◌}
use Rattle.http_connection.specs.Arriving.{MayStand}
use Rattle.http_connection.specs.declared.phase.ConnectionPhase.TheVariants as phase
use Rattle.http_event_loop.proofs.begun.Begun.of_phase.Goals as goal

pub returns-in-Asked-List : goal.returns-in-Asked-List
returns-in-Asked-List c = record { begun = subst MayStand (c.in-Asked-List.is ∙ ap phase.Asked c.in-Asked-List.field-0-is) c.requires.led }

pub returns-in-Asked-Watch : goal.returns-in-Asked-Watch
returns-in-Asked-Watch c = record { begun = subst MayStand (c.in-Asked-Watch.is ∙ ap phase.Asked c.in-Asked-Watch.field-0-is) c.requires.led }
