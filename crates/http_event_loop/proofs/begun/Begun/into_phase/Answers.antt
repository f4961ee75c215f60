use Rattle.std.proofs.Common.{subst}
use Rattle.http_event_loop.specs.Begun.{MayHaveBegun}
use Rattle.http_event_loop.proofs.begun.Begun.into_phase.Goals as goal

pub returns-in-List : goal.returns-in-List
returns-in-List c = record { led = subst MayHaveBegun c.in-List.is c.requires.begun }

pub returns-in-Watch : goal.returns-in-Watch
returns-in-Watch c = record { led = subst MayHaveBegun c.in-Watch.is c.requires.begun }
