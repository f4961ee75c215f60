use Rattle.std.proofs.Common.{All}
use Rattle.desk.specs.Desks.{IsNewAt}
use Rattle.threads_tests.proofs.running.apis.Given as goal

abbrev pub invariant-loop : goal.invariant-loop
invariant-loop g l = All (IsNewAt l.scene.environment.now.desk) l.passes.items
