use Rattle.std.proofs.Common.{Some}
use Rattle.std.proofs.lemmas.List.Elements.{All-pop}
use Rattle.desk.specs.Desks.{IsNewAt}
use Rattle.threads_tests.proofs.servers.SharedServer.next.Goals as goal

pub new-requires : goal.new-requires
new-requires g c = (All-pop (IsNewAt c.args.scene.now.environment.now.desk) c.args.passes.now.items c.pop.new.self.items (Some c.in-Some.pass) c.in-Some.ensures.items c.requires).1.0
