use Rattle.std.proofs.Common.{Some}
use Rattle.std.proofs.lemmas.List.Elements.{All-pop}
use Rattle.control_desk.specs.Desks.{IsNewAt}
use Rattle.manager.proofs.running.Shared.next_pass.Goals as goal

pub returns-clause-pass : goal.returns-clause-pass
returns-clause-pass g c = (All-pop (IsNewAt c.args.self.now.desk.now) c.args.passes.now.items c.pop.new.self.items (Some c.in-Some.pass) c.in-Some.ensures.items c.requires.new).1

pub returns-clause-left : goal.returns-clause-left
returns-clause-left g c = (All-pop (IsNewAt c.args.self.now.desk.now) c.args.passes.now.items c.pop.new.self.items (Some c.in-Some.pass) c.in-Some.ensures.items c.requires.new).0
