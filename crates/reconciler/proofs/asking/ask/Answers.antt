use Rattle.std.proofs.Common.{rules}
use Rattle.reconciler.proofs.OneAsked.{one_asked}
use Rattle.reconciler.proofs.asking.ask.Goals as goal

pub returns-in-Ok-Some : goal.returns-in-Ok-Some
returns-in-Ok-Some g c = one_asked g.A.Api.answers c.args.api.now c.ask_one.new.api c.args.next c.in-Ok-Some.request c.ask_one.result (search rules) c.ask_one.ensures
