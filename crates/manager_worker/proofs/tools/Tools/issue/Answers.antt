-- What is noted is what the answer to the one request says.
use Rattle.std.proofs.Common.{◌∙◌, ap, sym}
use Rattle.std.specs.Prelude.{option_map}
use Rattle.request_parts.specs.Requests.{request_of}
use Rattle.spec_sim.specs.NextSteps.{next}
use Rattle.reconcile_turn.specs.Seen.{command_issued}
use Rattle.manager_worker.specs.Patience.{Hears, heard}
use Rattle.manager_worker.proofs.Stepped.{issued}
use Rattle.manager_worker.proofs.tools.Tools.issue.Goals as goal

pub returns-clause-issues : goal.returns-clause-issues
returns-clause-issues g c =
    issued (Hears g.A.Api.answers) (command_issued (next c.args.turn.now)) c.args.turn.now c.heed.new.turn (heard c.args.self.now.api c.args.patience.now) (heard c.ask-learnt.new.self.api c.ask-learnt.new.patience) (request_of c.in-Some.request)
    c.ask-learnt.result c.heed.result (ap (option_map request_of) (sym c.in-Some.is) ∙ c.in_ok-request.ensures) c.ask-learnt.ensures.asks c.heed.ensures
