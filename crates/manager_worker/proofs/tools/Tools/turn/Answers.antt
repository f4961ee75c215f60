-- Each round goes on by a step that comes next, and has the same key until the turn is over.
use Rattle.std.proofs.Common.{◌∙◌, inl, inr, refl}
use Rattle.control_desk.specs.Desks.{known}
use Rattle.manager_worker.proofs.Untouched.{untouched_where_given_up}
use Rattle.manager_worker.proofs.Ways.{joined}
use Rattle.manager_worker.specs.Patience.{heard}
use Rattle.manager_worker.specs.Stepping.{in_turn, none}
use Rattle.manager_worker.proofs.tools.Tools.turn.Goals as goal

pub loop-init : goal.loop-init
loop-init g c = (tt, tt, c.requires.pass, refl, none)

pub loop-preserved : goal.loop-preserved
loop-preserved g c =
    let stays = c.loop.invariant in
    let went = c.in-GoesOn.ensures in
    (tt, tt, went.pass, went.mine refl ∙ stays.3, joined g.L.Looking.shows g.A.Api.answers c.args.taken.now.handled stays.4 went.advances)

pub returns-then-is_stopped-clause-cut : goal.returns-then-is_stopped-clause-cut
returns-then-is_stopped-clause-cut g c =
    λ _. record {
      last = in_turn c.loop.turn c.loop.self.listers (heard c.loop.self.api c.loop.patience) (known c.loop.pass);
      reached = c.loop.invariant.4;
      left_at = c.loop.turn;
      patience = c.loop.patience;
      left = inl refl;
    }

-- Where the last round is over it was taken until then.
pub returns-in-Over-clause-over : goal.returns-in-Over-clause-over
returns-in-Over-clause-over g c =
    let s = in_turn c.args.turn c.args.self.now.listers (heard c.args.self.now.api 0) (known c.args.pass.now) in
    let last = in_turn c.loop.turn c.loop.self.listers (heard c.loop.self.api c.loop.patience) (known c.loop.pass) in
    λ _. record {
      last = last;
      reached = c.loop.invariant.4;
      mine = c.loop.invariant.3 ∙ c.requires.mine;
      left_at = c.advance_or_rest.new.turn;
      patience = c.advance_or_rest.new.patience;
      over = c.in-Over.ensures.advances;
      untouched = untouched_where_given_up g.L.Looking.shows g.A.Api.answers c.args.taken.now.handled s last c.loop.invariant.4;
    }

pub returns-in-CutShort-clause-cut : goal.returns-in-CutShort-clause-cut
returns-in-CutShort-clause-cut g c =
    λ _. record {
      last = in_turn c.loop.turn c.loop.self.listers (heard c.loop.self.api c.loop.patience) (known c.loop.pass);
      reached = c.loop.invariant.4;
      left_at = c.advance_or_rest.new.turn;
      patience = c.advance_or_rest.new.patience;
      left = inr c.in-CutShort.ensures.advances;
    }
