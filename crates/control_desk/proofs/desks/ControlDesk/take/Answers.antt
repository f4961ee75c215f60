use Rattle.std.proofs.Common.{◌∙◌, ap, sym}
use Rattle.baton.specs.Marks.{made_by}
use Rattle.crossbeam_queue.specs.Passes.{view}
use Rattle.control_desk.proofs.Turns.{taken_by, state_of}
use Rattle.control_desk.proofs.desks.ControlDesk.take.Goals as goal

pub returns-clause-holding : goal.returns-clause-holding
returns-clause-holding g c =
    let v = view c.args.pass.now in
    let w = view c.take.new.pass in
    let t = c.take.ensures.taken in
    let so = taken_by v w c.take.result t c.requires.0.1 in
    record {
      pass = c.take.ensures.pass.1;
      opening = ap (λ z. z.own.opening) t.knows ∙ c.requires.1;
      holds = ap (λ z. z.own.holds) t.knows;
      state = state_of v w c.take.result t c.requires.1;
      made = ap (λ z. made_by z.own.name w.own.seen) t.knows ∙ so.made ∙ sym (ap (λ z. z.own.made) t.knows);
      happened = so.happened;
    }

pub returns-clause-taken : goal.returns-clause-taken
returns-clause-taken g c = taken_by (view c.args.pass.now) (view c.take.new.pass) c.take.result c.take.ensures.taken c.requires.0.1
