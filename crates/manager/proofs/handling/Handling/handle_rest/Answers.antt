use Rattle.std.proofs.Common.{◌<◌, length, arith}
use Rattle.control_desk.specs.Desks.{known}
use Rattle.indexer.specs.Shifted.{shift_of}
use Rattle.manager.proofs.Rest.{as_far_more}
use Rattle.manager.proofs.handling.Handling.handle_rest.Goals as goal

pub loop-shift-preserved : goal.loop-shift-preserved
loop-shift-preserved g c =
    let a = c.args in
    let l = c.loop-shift in
    let maps = a.self.now.looks.now in
    let inside : l.handled < length a.shifts.now = grind arith in
    let more =
    as_far_more shift_of a.self.now.origin maps a.shifts.now a.handled.now l.handled c.in-Some.shift.now (known a.pass.now) (known l.pass) (known c.handle.new.pass)
    inside c.in-Some.ensures.lookup.1 l.invariant.1 c.in_ok-handle.ensures.ok in
    (c.in_ok-handle.ensures.pass, more)
