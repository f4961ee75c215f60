use Rattle.std.proofs.Common.{map, ap, ◌∙◌}
use Rattle.control_desk.specs.Desks.{known}
use Rattle.indexer.specs.Shifted.{shift_of}
use Rattle.object_keys.specs.WorkKeys.{work_key_of}
use Rattle.manager.proofs.Stops.{stops_adding}
use Rattle.manager.proofs.handling.Handling.handle_all.Goals as goal

pub returns-clause-err : goal.returns-clause-err
returns-clause-err g c =
    let a = c.args in
    stops_adding c.add_rest.result a.self.now.origin a.self.now.looks.now (map shift_of a.shifts.now) a.handled.now a.added.now c.handle_rest.new.handled c.add_rest.new.added
    (map work_key_of c.as_slice.result.now) (known a.pass.now) (known c.handle_rest.new.pass) (known c.add_rest.new.pass)
    (ap (map work_key_of) c.as_slice.ensures.value ∙ c.in_ok-keys.ensures) c.in_ok-handle_rest.ensures.ok c.in_ok-handle_rest.ensures.all c.add_rest.ensures.err
