use Rattle.std.proofs.Common.{map, ap, ◌∙◌}
use Rattle.work_board.specs.Seen.{observation_of}
use Rattle.spec_client_go.specs.OwedKeys.{keys_of}
use Rattle.indexer.specs.Shifted.{shift_of}
use Rattle.spec_sim.specs.ControlPlanes.{change_of}
use Rattle.spec_sim.specs.PodObservations.{observations}
use Rattle.control_desk.specs.Desks.{known}
use Rattle.list_and_watch.specs.Causes.{is_first}
use Rattle.reconcile_types.specs.Hands.{looks_of}
use Rattle.object_keys.specs.WorkKeys.{work_key_of}
use Rattle.manager.proofs.Calls.{called_as}
use Rattle.manager.proofs.handling.Handling.handle.Goals as goal

pub returns-clause-ok : goal.returns-clause-ok
returns-clause-ok g c =
    let s = shift_of c.args.shift.now in
    let shown = observations (record { shift = s; is_in_initial_list = is_first c.args.self.now.origin.cause }) in
    let owed = keys_of (change_of s) (looks_of (λ m. m) c.args.self.now.looks.now) in
    called_as c.observe.result c.args.self.now.origin.kind c.args.self.now.origin.revision (map observation_of c.as_slice.result.now) shown (map work_key_of c.as_slice-2.result.now) owed (known c.args.pass.now) (known c.observe.new.pass)
    (ap (map observation_of) c.as_slice.ensures.value ∙ c.in_ok-seen.ensures) (ap (map work_key_of) c.as_slice-2.ensures.value ∙ c.in_ok-keys.ensures) c.observe.ensures.step
