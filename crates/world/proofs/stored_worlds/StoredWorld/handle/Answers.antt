use Rattle.std.proofs.Common.{map, ap, ◌∙◌}
use Rattle.work_board.specs.Seen.{observation_of}
use Rattle.sim_followers.specs.Notified.{notification_of}
use Rattle.object_keys.specs.WorkKeys.{work_key_of}
use Rattle.sim_manager.specs.Outcomes.{outcome_of}
use Rattle.world.proofs.Taken.{world_of, noted_as, handled_world, stands_handled, handled_told, none_handled}
use Rattle.world.proofs.stored_worlds.StoredWorld.handle.Goals as goal

pub returns-in_default-clause-after : goal.returns-in_default-clause-after
returns-in_default-clause-after c = none_handled (world_of c.self.inside.cluster c.self.inside.manager) c.args.self.now c.args.kind c.self.view_is c.in_default.ensures

pub invariant_of-self-2 : goal.invariant_of-self-2
invariant_of-self-2 c =
    let n = notification_of c.in-Some.change.now in
    stands_handled (world_of c.self.inside.cluster c.self.inside.manager) c.args.kind n c.remove_oldest.new.self c.observe.new.self c.in-Some.ensures c.remove_oldest.ensures
    (noted_as c.self.inside.manager c.observe.new.self c.self.inside.cluster n (map observation_of c.as_slice.result.now) (map work_key_of c.as_slice-2.result.now)
    (ap (map observation_of) c.as_slice.ensures.value ∙ c.in_ok-observations.ensures) (ap (map work_key_of) c.as_slice-2.ensures.value ∙ c.in_ok-keys.ensures) c.in_ok-observe.ensures.ok)
    c.self.invariant

pub returns-clause-after : goal.returns-clause-after
returns-clause-after c =
    let n = notification_of c.in-Some.change.now in
    handled_world (world_of c.self.inside.cluster c.self.inside.manager) c.args.self.now c.args.kind n c.remove_oldest.new.self c.observe.new.self c.self.view_is c.in-Some.ensures c.remove_oldest.ensures
    (noted_as c.self.inside.manager c.observe.new.self c.self.inside.cluster n (map observation_of c.as_slice.result.now) (map work_key_of c.as_slice-2.result.now)
    (ap (map observation_of) c.as_slice.ensures.value ∙ c.in_ok-observations.ensures) (ap (map work_key_of) c.as_slice-2.ensures.value ∙ c.in_ok-keys.ensures) c.in_ok-observe.ensures.ok)

pub returns-clause-told : goal.returns-clause-told
returns-clause-told c =
    handled_told (world_of c.self.inside.cluster c.self.inside.manager) c.args.self.now c.args.kind (notification_of c.in-Some.change.now) c.in_ok-keys.keys.items (outcome_of c.in_ok-told.told.outcome) c.len.result
    c.self.view_is c.in-Some.ensures (c.len.ensures ∙ c.in_ok-keys.keys.ok.0) c.in_ok-keys.ensures (ap outcome_of c.in_ok-told.ensures)
