use Rattle.std.proofs.Common.{rules, All, subst}
use Rattle.object_keys.proofs.PerKinds.{of_left, of_taken}
use Rattle.desk.specs.Desks.{IsNewAt}
use Rattle.threads_tests.proofs.running.followers.Goals as goal

pub try_map-requires : goal.try_map-requires
try_map-requires g c =
    let is_new = IsNewAt c.args.scene.now.environment.now.desk in
    let each = of_taken is_new c.taken_from.new.items.items c.in-Some.taken (subst (All is_new) c.in-Some.ensures.some c.requires) in
    search (rules, each)

pub returns : goal.returns
returns g c =
    let is_new = IsNewAt c.args.scene.now.environment.now.desk in
    of_left is_new c.taken_from.new.items.items c.in-Some.taken (subst (All is_new) c.in-Some.ensures.some c.requires)
