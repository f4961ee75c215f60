use Rattle.std.proofs.Common.{rules, All, subst}
use Rattle.object_keys.proofs.PerKinds.{of_left, of_taken}
use Rattle.desk.specs.Desks.{IsNewAt}
use Rattle.kcp_commands.proofs.own_desk.OwnDesk.followers.Goals as goal

pub try_map-requires : goal.try_map-requires
try_map-requires g c =
    let is_new = IsNewAt c.args.self.now.desk.now in
    let each = of_taken is_new c.taken_from.new.items.items c.in-Some.taken (subst (All is_new) c.in-Some.ensures.some c.requires.new) in
    search (rules, each)

pub returns-clause-left : goal.returns-clause-left
returns-clause-left g c =
    let is_new = IsNewAt c.args.self.now.desk.now in
    of_left is_new c.taken_from.new.items.items c.in-Some.taken (subst (All is_new) c.in-Some.ensures.some c.requires.new)
