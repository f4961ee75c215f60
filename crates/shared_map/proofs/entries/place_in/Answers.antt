use Rattle.std.proofs.Common.{rules, arith, ◌≡◌, ◌<◌, ◌+◌, ◌-◌, ◌/◌, ap, length, true, false, is_lt, Less, Equal, Greater, drop}
use Rattle.std.specs.Arc.{arc_value}
use Rattle.shared_map.specs.Parts.{seen}
use Rattle.shared_map.proofs.Places.{map_at, begins_here, all_more}
use Rattle.shared_map.proofs.Orders.{above_at}
use Rattle.shared_map.proofs.entries.place_in.Goals as goal

pub loop-low-preserved-in-Greater : goal.loop-low-preserved-in-Greater
loop-low-preserved-in-Greater g c =
    let x = c.index-entries-middle.result in
    let es = c.args.entries.now in
    let k = c.args.key.now in
    let middle = c.loop-low.low + (c.loop-low.high - c.loop-low.low) / 2 in
    let rest = drop (middle + 1) (seen es) in
    let is : g.K.Ord.cmp k (arc_value x).0 ≡ Greater = search rules in
    let under : middle < c.loop-low.high = search rules in
    let within : middle < length es = search rules in
    let here = map_at arc_value es middle x within c.index-entries-middle.is in
    let before = above_at g.met.K.Ord.total k (seen es) middle (arc_value x) rest c.requires here (ap is_lt is) in
    (omega (arith, under), c.loop-low.invariant.1, all_more g.K.Ord.cmp Greater k (seen es) middle (arc_value x) rest here before is, c.loop-low.invariant.3)

pub returns-in-Equal-clause-before : goal.returns-in-Equal-clause-before
returns-in-Equal-clause-before g c =
    let x = c.index-entries-middle.result in
    let es = c.args.entries.now in
    let k = c.args.key.now in
    let middle = c.loop-low.low + (c.loop-low.high - c.loop-low.low) / 2 in
    let is : g.K.Ord.cmp k (arc_value x).0 ≡ Equal = search rules in
    let within : middle < length es = search rules in
    above_at g.met.K.Ord.total k (seen es) middle (arc_value x) (drop (middle + 1) (seen es)) c.requires (map_at arc_value es middle x within c.index-entries-middle.is) (ap is_lt is)

pub returns-in-Equal-clause-ahead : goal.returns-in-Equal-clause-ahead
returns-in-Equal-clause-ahead g c =
    let x = c.index-entries-middle.result in
    let es = c.args.entries.now in
    let k = c.args.key.now in
    let middle = c.loop-low.low + (c.loop-low.high - c.loop-low.low) / 2 in
    let is : g.K.Ord.cmp k (arc_value x).0 ≡ Equal = search rules in
    let within : middle < length es = search rules in
    begins_here g.K.Ord.cmp k (drop middle (seen es)) (drop (middle + 1) (seen es)) (arc_value x) true (map_at arc_value es middle x within c.index-entries-middle.is) is

pub loop-low-preserved : goal.loop-low-preserved
loop-low-preserved g c =
    let x = c.index-entries-middle.result in
    let es = c.args.entries.now in
    let k = c.args.key.now in
    let middle = c.loop-low.low + (c.loop-low.high - c.loop-low.low) / 2 in
    let is : g.K.Ord.cmp k (arc_value x).0 ≡ Less = search rules in
    let within : middle < length es = search rules in
    let ahead = begins_here g.K.Ord.cmp k (drop middle (seen es)) (drop (middle + 1) (seen es)) (arc_value x) false (map_at arc_value es middle x within c.index-entries-middle.is) is in
    (omega arith, omega (arith, within), c.loop-low.invariant.2, ahead)
