use Rattle.std.proofs.Common.{◌≡◌, ◌<◌, ◌+◌, ◌-◌, ◌/◌, map, drop, length, subst, arith}
use Rattle.spec_server.specs.Recorded.{above}
use Rattle.watch_cache.specs.Changes.{change_seen}
use Rattle.watch_cache.proofs.Rising.{none_below_at, all_from_at, cut}
use Rattle.watch_cache.proofs.searching.first_above.Goals as goal

pub loop-low-preserved-then-is_above : goal.loop-low-preserved-then-is_above
loop-low-preserved-then-is_above c =
    let items = c.args.changes.now.items in
    let middle = c.loop-low.low + (c.loop-low.high - c.loop-low.low) / 2 in
    let within : middle < length items = omega (arith, c.loop-low-test.true, c.loop-low.invariant.bound) in
    record {
      order = omega arith;
      bound = omega (arith, within);
      before = c.loop-low.invariant.before;
      from = all_from_at c.args.after middle items c.is_above.result c.requires within c.is_above.ensures c.if-is_above.true;
    }

pub loop-low-preserved : goal.loop-low-preserved
loop-low-preserved c =
    let items = c.args.changes.now.items in
    let middle = c.loop-low.low + (c.loop-low.high - c.loop-low.low) / 2 in
    let within : middle < length items = omega (arith, c.loop-low-test.true, c.loop-low.invariant.bound) in
    record {
      order = omega (arith, c.loop-low-test.true);
      bound = c.loop-low.invariant.bound;
      before = none_below_at c.args.after middle items c.is_above.result c.requires within c.is_above.ensures c.if-is_above.false;
      from = c.loop-low.invariant.from;
    }

pub returns-clause-first : goal.returns-clause-first
returns-clause-first c =
    let low = c.loop-low.low in
    let ks = map change_seen c.args.changes.now.items in
    let met : c.loop-low.high ≡ low = omega (arith, c.loop-low-test.false, c.loop-low.invariant.order) in
    let from : above c.args.after (drop low ks) ≡ drop low ks = subst (λ i. above c.args.after (drop i ks) ≡ drop i ks) met c.loop-low.invariant.from in
    cut c.args.after low ks c.loop-low.invariant.before from
