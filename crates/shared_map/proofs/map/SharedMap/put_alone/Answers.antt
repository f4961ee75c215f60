use Rattle.std.proofs.Common.{rules, arith, ◌≡◌, ◌+◌, ap, sym, subst, length, cond, true, false}
use Rattle.std.specs.Arc.{arc_value}
use Rattle.shared_map.specs.Entries.{put_entry}
use Rattle.shared_map.specs.Parts.{parts, joined}
use Rattle.shared_map.proofs.Orders.{InOrder, put_sorted}
use Rattle.shared_map.proofs.map.SharedMap.put_alone.Goals as goal

pub invariant_of-self-then-more : goal.invariant_of-self-then-more
invariant_of-self-then-more g c =
    let L = joined (parts c.self.inside.chunks.items) in
    let e = arc_value c.args.entry.now in
    let put : joined (parts c.put_into.new.chunks.items) ≡ put_entry g.K.Ord.cmp L e = search rules in
    let longer : length (joined (parts c.put_into.new.chunks.items)) ≡ length L + cond c.in-Some-2.more 1 0 = search rules in
    let one : length L + cond c.in-Some-2.more 1 0 ≡ length L + 1 = ap (λ b. length L + cond b 1 0) c.if-more.true in
    let most : c.in-Some.most ≡ c.self.inside.len + 1 = search rules in (
      subst (InOrder g.met.K.Ord.total) (sym put) (put_sorted g.met.K.Ord.total L e c.self.invariant.0),
      c.put_into.ensures.filled,
      omega (arith, longer, one, most, c.self.invariant.2),
    )

pub invariant_of-self-else-more : goal.invariant_of-self-else-more
invariant_of-self-else-more g c =
    let L = joined (parts c.self.inside.chunks.items) in
    let e = arc_value c.args.entry.now in
    let put : joined (parts c.put_into.new.chunks.items) ≡ put_entry g.K.Ord.cmp L e = search rules in
    let longer : length (joined (parts c.put_into.new.chunks.items)) ≡ length L + cond c.in-Some-2.more 1 0 = search rules in
    let none : length L + cond c.in-Some-2.more 1 0 ≡ length L + 0 = ap (λ b. length L + cond b 1 0) c.if-more.false in (
      subst (InOrder g.met.K.Ord.total) (sym put) (put_sorted g.met.K.Ord.total L e c.self.invariant.0),
      c.put_into.ensures.filled,
      omega (arith, longer, none, c.self.invariant.2),
    )
