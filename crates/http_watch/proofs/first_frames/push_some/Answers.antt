use Rattle.std.proofs.Common.{rules, arith, ◌≡◌, ◌<◌, length, true, is_some, subst}
use Rattle.meta.specs.Members.{member_of}
use Rattle.object_keys.specs.Keys.{key_of}
use Rattle.http_watch.proofs.Pieces.{ArePushed, with_next, next_taken, next_some, one_pushed, stops_at}
use Rattle.http_watch.proofs.first_frames.push_some.Goals as goal

pub returns-then-len-ge-MOST_AHEAD-clause-some : goal.returns-then-len-ge-MOST_AHEAD-clause-some
returns-then-len-ge-MOST_AHEAD-clause-some c =
    let next = c.take_next-next-in-Some.result in
    let left = c.take_next-next-in-Some.new.self in
    let h = subst (λ o. ArePushed c.args.objects.now (with_next o c.loop-next.members) c.args.text.now.items c.loop-next.text.items) c.in-Some.is c.loop-next.invariant in
    let some : is_some next ≡ true = search rules in
    let full : 0 < length c.push_object.new.text.items = omega (arith, c.if-len-ge-MOST_AHEAD.true, c.len.ensures) in
    stops_at c.args.objects.now c.loop-next.members (with_next next left) (member_of c.in-Some.member) (key_of c.in_ok-try_copy.field-0) c.args.text.now.items c.loop-next.text.items c.push_object.new.text.items h
    c.in_ok-push_object.ensures (next_taken next c.loop-next.members left c.take_next-next-in-Some.ensures.some c.take_next-next-in-Some.ensures.none) c.in_ok-try_copy.ensures (next_some next left some) full

pub loop-next-preserved : goal.loop-next-preserved
loop-next-preserved c =
    let next = c.take_next-next-in-Some.result in
    let left = c.take_next-next-in-Some.new.self in
    let h = subst (λ o. ArePushed c.args.objects.now (with_next o c.loop-next.members) c.args.text.now.items c.loop-next.text.items) c.in-Some.is c.loop-next.invariant in
    one_pushed c.args.objects.now c.loop-next.members (with_next next left) (member_of c.in-Some.member) c.args.text.now.items c.loop-next.text.items c.push_object.new.text.items h
    c.in_ok-push_object.ensures (next_taken next c.loop-next.members left c.take_next-next-in-Some.ensures.some c.take_next-next-in-Some.ensures.none)
