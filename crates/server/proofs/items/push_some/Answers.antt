use Rattle.std.proofs.Common.{◌<◌, ◌-◌, arith, length, refl, subst, ap, string_bytes}
use Rattle.meta.specs.Members.{member_of}
use Rattle.server.specs.declared.items.ItemsStop.{ItemsStop}
use Rattle.server.proofs.AddedItems.{AreAdded, none_added, one_added, stops_here, all_added, as_many_added, one_less, no_more}
use Rattle.server.proofs.items.push_some.Goals as goal

pub loop-left-init : goal.loop-left-init
loop-left-init c = none_added c.args.objects.now c.in_ok-members.members c.args.later c.args.left (string_bytes c.args.text.now) c.in_ok-members.ensures

pub loop-left-preserved : goal.loop-left-preserved
loop-left-preserved c =
    let all = c.args.objects.now in
    let old = string_bytes c.args.text.now in
    let mid = string_bytes c.loop-left.text in
    let h = subst (λ k. AreAdded all c.loop-left.members c.args.later c.loop-left.later c.args.left k old mid) (one_less c.loop-left.left c.loop-left-test.true) c.loop-left.invariant in
    one_added all c.loop-left.members c.take_next.new.self (member_of c.in-Some.member) c.args.later c.loop-left.later c.args.left (c.loop-left.left - 1) old mid (string_bytes c.push_item.new.text) h
    c.in_ok-push_item.ensures c.in-Some.ensures.some (omega (arith, c.if-as_str-ge-MOST_AHEAD.false, ap length c.as_str.ensures.value))

pub returns-in-None-clause-all : goal.returns-in-None-clause-all
returns-in-None-clause-all c =
    all_added c.args.objects.now c.loop-left.members c.args.later c.loop-left.later c.args.left c.loop-left.left (string_bytes c.args.text.now) (string_bytes c.loop-left.text) c.loop-left.invariant
    c.in-None.ensures.none

pub returns-then-as_str-ge-MOST_AHEAD-clause-some : goal.returns-then-as_str-ge-MOST_AHEAD-clause-some
returns-then-as_str-ge-MOST_AHEAD-clause-some c =
    let all = c.args.objects.now in
    let old = string_bytes c.args.text.now in
    let mid = string_bytes c.loop-left.text in
    let new = string_bytes c.push_item.new.text in
    let h = subst (λ k. AreAdded all c.loop-left.members c.args.later c.loop-left.later c.args.left k old mid) (one_less c.loop-left.left c.loop-left-test.true) c.loop-left.invariant in
    let full : 0 < length new = omega (arith, c.if-as_str-ge-MOST_AHEAD.true, ap length c.as_str.ensures.value) in
    let stop : ItemsStop = record { key = c.in_ok-try_copy.field-0; left = c.loop-left.left - 1 } in
    stops_here all c.loop-left.members c.take_next.new.self (member_of c.in-Some.member) c.args.later c.loop-left.later c.args.left (c.loop-left.left - 1) old mid new h
    c.in_ok-push_item.ensures c.in-Some.ensures.some stop c.in_ok-try_copy.ensures refl full

pub returns-clause-all : goal.returns-clause-all
returns-clause-all c =
    as_many_added c.args.objects.now c.loop-left.members c.args.later c.loop-left.later c.args.left c.loop-left.left (string_bytes c.args.text.now) (string_bytes c.loop-left.text) c.loop-left.invariant
    (no_more c.loop-left.left c.loop-left-test.false)
