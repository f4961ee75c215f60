use Rattle.std.proofs.Common.{sym, subst}
use Rattle.http_client.specs.Waits.{milliseconds_asked}
use Rattle.list_and_watch.specs.Answered.{RefusesAnswer}
use Rattle.list_and_watch.specs.Exchanged.{idle, left_for}
use Rattle.list_and_watch.specs.Gone.{Deals, GoesOn}
use Rattle.list_and_watch.specs.Told.{told}
use Rattle.list_and_watch.proofs.Dealt.{takes_list, takes_no_list, drops_list, unreadable_is_none}
use Rattle.list_and_watch.proofs.Gone.{at_owed}
use Rattle.list_and_watch.proofs.Joined.{beside_server, goes_both}
use Rattle.list_and_watch.proofs.listing.list.Goals as goal

pub returns-in-Ok-clause-goes : goal.returns-in-Ok-clause-goes
returns-in-Ok-clause-goes g c =
    let k = c.args.kind in
    let does = Deals g.S.Sink.takes g.S.Sink.refuses g.S.Sink.answers g.S.Sink.hears g.A.Api.exchanges k in
    let f = c.args.follower.now in
    let p = c.on_answer.new.self in
    let o = c.args.owed.now in
    let a = c.list-answer.result in
    let now = c.args.sink.now in
    let after = told c.publish-tried.new.follower c.publish-tried.new.owed in
    let free = left_for (milliseconds_asked a) in
    subst (λ n. GoesOn does (told f o idle) (now, c.args.api.now) (after (left_for n)) (c.publish-tried.new.sink, c.note_understood.new.self)) (sym c.outcome_of.ensures.milliseconds)
    (goes_both does (told f o idle) (told p o free) (after free) (now, c.args.api.now) (now, c.note_understood.new.self) (c.publish-tried.new.sink, c.note_understood.new.self)
    (at_owed does f p o idle free (now, c.args.api.now) (now, c.note_understood.new.self)
    (takes_list g.S.Sink.takes g.S.Sink.refuses g.S.Sink.answers g.S.Sink.hears g.A.Api.exchanges k a f p now c.args.api.now c.list-answer.new.self c.note_understood.new.self c.requires c.list-answer.ensures c.in-Ok.ensures.listed c.in-Ok.ensures.ok c.note_understood.ensures))
    (beside_server g.S.Sink.takes g.S.Sink.refuses g.S.Sink.answers g.S.Sink.hears g.A.Api.exchanges k c.note_understood.new.self (told p o free) (after free) now c.publish-tried.new.sink (c.publish-tried.ensures.goes free)))

pub returns-in-Err-Unreadable-clause-goes : goal.returns-in-Err-Unreadable-clause-goes
returns-in-Err-Unreadable-clause-goes g c =
    let k = c.args.kind in
    let does = Deals g.S.Sink.takes g.S.Sink.refuses g.S.Sink.answers g.S.Sink.hears g.A.Api.exchanges k in
    let f = c.args.follower.now in
    let p = c.on_answer.new.self in
    let o = c.args.owed.now in
    let a = c.list-answer.result in
    let now = c.args.sink.now in
    let api = c.note_unreadable.new.api in
    subst (λ n. GoesOn does (told f o idle) (now, c.args.api.now) (told p o (left_for n)) (now, api)) (sym c.outcome_of-in-Err-Unreadable.ensures.milliseconds)
    (at_owed does f p o idle (left_for (milliseconds_asked a)) (now, c.args.api.now) (now, api)
    (takes_no_list g.S.Sink.takes g.S.Sink.refuses g.S.Sink.answers g.S.Sink.hears g.A.Api.exchanges k a f p now c.args.api.now c.list-answer.new.self api c.requires c.list-answer.ensures
    (unreadable_is_none f.reflector.kind a (subst (RefusesAnswer f.reflector.kind a) c.in-Err-Unreadable.field-0-is c.in-Err-Unreadable.ensures.refused)) c.in-Err-Unreadable.ensures.err c.note_unreadable.ensures))

pub returns-clause-goes : goal.returns-clause-goes
returns-clause-goes g c =
    let k = c.args.kind in
    let does = Deals g.S.Sink.takes g.S.Sink.refuses g.S.Sink.answers g.S.Sink.hears g.A.Api.exchanges k in
    let f = c.args.follower.now in
    let p = c.on_answer.new.self in
    let o = c.args.owed.now in
    let a = c.list-answer.result in
    let now = c.args.sink.now in
    let api = c.list-answer.new.self in
    subst (λ n. GoesOn does (told f o idle) (now, c.args.api.now) (told p o (left_for n)) (now, api)) (sym c.outcome_of-in-Err-Want.ensures.milliseconds)
    (at_owed does f p o idle (left_for (milliseconds_asked a)) (now, c.args.api.now) (now, api)
    (drops_list g.S.Sink.takes g.S.Sink.refuses g.S.Sink.answers g.S.Sink.hears g.A.Api.exchanges k a f p now c.args.api.now api c.requires c.list-answer.ensures c.in-Err-Want.ensures.err))
