use Rattle.std.proofs.Common.{subst}
use Rattle.list_and_watch.specs.Exchanged.{idle, left_for}
use Rattle.list_and_watch.specs.Gone.{Deals, Does, GoesOn}
use Rattle.list_and_watch.specs.Told.{told}
use Rattle.list_and_watch.proofs.Gone.{at_owed}
use Rattle.list_and_watch.proofs.Joined.{beside_clock, goes_both}
use Rattle.list_and_watch.proofs.running.look_and_ask.Goals as goal

pub returns-else-leads_on-clause-goes : goal.returns-else-leads_on-clause-goes
returns-else-leads_on-clause-goes g c =
    let k = c.args.kind in
    let f = c.args.follower.now in
    let p = c.look-look.new.follower in
    let o = c.args.known.now.owed in
    let s = c.look-look.result in
    let b = c.args.sink.now in
    let a = c.args.api.now in
    let e = c.look-look.new.sink in
    let i = c.look-look.new.api in
    let x = c.args.timer.now in
    let free = left_for s.milliseconds in
    let there = beside_clock g.S.Sink.takes g.S.Sink.refuses g.S.Sink.answers g.S.Sink.hears g.A.Api.exchanges k g.T.Timer.shows g.T.Timer.waits x (told f o idle) (told p o free) (b, a) (e, i)
    (at_owed (Deals g.S.Sink.takes g.S.Sink.refuses g.S.Sink.answers g.S.Sink.hears g.A.Api.exchanges k) f p o idle free (b, a) (e, i) c.look-look.ensures.goes) in
    there

pub returns-then-leads_on-clause-goes : goal.returns-then-leads_on-clause-goes
returns-then-leads_on-clause-goes g c =
    let k = c.args.kind in
    let f = c.args.follower.now in
    let p = c.look-look.new.follower in
    let o = c.args.known.now.owed in
    let s = c.look-look.result in
    let b = c.args.sink.now in
    let a = c.args.api.now in
    let e = c.look-look.new.sink in
    let i = c.look-look.new.api in
    let x = c.args.timer.now in
    let free = left_for s.milliseconds in
    let there = beside_clock g.S.Sink.takes g.S.Sink.refuses g.S.Sink.answers g.S.Sink.hears g.A.Api.exchanges k g.T.Timer.shows g.T.Timer.waits x (told f o idle) (told p o free) (b, a) (e, i)
    (at_owed (Deals g.S.Sink.takes g.S.Sink.refuses g.S.Sink.answers g.S.Sink.hears g.A.Api.exchanges k) f p o idle free (b, a) (e, i) c.look-look.ensures.goes) in
    let none = c.leads_on.ensures c.if-leads_on.true in
    let does = Does g.S.Sink.takes g.S.Sink.refuses g.S.Sink.answers g.S.Sink.hears g.A.Api.exchanges g.T.Timer.shows g.T.Timer.waits k in
    let end = told c.ask-then-leads_on.new.follower c.ask-then-leads_on.new.known.owed (left_for c.ask-then-leads_on.new.known.milliseconds) in
    goes_both does (told f o idle) (told p o idle) end (b, a, x) (e, i, x) (c.ask-then-leads_on.new.sink, c.ask-then-leads_on.new.api, c.ask-then-leads_on.new.timer)
    (subst (λ n. GoesOn does (told f o idle) (b, a, x) (told p o (left_for n)) (e, i, x)) none there) c.ask-then-leads_on.ensures.goes
