use Rattle.std.proofs.Common.{sym, subst}
use Rattle.request_decoding.specs.Asked.{asked_seen}
use Rattle.api.proofs.Asking.{may_be_asked}
use Rattle.http_connection.proofs.Standing.{answer_stands, written_led}
use Rattle.http_connection.specs.Phases.{Stands}
use Rattle.http_connection.proofs.answering.answer.Goals as goal

pub respond_to-requires : goal.respond_to-requires
respond_to-requires g c = record { asked = may_be_asked g.S.Site.MayAsk g.met.S.Site.readable (asked_seen c.args.asked) c.requires.asked }

pub returns-clause-stands : goal.returns-clause-stands
returns-clause-stands g c read written stands =
    let calls = g.S.Site.Calls in
    let lists = g.S.Site.Lists in
    let begins = g.S.WatchSource.Begins in
    let watches = g.S.WatchSource.Watches in
    let done = answer_stands calls lists begins watches (asked_seen c.args.asked) c.args.moment c.args.site.now c.respond_to.new.site read
    c.respond_to.result c.answered.result stands.0 c.respond_to.ensures c.answered.ensures in
    (done.0, done.1, subst (λ w. Stands calls lists begins watches c.answered.result read w done.0) (sym stands.1) done.2)

pub returns-clause-led : goal.returns-clause-led
returns-clause-led g c = written_led g.S.Site.Calls g.S.Site.Lists g.S.WatchSource.Begins g.S.WatchSource.Watches c.respond_to.result c.answered.result c.answered.ensures
