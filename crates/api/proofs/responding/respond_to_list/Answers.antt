use Rattle.std.proofs.Common.{sym, subst}
use Rattle.spec_api.specs.Verbs.{Outcome}
use Rattle.request_parts.specs.Collected.{list_seen}
use Rattle.selector.specs.Views.{view_of}
use Rattle.api.specs.Responding.{IsReplyTo}
use Rattle.api.proofs.Written.{text_then}
use Rattle.api.proofs.responding.respond_to_list.Goals as goal

pub returns-in-Ok : goal.returns-in-Ok
returns-in-Ok g c =
    subst (λ bytes. (o : Outcome) × g.S.Site.Lists c.args.site.now (view_of c.args.view.now) (list_seen c.args.options.now) o c.page.new.self × IsReplyTo o bytes) (sym c.new.ensures)
    (text_then (λ o. g.S.Site.Lists c.args.site.now (view_of c.args.view.now) (list_seen c.args.options.now) o c.page.new.self) c.in-Ok.text c.in-Ok.ensures.pages)
