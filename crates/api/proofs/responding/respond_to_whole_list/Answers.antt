use Rattle.request_parts.specs.Collected.{list_seen}
use Rattle.selector.specs.Views.{view_of}
use Rattle.api.proofs.Written.{told_then}
use Rattle.api.specs.Responding.{text_of}
use Rattle.api.proofs.responding.respond_to_whole_list.Goals as goal

pub returns-clause-responds : goal.returns-clause-responds
returns-clause-responds g c =
    told_then (λ o. g.S.Site.Lists c.args.site.now (view_of c.args.view.now) (list_seen c.args.options.now) o c.list-answer.new.self) c.list-answer.result (text_of c.answer_text.result)
    c.list-answer.ensures.lists c.answer_text.ensures
