use Rattle.std.proofs.Common.{◌≡◌, false, ap, ◌∙◌, rules}
use Rattle.serde_json.specs.View.{view, members_view}
use Rattle.serde_json.proofs.Views.{members_view-insert_entry}
use Rattle.spec_api.specs.Reading.{is_absent}
use Rattle.meta.proofs.reading.put_if_there.Goals as goal

pub returns : goal.returns
returns c =
    let there : is_absent c.args.described (view c.args.inner) ≡ false = search rules in
    ap members_view c.in_ok-insert.ensures.entries ∙ members_view-insert_entry c.args.kept.now.entries c.args.key c.args.inner ∙ rw there
