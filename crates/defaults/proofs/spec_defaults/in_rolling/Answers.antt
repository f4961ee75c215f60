use Rattle.std.proofs.Common.{◌≡◌, ◌∙◌, true, codes, is_some, rules}
use Rattle.serde_json.specs.Data.{object}
use Rattle.serde_json.specs.Find.{get}
use Rattle.serde_json.specs.View.{view, members_view}
use Rattle.serde_json.specs.declared.value.Value.{Object, the_lemmas}
use Rattle.spec_api.specs.Defaults.{rolling_defaults}
use Rattle.defaults.proofs.Changed.{put_back}
use Rattle.defaults.proofs.spec_defaults.in_rolling.Goals as goal

pub returns : goal.returns
returns c =
    let there : is_some (get (codes "rollingUpdate") (view c.args.value)) ≡ true = search rules in
    let shown : view (Object c.put.new.map) ≡ object (members_view c.put.new.map.entries) = search (rules, the_lemmas) in
    shown
    ∙ put_back (codes "rollingUpdate") rolling_defaults (view c.args.value) (view c.in_ok-existing.existing) (view c.in_ok-filled.filled) (members_view c.into_members-members.result.entries)
    (members_view c.take.new.members.entries) (members_view c.put.new.map.entries)
    there c.into_members-members.ensures c.in_ok-existing.ensures.taken c.in_ok-existing.ensures.left c.in_ok-filled.ensures c.in_ok-put.ensures.ok
