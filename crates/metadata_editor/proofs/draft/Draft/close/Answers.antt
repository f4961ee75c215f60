use Rattle.std.proofs.Common.{◌≡◌, false, ap, ◌∙◌}
use Rattle.serde_json.specs.View.{view, members_view}
use Rattle.serde_json.specs.Written.{has_float, members_have_float}
use Rattle.serde_json.specs.declared.value.Value.{Object}
use Rattle.serde_json.proofs.Views.{view-Object}
use Rattle.spec_api.proofs.NoFloatsRead.{members_have_float-put}
use Rattle.metadata_editor.proofs.draft.Draft.close.Goals as goal

pub from_whole-requires-clause-no_float : goal.from_whole-requires-clause-no_float
from_whole-requires-clause-no_float c =
    let inner : has_float (view (Object c.self.inside.metadata)) ≡ false = ap has_float (view-Object c.self.inside.metadata) ∙ c.self.invariant.1 in
    ap has_float (view-Object c.put.new.map) ∙ ap members_have_float c.in_ok-put.ensures.ok
    ∙ members_have_float-put _ (view (Object c.self.inside.metadata)) (members_view c.self.inside.rest.entries) inner c.self.invariant.0
