use Rattle.std.proofs.Common.{◌≡◌}
use Rattle.serde_json.specs.View.{members_view}
use Rattle.spec_api.specs.SelectorValues.{label_requirements}
use Rattle.selector.specs.Reading.{onto_read}
use Rattle.selector.specs.Seen.{requirements_of}
use Rattle.selector.proofs.requirement_values.label_requirements.Given as goal

abbrev pub invariant-loop-key : goal.invariant-loop-key
invariant-loop-key l = label_requirements (members_view l.members.entries) ≡ onto_read (requirements_of l.found.items) (label_requirements (members_view l.key-iterator))
