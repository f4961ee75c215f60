-- A list of which the first that passes is picked as it is gone over.
use Rattle.std.proofs.Common.{Bool, Option, Some, None}
use Rattle.std.specs.Prelude.{find}
use Rattle.serde_json.specs.Data.{Data}
use Rattle.spec_api.specs.History.{Entries}
use Rattle.spec_api.specs.Keys.{Key}
use Rattle.spec_reconcile.specs.Deployments.{without_first}

abbrev pub first_or : (Key × Data → Bool) → Option (Key × Data) → Entries → Option (Key × Data)
first_or test None ms = find test ms
first_or test (Some m) ms = Some m

abbrev pub left_of : (Key × Data → Bool) → Option (Key × Data) → Entries → Entries
left_of test None ms = without_first test ms
left_of test (Some m) ms = ms
