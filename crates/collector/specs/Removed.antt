-- How an object goes that has no owner which is solid.
use Rattle.std.specs.Prelude.{List, if◌then◌else◌}
use Rattle.serde_json.specs.Data.{Data}
use Rattle.spec_api.specs.History.{Entries}
use Rattle.spec_api.specs.Keys.{Key}
use Rattle.spec_client_go.specs.Commands.{Command}
use Rattle.spec_reconcile.specs.declared.standing.Standing.{Standing}
use Rattle.spec_reconcile.specs.GarbageCollection.{is_between, remove_after, remove, own_policy}

abbrev pub remove_by : Key → Data → List Standing → Entries → List Command
remove_by k d found ms = if is_between found ms then remove_after k d ms else remove k d (own_policy d)
