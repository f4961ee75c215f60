-- Commands, as definitions have them.
use Rattle.std.specs.Prelude.{string_bytes, option_map, map, List}
use Rattle.spec_client_go.specs.Commands as commands
use Rattle.object_keys.specs.Keys.{key_of}
use Rattle.reconcile_types.specs.declared.commands.Command.{Command}
use Rattle.reconcile_types.specs.declared.commands.Command.TheVariants.{Create, Update, UpdateStatus, Delete}
use Rattle.reconcile_types.specs.declared.commands.Plan.{Plan}
use Rattle.reconcile_types.specs.declared.commands.Version.{Version}
use Rattle.reconcile_types.specs.declared.commands.Version.TheVariants.{Seen, Answered}

abbrev pub version_of : Version → commands.Version
version_of (Seen t) = commands.seen (string_bytes t)
version_of Answered = commands.answered

abbrev pub command_of : Command → commands.Command
command_of (Create ns object) = commands.create object.kind (string_bytes ns) object.value
command_of (Update key object) = commands.update (key_of key) object.value
command_of (UpdateStatus key object) = commands.update_status (key_of key) object.value
command_of (Delete key u v p) = commands.delete (key_of key) (option_map string_bytes u) (option_map version_of v) p

abbrev pub commands_of : Plan → List commands.Command
commands_of p = map command_of p.commands.items
