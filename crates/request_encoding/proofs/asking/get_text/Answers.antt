use Rattle.std.proofs.Common.{◌∙◌, string_bytes, ap}
use Rattle.std.proofs.lemmas.Str.{IsUtf8-string_bytes}
use Rattle.object_keys.specs.Keys.{key_of}
use Rattle.request_encoding.proofs.Segments.{is_path}
use Rattle.request_encoding.proofs.Routed.{object_clear}
use Rattle.request_encoding.proofs.Asked.{asks_get}
use Rattle.request_encoding.proofs.asking.get_text.Goals as goal

pub returns-clause-path : goal.returns-clause-path
returns-clause-path c = ap is_path c.in_ok-object_target.ensures ∙ object_clear (key_of c.args.key.now) c.requires

pub returns-clause-asks : goal.returns-clause-asks
returns-clause-asks c =
    let target = c.in_ok-object_target in
    asks_get (key_of c.args.key.now) (string_bytes target.field-0) (string_bytes c.new.result) c.requires (IsUtf8-string_bytes target.field-0) target.ensures
