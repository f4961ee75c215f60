use Rattle.std.proofs.Common.{◌==◌, ◌∙◌, string_bytes, length, ap}
use Rattle.std.proofs.lemmas.Str.{IsUtf8-string_bytes}
use Rattle.spec_api.proofs.Truths.{both_true}
use Rattle.lifecycle.specs.Options.{options_seen}
use Rattle.object_keys.specs.Keys.{key_of}
use Rattle.request_encoding.specs.Texts.{is_address, are_named}
use Rattle.request_encoding.specs.Deletes.{options_data}
use Rattle.request_encoding.proofs.Options.{options_back, some_text}
use Rattle.request_encoding.proofs.Segments.{is_path}
use Rattle.request_encoding.proofs.Routed.{object_clear}
use Rattle.request_encoding.proofs.Asked.{asks_delete}
use Rattle.request_encoding.proofs.asking.delete_text.Goals as goal

pub returns-clause-path : goal.returns-clause-path
returns-clause-path c =
    ap is_path c.in_ok-object_target.ensures ∙ object_clear (key_of c.args.key.now) (both_true (is_address (key_of c.args.key.now)) (are_named (options_seen c.args.options.now)) c.requires).0

pub returns-clause-asks : goal.returns-clause-asks
returns-clause-asks c =
    let target = c.in_ok-object_target in
    let body = c.in_ok-options_text in
    let o = options_seen c.args.options.now in
    let parts = both_true (is_address (key_of c.args.key.now)) (are_named o) c.requires in
    let says = body.ensures in
    asks_delete (key_of c.args.key.now) (string_bytes target.field-0) (string_bytes body.field-0) parts.0 (IsUtf8-string_bytes target.field-0) (options_data o) o target.ensures (IsUtf8-string_bytes body.field-0)
    (ap (λ t. length t == 0) says.text ∙ some_text o) says.back (options_back o parts.1)
