use Rattle.std.proofs.Common.{◌∙◌, string_bytes, ap}
use Rattle.std.proofs.lemmas.Str.{IsUtf8-string_bytes}
use Rattle.serde_json.specs.View.{view}
use Rattle.spec_api.proofs.Truths.{both_true}
use Rattle.object_keys.specs.Keys.{key_of}
use Rattle.request_encoding.specs.Texts.{is_address, is_shallow}
use Rattle.request_encoding.proofs.Segments.{is_path}
use Rattle.request_encoding.proofs.Routed.{object_clear}
use Rattle.request_encoding.proofs.Asked.{asks_patch}
use Rattle.request_encoding.proofs.asking.patch_text.Goals as goal

pub json_text-requires : goal.json_text-requires
json_text-requires c = (both_true (is_address (key_of c.args.key.now)) (is_shallow (view c.args.patch.now)) c.requires).1

pub returns-clause-path : goal.returns-clause-path
returns-clause-path c =
    ap is_path c.in_ok-object_target.ensures ∙ object_clear (key_of c.args.key.now) (both_true (is_address (key_of c.args.key.now)) (is_shallow (view c.args.patch.now)) c.requires).0

pub returns-clause-asks : goal.returns-clause-asks
returns-clause-asks c =
    let target = c.in_ok-object_target in
    let body = c.in_ok-json_text in
    let address = (both_true (is_address (key_of c.args.key.now)) (is_shallow (view c.args.patch.now)) c.requires).0 in
    asks_patch (key_of c.args.key.now) (string_bytes target.field-0) (string_bytes body.field-0) address (IsUtf8-string_bytes target.field-0) (view c.args.patch.now) target.ensures (IsUtf8-string_bytes body.field-0) body.ensures
