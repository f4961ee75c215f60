use Rattle.std.proofs.Common.{◌&&◌, ◌∙◌, string_bytes, ap}
use Rattle.std.proofs.lemmas.Str.{IsUtf8-string_bytes}
use Rattle.serde_json.specs.View.{view}
use Rattle.spec_api.proofs.Truths.{both_true}
use Rattle.spec_api.specs.Kinds.{has_status}
use Rattle.object_keys.specs.Keys.{key_of}
use Rattle.request_encoding.specs.Texts.{is_address, is_shallow}
use Rattle.request_encoding.proofs.Segments.{is_path}
use Rattle.request_encoding.proofs.Routed.{status_clear}
use Rattle.request_encoding.proofs.Asked.{asks_update_status}
use Rattle.request_encoding.proofs.asking.update_status_text.Goals as goal

pub json_text-requires : goal.json_text-requires
json_text-requires c =
    let k = key_of c.args.key.now in (both_true (is_address k && has_status k.kind) (is_shallow (view c.args.object.now)) c.requires).1

pub returns-clause-path : goal.returns-clause-path
returns-clause-path c =
    let k = key_of c.args.key.now in
    let address = (both_true (is_address k) (has_status k.kind) (both_true (is_address k && has_status k.kind) (is_shallow (view c.args.object.now)) c.requires).0).0 in
    ap is_path c.in_ok-status_target.ensures ∙ status_clear k address

pub returns-clause-asks : goal.returns-clause-asks
returns-clause-asks c =
    let target = c.in_ok-status_target in
    let body = c.in_ok-json_text in
    let k = key_of c.args.key.now in
    let parts = both_true (is_address k) (has_status k.kind) (both_true (is_address k && has_status k.kind) (is_shallow (view c.args.object.now)) c.requires).0 in
    asks_update_status k (string_bytes target.field-0) (string_bytes body.field-0) parts.0 (IsUtf8-string_bytes target.field-0) (view c.args.object.now) parts.1 target.ensures (IsUtf8-string_bytes body.field-0) body.ensures
