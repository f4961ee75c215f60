use Rattle.std.proofs.Common.{◌≡◌, Ok, Err, Some, None, refl, inr, subst}
use Rattle.std.specs.Str.{IsUtf8}
use Rattle.base64.specs.Engines.{url_safe_no_pad}
use Rattle.base64.specs.GeneralPurpose.{decode_of, IsDecodeFailure}
use Rattle.serde_json.specs.Read.{read}
use Rattle.serde_json.specs.View.{view}
use Rattle.pages.proofs.TokenReading.{undecoded, unread, holds}
use Rattle.pages.proofs.reading.value_of.Goals as goal

pub returns-in-Err-DecodeError-clause-refused : goal.returns-in-Err-DecodeError-clause-refused
returns-in-Err-DecodeError-clause-refused c =
    let e = c.in-Err-DecodeError.field-0-0 in
    let failed : decode_of url_safe_no_pad c.as_bytes.result.now ≡ Err e = subst (IsDecodeFailure url_safe_no_pad c.as_bytes.result.now) c.in-Err-DecodeError.field-0-is c.in-Err-DecodeError.ensures.err in
    inr (refl, undecoded c.args.text.now e (subst (λ s. decode_of url_safe_no_pad s ≡ Err e) c.as_bytes.ensures.value failed))

pub returns-in-Ok-from_slice-clause-read : goal.returns-in-Ok-from_slice-clause-read
returns-in-Ok-from_slice-clause-read c =
    let bytes = c.in-Ok.bytes.items in
    let decoded : decode_of url_safe_no_pad c.args.text.now ≡ Ok bytes = subst (λ s. decode_of url_safe_no_pad s ≡ Ok bytes) c.as_bytes.ensures.value c.in-Ok.ensures.ok in
    let said = subst (λ s. read s ≡ Some (view c.in-Ok-from_slice.value)) c.as_slice.ensures.value c.in-Ok-from_slice.ensures.ok.1 in
    holds c.args.text.now bytes (view c.in-Ok-from_slice.value) decoded said

pub returns : goal.returns
returns c =
    let bytes = c.in-Ok.bytes.items in
    let decoded : decode_of url_safe_no_pad c.args.text.now ≡ Ok bytes = subst (λ s. decode_of url_safe_no_pad s ≡ Ok bytes) c.as_bytes.ensures.value c.in-Ok.ensures.ok in
    let refused : IsUtf8 bytes → read bytes ≡ None = subst (λ s. IsUtf8 s → read s ≡ None) c.as_slice.ensures.value (c.in-Err.ensures.err (λ m. c.in_default.not-Memory (c.classify.ensures.memory.1 m))) in
    record { read = tt; refused = inr (refl, unread c.args.text.now bytes decoded refused) }
