-- What a text that is a token's is read as, and that one that is none is not read.
use Rattle.std.proofs.Common.{◌≡◌, ◌≤◌, ◌<◌, ◌^◌, ℕ, List, Option, Some, None, option_map, Ok, Err, sym, ap, ◌∙◌, subst, arith}
use Rattle.std.specs.Str.{IsUtf8}
use Rattle.base64.specs.declared.decode.DecodeError.{DecodeError}
use Rattle.base64.specs.Engines.{url_safe_no_pad}
use Rattle.base64.specs.GeneralPurpose.{decode_of}
use Rattle.serde_json.specs.Data.{Data}
use Rattle.serde_json.specs.Read.{read}
use Rattle.serde_json.specs.Written.{compact_text}
use Rattle.serde_json.proofs.OnLiterals.{serde_json_on_literals}
use Rattle.spec_api.specs.PageTokens.{Token, token_data, token_text, IsToken}
use Rattle.spec_api.specs.Revisions.{greatest_revision}
use Rattle.spec_api.proofs.RevisionTexts.{revision_is}
use Rattle.spec_api.proofs.TokenTexts.{token_decodes, data_read_back, IsUtf8-token}
use Rattle.pages.specs.Read.{token_in}
use Rattle.pages.specs.Refused.{IsNoToken, HoldsToken}

decodes : (text : List ℕ) (t : Token) → IsToken text t → decode_of url_safe_no_pad text ≡ Ok (compact_text (token_data t))
decodes text t is = ap (decode_of url_safe_no_pad) is.written ∙ token_decodes t is.revision is.name is.namespace

pub undecoded : (text : List ℕ) (e : DecodeError) → decode_of url_safe_no_pad text ≡ Err e → IsNoToken text
undecoded text e h t is = let both = sym h ∙ decodes text t is in cc both

the_bytes : (text bytes : List ℕ) (t : Token) → decode_of url_safe_no_pad text ≡ Ok bytes → IsToken text t → compact_text (token_data t) ≡ bytes
the_bytes text bytes t h is = let both = sym (decodes text t is) ∙ h in cc both

pub unread : (text bytes : List ℕ) → decode_of url_safe_no_pad text ≡ Ok bytes → (IsUtf8 bytes → read bytes ≡ None) → IsNoToken text
unread text bytes h none t is =
    let same = the_bytes text bytes t h is in
    let both = sym (data_read_back t) ∙ ap read same ∙ none (subst IsUtf8 same (IsUtf8-token t is.revision is.name is.namespace)) in
    cc both

pub holds : (text bytes : List ℕ) (d : Data) → decode_of url_safe_no_pad text ≡ Ok bytes → read bytes ≡ Some d → HoldsToken text d
holds text bytes d h r t is = let both = sym r ∙ ap read (sym (the_bytes text bytes t h is)) ∙ data_read_back t in cc both

below : (r : ℕ) → r ≤ greatest_revision → r < 2 ^ 53
below r h = omega (arith, h)

abbrev with_revision : Token → Option ℕ → Option Token
with_revision t o = option_map (λ r. record { name = t.name; namespace = t.namespace; revision = r }) o

pub token_in-data : (t : Token) → t.revision ≤ greatest_revision → token_in (token_data t) ≡ Some t
unfolding serde_json_on_literals
token_in-data t h = ap (with_revision t) (revision_is t.revision (below t.revision h))

pub no_members : (text : List ℕ) (d : Data) → HoldsToken text d → token_in d ≡ None → IsNoToken text
no_members text d held none t is = let both = sym (token_in-data t is.revision) ∙ ap token_in (sym (held t is)) ∙ none in cc both

pub other_text : (text again : List ℕ) (d : Data) (found : Token) → HoldsToken text d → token_in d ≡ Some found → again ≡ token_text found → (again ≡ text → ⊥) → IsNoToken text
other_text text again d found held some written other t is =
    let both = sym (token_in-data t is.revision) ∙ ap token_in (sym (held t is)) ∙ some in
    let same : t ≡ found = cc both in
    other (written ∙ ap token_text (sym same) ∙ sym is.written)
