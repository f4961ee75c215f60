-- The text by which a client asks for the next page (Kubernetes API Concepts, Retrieving large results sets in chunks).
use Rattle.std.specs.Prelude.{◌≡◌, ◌≤◌, ℕ, List, ◌&&◌, Option, Some, None, option_and_then, option_map, codes, decimal, if◌then◌else◌}
use Rattle.std.specs.Result.{result_ok}
use Rattle.std.specs.Str.{IsUtf8, bytes_eq, is_utf8}
use Rattle.base64.specs.Engines.{url_safe_no_pad}
use Rattle.base64.specs.GeneralPurpose.{encode_of, decode_of}
use Rattle.serde_json.specs.Data.{Data, string, object, member, no_members}
use Rattle.serde_json.specs.Written.{compact_text}
use Rattle.spec_api.specs.Objects.Metadata.{text_at}
use Rattle.spec_api.specs.Texts.Values.{data_of}
use Rattle.spec_api.specs.State.Pages.{Place}
use Rattle.spec_api.specs.Texts.Revisions.{greatest_revision, revision_of}

-- the last object of a page, and the revision of the list
pub record Token : Type 0 where
  pub name : List ℕ
  pub namespace : List ℕ
  pub revision : ℕ

-- where the page ended
abbrev pub token_place : Token → Place
token_place t = record { namespace = t.namespace; name = t.name }

-- {"name":..,"namespace":..,"rv":".."}
abbrev pub token_data : Token → Data
token_data t =
    object (member (codes "name") (string t.name) (member (codes "namespace") (string t.namespace) (member (codes "rv") (string (decimal t.revision)) no_members)))

-- base64url without padding (RFC 4648, Base 64 Encoding with URL and Filename Safe Alphabet)
abbrev pub token_text : Token → List ℕ
token_text t = encode_of url_safe_no_pad (compact_text (token_data t))

-- a text is that of a token that the server gives: its names are texts, and its revision is one
pub record IsToken (text : List ℕ) (t : Token) : Type 0 where
  pub written : text ≡ token_text t
  pub revision : t.revision ≤ greatest_revision
  pub name : IsUtf8 t.name
  pub namespace : IsUtf8 t.namespace

abbrev pub token_with : List ℕ → List ℕ → ℕ → Token
token_with name namespace revision = record { name = name; namespace = namespace; revision = revision }

-- the token that the members of an object give
abbrev pub token_said : Data → Option Token
token_said d =
    option_and_then
    (λ name. option_and_then (λ namespace. option_map (token_with name namespace) (option_and_then revision_of (text_at (codes "rv") d))) (text_at (codes "namespace") d))
    (text_at (codes "name") d)

-- the token, if this is its text: no other one is read, though it may say the same
abbrev pub if_written : List ℕ → Token → Option Token
if_written text t = if bytes_eq text (token_text t) && is_utf8 t.name && is_utf8 t.namespace then Some t else None

-- the token that a text is
abbrev pub token_of : List ℕ → Option Token
token_of text = option_and_then (if_written text) (option_and_then token_said (option_and_then data_of (result_ok (decode_of url_safe_no_pad text))))
