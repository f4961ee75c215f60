-- The token that a text is read as is the one whose text it is.
use Rattle.std.proofs.Common.{◌≡◌, ◌≤◌, ◌<◌, ◌&&◌, ◌||◌, not, ◌==◌, ◌^◌, ℕ, List, Bool, true, false, cond, Option, Some, None, option_map, option_and_then, codes, bytes_eq, refl, ap, ◌∙◌, subst, arith, nat_lt, length, slice_index, if◌then◌else◌}
use Rattle.std.specs.List.{list_all}
use Rattle.std.specs.Result.{result_ok}
use Rattle.std.specs.Str.{is_utf8}
use Rattle.std.specs.Str.Parse.{digits_value}
use Rattle.std.proofs.lemmas.Bool.Decides.{nat_tests}
use Rattle.std.proofs.lemmas.Slice.Eq.{bytes_eq-Decides}
use Rattle.std.proofs.lemmas.Str.{is_utf8-from_IsUtf8, IsUtf8-from_is_utf8}
use Rattle.base64.specs.Engines.{url_safe_no_pad}
use Rattle.base64.specs.GeneralPurpose.{decode_of}
use Rattle.serde_json.specs.Data.{Data}
use Rattle.serde_json.specs.Read.{read}
use Rattle.serde_json.specs.Written.{compact_text}
use Rattle.serde_json.proofs.OnLiterals.{serde_json_on_literals}
use Rattle.spec_api.proofs.Truths.{right_true}
use Rattle.spec_api.specs.Metadata.{text_at}
use Rattle.spec_api.specs.Moments.{is_digit}
use Rattle.spec_api.specs.PageTokens.{Token, token_data, token_text, IsToken, token_with, token_said, if_written, token_of}
use Rattle.spec_api.specs.Revisions.{revision_of, is_revision, greatest_revision}
use Rattle.spec_api.specs.Values.{data_of}
use Rattle.spec_api.proofs.RevisionTexts.{revision_is}
use Rattle.spec_api.proofs.TokenTexts.{token_decodes, data_read_back, IsUtf8-token}

-- ---- a token's text is read as that token

decoded_is : (text : List ℕ) (t : Token) → IsToken text t → result_ok (decode_of url_safe_no_pad text) ≡ Some (compact_text (token_data t))
decoded_is text t is = ap result_ok (ap (decode_of url_safe_no_pad) is.written ∙ token_decodes t is.revision is.name is.namespace)

data_is : (text : List ℕ) (t : Token) → IsToken text t → data_of (compact_text (token_data t)) ≡ Some (token_data t)
data_is text t is =
    ap (λ v. if v then read (compact_text (token_data t)) else None)
    (is_utf8-from_IsUtf8 (compact_text (token_data t)) (IsUtf8-token t is.revision is.name is.namespace))
    ∙ data_read_back t

below : (r : ℕ) → r ≤ greatest_revision → r < 2 ^ 53
below r h = omega (arith, h)

said_is : (t : Token) → t.revision ≤ greatest_revision → token_said (token_data t) ≡ Some t
unfolding serde_json_on_literals
said_is t h = ap (option_map (token_with t.name t.namespace)) (revision_is t.revision (below t.revision h))

all_hold : (a b c : Bool) → a ≡ true → b ≡ true → c ≡ true → (a && b && c) ≡ true
all_hold a b c ea eb ec = rw (ea, eb, ec) refl

written_is : (text : List ℕ) (t : Token) → IsToken text t → if_written text t ≡ Some t
written_is text t is =
    ap (λ b. if b then Some t else None)
    (all_hold (bytes_eq text (token_text t)) (is_utf8 t.name) (is_utf8 t.namespace)
    ((bytes_eq-Decides text (token_text t)).1 is.written) (is_utf8-from_IsUtf8 t.name is.name) (is_utf8-from_IsUtf8 t.namespace is.namespace))

pub token_is_read : (text : List ℕ) (t : Token) → IsToken text t → token_of text ≡ Some t
token_is_read text t is =
    ap (λ o. option_and_then (if_written text) (option_and_then token_said (option_and_then data_of o))) (decoded_is text t is)
    ∙ ap (λ o. option_and_then (if_written text) (option_and_then token_said o)) (data_is text t is)
    ∙ ap (option_and_then (if_written text)) (said_is t is.revision)
    ∙ written_is text t is

-- ---- a revision that is read is none too great

bounded_by : (t : List ℕ) (b : Bool) (r : ℕ) → is_revision t ≡ b → cond b (Some (digits_value 10 t)) None ≡ Some r → r ≤ greatest_revision
bounded_by t true r e h =
    let small : nat_lt (digits_value 10 t) 9007199254740992 ≡ true = right_true (nat_lt 0 (length t) && list_all is_digit t && ((length t == 1) || not (slice_index t 0 == 48))) (nat_lt (digits_value 10 t) 9007199254740992) e in
    let is : digits_value 10 t ≡ r = cc h in
    let low : digits_value 10 t < 9007199254740992 = grind (arith, nat_tests) in
    omega (arith, is, low)
bounded_by t false r e h = cc h

bounded : (t : List ℕ) (r : ℕ) → revision_of t ≡ Some r → r ≤ greatest_revision
bounded t r h = bounded_by t (is_revision t) r refl h

-- ---- what is read as a token is its text

from_written : (text : List ℕ) (found : Token) (a b c : Bool) → bytes_eq text (token_text found) ≡ a → is_utf8 found.name ≡ b → is_utf8 found.namespace ≡ c
    → found.revision ≤ greatest_revision → (t : Token) → cond (a && b && c) (Some found) None ≡ Some t → IsToken text t
from_written text found true true true ea eb ec small t h =
    let same : found ≡ t = cc h in
    subst (IsToken text) same
    (record {
      written = (bytes_eq-Decides text (token_text found)).0 ea;
      revision = small;
      name = IsUtf8-from_is_utf8 found.name eb;
      namespace = IsUtf8-from_is_utf8 found.namespace ec;
    })
from_written text found true true false ea eb ec small t h = cc h
from_written text found true false c ea eb ec small t h = cc h
from_written text found false b c ea eb ec small t h = cc h

from_revision : (text name namespace version : List ℕ) (o : Option ℕ) → revision_of version ≡ o
    → (t : Token) → option_and_then (if_written text) (option_map (token_with name namespace) o) ≡ Some t → IsToken text t
from_revision text name namespace version None e t h = cc h
from_revision text name namespace version (Some r) e t h =
    from_written text (token_with name namespace r) (bytes_eq text (token_text (token_with name namespace r))) (is_utf8 name) (is_utf8 namespace) refl refl refl (bounded version r e) t h

abbrev by_members : Option (List ℕ) → Option (List ℕ) → Option (List ℕ) → Option Token
by_members name namespace version =
    option_and_then (λ n. option_and_then (λ s. option_map (token_with n s) (option_and_then revision_of version)) namespace) name

from_members : (text : List ℕ) (name namespace version : Option (List ℕ)) (t : Token) → option_and_then (if_written text) (by_members name namespace version) ≡ Some t → IsToken text t
from_members text None namespace version t h = cc h
from_members text (Some n) None version t h = cc h
from_members text (Some n) (Some s) None t h = cc h
from_members text (Some n) (Some s) (Some v) t h = from_revision text n s v (revision_of v) refl t h

from_data : (text : List ℕ) (o : Option Data) (t : Token) → option_and_then (if_written text) (option_and_then token_said o) ≡ Some t → IsToken text t
from_data text None t h = cc h
from_data text (Some d) t h = from_members text (text_at (codes "name") d) (text_at (codes "namespace") d) (text_at (codes "rv") d) t h

pub read_is_token : (text : List ℕ) (t : Token) → token_of text ≡ Some t → IsToken text t
read_is_token text t h = from_data text (option_and_then data_of (result_ok (decode_of url_safe_no_pad text))) t h
