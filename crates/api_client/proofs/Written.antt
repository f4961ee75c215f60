-- What is written for a request of one object, as a server reads it.
use Rattle.std.proofs.Common.{◌≡◌, ◌<◌, ℕ, List, [], ◌∷◌, ◌++◌, length, Bool, true, false, not, cond, ◌==◌, Some, Ok, Err, codes, string_bytes, refl, sym, ◌∙◌, subst, arith}
use Rattle.std.specs.List.{list_all}
use Rattle.std.proofs.lemmas.Str.{IsUtf8-string_bytes}
use Rattle.httparse.specs.Grammar.{is_uri_byte, trim_ows}
use Rattle.spec_api.proofs.Truths.{and_true, both_true, left_true}
use Rattle.spec_api.specs.declared.methods.Method.{Method}
use Rattle.spec_api.specs.declared.methods.Method.TheVariants.{Get, Post, Put, Patch, Delete}
use Rattle.spec_api.specs.ObjectRequests.{Request}
use Rattle.spec_api.specs.Refusals.{no_such_path, too_large}
use Rattle.spec_api.specs.Targets.{Asked, read_request, is_too_long}
use Rattle.spec_http.proofs.OnLiterals.{http_on_literals}
use Rattle.spec_http.specs.Connections.{AsksOnly}
use Rattle.spec_http.specs.Heads.{method_named, takes_type, without_parameters}
use Rattle.spec_http.specs.RequestLaws.{is_value, IsWritable}
use Rattle.spec_http.proofs.Asked.{written_asked, long_refused}
use Rattle.request_encoding.specs.Texts.{is_of_path, is_visible}
use Rattle.request_encoding.specs.declared.text.RequestText.{RequestText}
use Rattle.api_client.specs.Outgoing.{method_text, media_type, written}
use Rattle.api_client.specs.Laws.{IsText, RequestsAreAsked, LongTargetsAreRefused}

pub named : (m : Method) → method_named (method_text m) ≡ Some m
unfolding http_on_literals
named Get = refl
named Post = refl
named Put = refl
named Patch = refl
named Delete = refl

pub typed : (m : Method) → is_value (media_type m) ≡ true
unfolding http_on_literals
typed Get = refl
typed Post = refl
typed Put = refl
typed Patch = refl
typed Delete = refl

pub takes : (m : Method) → takes_type m (Some (without_parameters (trim_ows (media_type m)))) ≡ true
unfolding http_on_literals
takes Get = refl
takes Post = refl
takes Put = refl
takes Patch = refl
takes Delete = refl

pub host_is_value : is_value (codes "localhost") ≡ true
unfolding http_on_literals
host_is_value = refl

visible : (t : List ℕ) → list_all is_of_path t ≡ true → list_all is_uri_byte t ≡ true
visible [] h = refl
visible (b ∷ t) h =
    let parts = both_true (is_of_path b) (list_all is_of_path t) h in
    and_true (is_uri_byte b) (list_all is_uri_byte t) (left_true (is_visible b) (not (b == 63)) parts.0) (visible t parts.1)

not_taken : (long : Bool) (a : Asked) → Err no_such_path ≡ cond long (Err too_large) (Ok a) → ⊥
not_taken true a e = absurd (cc)
not_taken false a e = absurd (cc)

pub no_path : (m : Method) (body : List ℕ) → read_request m [] body ≡ Err no_such_path
unfolding http_on_literals
no_path m body = refl

-- a target that is taken for a request is not empty
filled : (m : Method) (target body : List ℕ) (long : Bool) (a : Asked) → read_request m target body ≡ cond long (Err too_large) (Ok a) → 0 < length target
filled m [] body long a e = absurd (not_taken long a (sym (no_path m body) ∙ e))
filled m (b ∷ t) body long a e = omega arith

writable : (q : Request) (t : RequestText) → IsText q t
    → IsWritable t.method (method_text t.method) (string_bytes t.target) (codes "localhost") (media_type t.method) (string_bytes t.body)
writable q t (path, asks, short) = (
  named t.method,
  (filled t.method (string_bytes t.target) (string_bytes t.body) (is_too_long (string_bytes t.body)) _ asks, visible (string_bytes t.target) path, IsUtf8-string_bytes t.target),
  host_is_value,
  typed t.method,
  takes t.method,
  short,
)

pub requests_asked : RequestsAreAsked
requests_asked q t rest is short =
    subst (λ a. AsksOnly (written t ++ rest) (Some a)) is.1
    (written_asked t.method (method_text t.method) (string_bytes t.target) (codes "localhost") (media_type t.method) (string_bytes t.body) rest (writable q t is) short)

pub long_targets : LongTargetsAreRefused
long_targets q t rest is long =
    long_refused t.method (method_text t.method) (string_bytes t.target) (codes "localhost") (media_type t.method) (string_bytes t.body) rest (writable q t is) long
