-- A request of one object as it is written (RFC 9112, Message Format).
use Rattle.std.specs.Prelude.{ℕ, List, [], codes, string_bytes}
use Rattle.spec_http.specs.Requests.{request_text}
use Rattle.spec_api.specs.declared.methods.Method.{Method}
use Rattle.spec_api.specs.declared.methods.Method.TheVariants.{Get, Post, Put, Patch, Delete}
use Rattle.request_encoding.specs.declared.text.RequestText.{RequestText}

-- the name of a method (RFC 9110, Methods)
abbrev pub method_text : Method → List ℕ
method_text Get = codes "GET"
method_text Post = codes "POST"
method_text Put = codes "PUT"
method_text Patch = codes "PATCH"
method_text Delete = codes "DELETE"

-- the media type of the bodies of a method: JSON, or a merge patch (RFC 7396, IANA Considerations)
abbrev pub media_type : Method → List ℕ
media_type Patch = codes "application/merge-patch+json"
media_type m = codes "application/json"

-- no host is named but the machine itself
abbrev pub written : RequestText → List ℕ
written t = request_text (method_text t.method) (string_bytes t.target) (codes "localhost") (media_type t.method) (string_bytes t.body)

-- a GET of a target, with no body
abbrev pub get_text : List ℕ → List ℕ
get_text target = request_text (codes "GET") target (codes "localhost") (codes "application/json") []
