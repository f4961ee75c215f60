-- What counts of a request's head (RFC 9112, Message Format; RFC 9110, Field Values).
use Rattle.std.specs.Prelude.{ℕ, List, [], ◌∷◌, length, map, Bool, ◌&&◌, nat_lt, true, false, Option, Some, None, codes, if◌then◌else◌, ◌==◌}
use Rattle.std.specs.Char.{is_ascii_digit}
use Rattle.std.specs.List.{list_all, before_first}
use Rattle.std.specs.Str.{bytes_eq, str_eq_ignore_ascii_case}
use Rattle.std.specs.Str.Parse.{digits_value}
use Rattle.httparse.specs.Grammar.{RequestHead, trim_ows}
use Rattle.httparse.specs.Spans.{name_and_value}
use Rattle.spec_api.specs.declared.methods.Method.{Method}
use Rattle.spec_api.specs.declared.methods.Method.TheVariants.{Get, Post, Put, Patch, Delete}

-- the name and the value of a field
abbrev pub Field : Type 0
Field = List ℕ × List ℕ

-- a method, a target, the minor version of HTTP/1, and the fields in order
pub record Head : Type 0 where
  pub method : List ℕ
  pub target : List ℕ
  pub minor : ℕ
  pub fields : List Field

-- what counts of a head as it is written: of a value, what stands between the white space around it (RFC 9112, Field Syntax)
abbrev pub head_of : RequestHead → Head
head_of h = record { method = h.method; target = h.target; minor = h.minor; fields = map name_and_value h.fields }

-- ---- fields

-- the values of the fields of a name, in order; case does not count in names (RFC 9110, Field Names)
abbrev pub values_of : List ℕ → List Field → List (List ℕ)
values_of name [] = []
values_of name (f ∷ fs) = if str_eq_ignore_ascii_case f.0 name then f.1 ∷ values_of name fs else values_of name fs

-- one digit or more, and nothing else
abbrev pub is_number : List ℕ → Bool
is_number t = nat_lt 0 (length t) && list_all is_ascii_digit t

abbrev pub one_number : List ℕ → Option (Option ℕ)
one_number t = if is_number t then Some (Some (digits_value 10 t)) else None

-- none is stated; or one is, by a number; anything else is no length
abbrev pub length_in : List (List ℕ) → Option (Option ℕ)
length_in [] = Some None
length_in (v ∷ []) = one_number v
length_in (v ∷ w ∷ vs) = None

-- the length that a head states of its body, if it states one; nothing where what it states is none (RFC 9110, Content-Length)
abbrev pub stated_length : Head → Option (Option ℕ)
stated_length h = length_in (values_of (codes "content-length") h.fields)

-- whether a head names a transfer coding (RFC 9112, Transfer-Encoding)
abbrev pub has_transfer_coding : Head → Bool
has_transfer_coding h = nat_lt 0 (length (values_of (codes "transfer-encoding") h.fields))

-- a media type without its parameters (RFC 9110, Media Type)
abbrev pub without_parameters : List ℕ → List ℕ
without_parameters t = trim_ows (before_first (λ b. b == 59) t)

abbrev pub first_type : List (List ℕ) → Option (List ℕ)
first_type [] = None
first_type (v ∷ vs) = Some (without_parameters v)

-- the media type of the body, if the head names one; the first counts (RFC 9110, Content-Type)
abbrev pub media_type : Head → Option (List ℕ)
media_type h = first_type (values_of (codes "content-type") h.fields)

-- ---- what the body has to be

-- the methods whose requests have to say how long their bodies are
abbrev pub needs_length : Method → Bool
needs_length Get = false
needs_length Post = true
needs_length Put = true
needs_length Patch = true
needs_length Delete = false

-- JSON, also where no media type is named (Kubernetes API Concepts, Alternate representations of resources); case does not count in
-- media types (RFC 9110, Media Type)
abbrev pub is_json_type : Option (List ℕ) → Bool
is_json_type None = true
is_json_type (Some t) = str_eq_ignore_ascii_case t (codes "application/json")

-- a merge patch (RFC 7396, IANA Considerations)
abbrev pub is_patch_type : Option (List ℕ) → Bool
is_patch_type None = false
is_patch_type (Some t) = str_eq_ignore_ascii_case t (codes "application/merge-patch+json")

-- whether a method takes a body of this media type
abbrev pub takes_type : Method → Option (List ℕ) → Bool
takes_type Get t = true
takes_type Post t = is_json_type t
takes_type Put t = is_json_type t
takes_type Patch t = is_patch_type t
takes_type Delete t = true

-- the method of a name, if it is one that is served; case counts (RFC 9110, Methods)
abbrev pub method_named : List ℕ → Option Method
method_named t =
    if bytes_eq t (codes "GET") then Some Get
    else
    (if bytes_eq t (codes "POST") then Some Post
    else (if bytes_eq t (codes "PUT") then Some Put else (if bytes_eq t (codes "PATCH") then Some Patch else (if bytes_eq t (codes "DELETE") then Some Delete else None))))
