-- What whole connections ask, from their first byte to their last.
use Rattle.std.specs.Prelude.{◌≡◌, ℕ, List, [], ◌∷◌, length, replicate, codes, Some, None, Err}
use Rattle.httparse.specs.Grammar.{RequestHead, print_request}
use Rattle.spec_api.specs.declared.methods.Method.TheVariants.{Get, Post}
use Rattle.spec_api.specs.Refusals.{too_large, length_required}
use Rattle.spec_api.specs.Targets.{read_request}
use Rattle.spec_http.specs.Connections.{AsksOnly}
use Rattle.spec_http.specs.HeadExamples.{head, all}

-- the path of a list
abbrev pub pods : List ℕ
pods = codes "/api/v1/pods"

-- a head without its empty line asks nothing, and with it a list; what follows does not count
abbrev pub HeadsEnd : Type 0
HeadsEnd =
    AsksOnly (codes "GET /api/v1/pods HTTP/1.1\r\n") None
    × AsksOnly (codes "GET /api/v1/pods HTTP/1.1\r\n\r\n") (Some (read_request Get pods []))
    × AsksOnly (codes "GET /api/v1/pods HTTP/1.1\r\n\r\nGET /") (Some (read_request Get pods []))

-- half a body asks nothing, a whole one what it says; a head that is refused asks for no body
abbrev pub BodiesAreWaitedFor : Type 0
BodiesAreWaitedFor =
    AsksOnly (codes "POST /api/v1/namespaces/default/configmaps HTTP/1.1\r\nContent-Length: 25\r\n\r\n{\"metadata\":{\"name\":\"a\"}") None
    × AsksOnly (codes "POST /api/v1/namespaces/default/configmaps HTTP/1.1\r\nContent-Length: 25\r\n\r\n{\"metadata\":{\"name\":\"a\"}}") (Some (read_request Post all (codes "{\"metadata\":{\"name\":\"a\"}}")))
    × AsksOnly (codes "POST /api/v1/namespaces/default/configmaps HTTP/1.1\r\nContent-Length: 1048577\r\n\r\n") (Some (Err too_large))
    × AsksOnly (codes "POST /api/v1/namespaces/default/configmaps HTTP/1.1\r\n\r\n") (Some (Err length_required))

-- a head with one field of this many bytes
abbrev pub long : ℕ → RequestHead
long n = head 1 (codes "GET") pods ((codes "A", replicate n 97) ∷ [])

-- a head with this many fields
abbrev pub many : ℕ → RequestHead
many n = head 1 (codes "GET") pods (replicate n (codes "A", codes "b"))

-- heads of 16,384 bytes and 16,385, of 64 fields and 65
abbrev pub LimitsAreExact : Type 0
LimitsAreExact =
    (length (print_request (long 16350)) ≡ 16384)
    × AsksOnly (print_request (long 16350)) (Some (read_request Get pods []))
    × (length (print_request (long 16351)) ≡ 16385)
    × AsksOnly (print_request (long 16351)) (Some (Err too_large))
    × AsksOnly (print_request (many 64)) (Some (read_request Get pods []))
    × AsksOnly (print_request (many 65)) (Some (Err too_large))
