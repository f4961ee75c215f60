-- What came of a connection, and whether it can be a reply.
use Rattle.std.specs.List.{starts_with}
use Rattle.std.specs.Prelude.{ℕ, List, [], ◌∷◌, Bool, ◌||◌, length, take, min, bytes_eq, codes, nat_eq}
use Rattle.kcp_loopback.specs.declared.heard.Heard.{Heard}

-- the stream that is read
abbrev pub stream_of : {R S : Type 0} → Heard R S → S
stream_of h = h.stream

-- bytes may be the beginning of a text, or begin with it: they are the same as far as both go
abbrev pub may_begin : List ℕ → List ℕ → Bool
may_begin text bytes = bytes_eq (take (min (length text) (length bytes)) text) (take (min (length text) (length bytes)) bytes)

-- the first bytes of a reply of HTTP/1.0, as servers of TLS send it to who asks in clear, or of an alert of TLS (RFC 8446, Record Layer)
abbrev pub may_want_tls : List ℕ → Bool
may_want_tls bytes = starts_with nat_eq bytes (codes "HTTP/1.0") || starts_with nat_eq bytes (21 ∷ 3 ∷ [])
