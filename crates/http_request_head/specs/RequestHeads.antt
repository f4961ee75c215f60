-- Heads in the words of connections.
use Rattle.std.specs.Prelude.{map}
use Rattle.spec_http.specs.Heads as words
use Rattle.http_request_head.specs.Fields.{field_seen}
use Rattle.http_request_head.specs.declared.request_head.RequestHead.{RequestHead}

-- a head, as its parts say
abbrev pub head_seen : RequestHead → words.Head
head_seen h = record { method = h.method.now; target = h.target.now; minor = h.minor; fields = map field_seen h.fields.items }
