-- The texts that code makes, as a server reads them.
use Rattle.std.specs.Prelude.{◌≡◌, string_bytes}
use Rattle.spec_api.specs.ObjectRequests.{Request}
use Rattle.spec_api.specs.Targets.{read_request}
use Rattle.request_encoding.specs.Texts.{taken}
use Rattle.request_encoding.specs.declared.text.RequestText.{RequestText}

-- a server that is asked by these texts takes them for the request
abbrev pub Asks : Request → RequestText → Type 0
Asks q t = read_request t.method (string_bytes t.target) (string_bytes t.body) ≡ taken q (string_bytes t.body)
