-- Scopes as the definitions say them.
use Rattle.std.specs.Prelude.{option_map, string_bytes}
use Rattle.request_encoding.specs.Scopes as scopes
use Rattle.request_encoding.specs.Given.{scope_with}
use Rattle.request_encoding.specs.declared.scopes.Scope.{Scope}

abbrev pub scope_of : Scope → scopes.Scope
scope_of s = scope_with (option_map string_bytes s.namespace) (option_map string_bytes s.selector)
