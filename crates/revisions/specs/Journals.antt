-- Writes as a history.
use Rattle.std.specs.Prelude.{List, map}
use Rattle.spec_api.specs.History.{History, write}
use Rattle.meta.specs.Writes.{write_of}
use Rattle.meta.specs.declared.writes.Write.{Write}

abbrev pub history_of : List Write → History
history_of ws = map (λ w. write (write_of w)) ws
