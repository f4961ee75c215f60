-- The list that a delta is.
use Rattle.std.specs.Prelude.{Option, Some, None}
use Rattle.spec_client_go.specs.Reflectors as reflectors
use Rattle.spec_client_go.specs.Reflectors.{Delta, replace}
use Rattle.list_and_watch.specs.declared.recognizing.Listed.{Listed}

abbrev pub listed_of : Listed → reflectors.Listed
listed_of l = record { revision = l.revision; objects = l.objects.items }

-- the list in whose place all was put, if that was done
abbrev pub listed_in : Delta → Option reflectors.Listed
listed_in (replace r os) = Some (record { revision = r; objects = os })
listed_in d = None
