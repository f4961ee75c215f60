use Rattle.baton.specs.Marks.{entries}
use Rattle.spec_api.specs.Verbs.{write_of, accept}
use Rattle.request_parts.specs.Requests.{request_of}
use Rattle.desk.specs.Desks.{known}
use Rattle.desk.specs.Histories.{written}
use Rattle.desk.proofs.desks.Desk.serve.Given as goal

abbrev pub ghosts-serve_held : goal.ghosts-serve_held
ghosts-serve_held g a = record { entry = written (write_of (accept (request_of a.request) (entries (known a.pass.now).seen) a.moment)) }
