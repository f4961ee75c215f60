use Rattle.spec_api.specs.declared.kinds.Kind.{Kind}
use Rattle.list_and_watch.specs.Exchanged.{watching}
use Rattle.list_and_watch.specs.Given.{StaysSo}
use Rattle.list_and_watch.specs.Gone.{Deals, GoesOn}
use Rattle.list_and_watch.specs.Told.{told}
use Rattle.list_and_watch.proofs.watching.read.Given as goal

abbrev pub invariant-loop : goal.invariant-loop
invariant-loop g l = record {
  goes : (k : Kind) → GoesOn (Deals g.S.Sink.takes g.S.Sink.refuses g.S.Sink.answers g.S.Sink.hears g.A.Api.exchanges k) (told l.fn.follower l.fn.owed watching) (l.fn.sink, l.fn.api)
      (told l.follower l.owed watching) (l.sink, l.api);
  stays : StaysSo g.S.Sink.stays l.fn.sink l.sink;
}
