use Rattle.std.proofs.Common.{◌≡◌, ◌∙◌, ap, sym, map}
use Rattle.spec_client_go.specs.Boards.{deletion_observed}
use Rattle.work_board.specs.Seen.{observation_of}
use Rattle.spec_client_go.specs.Expectations.{Owner}
use Rattle.spec_sim.specs.PodObservations.{sets_of, deletion}
use Rattle.event_handlers.proofs.Deletions.{deletion_is, told}
use Rattle.event_handlers.proofs.showing.deletion.Goals as goal

pub returns-in_ok-sets_of-in-Some : goal.returns-in_ok-sets_of-in-Some
returns-in_ok-sets_of-in-Some c =
    let pod = c.args.pod.now.value in
    let by_uid = map (λ (o : Owner). deletion_observed o c.in-Some.uid.now) in
    told c.deletions.result (λ v. map observation_of v.items) _ (deletion pod) (ap by_uid c.in_ok-sets_of-in-Some.ensures ∙ deletion_is pod c.in-Some.uid.now (sym c.in-Some.ensures)) c.deletions.ensures
