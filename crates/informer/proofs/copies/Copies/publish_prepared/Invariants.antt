use Rattle.informer.specs.Copies.{deltas_waiting}
use Rattle.informer.proofs.copies.Copies.publish_prepared.Given as goal

abbrev pub ghosts-publish_batch : goal.ghosts-publish_batch
ghosts-publish_batch g a = record { deltas = deltas_waiting a.self }
