use Rattle.expectations.proofs.SeenTexts.{remove-text}
use Rattle.expectations.proofs.expectation.Expectation.see_deleted.Goals as goal

pub returns : goal.returns
returns c = λ i. record {
  creations = c.args.self.now.creations;
  deletions = remove-text c.args.pod.now c.args.self.now.deletions.keys c.remove.new.self.keys c.remove.ensures.updates.1 c.remove.ensures.updates.3 i;
  since = c.args.self.now.since;
}
