-- What is to be seen, as the definitions have it.
use Rattle.spec_sim.specs.NextSteps as steps
use Rattle.spec_sim.specs.NextSteps.{of_kind, of_expectations}
use Rattle.reconcile_turn.specs.declared.sightings.Sighting.{Sighting}
use Rattle.reconcile_turn.specs.declared.sightings.Sighting.TheVariants.{OfKind, OfExpectations}

abbrev pub sighting_of : Sighting → steps.Sighting
sighting_of (OfKind k) = of_kind k
sighting_of OfExpectations = of_expectations
