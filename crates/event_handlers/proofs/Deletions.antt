-- What a pod with a uid shows by its deletion.
use Rattle.std.proofs.Common.{◌≡◌, ℕ, List, [], ◌∷◌, ◌++◌, map, Option, Some, Result, Ok, Err, IfOk, sym, ap, ◌∙◌, append-nil}
use Rattle.std.specs.Prelude.{flat_map}
use Rattle.serde_json.specs.Data.{Data}
use Rattle.spec_api.specs.Metadata.{uid}
use Rattle.spec_client_go.specs.Boards.{Observation, deletion_observed}
use Rattle.spec_client_go.specs.Expectations.{Owner}
use Rattle.spec_client_go.specs.OwedKeys.{one_of}
use Rattle.spec_sim.specs.PodObservations.{sets_of, deletion}

pub deletion_is : (pod : Data) (u : List ℕ) → uid pod ≡ Some u → map (λ (o : Owner). deletion_observed o u) (sets_of pod) ≡ deletion pod
deletion_is pod u is =
    sym (append-nil (map (λ (o : Owner). deletion_observed o u) (sets_of pod)))
    ∙ sym (ap (λ z. flat_map (λ (v : List ℕ). map (λ (o : Owner). deletion_observed o v) (sets_of pod)) (one_of z)) is)

-- what a result shows, by another name
pub told : {V X : Type 0} (r : Result V X) (seen : V → List Observation) (these those : List Observation) → these ≡ those → IfOk r (λ v. seen v ≡ these) → IfOk r (λ v. seen v ≡ those)
told (Ok v) seen these those same h = h ∙ same
told (Err x) seen these those same h = tt
