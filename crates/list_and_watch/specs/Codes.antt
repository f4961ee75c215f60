-- A code by which models may store followers.
use Rattle.std.specs.Prelude.{refl}
use Rattle.std.specs.Coded.{Coded, code_by, coded×}
use Rattle.spec_client_go.specs.Codes.{coded_reflector}
use Rattle.spec_client_go.specs.InformerCodes.{coded_informer}
use Rattle.spec_client_go.specs.Informers.{Informer}
use Rattle.spec_client_go.specs.Reflectors.{Reflector}
use Rattle.list_and_watch.specs.Followers.{Follower}

abbrev pub coded_follower : Coded Follower
coded_follower = code_by (Reflector × Informer) (coded× coded_reflector coded_informer) (λ f. (f.reflector, f.informer)) (λ p. record { reflector = p.0; informer = p.1 }) (λ _. refl)
