-- Watches, read to their end.
use Rattle.std.proofs.Common.{◌≡◌, ℕ, List, [], Option, None, take, ap, subst}
use Rattle.chunked.specs.Reading.{Reaches, place_of, answered_fault, left_of}
use Rattle.chunked.specs.declared.place.BodyPlace.TheVariants as place
use Rattle.chunked.specs.declared.reader.Reader.{Reader}
use Rattle.http_client.specs.Watches.{IsMore}
use Rattle.http_client.specs.declared.more.More.TheVariants as more

-- nothing more was read of a watch, which has ended
pub ended_there : {R : Type 0} → (remaining : R → Option (List ℕ)) (old new : Reader R) (buf : List ℕ) (n : ℕ) → n ≡ 0
    → Reaches (place_of old) (left_of remaining old) (take n buf) (place_of new) (left_of remaining new) → place_of new ≡ place.Ended → answered_fault new ≡ None
    → IsMore remaining old new buf more.End
ended_there remaining old new buf n zero reaches ended sound =
    let nothing : take n buf ≡ [] = ap (λ k. take k buf) zero in
    let here = subst (λ p. Reaches (place_of old) (left_of remaining old) (take n buf) p (left_of remaining new)) ended reaches in
    (subst (λ t. Reaches (place_of old) (left_of remaining old) t place.Ended (left_of remaining new)) nothing here, ended, sound)
