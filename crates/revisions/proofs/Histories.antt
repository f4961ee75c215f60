-- The writes of a history that has nothing else.
use Rattle.std.proofs.Common.{◌≡◌, List, [], ◌∷◌, map, length, refl, ap, ◌∙◌}
use Rattle.std.proofs.lemmas.List.{length-map}
use Rattle.std.specs.Prelude.{Option, Some, None, option_map}
use Rattle.std.specs.Option.{option_copied}
use denote.Ref.{Bor}
use Rattle.meta.specs.declared.stored.StoredObject.{StoredObject}
use Rattle.spec_api.specs.History.{writes}
use Rattle.meta.specs.Writes.{write_of}
use Rattle.meta.specs.declared.writes.Write.{Write}
use Rattle.revisions.specs.Journals.{history_of}

pub writes-history_of : (ws : List Write) → writes (history_of ws) ≡ map write_of ws
writes-history_of [] = refl
writes-history_of (w ∷ ws) = ap (λ vs. write_of w ∷ vs) (writes-history_of ws)

pub length-writes : (ws : List Write) → length (writes (history_of ws)) ≡ length ws
length-writes ws = ap length (writes-history_of ws) ∙ length-map ws write_of

pub value-copied : (o : Option (Bor StoredObject)) → option_map (λ (x : Bor StoredObject). x.now.value) o ≡ option_map (λ (x : StoredObject). x.value) (option_copied o)
value-copied None = refl
value-copied (Some x) = refl
