-- Lines written after others.
use Rattle.std.proofs.Common.{◌≡◌, ℕ, List, [], ◌∷◌, ◌++◌, map, refl, sym, ap, ◌∙◌, append_assoc}
use Rattle.std.specs.List.{AllByRecursion}
use Rattle.spec_api.specs.declared.kinds.Kind.{Kind}
use Rattle.spec_api.specs.Events.{Event}
use Rattle.spec_api.specs.Frames.{frame_text}
use Rattle.spec_api.specs.Streams.{Line, event, AreEventsWithBookmarks, frame_of, text_of_lines}

pub texts : (k : Kind) (ls ms : List Line) → text_of_lines k (ls ++ ms) ≡ text_of_lines k ls ++ text_of_lines k ms
texts k [] ms = refl
texts k (l ∷ ls) ms = ap (λ t. frame_text (frame_of k l) ++ t) (texts k ls ms) ∙ sym (append_assoc (frame_text (frame_of k l)) (text_of_lines k ls) (text_of_lines k ms))

pub all_two : (P : Line → Type 0) (ls ms : List Line) → AllByRecursion P ls → AllByRecursion P ms → AllByRecursion P (ls ++ ms)
all_two P [] ms a b = b
all_two P (l ∷ ls) ms a b = (a.0, all_two P ls ms a.1 b)

pub events_alone : (at b : ℕ) (cs : List Event) → AreEventsWithBookmarks at b cs (map event cs)
events_alone at b [] = tt
events_alone at b (c ∷ cs) = (refl, events_alone c.revision b cs)
