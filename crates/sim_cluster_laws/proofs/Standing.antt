-- Where a reflector stands that took in a whole initial stream.
use Rattle.std.proofs.Common.{◌≡◌, ◌≤◌, ◌<◌, inl, inr, ℕ, List, [], ◌∷◌, ◌++◌, length, map, Option, Some, None, refl, sym, ap, ◌∙◌, arith, append-nil}
use Rattle.std.specs.List.{AllByRecursion}
use Rattle.spec_api.specs.declared.kinds.Kind.{Kind}
use Rattle.spec_api.specs.Events.{events}
use Rattle.spec_api.specs.History.{History, Entries, present, list}
use Rattle.spec_api.specs.Reached.{IsReached}
use Rattle.spec_api.specs.Streams.{Line, initial_end, added_lines, frame_of, text_of_lines, IsStream}
use Rattle.spec_client_go.specs.declared.reflectors.End.{End}
use Rattle.spec_client_go.specs.ReadFrames.{Read, reading}
use Rattle.spec_client_go.specs.Reflectors.{Reflector, Course, Fed, none_yet, run, open_run, end_of, held_after, fed_in, all_fed}
use Rattle.spec_laws.specs.SentLaws.{whole}
use Rattle.spec_laws.proofs.AppliedEvents.{lie_between}
use Rattle.spec_laws.proofs.Limited.{limited}
use Rattle.spec_laws.proofs.SentChanges.{changes_told}
use Rattle.spec_laws.proofs.Streamed.{list_ascending}
use Rattle.reflector.specs.Laws.{IsAtStart, IsReadWithin}
use Rattle.reflector.proofs.Cutting.{flat, no_cutting_matters}
use Rattle.reflector.proofs.Opened.{Plays, plays, all_listed, back}
use Rattle.reflector.proofs.Streamed.{all_back}
use Rattle.sim_cluster_laws.proofs.LastLines.{last_line, runs_to}

more_lines : (k : Kind) (a : ℕ) (ms : Entries) (ls : List Line) → length ms < length (map (frame_of k) (added_lines ms ++ initial_end a ∷ ls))
more_lines k a [] ls = omega arith
more_lines k a (m ∷ ms) ls = let rest = more_lines k a ms ls in omega (arith, rest)

held_none : (o : Option End) (xs : List ℕ) → xs ≡ [] → held_after o xs ≡ []
held_none None xs none = none
held_none (Some e) xs none = refl

module _ (h : History) (k : Kind) (a b : ℕ) (ls : List Line) (happened : IsReached h) (forward : a ≤ b) (reached : b ≤ present h) (stream : IsStream h (whole k) a b ls) where
  abbrev ms : Entries
  ms = list h (whole k) a

  abbrev lines : List Line
  lines = added_lines ms ++ initial_end a ∷ ls

  low : b ≤ 9007199254740991
  low = let few : present h ≤ 9007199254740991 = (limited h happened).1 in omega (arith, reached, few)

  closed_at : (last : ℕ) → (open_run k last none_yet (map (frame_of k) lines)).run.revision ≡ last_line a ls
  closed_at last =
      by (plays k a last ms [] none_yet (map (frame_of k) lines) [] ls (all_listed h k a happened) (list_ascending h (whole k) a) refl (omega arith) (omega (arith, forward, low)) (append-nil (map (frame_of k) lines)))
    where
      by : Plays k a last ms ms ls (map (frame_of k) lines) [] (open_run k last none_yet (map (frame_of k) lines)) → (open_run k last none_yet (map (frame_of k) lines)).run.revision ≡ last_line a ls
      by (inl u) = absurd (omega (arith, u.few, more_lines k a ms ls))
      by (inr u) =
          ap (λ (c : Course). c.run.revision) u.is ∙ ap (λ fs. (run k a fs).revision) (sym (append-nil u.then) ∙ u.rest)
          ∙ runs_to k ls a b (events h (whole k) a b) (omega (arith, low)) stream (lie_between h (whole k) a b) (changes_told h k a b happened forward).0

  all_read : (bytes : List ℕ) → AllByRecursion (IsReadWithin k) lines → bytes ≡ text_of_lines k lines → reading bytes ≡ record { events = map (frame_of k) lines; buffered = []; fault = None }
  all_read bytes within e = ap reading e ∙ all_back k lines (back h k a b ls happened forward reached stream within)

-- it names the revision of the last line, and holds nothing of another
pub record StandsAt (r : ℕ) (s : Reflector) : Type 0 where
  pub revision : s.revision ≡ r
  pub holds : s.buffered ≡ []

pub stands : (h : History) (a b : ℕ) (ls : List Line) (s : Reflector) (pieces : List (List ℕ)) → IsReached h → a ≤ b → b ≤ present h → IsStream h (whole s.kind) a b ls
    → AllByRecursion (IsReadWithin s.kind) (added_lines (list h (whole s.kind) a) ++ initial_end a ∷ ls) → IsAtStart s
    → flat pieces ≡ text_of_lines s.kind (added_lines (list h (whole s.kind) a) ++ initial_end a ∷ ls) → StandsAt (last_line a ls) (all_fed s pieces).after
stands h a b ls s pieces happened forward reached stream within at e =
    let k = s.kind in
    let bytes = flat pieces in
    let r = reading (s.buffered ++ bytes) in
    let read : r ≡ record { events = map (frame_of k) (lines h k a b ls happened forward reached stream); buffered = []; fault = None } =
    ap (λ (xs : List ℕ). reading (xs ++ bytes)) at.holds ∙ all_read h k a b ls happened forward reached stream bytes within e in
    let c = open_run k s.revision s.initial r.events in
    let once = no_cutting_matters s pieces at.holds in
    record {
      revision =
          ap (λ (f : Fed). f.after.revision) once ∙ ap (λ p. (fed_in p (s.buffered ++ bytes) s).after.revision) at.streams
          ∙ ap (λ i. (open_run k s.revision i r.events).run.revision) at.initial
          ∙ ap (λ (z : Read). (open_run k s.revision none_yet z.events).run.revision) read
          ∙ closed_at h k a b ls happened forward reached stream s.revision;
      holds =
          ap (λ (f : Fed). f.after.buffered) once ∙ ap (λ p. (fed_in p (s.buffered ++ bytes) s).after.buffered) at.streams
          ∙ held_none (end_of c.run.ended r.fault) r.buffered (ap (λ (z : Read). z.buffered) read);
    }
