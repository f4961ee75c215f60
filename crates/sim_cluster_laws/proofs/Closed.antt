-- Frames that can be played, and then a closing bookmark, give the whole map.
use Rattle.std.proofs.Common.{◌≡◌, ◌≤◌, ℕ, nat_le, List, [], ◌∷◌, ◌++◌, true, Option, Some, None, is_some, option_map, option_and_then, Ok, refl, sym, ap, ◌∙◌, subst, arith}
use Rattle.std.proofs.Math.Nat.{max-le}
use Rattle.serde_json.specs.Data.{Data}
use Rattle.spec_api.specs.declared.kinds.Kind.{Kind}
use Rattle.spec_api.specs.declared.frames.FrameKind.{FrameKind}
use Rattle.spec_api.specs.declared.frames.FrameKind.TheVariants.{Added, Modified, Deleted, Bookmark, Error}
use Rattle.spec_api.specs.Frames.{Frame}
use Rattle.spec_api.specs.History.{Entries}
use Rattle.spec_client_go.specs.Reflectors.{put_step, remove_step, replace, objects_of, run, is_of, revision, if_reached, marked, Initial, played, under_way, closed, opening, bookmark_opening, opening_by, opening_step, opens_on, open_run, fed_in}
use Rattle.sim_cluster_laws.specs.StreamingLaws.{IsClosing, IsPlayedBy, ArePlayed, ClosingsAreGiven}

-- ---- one frame

reached : (last n : ℕ) → last ≤ n → if_reached last n ≡ Some n
reached last n le = let b : nat_le last n ≡ true = grind arith in rw b refl

marked_is : (k : Kind) (last : ℕ) (d : Data) (n : ℕ) → is_of k d ≡ true → revision d ≡ Some n → last ≤ n → marked k last d ≡ Some n
marked_is k last d n of names le = rw of (ap (option_and_then (if_reached last)) names ∙ reached last n le)

some_of : (o : Option ℕ) → is_some o ≡ true → (n : ℕ) × (o ≡ Some n)
some_of None is = cc
some_of (Some n) is = (n, refl)

-- a frame that can be played is, and none is above r then
abbrev Goes : FrameKind → Kind → ℕ → Data → Initial → Entries → Type 0
Goes kind k r d i next = (j : Initial) × (opening_by kind k i d ≡ Ok (under_way j)) × (j.members ≡ next) × (j.highest ≤ r)

goes_on : (kind : FrameKind) (k : Kind) (r : ℕ) (d : Data) (i : Initial) (next : Entries) → IsPlayedBy kind k r i.members d next → i.highest ≤ r → Goes kind k r d i next
goes_on Added k r d i next p low = (played i (put_step p.0), ap (λ o. opening (option_map (λ s. under_way (played i (put_step s))) o)) p.1, sym p.3, max-le low p.2)
goes_on Modified k r d i next p low = (played i (put_step p.0), ap (λ o. opening (option_map (λ s. under_way (played i (put_step s))) o)) p.1, sym p.3, max-le low p.2)
goes_on Deleted k r d i next p low = (played i (remove_step p.0), ap (λ o. opening (option_map (λ s. under_way (played i (remove_step s))) o)) p.1, sym p.3, max-le low p.2)
goes_on Bookmark k r d i next p low =
    let names = some_of (revision d) p.2 in (
      i,
      ap (λ b. opening (bookmark_opening b k i d)) p.0 ∙ ap (λ o. opening (option_map (λ n. under_way i) o)) (marked_is k 0 d names.0 p.1 names.1 (omega arith)),
      sym p.3,
      low,
    )
goes_on Error k r d i next p low = absurd p

closing_is : (k : Kind) (i : Initial) (e : Frame) (r : ℕ) → IsClosing k r e → i.highest ≤ r → opening_step k i e ≡ Ok (closed r)
closing_is k i e r is low =
    ap (λ kind. opening_by kind k i e.object) is.is_bookmark ∙ ap (λ b. opening (bookmark_opening b k i e.object)) is.ends
    ∙ ap (λ o. opening (option_map closed o)) (marked_is k i.highest e.object r is.kind is.revision low)

-- ---- frames

opened_by : (k : Kind) (last : ℕ) (before : List Frame) (i : Initial) (e : Frame) (later : List Frame) (r : ℕ) (ms : Entries) → ArePlayed k r i.members before ms → IsClosing k r e → i.highest ≤ r
    → (open_run k last i (before ++ e ∷ later)).run.deltas ≡ replace r (objects_of ms) ∷ (run k r later).deltas
opened_by k last [] i e later r ms p is low =
    ap (λ o. (opens_on last i (λ j. open_run k last j later) (λ q. run k q later) o).run.deltas) (closing_is k i e r is low) ∙ ap (λ es. replace r (objects_of es) ∷ (run k r later).deltas) p
opened_by k last (f ∷ before) i e later r ms p is low =
    let g = goes_on f.kind k r f.object i p.0 p.1 low in
    ap (λ o. (opens_on last i (λ j. open_run k last j (before ++ e ∷ later)) (λ q. run k q (before ++ e ∷ later)) o).run.deltas) g.1
    ∙ opened_by k last before g.0 e later r ms (subst (λ es. ArePlayed k r es before ms) (sym g.2) p.2) is g.3

pub closings_given : ClosingsAreGiven
closings_given s piece before later e r ms streams read p is low =
    ap (λ z. (fed_in z (s.buffered ++ piece) s).deltas) streams ∙ ap (λ es. (open_run s.kind s.revision s.initial es).run.deltas) read
    ∙ opened_by s.kind s.revision before s.initial e later r ms p is low
