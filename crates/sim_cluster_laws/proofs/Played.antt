-- What one frame does among initial events.
use Rattle.std.proofs.Common.{◌≡◌, ◌≤◌, ℕ, max, nat_le, Bool, true, false, Option, Some, None, is_some, option_map, option_and_then, Ok, refl, ap, subst, arith}
use Rattle.std.proofs.lemmas.Bool.{leb-true}
use Rattle.serde_json.specs.Data.{Data}
use Rattle.spec_api.specs.declared.kinds.Kind.{Kind}
use Rattle.spec_api.specs.declared.frames.FrameKind.{FrameKind}
use Rattle.spec_api.specs.declared.frames.FrameKind.TheVariants.{Added, Modified, Deleted, Bookmark, Error}
use Rattle.spec_api.specs.Frames.{Frame}
use Rattle.spec_client_go.specs.Reflectors.{Shown, shown, Step, put_step, remove_step, is_of, revision, if_reached, marked, is_closing, Initial, played, Opening, under_way, closed, opening, bookmark_opening, opening_by, opening_step}
use Rattle.sim_cluster_laws.specs.StreamingLaws.{IsClosing, IsPlayedBy, IsNoClosing}

-- ---- bookmarks

-- what a marked bookmark is
abbrev Marks : Kind → ℕ → Data → ℕ → Type 0
Marks k last d r = (is_of k d ≡ true) × (revision d ≡ Some r) × (last ≤ r)

reached_by : (b : Bool) (last n r : ℕ) → nat_le last n ≡ b → if_reached last n ≡ Some r → (n ≡ r) × (last ≤ n)
reached_by true last n r m is = ((let same = rw m at is in cc), leb-true last n m)
reached_by false last n r m is = let none = rw m at is in cc

revision_by : (o : Option ℕ) (last r : ℕ) → option_and_then (if_reached last) o ≡ Some r → (o ≡ Some r) × (last ≤ r)
revision_by None last r is = cc
revision_by (Some n) last r is =
    let at = reached_by (nat_le last n) last n r refl is in
    (ap Some at.0, subst (λ z. last ≤ z) at.0 at.1)

marked_by : (b : Bool) (k : Kind) (last : ℕ) (d : Data) (r : ℕ) → is_of k d ≡ b → marked k last d ≡ Some r → Marks k last d r
marked_by true k last d r of is = let at = revision_by (revision d) last r (let some = rw of at is in some) in (of, at.0, at.1)
marked_by false k last d r of is = let none = rw of at is in cc

marks : (k : Kind) (last : ℕ) (d : Data) (r : ℕ) → marked k last d ≡ Some r → Marks k last d r
marks k last d r is = marked_by (is_of k d) k last d r refl is

-- ---- events

-- what the frame makes of the map, where none of the revisions so far is above r
abbrev Goes : FrameKind → Kind → Initial → Data → Initial → Type 0
Goes kind k i d j = (r : ℕ) → j.highest ≤ r → IsPlayedBy kind k r i.members d j.members × (i.highest ≤ r)

shown_goes : (kind : FrameKind) (k : Kind) (i : Initial) (d : Data) (j : Initial) (f : Shown → Step) (o : Option Shown) → shown k d ≡ o
    → opening (option_map (λ s. under_way (played i (f s))) o) ≡ Ok (under_way j) → ((s : Shown) → shown k d ≡ Some s → Goes kind k i d (played i (f s))) → Goes kind k i d j
shown_goes kind k i d j f None shows is goes = cc
shown_goes kind k i d j f (Some s) shows is goes = let same : played i (f s) ≡ j = cc in subst (Goes kind k i d) same (goes s shows)

left_below : (a b r : ℕ) → max a b ≤ r → a ≤ r
left_below a b r le = omega (arith, le)

right_below : (a b r : ℕ) → max a b ≤ r → b ≤ r
right_below a b r le = omega (arith, le)

passed_over : (b : Bool) (k : Kind) (i : Initial) (d : Data) (j : Initial) (o : Option ℕ) → is_closing d ≡ b → marked k 0 d ≡ o → opening (bookmark_opening b k i d) ≡ Ok (under_way j) → Goes Bookmark k i d j
passed_over true k i d j o closes is step = by (marked k i.highest d) step
  where
    by : (m : Option ℕ) → opening (option_map closed m) ≡ Ok (under_way j) → Goes Bookmark k i d j
    by None step = cc
    by (Some r) step = cc
passed_over false k i d j None closes is step = let none = rw is at step in cc
passed_over false k i d j (Some n) closes is step =
    let some = rw is at step in
    let same : i ≡ j = cc in
    let at = marks k 0 d n is in
    subst (Goes Bookmark k i d) same (λ r le. ((closes, at.0, ap is_some at.1, refl), le))

goes_by : (kind : FrameKind) (k : Kind) (i : Initial) (d : Data) (j : Initial) → opening_by kind k i d ≡ Ok (under_way j) → Goes kind k i d j
goes_by Added k i d j is = shown_goes Added k i d j put_step (shown k d) refl is (λ s shows r le. ((s, shows, right_below i.highest s.revision r le, refl), left_below i.highest s.revision r le))
goes_by Modified k i d j is = shown_goes Modified k i d j put_step (shown k d) refl is (λ s shows r le. ((s, shows, right_below i.highest s.revision r le, refl), left_below i.highest s.revision r le))
goes_by Deleted k i d j is = shown_goes Deleted k i d j remove_step (shown k d) refl is (λ s shows r le. ((s, shows, right_below i.highest s.revision r le, refl), left_below i.highest s.revision r le))
goes_by Bookmark k i d j is = passed_over (is_closing d) k i d j (marked k 0 d) refl refl is
goes_by Error k i d j is = cc

pub goes : (k : Kind) (i : Initial) (e : Frame) (j : Initial) → opening_step k i e ≡ Ok (under_way j) → Goes e.kind k i e.object j
goes k i e j is = goes_by e.kind k i e.object j is

-- ---- the closing bookmark

not_closed : (f : Shown → Opening) (o : Option Shown) (r : ℕ) → ((s : Shown) → f s ≡ closed r → ⊥) → opening (option_map f o) ≡ Ok (closed r) → ⊥
not_closed f None r none is = cc
not_closed f (Some s) r none is = none s cc

closing_at : (b : Bool) (k : Kind) (i : Initial) (d : Data) (r : ℕ) → is_closing d ≡ b → opening (bookmark_opening b k i d) ≡ Ok (closed r) → (is_closing d ≡ true) × Marks k i.highest d r
closing_at true k i d r closes step = (closes, marks k i.highest d r (by (marked k i.highest d) step))
  where
    by : (m : Option ℕ) → opening (option_map closed m) ≡ Ok (closed r) → m ≡ Some r
    by None step = cc
    by (Some n) step = let same : n ≡ r = cc in ap Some same
closing_at false k i d r closes step = by (marked k 0 d) step
  where
    by : (m : Option ℕ) → opening (option_map (λ n. under_way i) m) ≡ Ok (closed r) → (is_closing d ≡ true) × Marks k i.highest d r
    by None step = cc
    by (Some n) step = cc

closes_by : (kind : FrameKind) (k : Kind) (i : Initial) (d : Data) (r : ℕ) → opening_by kind k i d ≡ Ok (closed r) → (kind ≡ Bookmark) × (is_closing d ≡ true) × Marks k i.highest d r
closes_by Added k i d r is = absurd (not_closed (λ s. under_way (played i (put_step s))) (shown k d) r (λ s same. cc) is)
closes_by Modified k i d r is = absurd (not_closed (λ s. under_way (played i (put_step s))) (shown k d) r (λ s same. cc) is)
closes_by Deleted k i d r is = absurd (not_closed (λ s. under_way (played i (remove_step s))) (shown k d) r (λ s same. cc) is)
closes_by Bookmark k i d r is = let at = closing_at (is_closing d) k i d r refl is in (refl, at.0, at.1)
closes_by Error k i d r is = cc

pub closes : (k : Kind) (i : Initial) (e : Frame) (r : ℕ) → opening_step k i e ≡ Ok (closed r) → IsClosing k r e × (i.highest ≤ r)
closes k i e r is =
    let at = closes_by e.kind k i e.object r is in
    (record { is_bookmark = at.0; ends = at.1; kind = at.2.0; revision = at.2.1 }, at.2.2)

pub not_both : (k : Kind) (r : ℕ) (e : Frame) → IsClosing k r e → IsNoClosing e → ⊥
not_both k r e is none = let no : is_closing e.object ≡ false = none is.is_bookmark in let yes : is_closing e.object ≡ true = is.ends in cc
