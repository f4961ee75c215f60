-- What a sink is told, and where a follower stops.
use Rattle.std.proofs.Common.{◌≡◌, inl, inr, ◌+◌, ◌-◌, ◌^◌, ◌≤◌, ℕ, Bool, true, false, List, map, None, option_map, OnOk, OnErr, Result, Ok, Err, nat_lt, not, cond, refl, sym, ap, subst, arith}
use Rattle.spec_api.specs.declared.kinds.Kind.{Kind}
use Rattle.spec_server.specs.Snapshots.{Snapshot}
use Rattle.spec_client_go.specs.Shifts.{Shift}
use Rattle.indexer.specs.Shifted.{shift_of}
use Rattle.http_client.specs.declared.more.More.{More}
use Rattle.http_client.specs.declared.more.More.TheVariants as more
use Rattle.api_client.specs.Exchanges.{Exchange, milliseconds_at}
use Rattle.api_client.specs.declared.opened.Opened.{Opened}
use Rattle.api_client.specs.declared.opened.Opened.TheVariants as opened
use Rattle.list_and_watch.specs.Answered.{over, tried_after}
use Rattle.list_and_watch.specs.Exchanged.{Dealings, at_opened, idle, left_for, closed}
use Rattle.list_and_watch.specs.Followers.{Follower, after_cut, published_unless, owed_after}
use Rattle.list_and_watch.specs.Given.{IsGiven}
use Rattle.list_and_watch.specs.Gone.{Does, Tells, HasGone, GoesOn, MovesOn, Follows, Rests, SaysStop, WhereStopped, WhereLeft, tried_of}
use Rattle.list_and_watch.specs.Told.{Told, Step, cut, publish, give, keep, clock, wait, cause_published, cause_given, told, told_cut, told_nothing}
use Rattle.list_and_watch.specs.declared.causes.Cause.{Cause}
use Rattle.list_and_watch.specs.declared.causes.Cause.TheVariants.{FirstList}
use Rattle.list_and_watch.specs.declared.onward.Onward.{Onward}
use Rattle.list_and_watch.specs.declared.onward.Onward.TheVariants.{GoOn, Stop}
use Rattle.list_and_watch.specs.declared.owed.Owed.{Owed}
use Rattle.list_and_watch.specs.declared.tries.Left.{Left}
use Rattle.list_and_watch.specs.declared.tries.Left.TheVariants as left
use Rattle.list_and_watch.specs.declared.tries.Tried.{Tried}
use Rattle.list_and_watch.specs.declared.tries.Tried.TheVariants as tried
use Rattle.list_and_watch.proofs.Joined.{goes, goes_both, begins, still}

-- ---- a publish, and what is owed

module _ {S : Type 0} (takes refuses : S → List Shift → Snapshot → Cause → S → Type 0) (answers : S → Onward → S → Type 0) (hears : S → S → Type 0) where
  pub publishes : {X Y : Type 0} (r : Result X Y) (f g : Follower) (o p : Owed) (d : Dealings) (b : S)
      → OnOk r (g ≡ published_unless (option_map (λ v. map shift_of v.items) o.changes) f)
      → OnOk r (option_map (λ v. map shift_of v.items) p.changes ≡ owed_after (option_map (λ v. map shift_of v.items) o.changes) f.informer)
      → OnOk r (p.cause ≡ cause_published (option_map (λ v. map shift_of v.items) o.changes) f.informer o.cause)
      → OnErr r ((g ≡ f) × (p ≡ o))
      → GoesOn (Tells takes refuses answers hears) (told f o d) b (told g p d) b
  publishes (Ok x) f g o p d b is owed same none =
      goes (Tells takes refuses answers hears) publish (told f o d) (told g p d) b b (sym (λ i. record { follower = is i; owed = owed i; cause = same i; dealings = d })) (tt, refl)
  publishes (Err e) f g o p d b is owed same none = still (Tells takes refuses answers hears) (told f o d) (told g p d) b (λ i. told (none.0 i) (none.1 i) d)

  pub gives : {X Y : Type 0} (r : Result X Y) (f : Follower) (m : Snapshot) (o p : Owed) (d : Dealings) (b c : S)
      → m ≡ f.informer.published
      → OnOk r (IsGiven takes (option_map (λ v. map shift_of v.items) o.changes) m o.cause b c)
      → OnOk r (p.changes ≡ None)
      → OnOk r (p.cause ≡ cause_given (option_map (λ v. map shift_of v.items) o.changes) o.cause)
      → OnErr r (IsGiven refuses (option_map (λ v. map shift_of v.items) o.changes) m o.cause b c)
      → OnErr r (p ≡ o)
      → GoesOn (Tells takes refuses answers hears) (told f o d) b (told f p d) c
  gives (Ok x) f m o p d b c copy given taken first kept same =
      goes (Tells takes refuses answers hears) give (told f o d) (told f p d) b c
      (sym (λ i. record { follower = f; owed = option_map (λ v. map shift_of v.items) (taken i); cause = first i; dealings = d }))
      (tt, subst (λ x. IsGiven takes (option_map (λ v. map shift_of v.items) o.changes) x o.cause b c) copy given)
  gives (Err e) f m o p d b c copy given taken first kept same =
      goes_both (Tells takes refuses answers hears) (told f o d) (told f o d) (told f p d) b c c
      (goes (Tells takes refuses answers hears) keep (told f o d) (told f o d) b c refl (tt, subst (λ x. IsGiven refuses (option_map (λ v. map shift_of v.items) o.changes) x o.cause b c) copy kept))
      (still (Tells takes refuses answers hears) (told f o d) (told f p d) c (λ i. told f (same i) d))

-- ---- whatever is owed: also what the loop keeps

pub at_owed : {W : Type 0} (does : Step → Told → W → W → Type 0) (f g : Follower) (o : Owed) (d e : Dealings) (a b : W) → MovesOn does f d a g e b → GoesOn does (told f o d) a (told g o e) b
at_owed does f g o d e a b moved = moved (option_map (λ v. map shift_of v.items) o.changes) o.cause

-- the watch that was read is left
pub leaves_watch : {W : Type 0} (does : Step → Told → W → W → Type 0) (f : Follower) (o : Owed) (d : Dealings) (b : W) → does cut (told f o d) b b → closed d ≡ idle → GoesOn does (told f o d) b (told_cut f o) b
leaves_watch does f o d b so is = goes does cut (told f o d) (told_cut f o) b b (ap (λ x. told (after_cut f) o x) is) so

-- ---- the clock

module _ {S A T : Type 0} (takes refuses : S → List Shift → Snapshot → Cause → S → Type 0) (answers : S → Onward → S → Type 0) (hears : S → S → Type 0) (exchanges : A → Exchange → A → Type 0) (shows : T → ℕ → T → Type 0) (waits : T → ℕ → Onward → T → Type 0) (k : Kind) where
  pub looks : (n : ℕ) (t : Told) (b : S) (p : A) (x y : T) → shows x n y → GoesOn (Does takes refuses answers hears exchanges shows waits k) t (b, p, x) t (b, p, y)
  looks n t b p x y shown = goes (Does takes refuses answers hears exchanges shows waits k) (clock n) t t (b, p, x) (b, p, y) refl (refl, refl, shown)

  -- a server is left alone for as long as it asked
  pub rests : (asked : ℕ) (f : Follower) (o : Owed) (onward : Onward) (b : S) (p : A) (x y : T) → Rests shows waits asked x onward y
      → GoesOn (Does takes refuses answers hears exchanges shows waits k) (told f o (left_for asked)) (b, p, x) (told f o idle) (b, p, y)
  rests asked f o onward b p x y (now, between, n, shown, waited_so, long) =
      let none : asked - n ≡ 0 = omega (arith, long) in
      goes_both (Does takes refuses answers hears exchanges shows waits k) (told f o (left_for asked)) (told f o (left_for asked)) (told f o idle) (b, p, x) (b, p, between) (b, p, y)
      (looks now (told f o (left_for asked)) b p x between shown)
      (goes (Does takes refuses answers hears exchanges shows waits k) (wait n onward) (told f o (left_for asked)) (told f o idle) (b, p, between) (b, p, y) (ap (λ m. told f o (left_for m)) none) (refl, refl, waited_so))

-- ---- the whole

module _ {W : Type 0} (does : Step → Told → W → W → Type 0) where
  nothing_told : (f : Follower) (o : Owed) → o.changes ≡ None → o.cause ≡ FirstList → told_nothing f ≡ told f o idle
  nothing_told f o none first = sym (λ i. record { follower = f; owed = option_map (λ v. map shift_of v.items) (none i); cause = first i; dealings = idle })

  pub begins_owed : (f : Follower) (o : Owed) (b : W) → o.changes ≡ None → o.cause ≡ FirstList → HasGone does 0 (told_nothing f) b (told f o idle) b
  begins_owed f o b none first = subst (λ t. HasGone does 0 (told_nothing f) b t b) (nothing_told f o none first) (begins does (told_nothing f) b)

  pub stopped : (n : ℕ) (stops : Type 0) (f g : Follower) (o : Owed) (d : Dealings) (b c : W) → stops → HasGone does n (told_nothing f) b (told g o d) c → Follows does stops f b g c
  stopped n stops f g o d b c so h = record { steps = h.steps; leads = ap (λ (t : Told). t.follower) h.leads; done = h.done; ends = inl so }

  pub tried_out : (n : ℕ) (stops : Type 0) (f g : Follower) (o : Owed) (d : Dealings) (b c : W) → 2 ^ 64 ≤ n + 1 → HasGone does n (told_nothing f) b (told g o d) c → Follows does stops f b g c
  tried_out n stops f g o d b c all h = let asked = h.asked in record { steps = h.steps; leads = ap (λ (t : Told). t.follower) h.leads; done = h.done; ends = inr (omega arith) }

-- ---- what was not opened

pub unopened_left : (o : Opened) → (o ≡ opened.Open → ⊥) → at_opened o ≡ left_for (milliseconds_at o)
unopened_left opened.Open not = absurd (not refl)
unopened_left opened.Expired not = refl
unopened_left (opened.Refused code seconds) not = refl
unopened_left opened.Lost not = refl

pub unstopped : (t : Tried) (so : Type 0) → (t ≡ tried.Stopped → ⊥) → WhereStopped t so
unstopped tried.Done so not = tt
unstopped tried.Failed so not = tt
unstopped tried.Stopped so not = absurd (not refl)

-- ---- where it stops

pub stops_tried : (given : Bool) (o : Onward) {T : Type 0} (answers : T → Onward → T → Type 0) (b c : T) → answers b o c → WhereStopped (tried_of given o) (SaysStop answers c)
stops_tried true GoOn answers b c so = tt
stops_tried false GoOn answers b c so = tt
stops_tried given Stop answers b c so = (b, so)

pub stops_as : {T : Type 0} (r : Tried) (given : Bool) (o : Onward) (answers : T → Onward → T → Type 0) (b c : T) → r ≡ tried_of given o → answers b o c → WhereStopped r (SaysStop answers c)
stops_as r given o answers b c is so = subst (λ x. WhereStopped x (SaysStop answers c)) (sym is) (stops_tried given o answers b c so)

pub stops_over : (m : More) (gave : Bool) (so : Type 0) → WhereLeft (over m gave) so
stops_over more.End gave so = tt
stops_over (more.Bytes n) gave so = tt
stops_over more.Cut gave so = tt

in_time : (t : Bool) (so : Type 0) → WhereStopped (cond t tried.Failed tried.Done) so
in_time true so = tt
in_time false so = tt

pub stops_after : (l : Left) (n : ℕ) (so : Type 0) → WhereLeft l so → WhereStopped (tried_after l n) so
stops_after (left.Ended true) n so at = tt
stops_after (left.Ended false) n so at = in_time (nat_lt n 1000) so
stops_after (left.Cut true) n so at = tt
stops_after (left.Cut false) n so at = in_time (nat_lt n 1000) so
stops_after left.Expired n so at = tt
stops_after left.Failed n so at = tt
stops_after left.Stopped n so at = at

pub stops_left : (r : Tried) (l : Left) (n : ℕ) (so : Type 0) → r ≡ tried_after l n → WhereLeft l so → WhereStopped r so
stops_left r l n so is at = subst (λ x. WhereStopped x so) (sym is) (stops_after l n so at)
