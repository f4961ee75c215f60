-- What a follower does until it stops, and whom it asks and tells meanwhile.
use Rattle.std.specs.Prelude.{◌≡◌, ◌⊎◌, ◌≤◌, ◌+◌, ◌^◌, ℕ, List, [], ◌∷◌, Bool, if◌then◌else◌, Option}
use Rattle.spec_api.specs.declared.kinds.Kind.{Kind}
use Rattle.spec_server.specs.Snapshots.{Snapshot}
use Rattle.spec_client_go.specs.Shifts.{Shift}
use Rattle.api_client.specs.Exchanges.{Exchange}
use Rattle.list_and_watch.specs.Exchanged.{Dealings, MayAsk}
use Rattle.list_and_watch.specs.Followers.{Follower}
use Rattle.list_and_watch.specs.Given.{IsGiven}
use Rattle.list_and_watch.specs.Told.{Told, Step, exchange, give, keep, ask, tell, clock, wait, after_step, after_steps, told_nothing}
use Rattle.list_and_watch.specs.declared.causes.Cause.{Cause}
use Rattle.list_and_watch.specs.declared.onward.Onward.{Onward}
use Rattle.list_and_watch.specs.declared.onward.Onward.TheVariants.{GoOn, Stop}
use Rattle.list_and_watch.specs.declared.tries.Tried.{Tried}
use Rattle.list_and_watch.specs.declared.tries.Tried.TheVariants as tried
use Rattle.list_and_watch.specs.declared.tries.Left.{Left}
use Rattle.list_and_watch.specs.declared.tries.Left.TheVariants as left

-- how often the sink is asked whether the follower goes on
abbrev pub asks_at : Step → ℕ
asks_at (ask onward) = 1
asks_at s = 0

abbrev pub asks_in : List Step → ℕ
asks_in [] = 0
asks_in (s ∷ ss) = asks_at s + asks_in ss

-- ---- a step

-- what a sink is after a step: it takes just the changes that are owed, with the copy after them, or does not take them, or is asked, or hears of another
-- server; of the other steps it is told nothing
abbrev pub IsTold : {S : Type 0} (takes refuses : S → List Shift → Snapshot → Cause → S → Type 0) (answers : S → Onward → S → Type 0) (hears : S → S → Type 0)
    → Step → Told → S → S → Type 0
IsTold takes refuses answers hears give t before after = IsGiven takes t.owed t.follower.informer.published t.cause before after
IsTold takes refuses answers hears keep t before after = IsGiven refuses t.owed t.follower.informer.published t.cause before after
IsTold takes refuses answers hears (ask onward) t before after = answers before onward after
IsTold takes refuses answers hears tell t before after = hears before after
IsTold takes refuses answers hears s t before after = after ≡ before

-- what a server is after a step: it is asked, or told, just what it may be there; of the other steps it knows nothing
abbrev pub IsAsked : {A : Type 0} (exchanges : A → Exchange → A → Type 0) → Kind → Step → Told → A → A → Type 0
IsAsked exchanges k (exchange e memory) t before after = MayAsk k t.follower t.dealings e × exchanges before e after
IsAsked exchanges k s t before after = after ≡ before

-- what a clock is after a step: it is looked at, or it is waited by it
abbrev pub IsTimed : {T : Type 0} (shows : T → ℕ → T → Type 0) (waits : T → ℕ → Onward → T → Type 0) → Step → T → T → Type 0
IsTimed shows waits (clock n) before after = shows before n after
IsTimed shows waits (wait n onward) before after = waits before n onward after
IsTimed shows waits s before after = after ≡ before

-- what a sink, a server and a clock are after a step
abbrev pub Does : {S A T : Type 0} (takes refuses : S → List Shift → Snapshot → Cause → S → Type 0) (answers : S → Onward → S → Type 0) (hears : S → S → Type 0)
    (exchanges : A → Exchange → A → Type 0) (shows : T → ℕ → T → Type 0) (waits : T → ℕ → Onward → T → Type 0) → Kind → Step → Told → S × A × T → S × A × T → Type 0
Does takes refuses answers hears exchanges shows waits k s t before after =
    IsTold takes refuses answers hears s t before.0 after.0 × IsAsked exchanges k s t before.1 after.1 × IsTimed shows waits s before.2 after.2

-- a step by which no time passes
abbrev pub IsUntimed : Step → Type 0
IsUntimed (clock n) = ⊥
IsUntimed (wait n onward) = ⊥
IsUntimed s = Unit {0}

-- and by which nothing is asked
abbrev pub IsOwn : Step → Type 0
IsOwn (exchange e memory) = ⊥
IsOwn (clock n) = ⊥
IsOwn (wait n onward) = ⊥
IsOwn s = Unit {0}

-- what a sink and a server are after a step by which no time passes
abbrev pub Deals : {S A : Type 0} (takes refuses : S → List Shift → Snapshot → Cause → S → Type 0) (answers : S → Onward → S → Type 0) (hears : S → S → Type 0)
    (exchanges : A → Exchange → A → Type 0) → Kind → Step → Told → S × A → S × A → Type 0
Deals takes refuses answers hears exchanges k s t before after =
    IsUntimed s × IsTold takes refuses answers hears s t before.0 after.0 × IsAsked exchanges k s t before.1 after.1

-- what a sink is after a step by which nothing is asked
abbrev pub Tells : {S : Type 0} (takes refuses : S → List Shift → Snapshot → Cause → S → Type 0) (answers : S → Onward → S → Type 0) (hears : S → S → Type 0)
    → Step → Told → S → S → Type 0
Tells takes refuses answers hears s t before after = IsOwn s × IsTold takes refuses answers hears s t before after

-- ---- steps

-- by what one of them makes of whom it asks and tells
module _ {W : Type 0} (does : Step → Told → W → W → Type 0) where
  abbrev pub AreDone : List Step → Told → W → W → Type 0
  AreDone [] t before after = after ≡ before
  AreDone (s ∷ ss) t before after = (between : W) × does s t before between × AreDone ss (after_step s t) between after

  -- steps lead from one to the other, and the sink is asked so often at least
  pub record HasGone (n : ℕ) (t : Told) (before : W) (u : Told) (after : W) : Type 0 where
    pub steps : List Step
    pub leads : after_steps steps t ≡ u
    pub done : AreDone steps t before after
    pub asked : n ≤ asks_in steps

  -- whatever steps led to the first, further ones lead on to the second
  abbrev pub GoesOn : Told → W → Told → W → Type 0
  GoesOn t before u after = (n : ℕ) (first : Told) (start : W) → HasGone n first start t before → HasGone n first start u after

  -- and the sink is asked
  abbrev pub AsksOnce : Told → W → Told → W → Type 0
  AsksOnce t before u after = (n : ℕ) (first : Told) (start : W) → HasGone n first start t before → HasGone (n + 1) first start u after

  -- whatever is owed, which stays so
  abbrev pub MovesOn : Follower → Dealings → W → Follower → Dealings → W → Type 0
  MovesOn f d before g e after =
      (owed : Option (List Shift)) (cause : Cause)
      → GoesOn (record { follower = f; owed = owed; cause = cause; dealings = d }) before (record { follower = g; owed = owed; cause = cause; dealings = e }) after

  -- a follower whose sink has taken nothing goes on, step by step, until it is told to stop, or the sink was asked more often than anyone counts
  pub record Follows (stops : Type 0) (f : Follower) (before : W) (g : Follower) (after : W) : Type 0 where
    pub steps : List Step
    pub leads : (after_steps steps (told_nothing f)).follower ≡ g
    pub done : AreDone steps (told_nothing f) before after
    pub ends : stops ⊎ (2 ^ 64 ≤ asks_in steps + 1)

-- ---- where it stops

-- a sink has just said that the follower stops
abbrev pub SaysStop : {T : Type 0} → (T → Onward → T → Type 0) → T → Type 0
SaysStop {T = T} answers now = (before : T) × answers before Stop now

-- or what waits between two tries has
abbrev pub WaitsNoMore : {T : Type 0} → (T → ℕ → Onward → T → Type 0) → T → Type 0
WaitsNoMore {T = T} waits now = (before : T) × (milliseconds : ℕ) × waits before milliseconds Stop now

-- this holds where a follower is to stop
abbrev pub WhereStopped : Tried → Type 0 → Type 0
WhereStopped tried.Done so = Unit {0}
WhereStopped tried.Failed so = Unit {0}
WhereStopped tried.Stopped so = so

abbrev pub WhereLeft : Left → Type 0 → Type 0
WhereLeft (left.Ended gave) so = Unit {0}
WhereLeft (left.Cut gave) so = Unit {0}
WhereLeft left.Expired so = Unit {0}
WhereLeft left.Failed so = Unit {0}
WhereLeft left.Stopped so = so

abbrev pub WhereStop : Onward → Type 0 → Type 0
WhereStop GoOn so = Unit {0}
WhereStop Stop so = so

-- this holds where a follower goes on
abbrev pub WhereGoOn : Onward → Type 0 → Type 0
WhereGoOn GoOn so = so
WhereGoOn Stop so = Unit {0}

-- a clock was looked at, and it was waited by it for as long as a server asked to be left alone, or longer
abbrev pub Rests : {T : Type 0} → (T → ℕ → T → Type 0) → (T → ℕ → Onward → T → Type 0) → ℕ → T → Onward → T → Type 0
Rests {T = T} shows waits asked before onward after = (now : ℕ) × (between : T) × (milliseconds : ℕ) × shows before now between × waits between milliseconds onward after × (asked ≤ milliseconds)

-- what came of a publish: the sink took it or not, and said whether the follower goes on
abbrev pub tried_of : Bool → Onward → Tried
tried_of is_given GoOn = if is_given then tried.Done else tried.Failed
tried_of is_given Stop = tried.Stopped
