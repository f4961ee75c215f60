-- Followers step by step, with what is owed to their sinks.
use Rattle.std.specs.Prelude.{ℕ, ◌-◌, Bool, List, [], ◌∷◌, ◌++◌, map, Option, Some, None, option_map}
use Rattle.spec_client_go.specs.Informers.{Informer}
use Rattle.spec_client_go.specs.Shifts.{Shift}
use Rattle.indexer.specs.Shifted.{shift_of}
use Rattle.plain_informer.specs.Appended.{has_list}
use Rattle.api_client.specs.Exchanges.{Exchange}
use Rattle.list_and_watch.specs.Causes.{cause_after}
use Rattle.list_and_watch.specs.Exchanged.{Dealings, idle, closed, noted, after_exchange, dealings_after}
use Rattle.list_and_watch.specs.Followers.{Follower, after_cut, published_unless, owed_after}
use Rattle.list_and_watch.specs.declared.causes.Cause.{Cause}
use Rattle.list_and_watch.specs.declared.causes.Cause.TheVariants.{FirstList, Changes}
use Rattle.list_and_watch.specs.declared.onward.Onward.{Onward}
use Rattle.list_and_watch.specs.declared.owed.Owed.{Owed}

-- a follower, the changes that are owed to its sink, and why they are, and how it stands with the server; where no changes are owed, the cause is the
-- first as long as the sink has taken none
pub record Told : Type 0 where
  pub follower : Follower
  pub owed : Option (List Shift)
  pub cause : Cause
  pub dealings : Dealings

-- a step: the server is asked or told something, and there is memory for what came or not; the watch is left; a publish; what the sink is told: it takes
-- what is owed, it does not take it, it says whether the follower goes on, it hears of another server; and the clock is looked at, or is waited by for so
-- many milliseconds, after which the follower goes on or not
pub data Step : Type 0 where
  exchange : Exchange → Bool → Step
  cut : Step
  publish : Step
  give : Step
  keep : Step
  ask : Onward → Step
  tell : Step
  clock : ℕ → Step
  wait : ℕ → Onward → Step

-- what is published has a cause of its own; changes that the sink has not taken keep theirs
abbrev pub cause_published : Option (List Shift) → Informer → Cause → Cause
cause_published None i cause = cause_after cause (has_list i.pending)
cause_published (Some changes) i cause = cause

-- once changes are taken, the next are not the first
abbrev pub cause_given : Option (List Shift) → Cause → Cause
cause_given None cause = cause
cause_given (Some changes) cause = Changes

-- so many milliseconds less are to be waited
abbrev pub waited : ℕ → Dealings → Dealings
waited n d = record { is_open = d.is_open; milliseconds = d.milliseconds - n; due = d.due }

-- where the sink hears of another server, the server is told nothing of what showed that
abbrev pub after_step : Step → Told → Told
after_step (exchange e memory) t =
    record { follower = after_exchange e memory t.follower; owed = t.owed; cause = t.cause; dealings = dealings_after e memory t.follower t.dealings }
after_step cut t = record { follower = after_cut t.follower; owed = t.owed; cause = t.cause; dealings = closed t.dealings }
after_step publish t =
    record {
      follower = published_unless t.owed t.follower;
      owed = owed_after t.owed t.follower.informer;
      cause = cause_published t.owed t.follower.informer t.cause;
      dealings = t.dealings;
    }
after_step give t = record { follower = t.follower; owed = None; cause = cause_given t.owed t.cause; dealings = t.dealings }
after_step keep t = t
after_step (ask onward) t = t
after_step tell t = record { follower = t.follower; owed = t.owed; cause = t.cause; dealings = noted t.dealings }
after_step (clock n) t = t
after_step (wait n onward) t = record { follower = t.follower; owed = t.owed; cause = t.cause; dealings = waited n t.dealings }

abbrev pub after_steps : List Step → Told → Told
after_steps [] t = t
after_steps (s ∷ ss) t = after_steps ss (after_step s t)

-- the sink of a follower has taken nothing, nothing is owed to it, and nothing was asked
abbrev pub told_nothing : Follower → Told
told_nothing f = record { follower = f; owed = None; cause = FirstList; dealings = idle }

-- the same of what the loop of a follower keeps
abbrev pub told : Follower → Owed → Dealings → Told
told f o d = record { follower = f; owed = option_map (λ v. map shift_of v.items) o.changes; cause = o.cause; dealings = d }

-- the watch that was read is left
abbrev pub told_cut : Follower → Owed → Told
told_cut f o = told (after_cut f) o idle

-- the changes that are owed
abbrev pub owed_in : Option (List Shift) → List Shift
owed_in None = []
owed_in (Some changes) = changes

-- the changes that the sink takes at a step, and at steps, in order
abbrev pub taken_at : Step → Told → List Shift
taken_at give t = owed_in t.owed
taken_at s t = []

abbrev pub taken_in : List Step → Told → List Shift
taken_in [] t = []
taken_in (s ∷ ss) t = taken_at s t ++ taken_in ss (after_step s t)
