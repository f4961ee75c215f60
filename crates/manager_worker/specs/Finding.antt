-- What a live read finds, and what is made of it.
use Rattle.std.specs.Prelude.{◌≡◌, Bool, true, false, Some, None}
use Rattle.http_client.specs.declared.answer.Answer as client
use Rattle.spec_api.specs.Keys.{Key}
use Rattle.spec_api.specs.ObjectRequests as words
use Rattle.spec_sim.specs.Turns.{Turn, with_read}
use Rattle.live_reads.specs.Finding.{FindsOf, can_be}
use Rattle.live_reads.specs.declared.found.FoundObject.{FoundObject}
use Rattle.live_reads.specs.declared.found.FoundObject.TheVariants as found
use Rattle.manager_worker.specs.declared.steps.Progress.{Progress}
use Rattle.manager_worker.specs.declared.steps.Progress.TheVariants as progress

module _ {A : Type 0} (answers : A → words.Request → client.Answer → A → Type 0) where
  abbrev pub FoundIf : Bool → Key → A → FoundObject → A → Type 0
  FoundIf false k before f after = (f ≡ found.Absent) × (after ≡ before)
  FoundIf true k before f after = (a : client.Answer) × answers before (words.get_object k) a after × FindsOf k a f

  -- an object is asked for, once, and what is found is what the answer says; one that cannot be is absent without being asked for
  abbrev pub FoundBy : Key → A → FoundObject → A → Type 0
  FoundBy k before f after = FoundIf (can_be k) k before f after

-- what was found is added to a turn; one that was refused is given up, and where nobody answered the key is to be read again
abbrev pub Adds : FoundObject → Key → Turn → Turn → Progress → Type 0
Adds (found.Present o) k t u p = (p ≡ progress.Went) × (u ≡ with_read (record { key = k; found = Some o.value }) t)
Adds found.Absent k t u p = (p ≡ progress.Went) × (u ≡ with_read (record { key = k; found = None }) t)
Adds found.Refused k t u p = (p ≡ progress.GivenUp) × (u ≡ t)
Adds found.Unanswered k t u p = (p ≡ progress.Again) × (u ≡ t)
