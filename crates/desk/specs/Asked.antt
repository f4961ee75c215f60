-- What is asked with a pass, as a relation between what it knew before and after.
use Rattle.std.specs.Prelude.{◌≡◌, ◌⊎◌, ℕ, List, Option, Some, None, Result, Err}
use Rattle.baton.specs.declared.views.Known.{Known}
use Rattle.spec_api.specs.declared.kinds.Kind.{Kind}
use Rattle.spec_api.specs.ListQueries.{ListOptions}
use Rattle.spec_api.specs.History.{Entry, View, Write}
use Rattle.spec_api.specs.Lists.{list_outcome}
use Rattle.spec_api.specs.ObjectRequests.{Request}
use Rattle.spec_api.specs.Refusals.{Refusal, no_memory}
use Rattle.spec_api.specs.Verbs.{Outcome, refused, accept, write_of}
use Rattle.spec_api.specs.Versions.{Listed, Watched, watched_from}
use Rattle.spec_server.specs.Servers.{Server, opened_server}
use Rattle.desk.specs.Histories.{written}
use Rattle.desk.specs.Steps.{Step}
use Rattle.desk.specs.Told.{IsThere}

module _ (may_ask : Request → Type 0) where
  -- the outcome of a request at the history that the pass then sees, with its write
  abbrev pub CallsAt : Known Server Entry → Request → List ℕ → Outcome → Known Server Entry → Type 0
  CallsAt v q moment o w = Step may_ask v (λ h. written (write_of o)) (λ h. (o ≡ accept q h moment) ⊎ (o ≡ refused no_memory)) w

  -- nothing is written, and this is so at the history that the pass then sees, by the size of the windows with which the desk opened
  abbrev pub Sees : (ℕ → List Entry → Type 0) → Known Server Entry → Known Server Entry → Type 0
  Sees is_so v w = (size : ℕ) × (v.opening ≡ Some (opened_server size)) × Step may_ask v (λ h. None) (is_so size) w

  abbrev pub ListsAt : Known Server Entry → View → ListOptions → Outcome → Known Server Entry → Type 0
  ListsAt v view options o w = Sees (λ size h. (o ≡ list_outcome size h view options) ⊎ (o ≡ refused no_memory)) v w

  abbrev pub WatchesAt : Known Server Entry → View → ℕ → ℕ → Result Watched Refusal → Known Server Entry → Type 0
  WatchesAt v view after most r w = Sees (λ size h. (r ≡ watched_from size h view after most) ⊎ (r ≡ Err no_memory)) v w

  abbrev pub BeginsAt : Known Server Entry → View → Option ℕ → Result Listed Refusal → Known Server Entry → Type 0
  BeginsAt v view least l w = Step may_ask v (λ h. None) (λ h. IsThere h view least l) w

module _ {L : Type 0} (hears : Kind → L → L → Type 0) where
  -- a listener hears of the kind of what was written, and of nothing else
  abbrev pub Hears : Option Write → L → L → Type 0
  Hears None l m = m ≡ l
  Hears (Some w) l m = hears w.key.kind l m
