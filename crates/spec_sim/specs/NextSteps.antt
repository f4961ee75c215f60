-- What a worker does next in its turn, by the turn alone.
use Rattle.std.specs.Prelude.{List, [], ◌∷◌, length, drop, Bool, true, false, Option, Some, None, option_map, unwrap_or}
use Rattle.std.specs.Option.{option_or}
use Rattle.spec_api.specs.declared.kinds.Kind.{Kind}
use Rattle.spec_api.specs.declared.kinds.Kind.TheVariants as kind
use Rattle.spec_api.specs.Keys.{Key}
use Rattle.spec_client_go.specs.declared.controller.Controller.{Controller}
use Rattle.spec_client_go.specs.declared.controller.Controller.TheVariants.{ReplicaSet, Deployment, Collector}
use Rattle.spec_client_go.specs.Commands.{Command}
use Rattle.spec_sim.specs.Turns.{Turn, Expected, asks, expected, all_accepted, left}

-- ---- the order of a turn

-- what is to be seen: a kind, or whether all pods that were expected have been seen
pub data Sighting : Type 0 where
  of_kind : Kind → Sighting
  of_expectations : Sighting

-- a ReplicaSet's pods are looked at only once it is known whether all that were expected have been seen
abbrev pub order : Controller → List Sighting
order ReplicaSet = of_kind kind.ReplicaSet ∷ of_expectations ∷ of_kind kind.Pod ∷ []
order Deployment = of_kind kind.Deployment ∷ of_kind kind.ReplicaSet ∷ of_kind kind.Pod ∷ []
order Collector = of_kind kind.ConfigMap ∷ of_kind kind.Pod ∷ of_kind kind.ReplicaSet ∷ of_kind kind.Deployment ∷ []

-- what is still to be seen
abbrev pub unseen : Turn → List Sighting
unseen t = drop (length t.sights) (order t.work_key.controller)

-- ---- the next step

-- a look at a kind, the question whether all expected pods have been seen, a live read, what is expected, a command, or the end
pub data NextStep : Type 0 where
  look : Kind → NextStep
  ask_satisfied : NextStep
  read : Key → NextStep
  expect : Expected → NextStep
  issue : Command → NextStep
  finish : NextStep

abbrev pub seeing : Sighting → NextStep
seeing (of_kind k) = look k
seeing of_expectations = ask_satisfied

-- the first of a list
abbrev pub first : {A : Type 0} → List A → Option A
first [] = None
first (a ∷ as') = Some a

-- what the plan makes of pods is expected once, before its first command
abbrev pub expecting : Bool → Option Expected → Option Expected
expecting true e = None
expecting false e = e

-- after an answer that is no acceptance nothing more is issued
abbrev pub issuing : Bool → List Command → Option Command
issuing true cs = first cs
issuing false cs = None

-- first what is to be seen, then what is to be read live, then what is expected, then one command after another, and then the end
abbrev pub next : Turn → NextStep
next t =
    unwrap_or
    (option_or (option_map seeing (first (unseen t)))
    (option_or (option_map read (first (asks t)))
    (option_or (option_map expect (expecting t.has_expected (expected t))) (option_map issue (issuing (all_accepted t.issues) (left t))))))
    finish
