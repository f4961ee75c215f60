-- Worked facts of runs whose followers begin with streams of initial events, computed from the definitions.
use Rattle.std.specs.Prelude.{◌≡◌, List, ℕ, [], ◌∷◌, ◌++◌, codes}
use Rattle.spec_sim.specs.StepLines.{simulate}
use Rattle.spec_examples.specs.SimTexts.{text, create, created}

-- two objects, and a stream of which both have been delivered
abbrev begun_lines : List (List ℕ)
begun_lines =
    codes "config window=4 workers=1 initial=stream" ∷ create (codes "a") [] ∷ create (codes "b") [] ∷ codes "list configmaps" ∷ codes "stream configmaps" ∷ codes "send configmaps 2"
    ∷ codes "deliver configmaps all" ∷ []

abbrev begun_replies : List (List ℕ)
begun_replies =
    created (codes "a") [] 2 ∷ created (codes "b") [] 3 ∷ codes "no step" ∷ codes "streaming configmaps 3" ∷ codes "sent configmaps 2" ∷ codes "fed configmaps 0" ∷ []

-- nothing is published until the closing bookmark was delivered, and then all that is there
abbrev pub StreamsAreClosed : Type 0
StreamsAreClosed =
    simulate
    (text
    (begun_lines
    ++ codes "publish configmaps" ∷ codes "watch configmaps" ∷ codes "stream configmaps" ∷ codes "send configmaps bookmark" ∷ codes "send configmaps 1" ∷ codes "deliver configmaps all"
    ∷ codes "publish configmaps" ∷ []))
    ≡ text
    (begun_replies
    ++ codes "no step" ∷ codes "no step" ∷ codes "no step" ∷ codes "no step" ∷ codes "sent configmaps 1" ∷ codes "fed configmaps 3" ∷ codes "published configmaps 3 2" ∷ [])

-- what was cut before it was closed is opened again from its start, also after a restart
abbrev pub CutStreamsBeginAgain : Type 0
CutStreamsBeginAgain =
    simulate (text (begun_lines ++ codes "cut configmaps" ∷ codes "stream configmaps" ∷ codes "restart" ∷ codes "list configmaps" ∷ codes "stream configmaps" ∷ []))
    ≡ text (begun_replies ++ codes "cut configmaps 0" ∷ codes "streaming configmaps 3" ∷ codes "restarted" ∷ codes "no step" ∷ codes "streaming configmaps 3" ∷ [])

-- initial lines are written whatever the floor, and nothing else with them; then a window that has moved on is told
abbrev pub InitialLinesAreSent : Type 0
InitialLinesAreSent =
    simulate
    (text
    (codes "config window=1 workers=1 initial=stream" ∷ create (codes "a") [] ∷ codes "stream configmaps" ∷ create (codes "b") [] ∷ create (codes "c") [] ∷ codes "compact 4"
    ∷ codes "send configmaps 1" ∷ codes "send configmaps bookmark" ∷ codes "send configmaps 9" ∷ codes "send configmaps 9" ∷ codes "send configmaps 9" ∷ codes "deliver configmaps all"
    ∷ codes "publish configmaps" ∷ codes "stream configmaps" ∷ []))
    ≡ text
    (created (codes "a") [] 2 ∷ codes "streaming configmaps 2" ∷ created (codes "b") [] 3 ∷ created (codes "c") [] 4
    ∷ codes "200 {\"apiVersion\":\"v1\",\"kind\":\"Status\",\"metadata\":{},\"status\":\"Success\"}" ∷ codes "sent configmaps 1" ∷ codes "no step" ∷ codes "sent configmaps 1"
    ∷ codes "sent configmaps 1" ∷ codes "no step" ∷ codes "fed configmaps 2 expired" ∷ codes "published configmaps 2 1" ∷ codes "streaming configmaps 4" ∷ [])
