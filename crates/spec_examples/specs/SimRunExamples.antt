-- Worked facts of whole runs, computed from the definitions: what is written for what is read.
use Rattle.std.specs.Prelude.{◌≡◌, [], ◌∷◌, codes}
use Rattle.spec_sim.specs.StepLines.{simulate}
use Rattle.spec_examples.specs.SimTexts.{text, create, created, bad_line, accent}

-- a watch that is cut within a letter goes on where the reflector is, and nothing is lost
abbrev pub LettersAreCut : Type 0
LettersAreCut =
    simulate
    (text
    (codes "config window=4 workers=1" ∷ create (codes "a") [] ∷ codes "list configmaps" ∷ codes "publish configmaps" ∷ create (codes "b") accent ∷ codes "watch configmaps"
    ∷ codes "send configmaps 1" ∷ codes "deliver configmaps 43" ∷ codes "cut configmaps" ∷ codes "watch configmaps" ∷ codes "send configmaps 1" ∷ codes "deliver configmaps all"
    ∷ codes "publish configmaps" ∷ []))
    ≡ text
    (created (codes "a") [] 2 ∷ codes "listed configmaps 2 1" ∷ codes "published configmaps 2 1" ∷ created (codes "b") accent 3 ∷ codes "opened configmaps 2"
    ∷ codes "sent configmaps 1" ∷ codes "fed configmaps 2" ∷ codes "cut configmaps 2" ∷ codes "opened configmaps 2" ∷ codes "sent configmaps 1" ∷ codes "fed configmaps 3"
    ∷ codes "published configmaps 3 2" ∷ [])

-- a watch from below the floor is refused by a frame, after which nothing is sent and a list is asked for
abbrev pub WatchesExpire : Type 0
WatchesExpire =
    simulate
    (text
    (codes "config window=4 workers=1" ∷ create (codes "a") [] ∷ codes "list configmaps" ∷ codes "publish configmaps" ∷ codes "watch configmaps" ∷ create (codes "b") []
    ∷ create (codes "c") [] ∷ create (codes "d") [] ∷ create (codes "e") [] ∷ create (codes "f") [] ∷ codes "send configmaps 1" ∷ codes "send configmaps 1"
    ∷ codes "send configmaps bookmark" ∷ codes "deliver configmaps all" ∷ codes "watch configmaps" ∷ codes "list configmaps" ∷ []))
    ≡ text
    (created (codes "a") [] 2 ∷ codes "listed configmaps 2 1" ∷ codes "published configmaps 2 1" ∷ codes "opened configmaps 2" ∷ created (codes "b") [] 3
    ∷ created (codes "c") [] 4 ∷ created (codes "d") [] 5 ∷ created (codes "e") [] 6 ∷ created (codes "f") [] 7 ∷ codes "sent configmaps 1" ∷ codes "no step" ∷ codes "no step"
    ∷ codes "fed configmaps 2 expired" ∷ codes "no step" ∷ codes "listed configmaps 7 6" ∷ [])

-- a bookmark is sent where no change is left, and not before; a send of none sends none; part of a frame moves nothing, and what
-- follows it does
abbrev pub BookmarksAreSent : Type 0
BookmarksAreSent =
    simulate
    (text
    (codes "send pods 1" ∷ codes "deliver pods 1" ∷ codes "cut pods" ∷ codes "list pods" ∷ codes "list pods" ∷ codes "watch pods" ∷ codes "watch pods" ∷ create (codes "a") []
    ∷ codes "send pods bookmark" ∷ codes "deliver pods 20" ∷ codes "deliver pods all" ∷ codes "deliver pods all" ∷ codes "list configmaps" ∷ codes "watch configmaps"
    ∷ create (codes "b") [] ∷ codes "send configmaps bookmark" ∷ codes "send configmaps 0" ∷ codes "send configmaps 9" ∷ codes "send configmaps bookmark"
    ∷ codes "deliver configmaps all" ∷ []))
    ≡ text
    (codes "no step" ∷ codes "no step" ∷ codes "no step" ∷ codes "listed pods 1 0" ∷ codes "no step" ∷ codes "opened pods 1" ∷ codes "no step" ∷ created (codes "a") [] 2
    ∷ codes "sent pods 1" ∷ codes "fed pods 1" ∷ codes "fed pods 2" ∷ codes "fed pods 2" ∷ codes "listed configmaps 2 1" ∷ codes "opened configmaps 2"
    ∷ created (codes "b") [] 3 ∷ codes "no step" ∷ codes "sent configmaps 0" ∷ codes "sent configmaps 1" ∷ codes "sent configmaps 1" ∷ codes "fed configmaps 3" ∷ [])

-- a restart leaves what has happened at the server, and nothing is published until a list is taken in again
abbrev pub RestartsBeginAnew : Type 0
RestartsBeginAnew =
    simulate
    (text
    (codes "publish configmaps" ∷ create (codes "a") [] ∷ codes "list configmaps" ∷ codes "publish configmaps" ∷ codes "publish configmaps" ∷ codes "watch configmaps" ∷ codes "restart"
    ∷ codes "publish configmaps" ∷ codes "cut configmaps" ∷ codes "list configmaps" ∷ codes "publish configmaps" ∷ []))
    ≡ text
    (codes "no step" ∷ created (codes "a") [] 2 ∷ codes "listed configmaps 2 1" ∷ codes "published configmaps 2 1" ∷ codes "published configmaps 2 1" ∷ codes "opened configmaps 2"
    ∷ codes "restarted" ∷ codes "no step" ∷ codes "no step" ∷ codes "listed configmaps 2 1" ∷ codes "published configmaps 2 1" ∷ [])

-- the first line that is not empty may be a configuration, no later one may; a moment is set without a word
abbrev pub LinesAreAnswered : Type 0
LinesAreAnswered =
    simulate
    (text
    ([] ∷ codes "config window=65537 workers=4" ∷ codes "config window=4 workers=4" ∷ codes "request" ∷ codes "request " ∷ codes "request AT 2027-01-01T00:00:00Z" ∷ []
    ∷ codes "compact 2" ∷ codes "request COMPACT 1" ∷ []))
    ≡ text
    (bad_line ∷ bad_line ∷ bad_line ∷ bad_line
    ∷ codes "504 {\"apiVersion\":\"v1\",\"code\":504,\"kind\":\"Status\",\"message\":\"Timeout: Too large resource version: 2, current: 1\",\"metadata\":{},\"reason\":\"Timeout\",\"status\":\"Failure\"}"
    ∷ codes "200 {\"apiVersion\":\"v1\",\"kind\":\"Status\",\"metadata\":{},\"status\":\"Success\"}" ∷ [])
