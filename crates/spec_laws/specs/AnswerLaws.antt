-- What a client reads of an answer's text.
use Rattle.std.specs.Prelude.{◌≡◌, ℕ, List, Some}
use Rattle.serde_json.specs.Data.{Data}
use Rattle.serde_json.specs.Read.{read}
use Rattle.serde_json.specs.Written.{compact_text}
use Rattle.spec_api.specs.History.{History}
use Rattle.spec_api.specs.ObjectRequests.{Request, list_objects}
use Rattle.spec_api.specs.Reached.{CanBeRead, IsTimestamp, IsReached}
use Rattle.spec_api.specs.Verbs.{Answer, accept, answered}

-- the text of this data is read as it
abbrev pub IsReadBack : Data → Type 0
IsReadBack d = read (compact_text d) ≡ Some d

-- a request of one object, and not of a list
abbrev pub IsOfObject : Request → Type 0
IsOfObject (list_objects v) = ⊥
IsOfObject q = Unit {0}

-- whoever asked before, what is answered to a request of one object is read back from its text
abbrev pub AnswersAreReadBack : Type 0
AnswersAreReadBack =
    (h : History) (q : Request) (moment : List ℕ) (a : Answer) → IsReached h → CanBeRead q → IsTimestamp moment → IsOfObject q → accept q h moment ≡ answered a
    → IsReadBack a.body
