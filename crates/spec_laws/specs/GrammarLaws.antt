-- What the text of a selector says, by how it is written.
use Rattle.std.specs.Prelude.{◌≡◌, ℕ, List, Some}
use Rattle.spec_laws.specs.SelectorGrammar.{IsSelectorText}
use Rattle.spec_api.specs.SelectorTexts.{selector_of_text}
use Rattle.spec_api.specs.Selectors.{Requirement}

-- a text that is written so says these requirements
abbrev pub WrittenTextsAreRead : Type 0
WrittenTextsAreRead = (t : List ℕ) (rs : List Requirement) → IsSelectorText t rs → selector_of_text t ≡ Some rs

-- and no other text says them
abbrev pub ReadTextsAreWritten : Type 0
ReadTextsAreWritten = (t : List ℕ) (rs : List Requirement) → selector_of_text t ≡ Some rs → IsSelectorText t rs

-- so no text can be read in two ways
abbrev pub TextsAreClear : Type 0
TextsAreClear = (t : List ℕ) (rs ss : List Requirement) → IsSelectorText t rs → IsSelectorText t ss → rs ≡ ss
