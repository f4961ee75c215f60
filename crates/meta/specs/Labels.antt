-- What is stored of an object's labels.
use Rattle.std.specs.Prelude.{ℕ, List, [], ◌∷◌, Option, Some, None, option_map, string_bytes, if◌then◌else◌}
use Rattle.std.specs.Str.{bytes_eq}
use Rattle.serde_json.specs.Data.{Members, no_members, member}
use Rattle.serde_json.specs.Find.{as_str}
use Rattle.meta.specs.declared.labels.Label.{Label}

-- each member's name, and its text where it is one
abbrev pub labels_in : Members → List (List ℕ × Option (List ℕ))
labels_in no_members = []
labels_in (member k d ms) = (k, as_str d) ∷ labels_in ms

-- where an object has no labels, none
abbrev pub labels_of : Option Members → List (List ℕ × Option (List ℕ))
labels_of None = []
labels_of (Some ms) = labels_in ms

-- the text of the first label of a name
abbrev pub label_text : List ℕ → List (List ℕ × Option (List ℕ)) → Option (List ℕ)
label_text k [] = None
label_text k (l ∷ ls) = if bytes_eq l.0 k then l.1 else label_text k ls

-- a label by its bytes
abbrev pub label_of : Label → List ℕ × Option (List ℕ)
label_of l = (string_bytes l.name, option_map string_bytes l.text)
