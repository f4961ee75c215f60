-- The text of an object as an item of a list, member by member.
use Rattle.std.specs.Prelude.{ℕ, List, [], ◌∷◌, ◌++◌, Bool, true, codes, ◌||◌, bytes_eq, if◌then◌else◌}
use Rattle.serde_json.specs.Data.{Data, string, Members, no_members, member}
use Rattle.serde_json.specs.Written.{comma_if, compact_text}

-- a list says the kind and its version once, for all its items (Kubernetes API Concepts, Collections)
abbrev pub is_said_once : List ℕ → Bool
is_said_once k = bytes_eq k (codes "apiVersion") || bytes_eq k (codes "kind")

-- a member, after others or as the first
abbrev pub member_text : Bool → List ℕ → Data → List ℕ
member_text later k d = comma_if later ++ (compact_text (string k) ++ 58 ∷ compact_text d)

-- what an item shows of a member
abbrev pub shown_text : Bool → List ℕ → Data → List ℕ
shown_text later k d = if is_said_once k then [] else member_text later k d

-- what an item shows of the members, with the closing bracket
abbrev pub item_text : Bool → Members → List ℕ
item_text later no_members = 125 ∷ []
item_text later (member k d ms) = if is_said_once k then item_text later ms else member_text later k d ++ item_text true ms
