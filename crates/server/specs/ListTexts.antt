-- The text of a page of which a beginning is made.
use Rattle.std.specs.Prelude.{◌≡◌, ◌≤◌, ◌<◌, ◌+◌, ℕ, List, ◌∷◌, ◌++◌, Bool, true, length, map, max, take}
use Rattle.serde_json.specs.Data.{Data}
use Rattle.serde_json.specs.Written.{compact_text}
use Rattle.spec_api.specs.History.{Entries}
use Rattle.spec_api.specs.Verbs.{as_item}
use Rattle.object_keys.specs.Keys.{key_of}
use Rattle.pages.specs.PageTexts.{item_texts}
use Rattle.server.specs.declared.items.ItemsStop.{ItemsStop}

-- the first n members as items, after others or as the first
abbrev pub items_left : Bool → ℕ → Entries → List ℕ
items_left later n ms = item_texts later (map (λ m. m.1) (take n ms))

-- what is left of the text: before the items, these, and after them
abbrev pub text_left : List ℕ → Bool → ℕ → Entries → List ℕ → List ℕ
text_left before later n ms closing = before ++ (items_left later n ms ++ closing)

-- how long a text may be for one item more to be added to it
abbrev pub most_ahead : ℕ
most_ahead = 262144

-- the items of the first members, the last of them under the key of the stop, were added to a text, and some are left; the text was not too long for the last
pub record StopsAt (all : Entries) (later : Bool) (n : ℕ) (old new : List ℕ) (stop : ItemsStop) : Type 0 where
  pub before : Entries
  pub object : Data
  pub left : Entries
  pub split : all ≡ before ++ ((key_of stop.key, object) ∷ left)
  pub items : new ++ items_left true stop.left left ≡ old ++ items_left later n all
  pub longer : length old ≤ length new
  pub full : 0 < length new
  pub few : length new ≤ max (length old) most_ahead + (1 + length (compact_text (as_item object)))
