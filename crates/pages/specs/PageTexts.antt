-- A page of a list, by the objects in it and what it says of itself.
use Rattle.std.specs.Prelude.{ℕ, List, [], ◌∷◌, ◌++◌, Bool, true, false, map, codes}
use Rattle.json.specs.Print.{quoted}
use Rattle.serde_json.specs.Written.{comma_if, compact_text}
use Rattle.serde_json.specs.Data.{Data, string, array, object, no_members, member}
use Rattle.serde_json.specs.View.{items_of}
use Rattle.spec_api.specs.declared.kinds.Kind.{Kind}
use Rattle.spec_api.specs.Kinds.{api_version, kind_text}
use Rattle.spec_api.specs.Verbs.{as_item}

abbrev pub page_data : Kind → List Data → Data → Data
page_data k ds said =
    object
    (member (codes "apiVersion") (string (api_version k))
    (member (codes "items") (array (items_of (map as_item ds))) (member (codes "kind") (string (kind_text k ++ codes "List")) (member (codes "metadata") said no_members))))

-- ---- its text, piece by piece

-- what comes before the items
abbrev pub opening_text : Kind → List ℕ
opening_text k = codes "{\"apiVersion\":" ++ (quoted (api_version k) ++ codes ",\"items\":[")

-- objects as items, after others or as the first
abbrev pub item_texts : Bool → List Data → List ℕ
item_texts later [] = []
item_texts later (d ∷ ds) = comma_if later ++ (compact_text (as_item d) ++ item_texts true ds)

-- what comes after the items
abbrev pub closing_text : Kind → Data → List ℕ
closing_text k said = codes "],\"kind\":" ++ (quoted (kind_text k ++ codes "List") ++ (codes ",\"metadata\":" ++ (compact_text said ++ codes "}")))

abbrev pub page_pieces : Kind → List Data → Data → List ℕ
page_pieces k ds said = opening_text k ++ (item_texts false ds ++ closing_text k said)
