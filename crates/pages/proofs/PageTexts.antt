-- The text of a page is its pieces.
use Rattle.std.proofs.Common.{◌≡◌, ℕ, List, [], ◌∷◌, ◌++◌, Bool, true, false, map, Option, codes, refl, sym, ap, ◌∙◌, append_assoc, append-nil}
use Rattle.json.specs.Print.{quoted}
use Rattle.serde_json.specs.Data.{Data, string, array, object, no_members, member}
use Rattle.serde_json.specs.View.{items_of}
use Rattle.serde_json.specs.Written.{comma_if, compact_text, items_text}
use Rattle.serde_json.proofs.OnLiterals.{serde_json_on_literals}
use Rattle.spec_api.specs.declared.kinds.Kind.{Kind}
use Rattle.spec_api.specs.Kinds.{api_version, kind_text}
use Rattle.spec_api.specs.Lists.{page_metadata, page_body}
use Rattle.spec_api.specs.Pages.{Place}
use Rattle.spec_api.specs.History.{Entries}
use Rattle.spec_api.specs.Verbs.{as_item}
use Rattle.meta.specs.Members.{member_of}
use Rattle.meta.specs.declared.lent_members.Member.{Member}
use Rattle.pages.specs.PageTexts.{page_data, opening_text, item_texts, closing_text, page_pieces}

-- the text of an array's items, up to its bracket
items_close : (later : Bool) (ds : List Data) → items_text later (items_of (map as_item ds)) ≡ item_texts later ds ++ codes "]"
unfolding serde_json_on_literals
items_close later [] = refl
items_close later (d ∷ ds) =
    let item = compact_text (as_item d) in
    ap (λ t. comma_if later ++ (item ++ t)) (items_close true ds)
    ∙ ap (λ t. comma_if later ++ t) (sym (append_assoc item (item_texts true ds) (codes "]")))
    ∙ sym (append_assoc (comma_if later) (item ++ item_texts true ds) (codes "]"))

-- its text as it is printed
abbrev printed : Kind → List Data → Data → List ℕ
printed k ds said =
    codes "{\"apiVersion\":" ++ (quoted (api_version k) ++ (codes ",\"items\":[" ++ (items_text false (items_of (map as_item ds))
    ++ (codes ",\"kind\":" ++ (quoted (kind_text k ++ codes "List") ++ (codes ",\"metadata\":" ++ (compact_text said ++ codes "}")))))))

compact_text-page_data : (k : Kind) (ds : List Data) (said : Data) → compact_text (page_data k ds said) ≡ printed k ds said
unfolding serde_json_on_literals
compact_text-page_data k ds said = simp append_assoc

-- pieces grouped in three
in_three : (a v b i n : List ℕ) → a ++ (v ++ (b ++ ((i ++ codes "]") ++ (codes ",\"kind\":" ++ n)))) ≡ (a ++ (v ++ b)) ++ (i ++ (codes "],\"kind\":" ++ n))
unfolding serde_json_on_literals
in_three a v b i n = simp append_assoc

printed_pieces : (k : Kind) (ds : List Data) (said : Data) → printed k ds said ≡ page_pieces k ds said
printed_pieces k ds said =
    let rest = quoted (kind_text k ++ codes "List") ++ (codes ",\"metadata\":" ++ (compact_text said ++ codes "}")) in
    let version = quoted (api_version k) in
    ap (λ i. codes "{\"apiVersion\":" ++ (version ++ (codes ",\"items\":[" ++ (i ++ (codes ",\"kind\":" ++ rest))))) (items_close false ds)
    ∙ in_three (codes "{\"apiVersion\":") version (codes ",\"items\":[") (item_texts false ds) rest

-- the data of members, as items
as_items : (ms : Entries) → map (λ m. as_item m.1) ms ≡ map as_item (map (λ m. m.1) ms)
as_items [] = refl
as_items (m ∷ ms) = ap (λ ds. as_item m.1 ∷ ds) (as_items ms)

-- the text of a page is what comes before its items, these, and what comes after them
pub page_is_pieces : (k : Kind) (r : ℕ) (count : Option ℕ) (ms : Entries) (next : Option Place)
    → compact_text (page_body k r count (record { items = ms; next = next })) ≡ page_pieces k (map (λ m. m.1) ms) (object (page_metadata r count next))
page_is_pieces k r count ms next =
    let said = object (page_metadata r count next) in
    ap
    (λ ds. compact_text (object
    (member (codes "apiVersion") (string (api_version k))
    (member (codes "items") (array (items_of ds)) (member (codes "kind") (string (kind_text k ++ codes "List")) (member (codes "metadata") said no_members))))))
    (as_items ms)
    ∙ compact_text-page_data k (map (λ m. m.1) ms) said
    ∙ printed_pieces k (map (λ m. m.1) ms) said

-- the data of lent members
pub data_of : (ms : List Member) → map (λ m. m.1) (map member_of ms) ≡ map (λ (m : Member). m.object.now.value) ms
data_of [] = refl
data_of (m ∷ ms) = ap (λ ds. m.object.now.value ∷ ds) (data_of ms)

pub lent_page_is_pieces : (k : Kind) (r : ℕ) (count : Option ℕ) (ms : List Member) (next : Option Place)
    → compact_text (page_body k r count (record { items = map member_of ms; next = next })) ≡ page_pieces k (map (λ (m : Member). m.object.now.value) ms) (object (page_metadata r count next))
lent_page_is_pieces k r count ms next =
    page_is_pieces k r count (map member_of ms) next ∙ ap (λ ds. page_pieces k ds (object (page_metadata r count next))) (data_of ms)

-- texts added one after another are one text
pub one_after_another : (a i c : List ℕ) → (([] ++ a) ++ i) ++ c ≡ a ++ (i ++ c)
one_after_another a i c = append_assoc a i c
