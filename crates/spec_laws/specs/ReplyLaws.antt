-- What lists and their pages are answered, and what a reader makes of it.
use Rattle.std.specs.Prelude.{◌≡◌, ℕ, List, [], ◌∷◌, ◌++◌, map, Option, Some, None, option_and_then, unwrap_or, IfSome, Ok, decimal, codes}
use Rattle.std.specs.List.{AllByRecursion}
use Rattle.serde_json.specs.Data.{Data, Items, no_items, item}
use Rattle.serde_json.specs.Find.{get, as_array}
use Rattle.serde_json.specs.Read.{read}
use Rattle.serde_json.specs.View.{items_of}
use Rattle.serde_json.specs.Written.{compact_text}
use Rattle.spec_api.specs.declared.kinds.Kind.{Kind}
use Rattle.spec_api.specs.declared.versions.At.{At}
use Rattle.spec_api.specs.declared.versions.At.TheVariants.{Present, NotOlder, Exact}
use Rattle.spec_api.specs.ListQueries.{ListOptions, going_on}
use Rattle.spec_api.specs.History.{History, View, Entries, writes, present, list}
use Rattle.spec_api.specs.Lists.{list_outcome, page_body}
use Rattle.spec_api.specs.Metadata.{metadata_text}
use Rattle.spec_api.specs.Reached.{IsReached}
use Rattle.spec_api.specs.PageTokens.{token_of}
use Rattle.spec_client_go.specs.Reflectors.{list_of}
use Rattle.spec_api.specs.Verbs.{as_item, list_body, accept, outcome_code, outcome_body}
use Rattle.spec_api.specs.ObjectRequests.{list_objects}
use Rattle.spec_laws.specs.SentLaws.{whole, listed_at}

-- ---- one list

-- a list without limit, at the present revision
abbrev pub newest : ListOptions
newest = record { at = Present; limit = 0; after = None }

-- a page of all there is, however many follow, is the list; and a list without options is what the verb answers
pub record ListsAreOnePage : Type 0 where
  pub body : (k : Kind) (r : ℕ) (count : Option ℕ) (ms : Entries) → page_body k r count (record { items = ms; next = None }) ≡ list_body k r ms
  pub outcome : (size : ℕ) (h : History) (v : View) (moment : List ℕ) → list_outcome size h v newest ≡ accept (list_objects v) h moment

-- what a list of a kind in all namespaces is answered
abbrev pub list_reply : ℕ → History → Kind → Data
list_reply size h k = outcome_body (list_outcome size h (whole k) newest)

-- whoever asked, what a list of a kind is answered is read by a reflector as the present revision and the objects there
abbrev pub RepliesAreRead : Type 0
RepliesAreRead =
    (h : History) (size : ℕ) (k : Kind) → IsReached h → list_of k (compact_text (list_reply size h k)) ≡ Some (listed_at h k (present h))

-- whoever asked, the text of each object that was ever stored is read as the object
abbrev pub ObjectsAreReadBack : Type 0
ObjectsAreReadBack = (h : History) → IsReached h → AllByRecursion (λ w. IfSome w.put (λ d. read (compact_text d) ≡ Some d)) (writes h)

-- ---- pages

-- a list that was asked: what had happened by then, and what was asked
pub record Asked : Type 0 where
  pub history : History
  pub options : ListOptions

-- its reply
abbrev pub body_of : ℕ → View → Asked → Data
body_of size v a = outcome_body (list_outcome size a.history v a.options)

abbrev pub IsAnswered : ℕ → View → Asked → Type 0
IsAnswered size v a = outcome_code (list_outcome size a.history v a.options) ≡ 200

-- the text by which a reply says how to go on, if it does
abbrev pub continue_in : Data → Option (List ℕ)
continue_in body = metadata_text (codes "continue") body

-- it is asked by that text, with a limit
abbrev pub IsAskedBy : Data → ListOptions → Type 0
IsAskedBy body o = (text : List ℕ) × (limit : ℕ) × (continue_in body ≡ Some text) × (going_on limit (token_of text) ≡ Ok o)

-- all are answered, each but the first is asked by what the reply before it says, when that much and maybe more has happened; the last
-- reply says nothing of how to go on
abbrev pub GoOn : ℕ → View → Asked → List Asked → Type 0
GoOn size v a [] = IsAnswered size v a × (continue_in (body_of size v a) ≡ None)
GoOn size v a (b ∷ bs) =
    IsAnswered size v a × ((more : History) × (b.history ≡ a.history ++ more)) × IsAskedBy (body_of size v a) b.options × GoOn size v b bs

-- the items of a reply
abbrev pub items_in : Data → Items
items_in body = unwrap_or (option_and_then as_array (get (codes "items") body)) no_items

-- items, and then others
abbrev pub then_items : Items → Items → Items
then_items no_items others = others
then_items (item d ds) others = item d (then_items ds others)

-- the items of all replies, one after another
abbrev pub all_items : ℕ → View → Asked → List Asked → Items
all_items size v a [] = items_in (body_of size v a)
all_items size v a (b ∷ bs) = then_items (items_in (body_of size v a)) (all_items size v b bs)

-- the revision of the first page's list
abbrev pub revision_at : History → At → ℕ
revision_at h Present = present h
revision_at h (NotOlder r) = present h
revision_at h (Exact r) = r

abbrev pub revision_of : Asked → ℕ
revision_of a = revision_at a.history a.options.at

-- each reply says that it is at the revision of the first
abbrev pub AreAt : ℕ → View → ℕ → Asked → List Asked → Type 0
AreAt size v r a [] = metadata_text (codes "resourceVersion") (body_of size v a) ≡ Some (decimal r)
AreAt size v r a (b ∷ bs) = (metadata_text (codes "resourceVersion") (body_of size v a) ≡ Some (decimal r)) × AreAt size v r b bs

-- whoever asked before, pages that are asked one after another, with whatever limits and whatever happens between them, joined, are the
-- list at the revision of the first one, and each says that revision
abbrev pub PageRepliesAreLists : Type 0
PageRepliesAreLists =
    (size : ℕ) (v : View) (a : Asked) (bs : List Asked)
    → IsReached a.history
    → a.options.after ≡ None
    → GoOn size v a bs
    → (all_items size v a bs ≡ items_of (map (λ m. as_item m.1) (list a.history v (revision_of a)))) × AreAt size v (revision_of a) a bs
