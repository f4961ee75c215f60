-- Links: which objects name which owners.
use Rattle.std.specs.Prelude.{◌≡◌, ◌&&◌, ◌||◌, ℕ, List, Bool, not, Option, option_map, filter_map, [], None, Some, string_bytes}
use Rattle.std.specs.declared.cmp.Ordering.{Ordering}
use Rattle.std.specs.List.{list_any}
use Rattle.std.specs.BTreeMap.{is_at}
use Rattle.serde_json.specs.Data.{Data}
use Rattle.spec_api.specs.declared.kinds.Kind.{Kind}
use Rattle.spec_api.specs.declared.kinds.Kind.TheVariants.{ConfigMap}
use Rattle.spec_api.specs.History.{Entries, found}
use Rattle.spec_api.specs.Keys.{Key as Name}
use Rattle.spec_api.specs.Metadata.{Owner, owners}
use Rattle.spec_api.specs.SelectorValues.{is_some_and}
use Rattle.spec_client_go.specs.OwnerReferences.{is_owned_by}
use Rattle.object_keys.specs.Keys.{key_of}
use Rattle.indexer.specs.declared.links.OwnerLink.{OwnerLink}
use Rattle.indexer.specs.contracts.links.OwnerLinkOrd.TheImpl as link_ord

-- a link, by the bytes of its uid and the name of its key
abbrev pub link_of : OwnerLink → List ℕ × Name
link_of l = (string_bytes l.uid, key_of l.key)

-- the link by which the object under a key names an owner
abbrev pub link_to : Name → Owner → Option (List ℕ × Name)
link_to n o = option_map (λ u. (u, n)) o.uid

-- the links of what is under a key
abbrev pub links_at : Name → Option Data → List (List ℕ × Name)
links_at n None = []
links_at n (Some d) = filter_map (link_to n) (owners d)

abbrev pub link_cmp : OwnerLink → OwnerLink → Ordering
link_cmp = (link_ord.ghosts).cmp

-- whether a link is among them
abbrev pub has_link : List OwnerLink → OwnerLink → Bool
has_link ls l = list_any (is_at (link_cmp l)) ls

-- the links are those of the members: each is of an object that is there and names the owner, and each of these has its link
pub record IsIndexOf (ls : List OwnerLink) (ms : Entries) : Type 0 where
  pub exact : (l : OwnerLink) → has_link ls l ≡ is_some_and (is_owned_by (string_bytes l.uid)) (found (key_of l.key) ms)

-- the old links and more, and no others
pub record HasLinks (new old more : List OwnerLink) : Type 0 where
  pub has : (l : OwnerLink) → has_link new l ≡ (has_link old l || has_link more l)

-- the old links, but for those that are gone
pub record RemovesLinks (new old gone : List OwnerLink) : Type 0 where
  pub has : (l : OwnerLink) → has_link new l ≡ (has_link old l && not (has_link gone l))

-- the old links, with more in the place of those that are gone
pub record Relinks (new old gone more : List OwnerLink) : Type 0 where
  pub has : (l : OwnerLink) → has_link new l ≡ ((has_link old l && not (has_link gone l)) || has_link more l)

-- ---- where they lie

-- the first name of a kind in a namespace
abbrev pub first_name : Kind → List ℕ → Name
first_name k ns = record { kind = k; namespace = ns; name = [] }

-- the first link to a uid; the next text in byte order is the text and a zero
abbrev pub first_link : List ℕ → List ℕ × Name
first_link u = (u, first_name ConfigMap [])
