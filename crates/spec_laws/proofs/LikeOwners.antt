-- Owner references that name the same owners.
use Rattle.std.proofs.Common.{◌≡◌, ℕ, List, [], ◌∷◌, false, Option, Some, None, codes, bytes_eq, refl, sym, ap, subst, ◌∙◌}
use Rattle.std.specs.Prelude.{option_and_then, unwrap_or}
use Rattle.serde_json.specs.Data.{Data, null, boolean, number, string, array, object, Items, no_items, item, put}
use Rattle.serde_json.specs.Find.{get, get_member, as_str, as_bool, as_array}
use Rattle.serde_json.proofs.Views.{get_member-put, get_member-put_other}
use Rattle.spec_api.proofs.JsonMembers.{apart, metadata_of-with}
use Rattle.spec_api.specs.Metadata.{Owner, owner, owners, owners_in, metadata, metadata_of, with_metadata}
use Rattle.spec_api.specs.SelectorValues.{items_in}
use Rattle.spec_api.specs.Values.{members_of}
use Rattle.spec_client_go.specs.OwnerReferences.{owner_key}
use Rattle.spec_reconcile.specs.MetadataEdits.{references, unblocked, all_unblocked, blocking_nobody}
use Rattle.spec_laws.specs.CollectorLaws.{IsGone, AreAlike, EachAlike, BlockingNobodyKeepsOwners}

-- ---- alike

pub same_owners : (os : List Owner) → EachAlike os os
same_owners [] = tt
same_owners (o ∷ os) = ((refl, refl, refl, refl, refl), same_owners os)

pub same_key : (ns : List ℕ) (a b : Owner) → AreAlike a b → owner_key ns a ≡ owner_key ns b
same_key ns a b (v, k, n, u, c) = rw (v, k, n) refl

pub same_gone : (a b : Owner) (found : Option Data) → AreAlike a b → IsGone b found → IsGone a found
same_gone a b found (v, k, n, u, c) g = subst (λ t. IsGone (record { api_version = a.api_version; kind = a.kind; name = a.name; uid = t; is_controller = a.is_controller; blocks_deletion = a.blocks_deletion }) found) (sym u) (other a b found g)
  where
    other : (a b : Owner) (found : Option Data) → IsGone b found → IsGone (record { api_version = a.api_version; kind = a.kind; name = a.name; uid = b.uid; is_controller = a.is_controller; blocks_deletion = a.blocks_deletion }) found
    other a b None g = tt
    other a b (Some d) g = g

pub some_alike : (os ps : List Owner) → EachAlike os ps → (ps ≡ [] → ⊥) → os ≡ [] → ⊥
some_alike [] [] e some is = some refl
some_alike [] (p ∷ ps) e some is = absurd e
some_alike (o ∷ os) ps e some is = cc

-- ---- without blocks

get-members : (k : List ℕ) (d : Data) → get_member k (members_of d) ≡ get k d
get-members k null = refl
get-members k (boolean b) = refl
get-members k (number n) = refl
get-members k (string s) = refl
get-members k (array ds) = refl
get-members k (object ms) = refl

abbrev block : List ℕ
block = codes "blockOwnerDeletion"

another : (k : List ℕ) (r : Data) → bytes_eq k block ≡ false → get k (unblocked r) ≡ get k r
another k r other = get_member-put_other k block (boolean false) (members_of r) (apart k block other) ∙ get-members k r

unblocked_alike : (r : Data) → AreAlike (owner (unblocked r)) (owner r)
unblocked_alike r = (
  ap (option_and_then as_str) (another (codes "apiVersion") r refl),
  ap (option_and_then as_str) (another (codes "kind") r refl),
  ap (option_and_then as_str) (another (codes "name") r refl),
  ap (option_and_then as_str) (another (codes "uid") r refl),
  ap (λ o. unwrap_or (option_and_then as_bool o) false) (another (codes "controller") r refl),
)

all_alike : (rs : Items) → EachAlike (owners_in (all_unblocked rs)) (owners_in rs)
all_alike no_items = tt
all_alike (item r rs) = (unblocked_alike r, all_alike rs)

abbrev refs : List ℕ
refs = codes "ownerReferences"

items_of_array : (o : Option Data) → items_in o ≡ unwrap_or (option_and_then as_array o) no_items
items_of_array None = refl
items_of_array (Some null) = refl
items_of_array (Some (boolean b)) = refl
items_of_array (Some (number n)) = refl
items_of_array (Some (string s)) = refl
items_of_array (Some (array ds)) = refl
items_of_array (Some (object ms)) = refl

put_there : (d : Data) (ds : Items) → metadata refs (with_metadata (put refs (array ds) (metadata_of d)) d) ≡ Some (array ds)
put_there d ds = ap (get_member refs) (metadata_of-with (put refs (array ds) (metadata_of d)) d) ∙ get_member-put refs (array ds) (metadata_of d)

abbrev owners_from : Option Data → List Owner
owners_from o = owners_in (unwrap_or (option_and_then as_array o) no_items)

pub nobody_keeps : BlockingNobodyKeepsOwners
nobody_keeps d =
    let rs = references d in
    let here : owners (blocking_nobody d) ≡ owners_in (all_unblocked rs) = ap owners_from (put_there d (all_unblocked rs)) in
    let there : owners_in rs ≡ owners d = ap owners_in (items_of_array (metadata refs d)) in
    subst (λ os. EachAlike (owners (blocking_nobody d)) os) there (subst (λ os. EachAlike os (owners_in rs)) (sym here) (all_alike rs))
