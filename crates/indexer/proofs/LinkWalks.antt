-- Links that are gone through in order lead to the objects with the owner.
use denote.Ref.{Bor}
use Rattle.std.proofs.Common.{◌≡◌, ◌&&◌, ◌||◌, ℕ, List, [], ◌∷◌, Bool, true, false, cond, Option, Some, None, map, filter, filter_map, option_map, is_eq, nat_cmp, Less, Equal, refl, sym, ap, ◌∙◌, ◌++◌, append-nil, arith, length, string_bytes}
use Rattle.std.specs.List.{AllByRecursion, list_any, cons_option}
use Rattle.std.proofs.lemmas.Slice.Eq.{bytes_eq-Decides}
use Rattle.std.specs.List.Sorted.{IsStrictlySortedBy}
use Rattle.std.specs.Map.{keys_of, lookup}
use Rattle.std.specs.Str.{bytes_eq}
use Rattle.std.specs.Ordering.{ordering_then}
use Rattle.std.specs.Cmp.Lexicographic.{slice_cmp}
use Rattle.std.specs.BTreeMap.{is_at}
use Rattle.std.specs.BTreeMap.Range.{entries_between, range_contains}
use Rattle.std.specs.declared.ops.Bound.TheVariants.{Included, Excluded}
use Rattle.serde_json.specs.Data.{Data}
use Rattle.spec_api.specs.History.{Entries, found}
use Rattle.spec_api.specs.Keys.{Key as Name, key_cmp as name_cmp}
use Rattle.spec_api.specs.SelectorValues.{is_some_and}
use Rattle.spec_client_go.specs.Informers.{of_owner}
use Rattle.spec_client_go.specs.OwnerReferences.{is_owned_by}
use Rattle.spec_client_go.proofs.WorkKeyOrder.{name_tells}
use Rattle.object_keys.specs.Keys.{key_of}
use Rattle.object_keys.specs.contracts.key.KeyOrd.TheImpl.Laws.{total-law}
use Rattle.object_keys.specs.declared.key.Key.{Key}
use Rattle.object_keys.proofs.KeyOrder.{key_cmp-name_cmp}
use Rattle.reflector.specs.declared.shared_objects.SharedObject.{SharedObject}
use Rattle.indexer.specs.Links.{link_of, link_cmp, has_link, IsIndexOf}
use Rattle.reflector.specs.Seen.{members_seen}
use Rattle.indexer.specs.declared.links.OwnerLink.{OwnerLink}
use Rattle.indexer.proofs.LinkSets.{link_cmp-pair, is-Equal}
use Rattle.indexer.proofs.LinkIndex.{is_pair}
use Rattle.reflector.proofs.SeenMaps.{key_cmp, data_of}
use Rattle.indexer.proofs.SeenMaps.{seen-lookup}
use Rattle.indexer.proofs.Walks.{picked, passing, walked}
use Rattle.std.proofs.lemmas.Map.Text.{is_eq-slice_cmp}

-- the links to a uid
abbrev pub to_uid : List ℕ → List OwnerLink → List OwnerLink
to_uid u ls = filter (λ (l : OwnerLink). bytes_eq u (string_bytes l.uid)) ls

abbrev keys_in : List OwnerLink → List Key
keys_in ls = map (λ (l : OwnerLink). l.key) ls

abbrev shown : Key → SharedObject → Name × Data
shown k o = (key_of k, o.value)

-- what is found under the keys of links
abbrev pub looked : List (Key × SharedObject) → List OwnerLink → Entries
looked es ls = filter_map (λ (l : OwnerLink). option_map (shown l.key) (lookup (is_at (key_cmp l.key)) es)) ls

abbrev owned : List ℕ → SharedObject → Bool
owned u o = is_owned_by u o.value

alike : (a b : Key) (o : SharedObject) → key_cmp a b ≡ Equal → shown a o ≡ shown b o
alike a b o is = ap (λ n. (n, o.value)) (name_tells (key_of a) (key_of b) (sym (key_cmp-name_cmp a b) ∙ is))

looked-picked : (u : List ℕ) (es : List (Key × SharedObject)) (ls : List OwnerLink) → looked es ls ≡ picked total-law (owned u) shown alike es (keys_in ls)
looked-picked u es [] = refl
looked-picked u es (l ∷ ls) = ap (λ ms. cons_option (option_map (shown l.key) (lookup (is_at (key_cmp l.key)) es)) ms) (looked-picked u es ls)

passing-owned : (u : List ℕ) (es : List (Key × SharedObject)) → passing total-law (owned u) shown alike es ≡ of_owner u (members_seen es)
passing-owned u [] = refl
passing-owned u (e ∷ es) = by (owned u e.1) (passing-owned u es)
  where
    by : (b : Bool) → passing total-law (owned u) shown alike es ≡ of_owner u (members_seen es)
        → map (λ (e : Key × SharedObject). shown e.0 e.1) (cond b (e ∷ filter (λ (e : Key × SharedObject). owned u e.1) es) (filter (λ (e : Key × SharedObject). owned u e.1) es))
        ≡ cond b (shown e.0 e.1 ∷ of_owner u (members_seen es)) (of_owner u (members_seen es))
    by true rest = ap (λ ms. shown e.0 e.1 ∷ ms) rest
    by false rest = rest

-- nothing is left to be looked up
pub looked_all : {V : Type 0} (es : List (Key × SharedObject)) (ms : Entries) (rest whole items : List (Bor (OwnerLink × V))) → length rest ≡ 0 → whole ≡ items
    → ms ++ looked es (keys_of (map (λ (e : Bor (OwnerLink × V)). e.now) rest)) ≡ looked es (keys_of (map (λ (e : Bor (OwnerLink × V)). e.now) whole))
    → ms ≡ looked es (keys_of (map (λ (e : Bor (OwnerLink × V)). e.now) items))
looked_all {V} es ms [] whole items none same all = sym (append-nil ms) ∙ all ∙ ap (λ (l : List (Bor (OwnerLink × V))). looked es (keys_of (map (λ (e : Bor (OwnerLink × V)). e.now) l))) same
looked_all es ms (e ∷ rest) whole items none same all = absurd (omega (arith, none))

-- ---- the links to a uid are in the order of their keys

same_text : (s t : List ℕ) → bytes_eq s t ≡ true → s ≡ t
same_text s t is = (bytes_eq-Decides s t).0 is

key_less : (a b : Key) (u v w : List ℕ) → bytes_eq u v ≡ true → bytes_eq u w ≡ true → ordering_then (slice_cmp nat_cmp v w) (name_cmp (key_of a) (key_of b)) ≡ Less → key_cmp a b ≡ Less
key_less a b u v w at also is =
    key_cmp-name_cmp a b ∙ ap (λ r. ordering_then r (name_cmp (key_of a) (key_of b))) (sym (is-Equal (slice_cmp nat_cmp v w) (is_eq-slice_cmp v w ∙ ap (λ v. bytes_eq v w) (sym (same_text u v at)) ∙ also))) ∙ is

below_kept : (u : List ℕ) (k : OwnerLink) (ls : List OwnerLink) → bytes_eq u (string_bytes k.uid) ≡ true → AllByRecursion (λ (l : OwnerLink). link_cmp k l ≡ Less) ls → AllByRecursion (λ (l : Key). key_cmp k.key l ≡ Less) (keys_in (to_uid u ls))
below_kept u k [] at below = tt
below_kept u k (l ∷ ls) at below = by (bytes_eq u (string_bytes l.uid)) refl (below_kept u k ls at below.1)
  where
    by : (b : Bool) → bytes_eq u (string_bytes l.uid) ≡ b → AllByRecursion (λ (l : Key). key_cmp k.key l ≡ Less) (keys_in (to_uid u ls)) → AllByRecursion (λ (l : Key). key_cmp k.key l ≡ Less) (keys_in (cond b (l ∷ to_uid u ls) (to_uid u ls)))
    by true is rest = (key_less k.key l.key u (string_bytes k.uid) (string_bytes l.uid) at is (sym (link_cmp-pair k l) ∙ below.0), rest)
    by false is rest = rest

keys_in_order : (u : List ℕ) (ls : List OwnerLink) → IsStrictlySortedBy link_cmp ls → IsStrictlySortedBy key_cmp (keys_in (to_uid u ls))
unfolding IsStrictlySortedBy
keys_in_order u [] sorted = tt
keys_in_order u (l ∷ ls) sorted = by (bytes_eq u (string_bytes l.uid)) refl (keys_in_order u ls sorted.1)
  where
    by : (b : Bool) → bytes_eq u (string_bytes l.uid) ≡ b → IsStrictlySortedBy key_cmp (keys_in (to_uid u ls)) → IsStrictlySortedBy key_cmp (keys_in (cond b (l ∷ to_uid u ls) (to_uid u ls)))
    by true is rest = (below_kept u l ls is sorted.0, rest)
    by false is rest = rest

-- ---- they are of just the objects with the owner

has_kept : (u : List ℕ) (q : OwnerLink) → string_bytes q.uid ≡ u → (ls : List OwnerLink) → list_any (is_at (key_cmp q.key)) (keys_in (to_uid u ls)) ≡ has_link ls q
has_kept u q is [] = refl
has_kept u q is (l ∷ ls) =
    by (bytes_eq u (string_bytes l.uid)) (is_eq (key_cmp q.key l.key)) (has_kept u q is ls)
    ∙ ap (λ b. b || has_link ls q)
    (ap (λ b. b && bytes_eq u (string_bytes l.uid)) (ap is_eq (key_cmp-name_cmp q.key l.key)) ∙ ap (λ u. is_eq (name_cmp (key_of q.key) (key_of l.key)) && bytes_eq u (string_bytes l.uid)) (sym is)
    ∙ sym (is_pair (link_of q) (link_of l)) ∙ ap is_eq (sym (link_cmp-pair q l)))
  where
    by : (b s : Bool) → list_any (is_at (key_cmp q.key)) (keys_in (to_uid u ls)) ≡ has_link ls q → list_any (is_at (key_cmp q.key)) (keys_in (cond b (l ∷ to_uid u ls) (to_uid u ls))) ≡ ((is_eq (key_cmp q.key l.key) && b) || has_link ls q)
    by true s rest = over (is_eq (key_cmp q.key l.key)) rest
      where
        over : (s : Bool) → list_any (is_at (key_cmp q.key)) (keys_in (to_uid u ls)) ≡ has_link ls q → (s || list_any (is_at (key_cmp q.key)) (keys_in (to_uid u ls))) ≡ ((s && true) || has_link ls q)
        over true rest = refl
        over false rest = rest
    by false s rest = over (is_eq (key_cmp q.key l.key)) rest
      where
        over : (s : Bool) → list_any (is_at (key_cmp q.key)) (keys_in (to_uid u ls)) ≡ has_link ls q → list_any (is_at (key_cmp q.key)) (keys_in (to_uid u ls)) ≡ ((s && false) || has_link ls q)
        over true rest = rest
        over false rest = rest

owned_at : (u : List ℕ) (o : Option SharedObject) → is_some_and (is_owned_by u) (option_map data_of o) ≡ is_some_and (owned u) o
owned_at u None = refl
owned_at u (Some o) = refl

-- the links to a uid lead to the objects with the owner, in order
pub links_lead : (first : OwnerLink) (u : List ℕ) → string_bytes first.uid ≡ u → (es : List (Key × SharedObject)) (ls : List OwnerLink) → IsStrictlySortedBy key_cmp (keys_of es) → IsStrictlySortedBy link_cmp ls
    → IsIndexOf ls (members_seen es) → looked es (to_uid u ls) ≡ of_owner u (members_seen es)
links_lead first u named es ls in_order sorted indexed =
    looked-picked u es (to_uid u ls)
    ∙ walked total-law (owned u) shown alike es (keys_in (to_uid u ls)) in_order (keys_in_order u ls sorted)
    (λ k. let q : OwnerLink = record { uid = first.uid; key = k } in
    has_kept u q named ls ∙ indexed.exact q ∙ ap (λ u. is_some_and (is_owned_by u) (found (key_of k) (members_seen es))) named ∙ ap (is_some_and (is_owned_by u)) (sym (seen-lookup es k)) ∙ owned_at u (lookup (is_at (key_cmp k)) es))
    ∙ passing-owned u es

-- the links of the entries between two keys
pub keys_in_span : {V : Type 0} (u : List ℕ) (first past : OwnerLink) → ((q : OwnerLink) → range_contains link_cmp (Included first) (Excluded past) q ≡ bytes_eq u (string_bytes q.uid)) → (es : List (OwnerLink × V))
    → keys_of (entries_between link_cmp (Included first) (Excluded past) es) ≡ to_uid u (keys_of es)
keys_in_span u first past spans [] = refl
keys_in_span {V} u first past spans (e ∷ es) =
    ap (λ b. keys_of (cond b (e ∷ entries_between link_cmp (Included first) (Excluded past) es) (entries_between link_cmp (Included first) (Excluded past) es))) (spans e.0)
    ∙ by (bytes_eq u (string_bytes e.0.uid)) (keys_in_span u first past spans es)
  where
    by : (b : Bool) → keys_of (entries_between link_cmp (Included first) (Excluded past) es) ≡ to_uid u (keys_of es)
        → keys_of (cond b (e ∷ entries_between link_cmp (Included first) (Excluded past) es) (entries_between link_cmp (Included first) (Excluded past) es)) ≡ cond b (e.0 ∷ to_uid u (keys_of es)) (to_uid u (keys_of es))
    by true rest = ap (λ ls. e.0 ∷ ls) rest
    by false rest = rest
