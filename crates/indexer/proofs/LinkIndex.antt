-- The links of the members, as one is put or removed.
use Rattle.std.proofs.Common.{◌≡◌, ◌&&◌, ◌||◌, ℕ, List, [], ◌∷◌, Bool, true, false, not, cond, Option, Some, None, map, filter_map, option_map, is_eq, nat_cmp, Ordering, Less, Equal, Greater, refl, sym, ap, ◌∙◌, string_bytes}
use Rattle.std.specs.List.{list_any, cons_option}
use Rattle.std.specs.Str.{bytes_eq}
use Rattle.std.specs.Ordering.{ordering_then}
use Rattle.std.specs.Cmp.Lexicographic.{slice_cmp}
use Rattle.std.specs.BTreeMap.{is_at}
use Rattle.std.specs.Map.{lookup}
use Rattle.std.proofs.lemmas.Map.Text.{is_eq-slice_cmp}
use Rattle.serde_json.specs.Data.{Data}
use Rattle.spec_api.specs.History.{Entries, found}
use Rattle.spec_api.specs.Keys.{Key as Name, key_cmp as name_cmp, is_same_key}
use Rattle.spec_api.specs.Metadata.{Owner, owners}
use Rattle.spec_api.specs.SelectorValues.{is_some_and}
use Rattle.spec_client_go.specs.OwnerReferences.{is_owned_by, is_text}
use Rattle.spec_client_go.proofs.WorkKeyOrder.{name_total, name_tells}
use Rattle.object_keys.specs.Keys.{key_of}
use Rattle.object_keys.specs.declared.key.Key.{Key}
use Rattle.object_keys.proofs.KeyOrder.{key_cmp-name_cmp}
use Rattle.reflector.specs.declared.shared_objects.SharedObject.{SharedObject}
use Rattle.indexer.specs.Links.{link_of, link_to, links_at, has_link, IsIndexOf, Relinks}
use Rattle.reflector.specs.Seen.{members_seen}
use Rattle.indexer.specs.declared.links.OwnerLink.{OwnerLink}
use Rattle.indexer.proofs.LinkSets.{pair_cmp, link_cmp-pair, is-Equal, is_eq-reverse}
use Rattle.reflector.proofs.SeenMaps.{key_cmp, data_of}
use Rattle.indexer.proofs.SeenMaps.{seen-lookup}

-- ---- the links of one object

abbrev has_pair : List (List ℕ × Name) → List ℕ × Name → Bool
has_pair ps p = list_any (λ (r : List ℕ × Name). is_eq (pair_cmp p r)) ps

seen-has : (ls : List OwnerLink) (q : OwnerLink) → has_link ls q ≡ has_pair (map link_of ls) (link_of q)
seen-has [] q = refl
seen-has (l ∷ ls) q = ap (λ o. is_eq o || has_link ls q) (link_cmp-pair q l) ∙ ap (λ b. is_eq (pair_cmp (link_of q) (link_of l)) || b) (seen-has ls q)

neither : (s b : Bool) → false ≡ b → false ≡ (s && b)
neither true b e = e
neither false b e = refl

just_one : (s b : Bool) → true ≡ b → s ≡ (s && b)
just_one true b e = e
just_one false b e = refl

pub is_pair : (p r : List ℕ × Name) → is_eq (pair_cmp p r) ≡ (is_same_key p.1 r.1 && bytes_eq p.0 r.0)
is_pair p r = by (slice_cmp nat_cmp p.0 r.0) (is_eq-slice_cmp p.0 r.0)
  where
    by : (o : Ordering) → is_eq o ≡ bytes_eq p.0 r.0 → is_eq (ordering_then o (name_cmp p.1 r.1)) ≡ (is_same_key p.1 r.1 && bytes_eq p.0 r.0)
    by Less e = neither (is_same_key p.1 r.1) (bytes_eq p.0 r.0) e
    by Equal e = just_one (is_same_key p.1 r.1) (bytes_eq p.0 r.0) e
    by Greater e = neither (is_same_key p.1 r.1) (bytes_eq p.0 r.0) e

shares : (s b r : Bool) → ((s && b) || (s && r)) ≡ (s && (b || r))
shares true b r = refl
shares false b r = refl

one_more : (p : List ℕ × Name) (n : Name) (t : Option (List ℕ)) (ps : List (List ℕ × Name)) (r : Bool) → has_pair ps p ≡ (is_same_key p.1 n && r)
    → has_pair (cons_option (option_map (λ (u : List ℕ). (u, n)) t) ps) p ≡ (is_same_key p.1 n && (is_text p.0 t || r))
one_more p n None ps r e = e
one_more p n (Some u) ps r e =
    ap (λ b. b || has_pair ps p) (is_pair p (u, n)) ∙ ap (λ b. (is_same_key p.1 n && bytes_eq p.0 u) || b) e ∙ shares (is_same_key p.1 n) (bytes_eq p.0 u) r

of_owners : (p : List ℕ × Name) (n : Name) (os : List Owner) → has_pair (filter_map (link_to n) os) p ≡ (is_same_key p.1 n && list_any (λ (o : Owner). is_text p.0 o.uid) os)
of_owners p n [] = neither (is_same_key p.1 n) false refl
of_owners p n (o ∷ os) = one_more p n o.uid (filter_map (link_to n) os) (list_any (λ (o : Owner). is_text p.0 o.uid) os) (of_owners p n os)

of_object : (p : List ℕ × Name) (n : Name) (w : Option Data) → has_pair (links_at n w) p ≡ (is_same_key p.1 n && is_some_and (is_owned_by p.0) w)
of_object p n None = neither (is_same_key p.1 n) false refl
of_object p n (Some d) = of_owners p n (owners d)

-- the links of an object are under its key, and of its owners
pub has-at : (ls : List OwnerLink) (n : Name) (w : Option Data) → map link_of ls ≡ links_at n w → (q : OwnerLink) → has_link ls q ≡ (is_same_key (key_of q.key) n && is_some_and (is_owned_by (string_bytes q.uid)) w)
has-at ls n w is q = seen-has ls q ∙ ap (λ ps. has_pair ps (link_of q)) is ∙ of_object (link_of q) n w

-- ---- one object changes

-- o is what was linked, f what was owned, w and b what is and was under the key, s whether it is that key
put_at : (o f s w b : Bool) → o ≡ f → (s ≡ true → f ≡ b) → ((o && not (s && b)) || (s && w)) ≡ cond s w f
put_at true true true w b e g = by b (g refl)
  where
    by : (b : Bool) → true ≡ b → ((true && not b) || w) ≡ w
    by true e = refl
    by false e = cc
put_at false false true w b e g = refl
put_at true true false w b e g = refl
put_at false false false w b e g = refl
put_at true false s w b e g = cc
put_at false true s w b e g = cc

-- what is removed was there, and is added again
back_at : (o f s b : Bool) → o ≡ f → (s ≡ true → f ≡ b) → o ≡ ((o && not (s && b)) || (s && b))
back_at true true true b e g = by b (g refl)
  where
    by : (b : Bool) → true ≡ b → true ≡ ((true && not b) || b)
    by true e = refl
    by false e = cc
back_at false false true b e g = g refl
back_at true true false b e g = refl
back_at false false false b e g = refl
back_at true false s b e g = cc
back_at false true s b e g = cc

passes_cond : {A : Type 0} (test : A → Bool) (s : Bool) (w f : Option A) → cond s (is_some_and test w) (is_some_and test f) ≡ is_some_and test (cond s w f)
passes_cond test true w f = refl
passes_cond test false w f = refl

at_one : (k n : Name) (ms : Entries) (u : List ℕ) → is_same_key k n ≡ true → is_some_and (is_owned_by u) (found k ms) ≡ is_some_and (is_owned_by u) (found n ms)
at_one k n ms u is = ap (λ k. is_some_and (is_owned_by u) (found k ms)) (name_tells k n (is-Equal (name_cmp k n) is))

-- the links of an object stand in the place of those that it had: they are those of the members with it
pub index_changes : (old new more gone : List OwnerLink) (ms ns : Entries) (n : Name) (w : Option Data) → IsIndexOf old ms → map link_of more ≡ links_at n w → map link_of gone ≡ links_at n (found n ms)
    → Relinks new old gone more → ((q : OwnerLink) → found (key_of q.key) ns ≡ cond (is_same_key (key_of q.key) n) w (found (key_of q.key) ms)) → IsIndexOf new ns
index_changes old new more gone ms ns n w indexed mine had changes put =
    record {
      exact = λ q.
          let u = string_bytes q.uid in
          let s = is_same_key (key_of q.key) n in
          changes.has q ∙ ap (λ b. (has_link old q && not (has_link gone q)) || b) (has-at more n w mine q)
          ∙ ap (λ b. (has_link old q && not b) || (s && is_some_and (is_owned_by u) w)) (has-at gone n (found n ms) had q)
          ∙ put_at (has_link old q) (is_some_and (is_owned_by u) (found (key_of q.key) ms)) s (is_some_and (is_owned_by u) w) (is_some_and (is_owned_by u) (found n ms)) (indexed.exact q) (at_one (key_of q.key) n ms u)
          ∙ passes_cond (is_owned_by u) s w (found (key_of q.key) ms)
          ∙ ap (is_some_and (is_owned_by u)) (sym (put q));
    }

-- where an object has the links that it had, nothing changes
pub index_stays : (old more gone : List OwnerLink) (ms : Entries) (n : Name) → IsIndexOf old ms → map link_of gone ≡ links_at n (found n ms) → ((q : OwnerLink) → has_link more q ≡ has_link gone q) → Relinks old old gone more
index_stays old more gone ms n indexed had same =
    record {
      has = λ q.
          let u = string_bytes q.uid in
          let s = is_same_key (key_of q.key) n in
          let b = is_some_and (is_owned_by u) (found n ms) in
          let is = has-at gone n (found n ms) had q in
          back_at (has_link old q) (is_some_and (is_owned_by u) (found (key_of q.key) ms)) s b (indexed.exact q) (at_one (key_of q.key) n ms u)
          ∙ ap (λ b. (has_link old q && not b) || b) (sym is) ∙ ap (λ b. (has_link old q && not (has_link gone q)) || b) (sym (same q));
    }

-- ---- what is found after a removal

removed_at : (s t : Bool) (w : Option SharedObject) (f : Option Data) → s ≡ t → option_map data_of w ≡ f → option_map data_of (cond s None w) ≡ cond t None f
removed_at true true w f e same = refl
removed_at false false w f e same = same
removed_at true false w f e same = cc
removed_at false true w f e same = cc

key_turned : (k q : Key) → is_eq (key_cmp k q) ≡ is_same_key (key_of q) (key_of k)
key_turned k q = ap is_eq (key_cmp-name_cmp k q ∙ name_total.antisymm (key_of k) (key_of q)) ∙ is_eq-reverse (name_cmp (key_of q) (key_of k))

pub found_removed : (es fs : List (Key × SharedObject)) (k : Key) → ((q : Key) → lookup (is_at (key_cmp q)) fs ≡ cond (is_at (key_cmp k) q) None (lookup (is_at (key_cmp q)) es))
    → (q : OwnerLink) → found (key_of q.key) (members_seen fs) ≡ cond (is_same_key (key_of q.key) (key_of k)) None (found (key_of q.key) (members_seen es))
found_removed es fs k cut q =
    sym (seen-lookup fs q.key) ∙ ap (option_map data_of) (cut q.key)
    ∙ removed_at (is_eq (key_cmp k q.key)) (is_same_key (key_of q.key) (key_of k)) (lookup (is_at (key_cmp q.key)) es) (found (key_of q.key) (members_seen es)) (key_turned k q.key) (seen-lookup es q.key)
