-- What adding and removing links one by one comes to.
use Rattle.std.proofs.Common.{◌≡◌, ◌&&◌, ◌||◌, ℕ, List, [], ◌∷◌, Bool, true, false, not, cond, Option, Some, None, is_eq, Ordering, Less, Equal, Greater, refl, sym, ap, ◌∙◌, nat_cmp, rules, arith, length}
use Rattle.std.specs.Cmp.Lexicographic.{pointwise, slice_cmp}
use Rattle.std.specs.List.Sorted.{IsStrictlySortedBy}
use Rattle.std.specs.Map.{keys_of, lookup, remove_entry}
use Rattle.std.specs.Ordering.{match_ordering, ordering_then, ordering_reverse}
use Rattle.std.proofs.lemmas.Cmp.{eq_by_cmp_equiv}
use Rattle.std.proofs.lemmas.Map.{lookup-remove_entry}
use Rattle.std.proofs.lemmas.Map.Keys.{IsDistinct-from_sorted}
use Rattle.shared_map.specs.Entries.{put_entry}
use Rattle.std.specs.BTreeMap.{is_at}
use Rattle.spec_api.specs.Keys.{Key as Name, key_cmp as name_cmp}
use Rattle.object_keys.proofs.KeyOrder.{key_cmp-name_cmp}
use Rattle.indexer.specs.Links.{link_of, link_cmp, has_link, HasLinks, RemovesLinks, Relinks}
use Rattle.indexer.specs.contracts.links.OwnerLinkPartialEq.TheImpl as link_eq
use Rattle.indexer.specs.contracts.links.OwnerLinkOrd.TheImpl.Laws.{matches_eq-law, total-law}
use Rattle.indexer.specs.declared.links.OwnerLink.{OwnerLink}

-- ---- the order of links

abbrev pub pair_cmp : List ℕ × Name → List ℕ × Name → Ordering
pair_cmp p q = ordering_then (slice_cmp nat_cmp p.0 q.0) (name_cmp p.1 q.1)

pub link_cmp-pair : (a b : OwnerLink) → link_cmp a b ≡ pair_cmp (link_of a) (link_of b)
link_cmp-pair a b = search (rules, key_cmp-name_cmp)

-- whether two links are one
abbrev pub same : OwnerLink → OwnerLink → Bool
same a b = is_eq (link_cmp a b)

pub is_eq-reverse : (o : Ordering) → is_eq (ordering_reverse o) ≡ is_eq o
is_eq-reverse Less = refl
is_eq-reverse Equal = refl
is_eq-reverse Greater = refl

pub is-Equal : (o : Ordering) → is_eq o ≡ true → o ≡ Equal
is-Equal Less e = cc
is-Equal Equal e = refl
is-Equal Greater e = cc

pub same_sym : (a b : OwnerLink) → same a b ≡ same b a
same_sym a b = ap is_eq (total-law.antisymm a b) ∙ is_eq-reverse (link_cmp b a)

-- equal lists have the same links
pub same_lists : (ls ms : List OwnerLink) → true ≡ pointwise (link_eq.ghosts).eq ls ms → (q : OwnerLink) → has_link ls q ≡ has_link ms q
same_lists [] [] is q = refl
same_lists [] (m ∷ ms) is q = cc
same_lists (l ∷ ls) [] is q = cc
same_lists (l ∷ ls) (m ∷ ms) is q = by ((link_eq.ghosts).eq l m) (λ rest. same_lists ls ms rest q) refl is
  where
    by : (b : Bool) → (true ≡ pointwise (link_eq.ghosts).eq ls ms → has_link ls q ≡ has_link ms q) → (link_eq.ghosts).eq l m ≡ b → true ≡ (b && pointwise (link_eq.ghosts).eq ls ms) → (same q l || has_link ls q) ≡ (same q m || has_link ms q)
    by false same_rest one is = cc
    by true same_rest one is =
        ap (λ b. b || has_link ls q) (same_sym q l ∙ ap is_eq (total-law.congr l m q (is-Equal (link_cmp l m) (sym (matches_eq-law l m) ∙ one))) ∙ same_sym m q)
        ∙ ap (λ b. same q m || b) (same_rest is)

-- an empty list has no links
pub no_links : (ls : List OwnerLink) → length ls ≡ 0 → (q : OwnerLink) → has_link [] q ≡ has_link ls q
no_links [] none q = refl
no_links (l ∷ ls) none q = absurd (omega (arith, none))

-- ---- links put into a map and removed from one

swapped : (s t h : Bool) → (t || (s || h)) ≡ (s || (t || h))
swapped true true h = refl
swapped true false h = refl
swapped false true h = refl
swapped false false h = refl

kept : (s t h : Bool) → s ≡ t → (s || h) ≡ (s || (t || h))
kept true true h e = refl
kept false false h e = refl
kept true false h e = cc
kept false true h e = cc

same_as : (a b q : OwnerLink) → link_cmp a b ≡ Equal → same q a ≡ same q b
same_as a b q is = same_sym q a ∙ ap is_eq (total-law.congr a b q is) ∙ same_sym b q

module _ {V : Type 0} where
  pub has_put : (es : List (OwnerLink × V)) (e : OwnerLink × V) (q : OwnerLink) → has_link (keys_of (put_entry link_cmp es e)) q ≡ (same q e.0 || has_link (keys_of es) q)
  has_put [] e q = refl
  has_put (f ∷ fs) e q = by (link_cmp e.0 f.0) refl (has_put fs e q)
    where
      by : (r : Ordering) → link_cmp e.0 f.0 ≡ r → has_link (keys_of (put_entry link_cmp fs e)) q ≡ (same q e.0 || has_link (keys_of fs) q)
          → has_link (keys_of (match_ordering r (e ∷ f ∷ fs) (e ∷ fs) (f ∷ put_entry link_cmp fs e))) q ≡ (same q e.0 || (same q f.0 || has_link (keys_of fs) q))
      by Less is rest = refl
      by Equal is rest = kept (same q e.0) (same q f.0) (has_link (keys_of fs) q) (same_as e.0 f.0 q is)
      by Greater is rest = ap (λ b. same q f.0 || b) rest ∙ swapped (same q e.0) (same q f.0) (has_link (keys_of fs) q)

  abbrev is_there : Option V → Bool
  is_there (Some v) = true
  is_there None = false

  has_found : (es : List (OwnerLink × V)) (q : OwnerLink) → has_link (keys_of es) q ≡ is_there (lookup (is_at (link_cmp q)) es)
  has_found [] q = refl
  has_found (e ∷ es) q = by (same q e.0) (has_found es q)
    where
      by : (b : Bool) → has_link (keys_of es) q ≡ is_there (lookup (is_at (link_cmp q)) es) → (b || has_link (keys_of es) q) ≡ is_there (cond b (Some e.1) (lookup (is_at (link_cmp q)) es))
      by true rest = refl
      by false rest = rest

  there_but : (s : Bool) (o : Option V) (h : Bool) → h ≡ is_there o → is_there (cond s None o) ≡ (h && not s)
  there_but true o true e = refl
  there_but true o false e = refl
  there_but false o true e = sym e
  there_but false o false e = sym e

  pub has_removed : (l q : OwnerLink) (es : List (OwnerLink × V)) → IsStrictlySortedBy link_cmp (keys_of es) → has_link (keys_of (remove_entry (is_at (link_cmp l)) es)) q ≡ (has_link (keys_of es) q && not (same l q))
  has_removed l q es sorted =
      has_found (remove_entry (is_at (link_cmp l)) es) q
      ∙ ap is_there (lookup-remove_entry (eq_by_cmp_equiv total-law) (is_at (link_cmp l)) (λ x y is. ap is_eq (total-law.congr l x y (is-Equal (link_cmp l x) is))) q es (IsDistinct-from_sorted link_cmp (keys_of es) sorted))
      ∙ there_but (same l q) (lookup (is_at (link_cmp q)) es) (has_link (keys_of es) q) (has_found es q)

  -- ---- links added

  pub record IsAdding (now first : List (OwnerLink × V)) (rest more : List OwnerLink) : Type 0 where
    pub has : (l : OwnerLink) → (has_link (keys_of now) l || has_link rest l) ≡ (has_link (keys_of first) l || has_link more l)

  pub adds_one : (old new first : List (OwnerLink × V)) (rest before more : List OwnerLink) (link : OwnerLink) (v : V) → before ≡ link ∷ rest → new ≡ put_entry link_cmp old (link, v)
      → IsAdding old first before more → IsAdding new first rest more
  adds_one old new first rest before more link v goes put a =
      record {
        has = λ l. ap (λ (es : List (OwnerLink × V)). has_link (keys_of es) l || has_link rest l) put ∙ ap (λ b. b || has_link rest l) (has_put old (link, v) l)
            ∙ moved (same l link) (has_link (keys_of old) l) (has_link rest l)
            ∙ ap (λ ls. has_link (keys_of old) l || has_link ls l) (sym goes) ∙ a.has l;
      }
    where
      moved : (s h r : Bool) → ((s || h) || r) ≡ (h || (s || r))
      moved true true r = refl
      moved true false r = refl
      moved false true r = refl
      moved false false r = refl

  -- ---- links removed

  pub record IsRemoving (now first : List (OwnerLink × V)) (rest gone : List OwnerLink) : Type 0 where
    pub has : (l : OwnerLink) → (has_link (keys_of now) l && not (has_link rest l)) ≡ (has_link (keys_of first) l && not (has_link gone l))

  pub removes_one : (old new first : List (OwnerLink × V)) (rest before gone : List OwnerLink) (link : OwnerLink) → before ≡ link ∷ rest → IsStrictlySortedBy link_cmp (keys_of old)
      → new ≡ remove_entry (is_at (link_cmp link)) old → IsRemoving old first before gone → IsRemoving new first rest gone
  removes_one old new first rest before gone link goes sorted cut a =
      record {
        has = λ l. ap (λ (es : List (OwnerLink × V)). has_link (keys_of es) l && not (has_link rest l)) cut ∙ ap (λ b. b && not (has_link rest l)) (has_removed link l old sorted)
            ∙ ap (λ s. (has_link (keys_of old) l && not s) && not (has_link rest l)) (same_sym link l)
            ∙ moved (has_link (keys_of old) l) (same l link) (has_link rest l)
            ∙ ap (λ ls. has_link (keys_of old) l && not (has_link ls l)) (sym goes) ∙ a.has l;
      }
    where
      moved : (h s r : Bool) → ((h && not s) && not r) ≡ (h && not (s || r))
      moved true true r = refl
      moved true false r = refl
      moved false s r = refl

-- what is gone is removed, and then more is added
pub relinks : (new cut old gone more : List OwnerLink) → RemovesLinks cut old gone → HasLinks new cut more → Relinks new old gone more
relinks new cut old gone more cuts adds = record { has = λ l. adds.has l ∙ ap (λ b. b || has_link more l) (cuts.has l) }
