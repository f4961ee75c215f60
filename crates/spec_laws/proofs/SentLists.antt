-- The body of a list, as it is read, and the map that it makes.
use Rattle.std.proofs.Common.{◌≡◌, ◌≤◌, ◌||◌, ℕ, List, [], ◌∷◌, ◌++◌, map, Bool, true, false, cond, nat_le, codes, bytes_eq, is_some, Option, Some, None, option_map, option_and_then, Ok, Greater, refl, sym, ap, ◌∙◌, subst, arith, append_assoc, append-nil}
use Rattle.std.proofs.lemmas.Bool.{le-leb}
use Rattle.std.proofs.lemmas.Slice.Eq.{bytes_eq-Decides}
use Rattle.std.specs.List.{AllByRecursion, list_any}
use Rattle.std.specs.Ordering.{ordering_reverse}
use Rattle.std.specs.Str.{is_utf8}
use Rattle.serde_json.specs.Data as json
use Rattle.serde_json.specs.Data.{Data, null, boolean, number, string, array, object, no_members, member, put, depth, items_depth}
use Rattle.serde_json.specs.Find.{get_member}
use Rattle.serde_json.specs.Read.{read}
use Rattle.serde_json.specs.View.{items_of}
use Rattle.spec_api.specs.declared.kinds.Kind.{Kind}
use Rattle.spec_api.specs.declared.kinds.Kind.TheVariants.{ConfigMap, Pod, ReplicaSet, Deployment}
use Rattle.spec_api.specs.declared.schemas.Property.{Property}
use Rattle.spec_api.specs.declared.schemas.Shape.TheVariants.{NameOf, VersionOf, Object as ObjectOf}
use Rattle.spec_api.specs.declared.schemas.Schema.TheVariants.{Root}
use Rattle.spec_api.specs.Kinds.{api_version, kind_text}
use Rattle.spec_api.specs.History.{History, Entries, present, up_to, after_all, put_or_remove, in_view, viewed, list}
use Rattle.spec_api.specs.Keys.{Key, key_cmp, is_same_key}
use Rattle.spec_api.specs.Objects.{Object}
use Rattle.spec_api.specs.Reading.{reading, is_body, is_absent, fits, tidied, filled, empty}
use Rattle.spec_api.specs.Schemas.{with_shape, property_at}
use Rattle.spec_api.specs.Values.{members_of, without, is_null}
use Rattle.spec_api.specs.Verbs.{as_item, list_body}
use Rattle.spec_client_go.specs.Reflectors.{Shown, shown, shown_read, name_in, all_shown, apart, items_shown, repeats, is_list, revision, list_in, list_of, put_all}
use Rattle.spec_api.specs.Reached.{IsReached}
use Rattle.spec_laws.specs.SentLaws.{whole, objects_in, ListsArePut, ListsAreRead, ListsNest}
use Rattle.spec_api.proofs.JsonMembers.{get_member-without_other}
use Rattle.spec_laws.proofs.JsonOrder.{IsOrdered, IsOrdered-without, put_back, gone}
use Rattle.spec_laws.proofs.Limited.{limited}
use Rattle.spec_laws.proofs.NeatMembers.{Neat, Neat-get, Neat-without, Neat-depth, Neat-whole, Neat-fits, Neat-tidy, opens}
use Rattle.spec_api.proofs.PutLaws.{name_cmp_total, IsAbove, IsAscending}
use Rattle.spec_laws.proofs.Parsed.{inside}
use Rattle.spec_laws.proofs.ReadAgain.{Has, HasSpec, Filled, Filled-filled, defaulted, spec_members, filled_members, filled-object, closed, tidied_members-MembersTidy}
use Rattle.spec_api.proofs.RevisionTexts.{revision_is}
use Rattle.spec_laws.proofs.SentChanges.{shown_is, name_is, same_kind, nests, read_body}
use Rattle.spec_laws.proofs.SentObjects.{IsHeld}
use Rattle.spec_laws.proofs.EachWrite.{Held, held_all}
use Rattle.spec_laws.proofs.Stored.{AreStored-up_to, all_stored, held_puts}
use Rattle.spec_laws.proofs.Streamed.{put_last, list_ascending}

-- ---- an item says what the object says

module _ (k : Kind) where
  is_kind : (s : Data) (m : Property) → m ≡ with_shape (NameOf k) → (is_null s || fits m.shape s) ≡ true → is_absent m s ≡ false → s ≡ string (kind_text k)
  is_kind (string s) m is f n = let g : bytes_eq s (kind_text k) ≡ true = subst (λ x. fits x.shape (string s) ≡ true) is f in ap string ((bytes_eq-Decides s (kind_text k)).0 g)
  is_kind null m is f n = cc
  is_kind (boolean b) m is f n = let g : fits (NameOf k) (boolean b) ≡ true = subst (λ x. fits x.shape (boolean b) ≡ true) is f in cc
  is_kind (number b) m is f n = let g : fits (NameOf k) (number b) ≡ true = subst (λ x. fits x.shape (number b) ≡ true) is f in cc
  is_kind (array b) m is f n = let g : fits (NameOf k) (array b) ≡ true = subst (λ x. fits x.shape (array b) ≡ true) is f in cc
  is_kind (object b) m is f n = let g : fits (NameOf k) (object b) ≡ true = subst (λ x. fits x.shape (object b) ≡ true) is f in cc

  is_version : (s : Data) (m : Property) → m ≡ with_shape (VersionOf k) → (is_null s || fits m.shape s) ≡ true → is_absent m s ≡ false → s ≡ string (api_version k)
  is_version (string s) m is f n = let g : bytes_eq s (api_version k) ≡ true = subst (λ x. fits x.shape (string s) ≡ true) is f in ap string ((bytes_eq-Decides s (api_version k)).0 g)
  is_version null m is f n = cc
  is_version (boolean b) m is f n = let g : fits (VersionOf k) (boolean b) ≡ true = subst (λ x. fits x.shape (boolean b) ≡ true) is f in cc
  is_version (number b) m is f n = let g : fits (VersionOf k) (number b) ≡ true = subst (λ x. fits x.shape (number b) ≡ true) is f in cc
  is_version (array b) m is f n = let g : fits (VersionOf k) (array b) ≡ true = subst (λ x. fits x.shape (array b) ≡ true) is f in cc
  is_version (object b) m is f n = let g : fits (VersionOf k) (object b) ≡ true = subst (λ x. fits x.shape (object b) ≡ true) is f in cc

at_kind : (k : Kind) → property_at (Root k) (codes "kind") ≡ with_shape (NameOf k)
at_kind ConfigMap = refl
at_kind Pod = refl
at_kind ReplicaSet = refl
at_kind Deployment = refl

at_version : (k : Kind) → property_at (Root k) (codes "apiVersion") ≡ with_shape (VersionOf k)
at_version ConfigMap = refl
at_version Pod = refl
at_version ReplicaSet = refl
at_version Deployment = refl

some_there : (o : Option Data) → is_some o ≡ true → (d : Data) × (o ≡ Some d)
some_there None h = cc
some_there (Some d) h = (d, refl)

kind_there : (k : Kind) (ms : json.Members) → Neat 99 (Root k) ms → Has (codes "kind") ms → get_member (codes "kind") ms ≡ Some (string (kind_text k))
kind_there k ms g h =
    let there = some_there (get_member (codes "kind") ms) h in
    let one = Neat-get 99 (Root k) (codes "kind") ms there.0 there.1 g in
    there.1 ∙ ap Some (is_kind k there.0 (property_at (Root k) (codes "kind")) (at_kind k) one.0 one.1)

version_there : (k : Kind) (ms : json.Members) → Neat 99 (Root k) ms → Has (codes "apiVersion") ms → get_member (codes "apiVersion") ms ≡ Some (string (api_version k))
version_there k ms g h =
    let there = some_there (get_member (codes "apiVersion") ms) h in
    let one = Neat-get 99 (Root k) (codes "apiVersion") ms there.0 there.1 g in
    there.1 ∙ ap Some (is_version k there.0 (property_at (Root k) (codes "apiVersion")) (at_version k) one.0 one.1)

default_there : (q : List ℕ) (d : Data) (ms : json.Members) → Has q ms → defaulted q d ms ≡ ms
default_there q d ms h = rw h refl

default_gone : (q : List ℕ) (d : Data) (ms : json.Members) → get_member q ms ≡ None → defaulted q d ms ≡ put q d ms
default_gone q d ms h = rw h refl

module _ (k : Kind) (ms : json.Members) (g : Neat 99 (Root k) ms) (f : Filled k ms) (ordered : IsOrdered ms) where
  abbrev first : json.Members
  first = without (codes "apiVersion") ms

  abbrev item : json.Members
  item = without (codes "kind") first

  -- any other member is still there
  still : (q : List ℕ) → bytes_eq q (codes "apiVersion") ≡ false → bytes_eq q (codes "kind") ≡ false → get_member q item ≡ get_member q ms
  still q a b = get_member-without_other q (codes "kind") first b ∙ get_member-without_other q (codes "apiVersion") ms a

  specced : (j : Kind) → j ≡ k → spec_members j item ≡ item
  specced ConfigMap is = refl
  specced Pod is =
      let there : HasSpec Pod ms = subst (λ j. HasSpec j ms) (sym is) f.1 in
      default_there (codes "spec") empty item (ap is_some (still (codes "spec") refl refl) ∙ there)
  specced ReplicaSet is = refl
  specced Deployment is = refl

  filled_again : filled_members k item ≡ ms
  filled_again =
      let n = string (kind_text k) in
      let v = string (api_version k) in
      let based : defaulted (codes "metadata") empty item ≡ item = default_there (codes "metadata") empty item (ap is_some (still (codes "metadata") refl refl) ∙ f.0) in
      let with_kind : defaulted (codes "kind") n item ≡ first =
      default_gone (codes "kind") n item (gone (codes "kind") first (IsOrdered-without (codes "apiVersion") ms ordered))
      ∙ put_back (codes "kind") n first (IsOrdered-without (codes "apiVersion") ms ordered) (get_member-without_other (codes "kind") (codes "apiVersion") ms refl ∙ kind_there k ms g f.2) in
      ap (λ x. defaulted (codes "apiVersion") v (defaulted (codes "kind") n (spec_members k x))) based
      ∙ ap (λ x. defaulted (codes "apiVersion") v (defaulted (codes "kind") n x)) (specced k refl)
      ∙ ap (defaulted (codes "apiVersion") v) with_kind
      ∙ default_gone (codes "apiVersion") v first (gone (codes "apiVersion") ms ordered) ∙ put_back (codes "apiVersion") v ms ordered (version_there k ms g f.3)

  item_reads : reading k (object item) ≡ Ok (object ms)
  item_reads =
      let neat : Neat 99 (Root k) item = Neat-without 99 (Root k) (codes "kind") first (Neat-without 99 (Root k) (codes "apiVersion") ms g) in
      let low = Neat-depth 99 (Root k) item neat in
      let deep : nat_le (depth (object item)) 100 ≡ true = le-leb (depth (object item)) 100 (omega (arith, low)) in
      let clean = Neat-whole 99 (Root k) item neat in
      let body : is_body (object item) ≡ true = rw (clean, deep) refl in
      let same : tidied (ObjectOf (Root k)) (object item) ≡ object item = ap object (tidied_members-MembersTidy (Root k) item (Neat-tidy 99 (Root k) item neat)) in
      closed (is_body (object item)) (fits (ObjectOf (Root k)) (object item)) (filled k (tidied (ObjectOf (Root k)) (object item))) (object ms) body (Neat-fits 99 (Root k) item neat)
      (ap (filled k) same ∙ filled-object k item ∙ ap object filled_again)

as_item_reads : (k : Kind) (d : Data) → reading k d ≡ Ok d → IsOrdered (members_of d) → reading k (as_item d) ≡ Ok d
as_item_reads k d h ordered =
    let opening = opens k d d h in
    let ms = filled_members k opening.left in
    let is : d ≡ object ms = opening.is in
    subst (λ x. reading k (as_item x) ≡ Ok x) (sym is) (item_reads k ms opening.neat (Filled-filled k opening.left) (subst (λ x. IsOrdered (members_of x)) is ordered))

item_shown : (k : Kind) (n : Key) (d : Data) → k ≡ n.kind → (existing : IsHeld n d) → shown k (as_item d) ≡ Some (record { object = record { kind = k; value = d }; revision = existing.0 })
item_shown k n d same existing =
    let stored = existing.1 in
    let read : reading k d ≡ Ok d = ap (λ x. reading x d) same ∙ stored.kept.reads in
    ap (shown_read k) (as_item_reads k d read (inside d stored.parsed).0 ∙ sym read) ∙ shown_is k n existing.0 d same stored.kept stored.low

-- ---- the members of a list

abbrev pub Lists : Kind → Key × Data → Type 0
Lists k m = (k ≡ m.0.kind) × IsHeld m.0 m.1

view_at : (k : Kind) (b : Bool) (m : Key × Data) (ms : Entries) → in_view (whole k) m.0 m.1 ≡ b → IsHeld m.0 m.1 → AllByRecursion (Lists k) ms → AllByRecursion (Lists k) (cond b (m ∷ ms) ms)
view_at k true m ms is h a = ((same_kind k m.0.kind is, h), a)
view_at k false m ms is h a = a

in_list : (k : Kind) (ms : Entries) → Held IsHeld ms → AllByRecursion (Lists k) (viewed (whole k) ms)
in_list k [] a = tt
in_list k (m ∷ ms) a = view_at k (in_view (whole k) m.0 m.1) m (viewed (whole k) ms) refl a.0 (in_list k ms a.1)

pub all_listed : (h : History) (k : Kind) (r : ℕ) → IsReached h → AllByRecursion (Lists k) (list h (whole k) r)
all_listed h k r reached = in_list k (after_all [] (up_to r h)) (held_all IsHeld (up_to r h) [] (held_puts 2 (up_to r h) (AreStored-up_to h r (all_stored h reached))) tt)

-- ---- the body

all_items : (k : Kind) (ms : Entries) → AllByRecursion (Lists k) ms → all_shown k (items_of (map (λ m. as_item m.1) ms)) ≡ Some (objects_in k ms)
all_items k [] a = refl
all_items k (m ∷ ms) a =
    ap (option_and_then (λ (s : Shown). option_map (λ os. s.object ∷ os) (all_shown k (items_of (map (λ m. as_item m.1) ms))))) (item_shown k m.0 m.1 a.0.0 a.0.1)
    ∙ ap (option_map (λ os. record { kind = k; value = m.1 } ∷ os)) (all_items k ms a.1)

names_in : (k : Kind) (ms : Entries) → AllByRecursion (Lists k) ms → map name_in (objects_in k ms) ≡ map (λ m. m.0) ms
names_in k [] a = refl
names_in k (m ∷ ms) a =
    ap (λ n. n ∷ map name_in (objects_in k ms)) (name_is k m.0 a.0.1.0 m.1 a.0.0 a.0.1.1.kept) ∙ ap (λ ns. m.0 ∷ ns) (names_in k ms a.1)

none_named : (n : Key) (ms : Entries) → IsAbove key_cmp n ms → list_any (λ m. is_same_key m n) (map (λ m. m.0) ms) ≡ false
none_named n [] a = refl
none_named n (m ∷ ms) a =
    let above : key_cmp m.0 n ≡ Greater = name_cmp_total.antisymm m.0 n ∙ ap ordering_reverse a.0 in
    rw above (none_named n ms a.1)

no_repeats : (ms : Entries) → IsAscending key_cmp ms → repeats (map (λ m. m.0) ms) ≡ false
no_repeats [] a = refl
no_repeats (m ∷ ms) a = rw (none_named m.0 ms a.0) (no_repeats ms a.1)

apart_is : (os : List Object) → repeats (map name_in os) ≡ false → apart os ≡ Some os
apart_is os h = rw h refl

calls_itself : (k : Kind) (r : ℕ) (ms : Entries) → is_list k (list_body k r ms) ≡ true
calls_itself ConfigMap r ms = refl
calls_itself Pod r ms = refl
calls_itself ReplicaSet r ms = refl
calls_itself Deployment r ms = refl

list_is : (k : Kind) (r : ℕ) (ms : Entries) → AllByRecursion (Lists k) ms → IsAscending key_cmp ms → r ≤ 9007199254740991
    → list_in k (list_body k r ms) ≡ Some (record { revision = r; objects = objects_in k ms })
list_is k r ms a ascending low =
    let says : revision (list_body k r ms) ≡ Some r = revision_is r (omega arith) in
    let os = objects_in k ms in
    let alone : apart os ≡ Some os = apart_is os (ap repeats (names_in k ms a) ∙ no_repeats ms ascending) in
    let items : items_shown k (list_body k r ms) ≡ Some os = ap (option_and_then apart) (all_items k ms a) ∙ alone in
    rw (calls_itself k r ms, says, items) refl

list_of_is : (k : Kind) (body : List ℕ) (d : Data) → is_utf8 body ≡ true → read body ≡ Some d → list_of k body ≡ list_in k d
list_of_is k body d u r = rw (u, r) refl

-- ---- the map that it makes

pub put_all_on : (k : Kind) (ms done : Entries) → AllByRecursion (Lists k) ms → IsAscending key_cmp (done ++ ms) → put_all done (objects_in k ms) ≡ done ++ ms
put_all_on k [] done a ascending = sym (append-nil done)
put_all_on k (m ∷ ms) done a ascending =
    ap (λ n. put_all (put_or_remove done n (Some m.1)) (objects_in k ms)) (name_is k m.0 a.0.1.0 m.1 a.0.0 a.0.1.1.kept)
    ∙ ap (λ z. put_all z (objects_in k ms)) (put_last done m ms ascending)
    ∙ put_all_on k ms (done ++ m ∷ []) a.1 (subst (IsAscending key_cmp) (sym (append_assoc done (m ∷ []) ms)) ascending) ∙ append_assoc done (m ∷ []) ms

pub lists_put : ListsArePut
lists_put h k r reached = put_all_on k (list h (whole k) r) [] (all_listed h k r reached) (list_ascending h (whole k) r)

pub lists_read : ListsAreRead
lists_read h k r body reached text =
    let few : present h ≤ 9007199254740991 = (limited h reached).1 in
    list_of_is k body (list_body k r (list h (whole k) r)) text.utf8 text.says
    ∙ list_is k r (list h (whole k) r) (all_listed h k r reached) (list_ascending h (whole k) r) (omega (arith, text.reached, few))

-- ---- how deep it nests

items_nest : (k : Kind) (ms : Entries) → AllByRecursion (Lists k) ms → items_depth (items_of (map (λ m. as_item m.1) ms)) ≤ 100
items_nest k [] a = omega arith
items_nest k (m ∷ ms) a =
    let stored = a.0.1.1 in
    let here : depth (as_item m.1) ≤ 100 = nests (as_item m.1) (read_body m.0.kind (as_item m.1) m.1 (as_item_reads m.0.kind m.1 stored.kept.reads (inside m.1 stored.parsed).0)) in
    let more = items_nest k ms a.1 in omega (arith, here, more)

pub lists_nest : ListsNest
lists_nest h k r reached =
    let deep = items_nest k (list h (whole k) r) (all_listed h k r reached) in omega (arith, deep)
