-- What was read reads as itself.
use Rattle.std.proofs.Common.{◌≡◌, ◌≤◌, List, ℕ, Bool, true, false, not, cond, codes, ◌||◌, nat_le, max, is_some, is_eq, Option, Some, Result, Ok, Err, Ordering, Less, Equal, Greater, nat_cmp, refl, sym, ap, ◌∙◌, subst, arith}
use Rattle.std.proofs.lemmas.Bool.{leb-true, le-leb}
use Rattle.std.proofs.lemmas.Map.Text.{is_eq-slice_cmp}
use Rattle.std.proofs.lemmas.Slice.Eq.{bytes_eq-Decides}
use Rattle.std.specs.Ordering.{match_ordering}
use Rattle.std.specs.Cmp.Lexicographic.{slice_cmp}
use Rattle.serde_json.specs.Data.{Data, null, boolean, number, string, array, object, Items, no_items, item, Members, no_members, member, put, depth, items_depth, members_depth}
use Rattle.serde_json.specs.Find.{get_member}
use Rattle.serde_json.specs.Written.{has_float}
use Rattle.serde_json.proofs.Views.{get_member-put}
use Rattle.spec_api.proofs.Truths.{and_true, both_true}
use Rattle.spec_api.specs.declared.refusals.Part.{Part}
use Rattle.spec_api.specs.declared.refusals.Part.TheVariants as part
use Rattle.spec_api.specs.declared.kinds.Kind.{Kind}
use Rattle.spec_api.specs.declared.kinds.Kind.TheVariants.{ConfigMap, Pod, ReplicaSet, Deployment}
use Rattle.spec_api.specs.declared.schemas.Property.{Property}
use Rattle.spec_api.specs.declared.schemas.Shape.{Shape}
use Rattle.spec_api.specs.declared.schemas.Shape.TheVariants.{Text, TextList, List as ListOf, Object}
use Rattle.spec_api.specs.declared.schemas.Schema.{Schema}
use Rattle.spec_api.specs.declared.schemas.Schema.TheVariants.{Root}
use Rattle.spec_api.specs.Kinds.{api_version, kind_text}
use Rattle.spec_api.specs.Schemas.{property_at}
use Rattle.spec_api.specs.Values.{with_default, is_null}
use Rattle.spec_api.specs.Reading.{fits, items_fit, members_fit, tidied, tidied_items, tidied_members, is_absent, item_of, schema_of, filled, with_spec, is_body, empty, reading}
use Rattle.spec_api.proofs.NoFloatsRead.{has_float-tidied, has_float-filled, has_float-is_body}

-- ---- tidy values

abbrev mutual
  pub IsTidy : Shape → Data → Type 0
  IsTidy s null = Unit {0}
  IsTidy s (boolean b) = Unit {0}
  IsTidy s (number n) = Unit {0}
  IsTidy s (string t) = Unit {0}
  IsTidy s (array ds) = ItemsTidy (item_of s) ds
  IsTidy s (object ms) = MembersTidy (schema_of s) ms

  pub ItemsTidy : Shape → Items → Type 0
  ItemsTidy s no_items = Unit {0}
  ItemsTidy s (item d ds) = IsTidy s d × ItemsTidy s ds

  pub MembersTidy : Schema → Members → Type 0
  MembersTidy p no_members = Unit {0}
  MembersTidy p (member k d ms) = (is_absent (property_at p k) d ≡ false) × IsTidy (property_at p k).shape d × MembersTidy p ms

unless_absent : (p : Schema) (b : Bool) (k : List ℕ) (d : Data) (ms : Members) → is_absent (property_at p k) d ≡ b → IsTidy (property_at p k).shape d → MembersTidy p ms → MembersTidy p (cond b ms (member k d ms))
unless_absent p true k d ms is h g = g
unless_absent p false k d ms is h g = (is, h, g)

mutual
  IsTidy-tidied : (s : Shape) (d : Data) → IsTidy s (tidied s d)
  IsTidy-tidied s null = tt
  IsTidy-tidied s (boolean b) = tt
  IsTidy-tidied s (number n) = tt
  IsTidy-tidied s (string t) = tt
  IsTidy-tidied s (array ds) = ItemsTidy-tidied (item_of s) ds
  IsTidy-tidied s (object ms) = MembersTidy-tidied (schema_of s) ms

  ItemsTidy-tidied : (s : Shape) (ds : Items) → ItemsTidy s (tidied_items s ds)
  ItemsTidy-tidied s no_items = tt
  ItemsTidy-tidied s (item d ds) = (IsTidy-tidied s d, ItemsTidy-tidied s ds)

  pub MembersTidy-tidied : (p : Schema) (ms : Members) → MembersTidy p (tidied_members p ms)
  MembersTidy-tidied p no_members = tt
  MembersTidy-tidied p (member k d ms) =
      unless_absent p (is_absent (property_at p k) (tidied (property_at p k).shape d)) k (tidied (property_at p k).shape d) (tidied_members p ms) refl (IsTidy-tidied (property_at p k).shape d) (MembersTidy-tidied p ms)

kept_there : (m : Property) (k : List ℕ) (d e : Data) (ms ns : Members) → e ≡ d → ns ≡ ms → is_absent m d ≡ false → cond (is_absent m e) ns (member k e ns) ≡ member k d ms
kept_there m k d e ms ns p q h = rw (p, q, h) refl

mutual
  tidied-IsTidy : (s : Shape) (d : Data) → IsTidy s d → tidied s d ≡ d
  tidied-IsTidy s null h = refl
  tidied-IsTidy s (boolean b) h = refl
  tidied-IsTidy s (number n) h = refl
  tidied-IsTidy s (string t) h = refl
  tidied-IsTidy s (array ds) h = ap array (tidied_items-ItemsTidy (item_of s) ds h)
  tidied-IsTidy s (object ms) h = ap object (tidied_members-MembersTidy (schema_of s) ms h)

  tidied_items-ItemsTidy : (s : Shape) (ds : Items) → ItemsTidy s ds → tidied_items s ds ≡ ds
  tidied_items-ItemsTidy s no_items h = refl
  tidied_items-ItemsTidy s (item d ds) h = rw (tidied-IsTidy s d h.0, tidied_items-ItemsTidy s ds h.1) refl

  pub tidied_members-MembersTidy : (p : Schema) (ms : Members) → MembersTidy p ms → tidied_members p ms ≡ ms
  tidied_members-MembersTidy p no_members h = refl
  tidied_members-MembersTidy p (member k d ms) h =
      kept_there (property_at p k) k d (tidied (property_at p k).shape d) ms (tidied_members p ms) (tidied-IsTidy (property_at p k).shape d h.1) (tidied_members-MembersTidy p ms h.2) h.0

-- ---- what fits still fits once tidied

either_true : (b c e : Bool) → (c ≡ true → e ≡ true) → (b || c) ≡ true → (b || e) ≡ true
either_true true c e f h = refl
either_true false c e f h = f h

is_null-tidied : (s : Shape) (d : Data) → is_null (tidied s d) ≡ is_null d
is_null-tidied s null = refl
is_null-tidied s (boolean b) = refl
is_null-tidied s (number n) = refl
is_null-tidied s (string t) = refl
is_null-tidied s (array ds) = refl
is_null-tidied s (object ms) = refl

fits_unless : (p : Schema) (b : Bool) (k : List ℕ) (d : Data) (ms : Members) → (is_null d || fits (property_at p k).shape d) ≡ true → members_fit p ms ≡ true → members_fit p (cond b ms (member k d ms)) ≡ true
fits_unless p true k d ms h g = g
fits_unless p false k d ms h g = and_true (is_null d || fits (property_at p k).shape d) (members_fit p ms) h g

mutual
  fits-tidied : (s : Shape) (d : Data) → fits s d ≡ true → fits s (tidied s d) ≡ true
  fits-tidied s null h = h
  fits-tidied s (boolean b) h = h
  fits-tidied s (number n) h = h
  fits-tidied s (string t) h = h
  fits-tidied TextList (array ds) h = items_fit-tidied Text ds h
  fits-tidied (ListOf p) (array ds) h = items_fit-tidied (Object p) ds h
  fits-tidied s (array ds) h = h
  fits-tidied (Object p) (object ms) h = members_fit-tidied p ms h
  fits-tidied s (object ms) h = h

  items_fit-tidied : (s : Shape) (ds : Items) → items_fit s ds ≡ true → items_fit s (tidied_items s ds) ≡ true
  items_fit-tidied s no_items h = refl
  items_fit-tidied s (item d ds) h =
      let both = both_true (fits s d) (items_fit s ds) h in
      and_true (fits s (tidied s d)) (items_fit s (tidied_items s ds)) (fits-tidied s d both.0) (items_fit-tidied s ds both.1)

  pub members_fit-tidied : (p : Schema) (ms : Members) → members_fit p ms ≡ true → members_fit p (tidied_members p ms) ≡ true
  members_fit-tidied p no_members h = refl
  members_fit-tidied p (member k d ms) h =
      let s = (property_at p k).shape in
      let both = both_true (is_null d || fits s d) (members_fit p ms) h in
      fits_unless p (is_absent (property_at p k) (tidied s d)) k (tidied s d) (tidied_members p ms)
      (ap (λ b. b || fits s (tidied s d)) (is_null-tidied s d) ∙ either_true (is_null d) (fits s d) (fits s (tidied s d)) (fits-tidied s d) both.0) (members_fit-tidied p ms both.1)

-- ---- depth

depth_unless : (b : Bool) (k : List ℕ) (d : Data) (ms : Members) → members_depth (cond b ms (member k d ms)) ≤ max (depth d) (members_depth ms)
depth_unless true k d ms = omega arith
depth_unless false k d ms = omega arith

mutual
  depth-tidied : (s : Shape) (d : Data) → depth (tidied s d) ≤ depth d
  depth-tidied s null = omega arith
  depth-tidied s (boolean b) = omega arith
  depth-tidied s (number n) = omega arith
  depth-tidied s (string t) = omega arith
  depth-tidied s (array ds) = let h = items_depth-tidied (item_of s) ds in omega arith
  depth-tidied s (object ms) = let h = members_depth-tidied (schema_of s) ms in omega arith

  items_depth-tidied : (s : Shape) (ds : Items) → items_depth (tidied_items s ds) ≤ items_depth ds
  items_depth-tidied s no_items = omega arith
  items_depth-tidied s (item d ds) = let h = depth-tidied s d in let g = items_depth-tidied s ds in omega arith

  pub members_depth-tidied : (p : Schema) (ms : Members) → members_depth (tidied_members p ms) ≤ members_depth ms
  members_depth-tidied p no_members = omega arith
  members_depth-tidied p (member k d ms) =
      let e = tidied (property_at p k).shape d in
      let f : members_depth (tidied_members p (member k d ms)) ≤ max (depth e) (members_depth (tidied_members p ms)) = depth_unless (is_absent (property_at p k) e) k e (tidied_members p ms) in
      let h : depth e ≤ depth d = depth-tidied (property_at p k).shape d in let g = members_depth-tidied p ms in omega arith

-- ---- members that fit, are tidy and not too deep, and what is put among them

abbrev pub Fine : Schema → List ℕ → Data → Type 0
Fine p k d = ((is_null d || fits (property_at p k).shape d) ≡ true) × (is_absent (property_at p k) d ≡ false) × IsTidy (property_at p k).shape d × (depth d ≤ 99)

abbrev pub Good : Schema → Members → Type 0
Good p no_members = Unit {0}
Good p (member k d ms) = Fine p k d × Good p ms

pub Good-of : (p : Schema) (ms : Members) → members_fit p ms ≡ true → MembersTidy p ms → members_depth ms ≤ 99 → Good p ms
Good-of p no_members f t d = tt
Good-of p (member k e ms) f t d =
    let both = both_true (is_null e || fits (property_at p k).shape e) (members_fit p ms) f in
    let here : depth e ≤ 99 = omega arith in
    let below : members_depth ms ≤ 99 = omega arith in
    ((both.0, t.0, t.1, here), Good-of p ms both.1 t.2 below)

pub Good-fits : (p : Schema) (ms : Members) → Good p ms → members_fit p ms ≡ true
Good-fits p no_members g = refl
Good-fits p (member k d ms) g = and_true (is_null d || fits (property_at p k).shape d) (members_fit p ms) g.0.0 (Good-fits p ms g.1)

pub Good-tidy : (p : Schema) (ms : Members) → Good p ms → MembersTidy p ms
Good-tidy p no_members g = tt
Good-tidy p (member k d ms) g = (g.0.1, g.0.2, Good-tidy p ms g.1)

Good-depth : (p : Schema) (ms : Members) → Good p ms → members_depth ms ≤ 99
Good-depth p no_members g = omega arith
Good-depth p (member k d ms) g = let here : depth d ≤ 99 = g.0.3 in let h : members_depth ms ≤ 99 = Good-depth p ms g.1 in omega arith

pub same_name : (k l : List ℕ) → slice_cmp nat_cmp k l ≡ Equal → k ≡ l
same_name k l is = (bytes_eq-Decides k l).0 (sym (is_eq-slice_cmp k l) ∙ ap is_eq is)

good_at : (o : Ordering) (p : Schema) (k l : List ℕ) (d e : Data) (ms : Members) → slice_cmp nat_cmp k l ≡ o → Fine p k d → Good p (member l e ms) → Good p (put k d ms)
    → Good p (match_ordering o (member k d (member l e ms)) (member l d ms) (member l e (put k d ms)))
good_at Less p k l d e ms is f g later = (f, g)
good_at Equal p k l d e ms is f g later = (subst (λ n. Fine p n d) (same_name k l is) f, g.1)
good_at Greater p k l d e ms is f g later = (g.0, later)

pub Good-put : (p : Schema) (k : List ℕ) (d : Data) (ms : Members) → Fine p k d → Good p ms → Good p (put k d ms)
Good-put p k d no_members f g = (f, tt)
Good-put p k d (member l e ms) f g = good_at (slice_cmp nat_cmp k l) p k l d e ms refl f g (Good-put p k d ms f g.1)

-- ---- what is filled in, among members

abbrev pub defaulted : List ℕ → Data → Members → Members
defaulted k d ms = cond (is_some (get_member k ms)) ms (put k d ms)

good_cond : (p : Schema) (b : Bool) (k : List ℕ) (d : Data) (ms : Members) → Fine p k d → Good p ms → Good p (cond b ms (put k d ms))
good_cond p true k d ms f g = g
good_cond p false k d ms f g = Good-put p k d ms f g

Good-defaulted : (p : Schema) (k : List ℕ) (d : Data) (ms : Members) → Fine p k d → Good p ms → Good p (defaulted k d ms)
Good-defaulted p k d ms f g = good_cond p (is_some (get_member k ms)) k d ms f g

object_cond : (b : Bool) (x y : Members) → cond b (object x) (object y) ≡ object (cond b x y)
object_cond true x y = refl
object_cond false x y = refl

with_default-object : (k : List ℕ) (d : Data) (ms : Members) → with_default k d (object ms) ≡ object (defaulted k d ms)
with_default-object k d ms = object_cond (is_some (get_member k ms)) ms (put k d ms)

abbrev pub Has : List ℕ → Members → Type 0
Has k ms = is_some (get_member k ms) ≡ true

has_past : (o : Ordering) (e : Data) (x y : Option Data) → (is_some x ≡ true → is_some y ≡ true) → is_some (match_ordering o x (Some e) x) ≡ true → is_some (match_ordering o y (Some e) y) ≡ true
has_past Less e x y f h = f h
has_past Equal e x y f h = refl
has_past Greater e x y f h = f h

has_new : (o : Ordering) (d : Data) (x : Option Data) → is_some x ≡ true → is_some (match_ordering o x (Some d) x) ≡ true
has_new Less d x h = h
has_new Equal d x h = refl
has_new Greater d x h = h

has_other : (o : Ordering) (d e : Data) (x : Option Data) → is_some (match_ordering o x (Some e) x) ≡ true → is_some (match_ordering o x (Some d) x) ≡ true
has_other Less d e x h = h
has_other Equal d e x h = refl
has_other Greater d e x h = h

has_at : (o : Ordering) (q k l : List ℕ) (d e : Data) (ms : Members) → Has q (member l e ms) → (Has q ms → Has q (put k d ms)) → Has q (match_ordering o (member k d (member l e ms)) (member l d ms) (member l e (put k d ms)))
has_at Less q k l d e ms h later = has_new (slice_cmp nat_cmp q k) d (get_member q (member l e ms)) h
has_at Equal q k l d e ms h later = has_other (slice_cmp nat_cmp q l) d e (get_member q ms) h
has_at Greater q k l d e ms h later = has_past (slice_cmp nat_cmp q l) e (get_member q ms) (get_member q (put k d ms)) later h

pub Has-put : (q k : List ℕ) (d : Data) (ms : Members) → Has q ms → Has q (put k d ms)
Has-put q k d no_members h = cc
Has-put q k d (member l e ms) h = has_at (slice_cmp nat_cmp k l) q k l d e ms h (Has-put q k d ms)

has_cond : (b : Bool) (q k : List ℕ) (d : Data) (ms : Members) → Has q ms → Has q (cond b ms (put k d ms))
has_cond true q k d ms h = h
has_cond false q k d ms h = Has-put q k d ms h

Has-later : (q k : List ℕ) (d : Data) (ms : Members) → Has q ms → Has q (defaulted k d ms)
Has-later q k d ms h = has_cond (is_some (get_member k ms)) q k d ms h

has_itself : (b : Bool) (k : List ℕ) (d : Data) (ms : Members) → is_some (get_member k ms) ≡ b → Has k (cond b ms (put k d ms))
has_itself true k d ms h = h
has_itself false k d ms h = ap is_some (get_member-put k d ms)

Has-defaulted : (k : List ℕ) (d : Data) (ms : Members) → Has k (defaulted k d ms)
Has-defaulted k d ms = has_itself (is_some (get_member k ms)) k d ms refl

with_default-there : (k : List ℕ) (d : Data) (ms : Members) → Has k ms → with_default k d (object ms) ≡ object ms
with_default-there k d ms h = rw h refl

abbrev pub spec_members : Kind → Members → Members
spec_members Pod ms = defaulted (codes "spec") empty ms
spec_members k ms = ms

abbrev pub HasSpec : Kind → Members → Type 0
HasSpec Pod ms = Has (codes "spec") ms
HasSpec k ms = Unit {0}

abbrev pub filled_members : Kind → Members → Members
filled_members k ms = defaulted (codes "apiVersion") (string (api_version k)) (defaulted (codes "kind") (string (kind_text k)) (spec_members k (defaulted (codes "metadata") empty ms)))

with_spec-object : (k : Kind) (ms : Members) → with_spec k (object ms) ≡ object (spec_members k ms)
with_spec-object ConfigMap ms = refl
with_spec-object Pod ms = with_default-object (codes "spec") empty ms
with_spec-object ReplicaSet ms = refl
with_spec-object Deployment ms = refl

pub filled-object : (k : Kind) (ms : Members) → filled k (object ms) ≡ object (filled_members k ms)
filled-object k ms =
    let based = defaulted (codes "metadata") empty ms in
    let named : Data → Data = λ x. with_default (codes "apiVersion") (string (api_version k)) (with_default (codes "kind") (string (kind_text k)) x) in
    ap (λ x. named (with_spec k x)) (with_default-object (codes "metadata") empty ms)
    ∙ ap named (with_spec-object k based)
    ∙ ap (with_default (codes "apiVersion") (string (api_version k))) (with_default-object (codes "kind") (string (kind_text k)) (spec_members k based))
    ∙ with_default-object (codes "apiVersion") (string (api_version k)) (defaulted (codes "kind") (string (kind_text k)) (spec_members k based))

fine_metadata : (k : Kind) → Fine (Root k) (codes "metadata") empty
fine_metadata ConfigMap = (refl, refl, tt, omega arith)
fine_metadata Pod = (refl, refl, tt, omega arith)
fine_metadata ReplicaSet = (refl, refl, tt, omega arith)
fine_metadata Deployment = (refl, refl, tt, omega arith)

fine_kind : (k : Kind) → Fine (Root k) (codes "kind") (string (kind_text k))
fine_kind ConfigMap = (refl, refl, tt, omega arith)
fine_kind Pod = (refl, refl, tt, omega arith)
fine_kind ReplicaSet = (refl, refl, tt, omega arith)
fine_kind Deployment = (refl, refl, tt, omega arith)

fine_version : (k : Kind) → Fine (Root k) (codes "apiVersion") (string (api_version k))
fine_version ConfigMap = (refl, refl, tt, omega arith)
fine_version Pod = (refl, refl, tt, omega arith)
fine_version ReplicaSet = (refl, refl, tt, omega arith)
fine_version Deployment = (refl, refl, tt, omega arith)

good_spec : (k : Kind) (ms : Members) → Good (Root k) ms → Good (Root k) (spec_members k ms)
good_spec ConfigMap ms g = g
good_spec Pod ms g = Good-defaulted (Root Pod) (codes "spec") empty ms (refl, refl, tt, omega arith) g
good_spec ReplicaSet ms g = g
good_spec Deployment ms g = g

pub Good-filled : (k : Kind) (ms : Members) → Good (Root k) ms → Good (Root k) (filled_members k ms)
Good-filled k ms g =
    let based = defaulted (codes "metadata") empty ms in
    let g1 : Good (Root k) based = Good-defaulted (Root k) (codes "metadata") empty ms (fine_metadata k) g in
    let g2 : Good (Root k) (spec_members k based) = good_spec k based g1 in
    let g3 = Good-defaulted (Root k) (codes "kind") (string (kind_text k)) (spec_members k based) (fine_kind k) g2 in
    Good-defaulted (Root k) (codes "apiVersion") (string (api_version k)) (defaulted (codes "kind") (string (kind_text k)) (spec_members k based)) (fine_version k) g3

has_spec : (k : Kind) (ms : Members) → HasSpec k (spec_members k ms)
has_spec ConfigMap ms = tt
has_spec Pod ms = Has-defaulted (codes "spec") empty ms
has_spec ReplicaSet ms = tt
has_spec Deployment ms = tt

has_spec_later : (k : Kind) (n : List ℕ) (d : Data) (ms : Members) → HasSpec k ms → HasSpec k (defaulted n d ms)
has_spec_later ConfigMap n d ms h = tt
has_spec_later Pod n d ms h = Has-later (codes "spec") n d ms h
has_spec_later ReplicaSet n d ms h = tt
has_spec_later Deployment n d ms h = tt

has_at_spec : (k : Kind) (q : List ℕ) (ms : Members) → Has q ms → Has q (spec_members k ms)
has_at_spec ConfigMap q ms h = h
has_at_spec Pod q ms h = Has-later q (codes "spec") empty ms h
has_at_spec ReplicaSet q ms h = h
has_at_spec Deployment q ms h = h

with_spec-there : (k : Kind) (ms : Members) → HasSpec k ms → with_spec k (object ms) ≡ object ms
with_spec-there ConfigMap ms h = refl
with_spec-there Pod ms h = with_default-there (codes "spec") empty ms h
with_spec-there ReplicaSet ms h = refl
with_spec-there Deployment ms h = refl

abbrev pub Filled : Kind → Members → Type 0
Filled k ms = Has (codes "metadata") ms × HasSpec k ms × Has (codes "kind") ms × Has (codes "apiVersion") ms

pub Filled-filled : (k : Kind) (ms : Members) → Filled k (filled_members k ms)
Filled-filled k ms =
    let based = defaulted (codes "metadata") empty ms in
    let specced = spec_members k based in
    let n = string (kind_text k) in
    let v = string (api_version k) in
    let named = defaulted (codes "kind") n specced in (
      Has-later (codes "metadata") (codes "apiVersion") v named (Has-later (codes "metadata") (codes "kind") n specced (has_at_spec k (codes "metadata") based (Has-defaulted (codes "metadata") empty ms))),
      has_spec_later k (codes "apiVersion") v named (has_spec_later k (codes "kind") n specced (has_spec k based)),
      Has-later (codes "kind") (codes "apiVersion") v named (Has-defaulted (codes "kind") n specced),
      Has-defaulted (codes "apiVersion") v named,
    )

filled-Filled : (k : Kind) (ms : Members) → Filled k ms → filled k (object ms) ≡ object ms
filled-Filled k ms h =
    let named : Data → Data = λ x. with_default (codes "apiVersion") (string (api_version k)) (with_default (codes "kind") (string (kind_text k)) x) in
    ap (λ x. named (with_spec k x)) (with_default-there (codes "metadata") empty ms h.0)
    ∙ ap named (with_spec-there k ms h.1)
    ∙ ap (with_default (codes "apiVersion") (string (api_version k))) (with_default-there (codes "kind") (string (kind_text k)) ms h.2)
    ∙ with_default-there (codes "apiVersion") (string (api_version k)) ms h.3

-- ---- reading

pub opened : (b f : Bool) (x e : Data) → (let r : Result Data Part = cond (not b) (Err part.Body) (cond f (Ok x) (Err part.Object)) in r ≡ Ok e) → (b ≡ true) × (f ≡ true) × (x ≡ e)
opened true true x e h = (refl, refl, cc)
opened true false x e h = cc
opened false f x e h = cc

pub closed : (b f : Bool) (x e : Data) → b ≡ true → f ≡ true → x ≡ e → (let r : Result Data Part = cond (not b) (Err part.Body) (cond f (Ok x) (Err part.Object)) in r ≡ Ok e)
closed b f x e p q r = rw (p, q, r) refl

pub settled : (k : Kind) (ms : Members) → Good (Root k) ms → Filled k ms → has_float (object ms) ≡ false → reading k (object ms) ≡ Ok (object ms)
settled k ms g f whole =
    let below : members_depth ms ≤ 99 = Good-depth (Root k) ms g in
    let deep : nat_le (depth (object ms)) 100 ≡ true = le-leb (depth (object ms)) 100 (omega arith) in
    let body : is_body (object ms) ≡ true = rw (whole, deep) refl in
    let same : tidied (Object (Root k)) (object ms) ≡ object ms = ap object (tidied_members-MembersTidy (Root k) ms (Good-tidy (Root k) ms g)) in
    closed (is_body (object ms)) (fits (Object (Root k)) (object ms)) (filled k (tidied (Object (Root k)) (object ms))) (object ms) body (Good-fits (Root k) ms g) (ap (filled k) same ∙ filled-Filled k ms f)

pub reads_again : (k : Kind) (d e : Data) → reading k d ≡ Ok e → reading k e ≡ Ok e
reads_again k (object ms) e h =
    let root = Object (Root k) in
    let parts = opened (is_body (object ms)) (fits root (object ms)) (filled k (tidied root (object ms))) e h in
    let whole : has_float (object ms) ≡ false = has_float-is_body (object ms) parts.0 in
    let deep : depth (object ms) ≤ 100 = leb-true (depth (object ms)) 100 (both_true (not (has_float (object ms))) (nat_le (depth (object ms)) 100) parts.0).1 in
    let left = tidied_members (Root k) ms in
    let kept : members_depth left ≤ members_depth ms = members_depth-tidied (Root k) ms in
    let good : Good (Root k) left = Good-of (Root k) left (members_fit-tidied (Root k) ms parts.1) (MembersTidy-tidied (Root k) ms) (omega arith) in
    let is : object (filled_members k left) ≡ e = sym (filled-object k left) ∙ parts.2 in
    let still : has_float (object (filled_members k left)) ≡ false =
    ap has_float (sym (filled-object k left)) ∙ has_float-filled k (object left) (has_float-tidied root (object ms) whole) in
    subst (λ x. reading k x ≡ Ok x) is (settled k (filled_members k left) (Good-filled k left good) (Filled-filled k left) still)
reads_again k d e h = cc
