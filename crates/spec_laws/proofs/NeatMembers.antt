-- Members that fit their tables, with nothing that counts as absent: what is put among them, taken out, or found.
use Rattle.std.proofs.Common.{◌≡◌, ◌≤◌, ◌==◌, ℕ, length, List, [], ◌∷◌, Bool, true, false, cond, codes, not, nat_le, ◌||◌, nat_cmp, is_eq, Option, Some, None, Ok, Ordering, Less, Equal, Greater, refl, sym, ap, ◌∙◌, subst, arith}
use Rattle.std.proofs.lemmas.Bool.{leb-true, or_parts}
use Rattle.std.specs.Ordering.{match_ordering}
use Rattle.std.specs.Cmp.Lexicographic.{slice_cmp}
use Rattle.serde_json.specs.Data.{Data, null, boolean, number, string, array, object, Members, no_members, member, put, depth, members_depth}
use Rattle.serde_json.specs.Find.{get_member}
use Rattle.serde_json.specs.Written.{has_float, members_have_float}
use Rattle.spec_api.proofs.Truths.{both_true}
use Rattle.spec_api.specs.declared.kinds.Kind.{Kind}
use Rattle.spec_api.specs.declared.kinds.Kind.TheVariants.{ConfigMap, Pod, ReplicaSet, Deployment}
use Rattle.spec_api.specs.declared.schemas.Shape.TheVariants.{Object}
use Rattle.spec_api.specs.declared.schemas.Schema.{Schema}
use Rattle.spec_api.specs.declared.schemas.Schema.TheVariants.{Root, Metadata}
use Rattle.spec_api.specs.Metadata.{metadata_of}
use Rattle.spec_api.specs.Reading.{fits, members_fit, is_absent, reading, tidied, tidied_members, is_body, filled}
use Rattle.spec_api.specs.Schemas.{property_at}
use Rattle.spec_api.specs.Values.{members_of, inner_of, without, is_null}
use Rattle.spec_api.specs.Replacements.{as_stored, keeping}
use Rattle.spec_api.proofs.NoFloatsRead.{has_float-tidied, has_float-filled, has_float-is_body}
use Rattle.spec_laws.proofs.ReadAgain.{IsTidy, MembersTidy, MembersTidy-tidied, members_fit-tidied, members_depth-tidied, Good, Good-of, Good-filled, Has-put, Filled, HasSpec, filled_members, filled-object, opened, same_name}

-- a member that may stand, nested no deeper than n
abbrev pub One : ℕ → Schema → List ℕ → Data → Type 0
One n p k d = ((is_null d || fits (property_at p k).shape d) ≡ true) × (is_absent (property_at p k) d ≡ false) × IsTidy (property_at p k).shape d × (depth d ≤ n) × (has_float d ≡ false)

abbrev pub Neat : ℕ → Schema → Members → Type 0
Neat n p no_members = Unit {0}
Neat n p (member k d ms) = One n p k d × Neat n p ms

module _ (n : ℕ) (p : Schema) where
  put_at : (o : Ordering) (k l : List ℕ) (d e : Data) (ms : Members) → slice_cmp nat_cmp k l ≡ o → One n p k d → Neat n p (member l e ms) → Neat n p (put k d ms)
      → Neat n p (match_ordering o (member k d (member l e ms)) (member l d ms) (member l e (put k d ms)))
  put_at Less k l d e ms is f g later = (f, g)
  put_at Equal k l d e ms is f g later = (subst (λ q. One n p q d) (same_name k l is) f, g.1)
  put_at Greater k l d e ms is f g later = (g.0, later)

  pub Neat-put : (k : List ℕ) (d : Data) (ms : Members) → One n p k d → Neat n p ms → Neat n p (put k d ms)
  Neat-put k d no_members f g = (f, tt)
  Neat-put k d (member l e ms) f g = put_at (slice_cmp nat_cmp k l) k l d e ms refl f g (Neat-put k d ms f g.1)

  without_at : (b : Bool) (l : List ℕ) (e : Data) (ms left : Members) → Neat n p (member l e ms) → Neat n p left → Neat n p (cond b ms (member l e left))
  without_at true l e ms left g later = g.1
  without_at false l e ms left g later = (g.0, later)

  pub Neat-without : (k : List ℕ) (ms : Members) → Neat n p ms → Neat n p (without k ms)
  Neat-without k no_members g = tt
  Neat-without k (member l e ms) g = without_at (is_eq (slice_cmp nat_cmp k l)) l e ms (without k ms) g (Neat-without k ms g.1)

  get_at : (o : Ordering) (k l : List ℕ) (d e : Data) (ms : Members) → slice_cmp nat_cmp k l ≡ o → match_ordering o (get_member k ms) (Some e) (get_member k ms) ≡ Some d → Neat n p (member l e ms)
      → (get_member k ms ≡ Some d → One n p k d) → One n p k d
  get_at Less k l d e ms is h g later = later h
  get_at Equal k l d e ms is h g later = let here : e ≡ d = cc in subst (λ x. One n p k x) here (subst (λ q. One n p q e) (sym (same_name k l is)) g.0)
  get_at Greater k l d e ms is h g later = later h

  pub Neat-get : (k : List ℕ) (ms : Members) (d : Data) → get_member k ms ≡ Some d → Neat n p ms → One n p k d
  Neat-get k no_members d h g = cc
  Neat-get k (member l e ms) d h g = get_at (slice_cmp nat_cmp k l) k l d e ms refl h g (λ later. Neat-get k ms d later g.1)

  held_at : (k : List ℕ) (o : Option Data) (existing ms : Members) → get_member k existing ≡ o → Neat n p existing → Neat n p ms → Neat n p (as_stored k o ms)
  held_at k None existing ms is f g = Neat-without k ms g
  held_at k (Some d) existing ms is f g = Neat-put k d ms (Neat-get k existing d is f) g

  pub Neat-keeping : (ks : List (List ℕ)) (existing ms : Members) → Neat n p existing → Neat n p ms → Neat n p (keeping ks existing ms)
  Neat-keeping [] existing ms f g = g
  Neat-keeping (k ∷ ks) existing ms f g = Neat-keeping ks existing (as_stored k (get_member k existing) ms) f (held_at k (get_member k existing) existing ms refl f g)

  pub Neat-depth : (ms : Members) → Neat n p ms → members_depth ms ≤ n
  Neat-depth no_members g = omega arith
  Neat-depth (member k d ms) g = let here : depth d ≤ n = g.0.3 in let h : members_depth ms ≤ n = Neat-depth ms g.1 in omega arith

  pub Neat-whole : (ms : Members) → Neat n p ms → members_have_float ms ≡ false
  Neat-whole no_members g = refl
  Neat-whole (member k d ms) g = rw (g.0.4, Neat-whole ms g.1) refl

  pub Neat-fits : (ms : Members) → Neat n p ms → members_fit p ms ≡ true
  Neat-fits no_members g = refl
  Neat-fits (member k d ms) g = rw (g.0.0, Neat-fits ms g.1) refl

  pub Neat-tidy : (ms : Members) → Neat n p ms → MembersTidy p ms
  Neat-tidy no_members g = tt
  Neat-tidy (member k d ms) g = (g.0.1, g.0.2, Neat-tidy ms g.1)

  pub Neat-of : (ms : Members) → members_fit p ms ≡ true → MembersTidy p ms → members_depth ms ≤ n → members_have_float ms ≡ false → Neat n p ms
  Neat-of no_members f t d w = tt
  Neat-of (member k e ms) f t d w =
      let both = both_true (is_null e || fits (property_at p k).shape e) (members_fit p ms) f in
      let floats = or_parts (has_float e) (members_have_float ms) w in
      let here : depth e ≤ n = omega arith in
      let below : members_depth ms ≤ n = omega arith in
      ((both.0, t.0, t.1, here, floats.0), Neat-of ms both.1 t.2 below floats.1)

pub Neat-good : (p : Schema) (ms : Members) → Neat 99 p ms → Good p ms
Neat-good p ms g = Good-of p ms (Neat-fits 99 p ms g) (Neat-tidy 99 p ms g) (Neat-depth 99 p ms g)

good-neat : (p : Schema) (ms : Members) → Good p ms → members_have_float ms ≡ false → Neat 99 p ms
good-neat p no_members g w = tt
good-neat p (member k d ms) g w = let floats = or_parts (has_float d) (members_have_float ms) w in ((g.0.0, g.0.1, g.0.2, g.0.3, floats.0), good-neat p ms g.1 floats.1)

-- ---- what was read

-- the members that were read, of those of the value
pub record Opened (k : Kind) (d e : Data) : Type 0 where
  pub left : Members
  pub is : e ≡ object (filled_members k left)
  pub from : left ≡ tidied_members (Root k) (members_of d)
  pub neat : Neat 99 (Root k) (filled_members k left)

pub opens : (k : Kind) (d e : Data) → reading k d ≡ Ok e → Opened k d e
opens k (object ms) e h =
    let root = Object (Root k) in
    let parts = opened (is_body (object ms)) (fits root (object ms)) (filled k (tidied root (object ms))) e h in
    let whole : has_float (object ms) ≡ false = has_float-is_body (object ms) parts.0 in
    let deep : depth (object ms) ≤ 100 = leb-true (depth (object ms)) 100 (both_true (not (has_float (object ms))) (nat_le (depth (object ms)) 100) parts.0).1 in
    let left = tidied_members (Root k) ms in
    let kept : members_depth left ≤ members_depth ms = members_depth-tidied (Root k) ms in
    let good : Good (Root k) left = Good-of (Root k) left (members_fit-tidied (Root k) ms parts.1) (MembersTidy-tidied (Root k) ms) (omega arith) in
    let still : has_float (object (filled_members k left)) ≡ false =
    ap has_float (sym (filled-object k left)) ∙ has_float-filled k (object left) (has_float-tidied root (object ms) whole) in
    record {
      left = left;
      is = sym parts.2 ∙ filled-object k left;
      from = refl;
      neat = good-neat (Root k) (filled_members k left) (Good-filled k left good) still;
    }
opens k d e h = cc

-- ---- metadata

of_one : (k : Kind) (d : Data) → One 99 (Root k) (codes "metadata") d → Neat 98 Metadata (members_of d)
of_one k null o = tt
of_one k (boolean b) o = tt
of_one k (number n) o = tt
of_one k (string s) o = tt
of_one k (array ds) o = tt
of_one ConfigMap (object meta) o = let deep : depth (object meta) ≤ 99 = o.3 in Neat-of 98 Metadata meta o.0 o.2 (omega arith) o.4
of_one Pod (object meta) o = let deep : depth (object meta) ≤ 99 = o.3 in Neat-of 98 Metadata meta o.0 o.2 (omega arith) o.4
of_one ReplicaSet (object meta) o = let deep : depth (object meta) ≤ 99 = o.3 in Neat-of 98 Metadata meta o.0 o.2 (omega arith) o.4
of_one Deployment (object meta) o = let deep : depth (object meta) ≤ 99 = o.3 in Neat-of 98 Metadata meta o.0 o.2 (omega arith) o.4

in_metadata : (k : Kind) (ms : Members) (o : Option Data) → get_member (codes "metadata") ms ≡ o → Neat 99 (Root k) ms → Neat 98 Metadata (inner_of o)
in_metadata k ms None is g = tt
in_metadata k ms (Some d) is g = of_one k d (Neat-get 99 (Root k) (codes "metadata") ms d is g)

pub Neat-metadata : (k : Kind) (ms : Members) → Neat 99 (Root k) ms → Neat 98 Metadata (metadata_of (object ms))
Neat-metadata k ms g = in_metadata k ms (get_member (codes "metadata") ms) refl g

pub one_metadata : (k : Kind) (meta : Members) → Neat 98 Metadata meta → One 99 (Root k) (codes "metadata") (object meta)
one_metadata ConfigMap meta g = let deep : members_depth meta ≤ 98 = Neat-depth 98 Metadata meta g in (Neat-fits 98 Metadata meta g, refl, Neat-tidy 98 Metadata meta g, omega arith, Neat-whole 98 Metadata meta g)
one_metadata Pod meta g = let deep : members_depth meta ≤ 98 = Neat-depth 98 Metadata meta g in (Neat-fits 98 Metadata meta g, refl, Neat-tidy 98 Metadata meta g, omega arith, Neat-whole 98 Metadata meta g)
one_metadata ReplicaSet meta g = let deep : members_depth meta ≤ 98 = Neat-depth 98 Metadata meta g in (Neat-fits 98 Metadata meta g, refl, Neat-tidy 98 Metadata meta g, omega arith, Neat-whole 98 Metadata meta g)
one_metadata Deployment meta g = let deep : members_depth meta ≤ 98 = Neat-depth 98 Metadata meta g in (Neat-fits 98 Metadata meta g, refl, Neat-tidy 98 Metadata meta g, omega arith, Neat-whole 98 Metadata meta g)

spec_put : (k : Kind) (q : List ℕ) (d : Data) (ms : Members) → HasSpec k ms → HasSpec k (put q d ms)
spec_put ConfigMap q d ms h = tt
spec_put Pod q d ms h = Has-put (codes "spec") q d ms h
spec_put ReplicaSet q d ms h = tt
spec_put Deployment q d ms h = tt

pub Filled-put : (k : Kind) (q : List ℕ) (d : Data) (ms : Members) → Filled k ms → Filled k (put q d ms)
Filled-put k q d ms h = (Has-put (codes "metadata") q d ms h.0, spec_put k q d ms h.1, Has-put (codes "kind") q d ms h.2, Has-put (codes "apiVersion") q d ms h.3)

-- a text of the metadata that is not empty
abbrev pub IsFilled : List ℕ → Type 0
IsFilled t = (length t == 0) ≡ false

abbrev pub OneOf : List ℕ → Type 0
OneOf t =
    One 98 Metadata (codes "namespace") (string t) × One 98 Metadata (codes "creationTimestamp") (string t) × One 98 Metadata (codes "uid") (string t)
    × One 98 Metadata (codes "resourceVersion") (string t)

pub one_text : (t : List ℕ) → IsFilled t → OneOf t
one_text t h = ((refl, h, tt, omega arith, refl), (refl, h, tt, omega arith, refl), (refl, h, tt, omega arith, refl), (refl, h, tt, omega arith, refl))
