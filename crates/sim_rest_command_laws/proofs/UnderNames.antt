-- Members under a name: what is put there, found, tidied and filled in.
use Rattle.std.proofs.Common.{◌≡◌, ℕ, List, Bool, true, false, true≢false, cond, bytes_eq, codes, is_some, Option, Some, None, Ordering, Less, Equal, Greater, nat_cmp, is_eq, refl, sym, ap, ◌∙◌, subst}
use Rattle.std.proofs.lemmas.Map.Text.{is_eq-slice_cmp}
use Rattle.std.proofs.lemmas.Slice.Eq.{bytes_eq-Decides}
use Rattle.std.specs.Cmp.Lexicographic.{slice_cmp}
use Rattle.std.specs.Ordering.{match_ordering}
use Rattle.serde_json.specs.Data.{Data, null, boolean, number, string, array, object, Members, no_members, member, put}
use Rattle.serde_json.specs.Find.{get, get_member}
use Rattle.serde_json.proofs.Views.{get_member-put_other}
use Rattle.spec_api.proofs.JsonMembers.{apart}
use Rattle.spec_api.specs.declared.kinds.Kind.{Kind}
use Rattle.spec_api.specs.declared.kinds.Kind.TheVariants.{ConfigMap, Pod, ReplicaSet, Deployment}
use Rattle.spec_api.specs.declared.schemas.Schema.{Schema}
use Rattle.spec_api.specs.Kinds.{api_version, kind_text}
use Rattle.spec_api.specs.Reading.{filled, is_absent, tidied, tidied_members, empty, with_spec}
use Rattle.spec_api.specs.Schemas.{property_at}
use Rattle.spec_api.specs.Values.{with_default, with_member, without}
use Rattle.spec_laws.proofs.ReadAgain.{Has, same_name}
use Rattle.spec_api.specs.Replacements.{as_stored}

-- ---- members under a name
module _ (q : List ℕ) where
  -- each member under the name is so
  abbrev pub Under : (Data → Type 0) → Members → Type 0
  Under P no_members = Unit {0}
  Under P (member l e ms) = (bytes_eq q l ≡ true → P e) × Under P ms

  module _ (P : Data → Type 0) where
    put_at : (o : Ordering) (k l : List ℕ) (d e : Data) (ms : Members) → slice_cmp nat_cmp k l ≡ o → (bytes_eq q k ≡ true → P d) → (bytes_eq q l ≡ true → P e) → Under P ms → Under P (put k d ms)
        → Under P (match_ordering o (member k d (member l e ms)) (member l d ms) (member l e (put k d ms)))
    put_at Less k l d e ms is new old rest more = (new, (old, rest))
    put_at Equal k l d e ms is new old rest more = (λ f. new (ap (bytes_eq q) (same_name k l is) ∙ f), rest)
    put_at Greater k l d e ms is new old rest more = (old, more)

    pub under_put : (k : List ℕ) (d : Data) (ms : Members) → (bytes_eq q k ≡ true → P d) → Under P ms → Under P (put k d ms)
    under_put k d no_members new h = (new, tt)
    under_put k d (member l e ms) new h = put_at (slice_cmp nat_cmp k l) k l d e ms refl new h.0 h.1 (under_put k d ms new h.1)

    without_at : (b : Bool) (l : List ℕ) (e : Data) (ms rest : Members) → (bytes_eq q l ≡ true → P e) → Under P ms → Under P rest → Under P (cond b ms (member l e rest))
    without_at true l e ms rest old a b = a
    without_at false l e ms rest old a b = (old, b)

    pub under_without : (k : List ℕ) (ms : Members) → Under P ms → Under P (without k ms)
    under_without k no_members h = tt
    under_without k (member l e ms) h = without_at (is_eq (slice_cmp nat_cmp k l)) l e ms (without k ms) h.0 h.1 (under_without k ms h.1)

    pub under_stored : (k : List ℕ) (o : Option Data) (ms : Members) → bytes_eq q k ≡ false → Under P ms → Under P (as_stored k o ms)
    under_stored k None ms other h = under_without k ms h
    under_stored k (Some d) ms other h = under_put k d ms (λ f. absurd (true≢false (sym f ∙ other))) h

  same : (l : List ℕ) → bytes_eq q l ≡ true → q ≡ l
  same l = (bytes_eq-Decides q l).0

  -- ---- what is found
  found_here : (o : Ordering) (g : Option Data) (e : Data) → is_eq o ≡ true → is_some (match_ordering o g (Some e) g) ≡ true
  found_here Less g e h = cc
  found_here Equal g e h = refl
  found_here Greater g e h = cc

  found_later : (o : Ordering) (g : Option Data) (e : Data) → is_some g ≡ true → is_some (match_ordering o g (Some e) g) ≡ true
  found_later Less g e h = h
  found_later Equal g e h = refl
  found_later Greater g e h = h

  found_past : (o : Ordering) (g : Option Data) (e : Data) → is_eq o ≡ false → is_some (match_ordering o g (Some e) g) ≡ true → is_some g ≡ true
  found_past Less g e h f = f
  found_past Equal g e h f = cc
  found_past Greater g e h f = f

  -- where each member under the name is one and the same, and there is one, it is found
  pub one_found : (c : Data) (ms : Members) → Under (λ d. d ≡ c) ms → Has q ms → get_member q ms ≡ Some c
  one_found c no_members h there = cc
  one_found c (member l e ms) h there = by (slice_cmp nat_cmp q l) (is_eq-slice_cmp q l) there (one_found c ms h.1)
    where
      by : (o : Ordering) → is_eq o ≡ bytes_eq q l → is_some (match_ordering o (get_member q ms) (Some e) (get_member q ms)) ≡ true → (Has q ms → get_member q ms ≡ Some c)
          → match_ordering o (get_member q ms) (Some e) (get_member q ms) ≡ Some c
      by Less is f later = later f
      by Equal is f later = ap Some (h.0 (sym is))
      by Greater is f later = later f

  -- ---- what is tidied
  module _ (p : Schema) where
    left : List ℕ → Data → Data
    left l e = tidied (property_at p l).shape e

    module _ (P : Data → Type 0) (Q : Data → Type 0) (each : (d : Data) → P d → Q (tidied (property_at p q).shape d)) where
      tidied_at : (b : Bool) (l : List ℕ) (e : Data) (rest : Members) → (bytes_eq q l ≡ true → P e) → Under Q rest
          → Under Q (cond b rest (member l (tidied (property_at p l).shape e) rest))
      tidied_at true l e rest old h = h
      tidied_at false l e rest old h = (λ f. subst (λ n. Q (tidied (property_at p n).shape e)) (same l f) (each e (old f)), h)

      pub under_tidied : (ms : Members) → Under P ms → Under Q (tidied_members p ms)
      under_tidied no_members h = tt
      under_tidied (member l e ms) h = tidied_at (is_absent (property_at p l) (tidied (property_at p l).shape e)) l e (tidied_members p ms) h.0 (under_tidied ms h.1)

    abbrev Stays : Data → Type 0
    Stays d = is_absent (property_at p q) (tidied (property_at p q).shape d) ≡ false

    pub has_tidied : (ms : Members) → Under Stays ms → Has q ms → Has q (tidied_members p ms)
    has_tidied no_members h there = there
    has_tidied (member l e ms) h there =
        by (bytes_eq q l) refl (is_absent (property_at p l) (tidied (property_at p l).shape e)) refl (has_tidied ms h.1)
      where
        by : (c : Bool) → bytes_eq q l ≡ c → (b : Bool) → is_absent (property_at p l) (tidied (property_at p l).shape e) ≡ b → (Has q ms → Has q (tidied_members p ms))
            → Has q (cond b (tidied_members p ms) (member l (tidied (property_at p l).shape e) (tidied_members p ms)))
        by true is true gone later =
            absurd (true≢false (sym gone ∙ subst (λ n. is_absent (property_at p n) (tidied (property_at p n).shape e) ≡ false) (same l is) (h.0 is)))
        by true is false gone later = found_here (slice_cmp nat_cmp q l) (get_member q (tidied_members p ms)) (tidied (property_at p l).shape e) (is_eq-slice_cmp q l ∙ is)
        by false is true gone later = later (found_past (slice_cmp nat_cmp q l) (get_member q ms) e (is_eq-slice_cmp q l ∙ is) there)
        by false is false gone later =
            found_later (slice_cmp nat_cmp q l) (get_member q (tidied_members p ms)) (tidied (property_at p l).shape e)
            (later (found_past (slice_cmp nat_cmp q l) (get_member q ms) e (is_eq-slice_cmp q l ∙ is) there))

-- what is found first, and left, is found still
module _ (p : Schema) (q l : List ℕ) (e v : Data) (rest : Members) where
  abbrev out : Data
  out = tidied (property_at p l).shape e

  abbrev Goal : Option Data → Type 0
  Goal x = x ≡ Some (tidied (property_at p q).shape v)

  past : (o : Ordering) (x : Option Data) → is_eq o ≡ false → match_ordering o x (Some out) x ≡ x
  past Less x h = refl
  past Equal x h = cc
  past Greater x h = refl

  other : (b : Bool) → is_eq (slice_cmp nat_cmp q l) ≡ false → Goal (get_member q rest) → Goal (get_member q (cond b rest (member l out rest)))
  other true h is = is
  other false h is = past (slice_cmp nat_cmp q l) (get_member q rest) h ∙ is

  stays : (b : Bool) → slice_cmp nat_cmp q l ≡ Equal → q ≡ l → e ≡ v → is_absent (property_at p l) out ≡ b → is_absent (property_at p l) out ≡ false → Goal (get_member q (cond b rest (member l out rest)))
  stays true is name same gone kept = absurd (true≢false (sym gone ∙ kept))
  stays false is name same gone kept =
      ap (λ o. match_ordering o (get_member q rest) (Some out) (get_member q rest)) is
      ∙ ap (λ n. Some (tidied (property_at p n).shape e)) (sym name) ∙ ap (λ x. Some (tidied (property_at p q).shape x)) same

  here : (b : Bool) → slice_cmp nat_cmp q l ≡ Equal → is_absent (property_at p l) out ≡ b → e ≡ v → is_absent (property_at p q) (tidied (property_at p q).shape v) ≡ false → Goal (get_member q (cond b rest (member l out rest)))
  here b is gone same there =
      let name = same_name q l is in
      stays b is name same gone
      (subst (λ n. is_absent (property_at p n) (tidied (property_at p n).shape e) ≡ false) name (subst (λ x. is_absent (property_at p q) (tidied (property_at p q).shape x) ≡ false) (sym same) there))

  by_order : (o : Ordering) (x : Option Data) → slice_cmp nat_cmp q l ≡ o → (b : Bool) → is_absent (property_at p l) out ≡ b → match_ordering o x (Some e) x ≡ Some v
      → is_absent (property_at p q) (tidied (property_at p q).shape v) ≡ false → (x ≡ Some v → Goal (get_member q rest)) → Goal (get_member q (cond b rest (member l out rest)))
  by_order Less x is b gone f there later = other b (ap is_eq is) (later f)
  by_order Equal x is b gone f there later = let same : e ≡ v = cc in here b is gone same there
  by_order Greater x is b gone f there later = other b (ap is_eq is) (later f)

pub found_tidied : (p : Schema) (q : List ℕ) (ms : Members) (v : Data) → get_member q ms ≡ Some v → is_absent (property_at p q) (tidied (property_at p q).shape v) ≡ false
    → get_member q (tidied_members p ms) ≡ Some (tidied (property_at p q).shape v)
found_tidied p q no_members v at there = cc
found_tidied p q (member l e ms) v at there =
    by_order p q l e v (tidied_members p ms) (slice_cmp nat_cmp q l) (get_member q ms) refl (is_absent (property_at p l) (tidied (property_at p l).shape e)) refl at there (λ f. found_tidied p q ms v f there)

-- ---- what is filled in
default_at : (b : Bool) (q k : List ℕ) (e d : Data) → bytes_eq q k ≡ false → get q (cond b d (with_member k e d)) ≡ get q d
default_at true q k e d other = refl
default_at false q k e null other = refl
default_at false q k e (boolean b) other = refl
default_at false q k e (number n) other = refl
default_at false q k e (string s) other = refl
default_at false q k e (array ds) other = refl
default_at false q k e (object ms) other = get_member-put_other q k e ms (apart q k other)

pub default_other : (q k : List ℕ) (e d : Data) → bytes_eq q k ≡ false → get q (with_default k e d) ≡ get q d
default_other q k e d other = default_at (is_some (get k d)) q k e d other

default_there : (k : List ℕ) (e d : Data) → is_some (get k d) ≡ true → get k (with_default k e d) ≡ get k d
default_there k e d there = ap (λ b. get k (cond b d (with_member k e d))) there

abbrev pub meta_name : List ℕ
meta_name = codes "metadata"

spec_other : (k : Kind) (d : Data) → get (codes "metadata") (with_spec k d) ≡ get (codes "metadata") d
spec_other ConfigMap d = refl
spec_other Pod d = default_other (codes "metadata") (codes "spec") empty d refl
spec_other ReplicaSet d = refl
spec_other Deployment d = refl

pub metadata_filled : (k : Kind) (d : Data) → is_some (get (codes "metadata") d) ≡ true → get (codes "metadata") (filled k d) ≡ get (codes "metadata") d
metadata_filled k d there =
    let one = with_default (codes "metadata") empty d in
    let two = with_spec k one in
    let three = with_default (codes "kind") (string (kind_text k)) two in
    default_other meta_name (codes "apiVersion") (string (api_version k)) three refl
    ∙ default_other meta_name (codes "kind") (string (kind_text k)) two refl ∙ spec_other k one ∙ default_there meta_name empty d there
