-- Members in the order of their names, each once.
use Rattle.std.proofs.Common.{◌≡◌, ℕ, List, Bool, true, false, cond, codes, nat_cmp, is_eq, is_some, Some, None, Ordering, Less, Equal, Greater, refl, sym, ap, ◌∙◌}
use Rattle.std.proofs.lemmas.Cmp.{nat_list_cmp_total}
use Rattle.std.specs.Ordering.{match_ordering, ordering_reverse}
use Rattle.std.specs.Cmp.Lexicographic.{slice_cmp}
use Rattle.serde_json.specs.Data.{Data, string, Members, no_members, member, put}
use Rattle.serde_json.specs.Find.{get_member}
use Rattle.spec_api.specs.declared.kinds.Kind.{Kind}
use Rattle.spec_api.specs.declared.kinds.Kind.TheVariants.{ConfigMap, Pod, ReplicaSet, Deployment}
use Rattle.spec_api.specs.declared.schemas.Schema.{Schema}
use Rattle.spec_api.specs.Kinds.{api_version, kind_text}
use Rattle.spec_api.specs.Reached.{IsBefore}
use Rattle.spec_api.specs.Reading.{is_absent, tidied, tidied_members, empty}
use Rattle.spec_api.specs.Schemas.{property_at}
use Rattle.spec_api.specs.Values.{without}
use Rattle.spec_laws.proofs.ReadAgain.{same_name, defaulted, spec_members, filled_members}

abbrev pub IsOrdered : Members → Type 0
IsOrdered no_members = Unit {0}
IsOrdered (member k d ms) = IsBefore k ms × IsOrdered ms

below_all : (j k : List ℕ) (ms : Members) → slice_cmp nat_cmp j k ≡ Less → IsBefore k ms → IsBefore j ms
below_all j k no_members h b = tt
below_all j k (member l e ms) h b = (nat_list_cmp_total.trans j k l h b.0, below_all j k ms h b.1)

-- ---- what is put

below_at : (j k l : List ℕ) (d e : Data) (ms : Members) (o : Ordering) → slice_cmp nat_cmp j k ≡ Less → IsBefore j (member l e ms) → IsBefore j (put k d ms)
    → IsBefore j (match_ordering o (member k d (member l e ms)) (member l d ms) (member l e (put k d ms)))
below_at j k l d e ms Less h b later = (h, b)
below_at j k l d e ms Equal h b later = b
below_at j k l d e ms Greater h b later = (b.0, later)

IsBefore-put : (j k : List ℕ) (d : Data) (ms : Members) → slice_cmp nat_cmp j k ≡ Less → IsBefore j ms → IsBefore j (put k d ms)
IsBefore-put j k d no_members h b = (h, tt)
IsBefore-put j k d (member l e ms) h b = below_at j k l d e ms (slice_cmp nat_cmp k l) h b (IsBefore-put j k d ms h b.1)

ordered_at : (k l : List ℕ) (d e : Data) (ms : Members) (o : Ordering) → slice_cmp nat_cmp k l ≡ o → IsOrdered (member l e ms) → IsOrdered (put k d ms)
    → IsOrdered (match_ordering o (member k d (member l e ms)) (member l d ms) (member l e (put k d ms)))
ordered_at k l d e ms Less is a later = ((is, below_all k l ms is a.0), a)
ordered_at k l d e ms Equal is a later = a
ordered_at k l d e ms Greater is a later = (IsBefore-put l k d ms (nat_list_cmp_total.antisymm l k ∙ ap ordering_reverse is) a.0, later)

pub IsOrdered-put : (k : List ℕ) (d : Data) (ms : Members) → IsOrdered ms → IsOrdered (put k d ms)
IsOrdered-put k d no_members a = (tt, tt)
IsOrdered-put k d (member l e ms) a = ordered_at k l d e ms (slice_cmp nat_cmp k l) refl a (IsOrdered-put k d ms a.1)

-- ---- what is left out

below_cond : (b : Bool) (j l : List ℕ) (e : Data) (ms : Members) → slice_cmp nat_cmp j l ≡ Less → IsBefore j ms → IsBefore j (cond b ms (member l e ms))
below_cond true j l e ms h a = a
below_cond false j l e ms h a = (h, a)

ordered_cond : (b : Bool) (l : List ℕ) (e : Data) (ms : Members) → IsBefore l ms → IsOrdered ms → IsOrdered (cond b ms (member l e ms))
ordered_cond true l e ms h a = a
ordered_cond false l e ms h a = (h, a)

IsBefore-tidied : (p : Schema) (j : List ℕ) (ms : Members) → IsBefore j ms → IsBefore j (tidied_members p ms)
IsBefore-tidied p j no_members a = tt
IsBefore-tidied p j (member l e ms) a =
    let left = tidied (property_at p l).shape e in
    below_cond (is_absent (property_at p l) left) j l left (tidied_members p ms) a.0 (IsBefore-tidied p j ms a.1)

pub IsOrdered-tidied : (p : Schema) (ms : Members) → IsOrdered ms → IsOrdered (tidied_members p ms)
IsOrdered-tidied p no_members a = tt
IsOrdered-tidied p (member l e ms) a =
    let left = tidied (property_at p l).shape e in
    ordered_cond (is_absent (property_at p l) left) l left (tidied_members p ms) (IsBefore-tidied p l ms a.0) (IsOrdered-tidied p ms a.1)

below_without : (b : Bool) (j l : List ℕ) (e : Data) (ms left : Members) → IsBefore j (member l e ms) → IsBefore j left → IsBefore j (cond b ms (member l e left))
below_without true j l e ms left a later = a.1
below_without false j l e ms left a later = (a.0, later)

IsBefore-without : (j k : List ℕ) (ms : Members) → IsBefore j ms → IsBefore j (without k ms)
IsBefore-without j k no_members a = tt
IsBefore-without j k (member l e ms) a = below_without (is_eq (slice_cmp nat_cmp k l)) j l e ms (without k ms) a (IsBefore-without j k ms a.1)

ordered_without : (b : Bool) (l : List ℕ) (e : Data) (ms left : Members) → IsOrdered (member l e ms) → IsBefore l left → IsOrdered left → IsOrdered (cond b ms (member l e left))
ordered_without true l e ms left a h later = a.1
ordered_without false l e ms left a h later = (h, later)

pub IsOrdered-without : (k : List ℕ) (ms : Members) → IsOrdered ms → IsOrdered (without k ms)
IsOrdered-without k no_members a = tt
IsOrdered-without k (member l e ms) a = ordered_without (is_eq (slice_cmp nat_cmp k l)) l e ms (without k ms) a (IsBefore-without l k ms a.0) (IsOrdered-without k ms a.1)

-- ---- what is filled in

default_cond : (b : Bool) (k : List ℕ) (d : Data) (ms : Members) → IsOrdered ms → IsOrdered (cond b ms (put k d ms))
default_cond true k d ms a = a
default_cond false k d ms a = IsOrdered-put k d ms a

IsOrdered-defaulted : (k : List ℕ) (d : Data) (ms : Members) → IsOrdered ms → IsOrdered (defaulted k d ms)
IsOrdered-defaulted k d ms a = default_cond (is_some (get_member k ms)) k d ms a

ordered_spec : (k : Kind) (ms : Members) → IsOrdered ms → IsOrdered (spec_members k ms)
ordered_spec ConfigMap ms a = a
ordered_spec Pod ms a = IsOrdered-defaulted (codes "spec") empty ms a
ordered_spec ReplicaSet ms a = a
ordered_spec Deployment ms a = a

pub IsOrdered-filled : (k : Kind) (ms : Members) → IsOrdered ms → IsOrdered (filled_members k ms)
IsOrdered-filled k ms a =
    let based = defaulted (codes "metadata") empty ms in
    let specced = spec_members k based in
    IsOrdered-defaulted (codes "apiVersion") (string (api_version k)) (defaulted (codes "kind") (string (kind_text k)) specced)
    (IsOrdered-defaulted (codes "kind") (string (kind_text k)) specced (ordered_spec k based (IsOrdered-defaulted (codes "metadata") empty ms a)))

-- ---- what was taken out and is put back

get_below : (k : List ℕ) (ms : Members) → IsBefore k ms → get_member k ms ≡ None
get_below k no_members b = refl
get_below k (member l e ms) b = rw b.0 (get_below k ms b.1)

put_below : (k : List ℕ) (d : Data) (ms : Members) → IsBefore k ms → put k d ms ≡ member k d ms
put_below k d no_members b = refl
put_below k d (member l e ms) b = rw b.0 refl

back_at : (o : Ordering) (k l : List ℕ) (d e : Data) (ms : Members) → slice_cmp nat_cmp k l ≡ o → IsOrdered (member l e ms) → match_ordering o (get_member k ms) (Some e) (get_member k ms) ≡ Some d
    → (get_member k ms ≡ Some d → put k d (without k ms) ≡ ms) → put k d (cond (is_eq o) ms (member l e (without k ms))) ≡ member l e ms
back_at Less k l d e ms is a h later =
    let gone : get_member k ms ≡ None = get_below k ms (below_all k l ms is a.0) in
    let never : None ≡ Some d = sym gone ∙ h in cc
back_at Equal k l d e ms is a h later =
    let same : k ≡ l = same_name k l is in
    let here : e ≡ d = cc in
    rw (same, sym here) (put_below l e ms a.0)
back_at Greater k l d e ms is a h later = rw is (ap (member l e) (later h))

pub put_back : (k : List ℕ) (d : Data) (ms : Members) → IsOrdered ms → get_member k ms ≡ Some d → put k d (without k ms) ≡ ms
put_back k d no_members a h = cc
put_back k d (member l e ms) a h = back_at (slice_cmp nat_cmp k l) k l d e ms refl a h (put_back k d ms a.1)

gone_at : (o : Ordering) (k l : List ℕ) (e : Data) (ms : Members) → slice_cmp nat_cmp k l ≡ o → IsOrdered (member l e ms) → get_member k (without k ms) ≡ None
    → get_member k (cond (is_eq o) ms (member l e (without k ms))) ≡ None
gone_at Less k l e ms is a later = rw is later
gone_at Equal k l e ms is a later = ap (λ q. get_member q ms) (same_name k l is) ∙ get_below l ms a.0
gone_at Greater k l e ms is a later = rw is later

pub gone : (k : List ℕ) (ms : Members) → IsOrdered ms → get_member k (without k ms) ≡ None
gone k no_members a = refl
gone k (member l e ms) a = gone_at (slice_cmp nat_cmp k l) k l e ms refl a (gone k ms a.1)
