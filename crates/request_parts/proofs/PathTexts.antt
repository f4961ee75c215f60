-- What a path's route says of it.
use Rattle.std.proofs.Common.{◌≡◌, ℕ, ◌+◌, ◌<◌, List, [], ◌∷◌, ◌++◌, length, get_or, Option, Some, None, option_and_then, option_map, MatchOption, true, codes, refl, sym, ap, ◌∙◌, arith, subst, IsUtf8, length-append, append-nil, lit<, zero, suc, nat_lt, Bor}
use Rattle.std.proofs.lemmas.Str.{IsUtf8-take, IsUtf8-drop, IsUtf8-from_ascii, IsCharBoundary-before_ascii, IsCharBoundary-after_ascii}
use Rattle.std.proofs.Math.Seq.{drop-append-add, take-append_seam, get_or-append_seam}
use Rattle.std.proofs.lemmas.Bool.Decides.{nat_tests}
use Rattle.std.specs.List.{list_all}
use Rattle.matchit.specs.Params.{walk, part_of, AllText, named}
use Rattle.matchit.specs.Router.{RouteOf}
use Rattle.matchit.specs.Seek.{first}
use Rattle.request_parts.specs.Parts.{Part, word, any, tokens, joined}
use Rattle.request_parts.specs.Table.{table, route_text}
use Rattle.spec_api.proofs.Truths.{both_true}
use Rattle.spec_api.specs.Targets.{segments}
use Rattle.request_parts.specs.RoutesSeen.{assembled, now}
use Rattle.spec_api.proofs.PathForms.{Form, form_of, route_of, all_form, namespace_form, object_form, status_form}
use Rattle.spec_api.specs.declared.kinds.Group.{Group}
use Rattle.spec_api.specs.declared.kinds.Group.TheVariants.{Core, Apps}
use Rattle.request_parts.specs.declared.entries.Layout.{Layout}
use Rattle.request_parts.specs.declared.entries.Layout.TheVariants.{All, Namespace, Object, Status}
use Rattle.request_parts.specs.declared.entries.RouteEntry.{RouteEntry}
use Rattle.request_parts.proofs.Plain.{AllPlain, AreBytes, whole, whole-split, plain-split}
use Rattle.request_parts.proofs.Seeks.{finds, finds-other, finds-empty, IsRoute}
use Rattle.request_parts.proofs.Walks.{taken, walks}
use Rattle.request_parts.proofs.Found.{routes, routes-are, table-rows, found-form, form-fits, Fitting, row, row_of, group_of, layout_of, layout_parts, prefix, route_names, params_of, route-by}

-- ---- segments of a text are texts

abbrev pub AllUtf8 : List (List ℕ) → Type 0
AllUtf8 [] = Unit {0}
AllUtf8 (s ∷ ss) = IsUtf8 s × AllUtf8 ss

cut-before : (s r : List ℕ) → IsUtf8 (s ++ 47 ∷ r) → IsUtf8 s
cut-before s r h =
    let at : get_or (s ++ 47 ∷ r) (length s) 0 ≡ 47 = get_or-append_seam s 47 r 0 in
    let long : length s < length (s ++ 47 ∷ r) = simp length-append (omega arith) in
    subst IsUtf8 (take-append_seam s (47 ∷ r)) (IsUtf8-take (s ++ 47 ∷ r) (length s) h (IsCharBoundary-before_ascii (s ++ 47 ∷ r) (length s) long (omega arith)))

cut-after : (s r : List ℕ) → IsUtf8 (s ++ 47 ∷ r) → IsUtf8 r
cut-after s r h =
    let at : get_or (s ++ 47 ∷ r) (length s) 0 ≡ 47 = get_or-append_seam s 47 r 0 in
    let long : length s < length (s ++ 47 ∷ r) = simp length-append (omega arith) in
    subst IsUtf8 (drop-append-add s (47 ∷ r) 1) (IsUtf8-drop (s ++ 47 ∷ r) (length s + 1) h (IsCharBoundary-after_ascii (s ++ 47 ∷ r) (length s) h long (omega arith)))

pub texts : (ss : List (List ℕ)) → IsUtf8 (whole ss) → AllUtf8 ss
texts [] h = tt
texts (s ∷ []) h = (subst IsUtf8 (append-nil s) h, tt)
texts (s ∷ z ∷ ss) h = (cut-before s (z ++ joined ss) h, texts (z ∷ ss) (cut-after s (z ++ joined ss) h))

abbrev AllNames : List ℕ → List (ℕ × ℕ) → Type 0
AllNames text [] = Unit {0}
AllNames text (n ∷ ns) = IsUtf8 (part_of text n.0 n.1) × AllNames text ns

taken-texts : (text : List ℕ) (ps : List Part) (ss : List (List ℕ)) (ns : List (ℕ × ℕ)) → AllUtf8 ss → AllNames text ns → AllText (taken text ps ss ns)
taken-texts text [] ss ns u a = tt
taken-texts text (p ∷ ps) [] ns u a = tt
taken-texts text (word w ∷ ps) (s ∷ ss) ns u a = taken-texts text ps ss ns u.1 a
taken-texts text (any ∷ ps) (s ∷ ss) [] u a = tt
taken-texts text (any ∷ ps) (s ∷ ss) (n ∷ ns) u a = (a.0, u.0, taken-texts text ps ss ns u.1 a.1)

small-at : (bs : List ℕ) → list_all (λ x. nat_lt x 128) bs ≡ true → (i : ℕ) → get_or bs i 0 < 128
small-at [] h i = lit< tt
small-at (x ∷ bs) h zero =
    let l : nat_lt x 128 ≡ true = (both_true (nat_lt x 128) (list_all (λ x. nat_lt x 128) bs) h).0 in
    grind (arith, nat_tests)
small-at (x ∷ bs) h (suc i) = small-at bs (both_true (nat_lt x 128) (list_all (λ x. nat_lt x 128) bs) h).1 i

ascii : (bs : List ℕ) → list_all (λ x. nat_lt x 128) bs ≡ true → IsUtf8 bs
ascii bs h = IsUtf8-from_ascii bs (small-at bs h)

resource_text : IsUtf8 (codes "resource")
resource_text = ascii (codes "resource") refl

namespace_text : IsUtf8 (codes "namespace")
namespace_text = ascii (codes "namespace") refl

name_text : IsUtf8 (codes "name")
name_text = ascii (codes "name") refl

all-names : (g : Group) (f : Layout) → AllNames (route_text g f) (route_names g f)
all-names Core All = (resource_text, tt)
all-names Core Namespace = (namespace_text, (resource_text, tt))
all-names Core Object = (namespace_text, (resource_text, (name_text, tt)))
all-names Core Status = (namespace_text, (resource_text, (name_text, tt)))
all-names Apps All = (resource_text, tt)
all-names Apps Namespace = (namespace_text, (resource_text, tt))
all-names Apps Object = (namespace_text, (resource_text, (name_text, tt)))
all-names Apps Status = (namespace_text, (resource_text, (name_text, tt)))

row-route : (g : Group) (f : Layout) → IsRoute (prefix g ++ layout_parts f)
row-route Core All = route-by (prefix Core ++ layout_parts All) refl
row-route Core Namespace = route-by (prefix Core ++ layout_parts Namespace) refl
row-route Core Object = route-by (prefix Core ++ layout_parts Object) refl
row-route Core Status = route-by (prefix Core ++ layout_parts Status) refl
row-route Apps All = route-by (prefix Apps ++ layout_parts All) refl
row-route Apps Namespace = route-by (prefix Apps ++ layout_parts Namespace) refl
row-route Apps Object = route-by (prefix Apps ++ layout_parts Object) refl
row-route Apps Status = route-by (prefix Apps ++ layout_parts Status) refl

row-short : (g : Group) (f : Layout) → length (tokens (prefix g ++ layout_parts f)) < 65536
row-short Core All = lit< tt
row-short Core Namespace = lit< tt
row-short Core Object = lit< tt
row-short Core Status = lit< tt
row-short Apps All = lit< tt
row-short Apps Namespace = lit< tt
row-short Apps Object = lit< tt
row-short Apps Status = lit< tt

-- ---- the whole path

-- the route that a path of this form finds, and what its parameters take
pub record Read (path : List ℕ) (e : RouteOf RouteEntry) (x : Form) : Type 0 where
  pub is : e ≡ row (group_of x) (layout_of x)
  pub params : walk e.pattern e.text path e.names 0 0 ≡ params_of x
  pub texts : AllText (walk e.pattern e.text path e.names 0 0)

abbrev pub Reads : List ℕ → Option (RouteOf RouteEntry) → Option Form → Type 0
Reads path None None = Unit {0}
Reads path None (Some x) = ⊥
Reads path (Some e) None = ⊥
Reads path (Some e) (Some x) = Read path e x

reads-row : (ss : List (List ℕ)) (o : Option Form) → AllPlain ss → AllUtf8 ss → MatchOption o (Unit {0}) (Fitting ss) → Reads (joined ss) (row_of o) o
reads-row ss None p u h = tt
reads-row ss (Some x) p u h =
    let g = group_of x in
    let f = layout_of x in
    let w : walk (tokens (prefix g ++ layout_parts f)) (route_text g f) (joined ss) (route_names g f) 0 0 ≡ taken (route_text g f) (prefix g ++ layout_parts f) ss (route_names g f) =
    walks (prefix g ++ layout_parts f) ss (route_names g f) (tokens (prefix g ++ layout_parts f)) (route_text g f) (joined ss) [] [] 0 0 refl refl (row-route g f) p h.0 (row-short g f) refl in
    record {
      is = refl;
      params = w ∙ h.1;
      texts = subst AllText (sym w) (taken-texts (route_text g f) (prefix g ++ layout_parts f) ss (route_names g f) u (all-names g f));
    }

pub reads-joined : (ss : List (List ℕ)) → AllPlain ss → AllUtf8 ss → Reads (joined ss) (first table (joined ss)) (form_of ([] ∷ ss))
reads-joined ss p u =
    let e : first table (joined ss) ≡ row_of (form_of ([] ∷ ss)) =
    ap (λ z. first z (joined ss)) table-rows ∙ finds ss routes routes-are p ∙ found-form ss in
    let P : Option (RouteOf RouteEntry) → Type 0 = λ z. Reads (joined ss) z (form_of ([] ∷ ss)) in
    subst P (sym e) (reads-row ss (form_of ([] ∷ ss)) p u (form-fits ss))

reads-split : (path : List ℕ) (l : List (List ℕ)) → AllPlain l → AllUtf8 l → whole l ≡ path → Reads path (first table path) (form_of l)
reads-split path [] p u e =
    let n : first table path ≡ None = ap (first table) (sym e) ∙ ap (λ z. first z []) table-rows ∙ finds-empty routes in
    let P : Option (RouteOf RouteEntry) → Type 0 = λ z. Reads path z None in
    subst P (sym n) tt
reads-split path ([] ∷ ss) p u e =
    let P : List ℕ → Type 0 = λ z. Reads z (first table z) (form_of ([] ∷ ss)) in
    subst P e (reads-joined ss p.1 u.1)
reads-split path ((b ∷ s) ∷ ss) p u e =
    let n : first table path ≡ None =
    ap (first table) (sym e) ∙ ap (λ z. first z (b ∷ (s ++ joined ss))) table-rows ∙ finds-other b (s ++ joined ss) routes p.0.1 in
    let P : Option (RouteOf RouteEntry) → Type 0 = λ z. Reads path z None in
    subst P (sym n) tt

pub reads : (path : List ℕ) → AreBytes path → IsUtf8 path → Reads path (first table path) (form_of (segments path))
reads path b u =
    reads-split path (segments path) (plain-split path b) (texts (segments path) (subst IsUtf8 (sym (whole-split path)) u)) (whole-split path)

pub bytes-from : (xs : List ℕ) → ((i : ℕ) → get_or xs i 0 < 256) → AreBytes xs
bytes-from [] f = tt
bytes-from (x ∷ xs) f = (f 0, bytes-from xs (λ i. f (suc i)))

pub now-of : (r : Option (Bor (List ℕ))) (o : Option (List ℕ)) → MatchOption r (o ≡ None) (λ v. o ≡ Some v.now) → option_map now r ≡ o
now-of None o h = sym h
now-of (Some v) o h = sym h

told : (x : Form) → assembled (row (group_of x) (layout_of x)).value (named (codes "resource") (params_of x)) (named (codes "namespace") (params_of x)) (named (codes "name") (params_of x)) ≡ route_of x
told (all_form g p) = refl
told (namespace_form g n p) = refl
told (object_form g n p o) = refl
told (status_form g n p o) = refl

pub assembled-reads : (path : List ℕ) (e : RouteOf RouteEntry) (o : Option Form) → Reads path (Some e) o
    → let w = walk e.pattern e.text path e.names 0 0 in assembled e.value (named (codes "resource") w) (named (codes "namespace") w) (named (codes "name") w) ≡ option_and_then route_of o
assembled-reads path e None h = absurd h
assembled-reads path e (Some x) h =
    (λ i. assembled (h.is i).value (named (codes "resource") (h.params i)) (named (codes "namespace") (h.params i)) (named (codes "name") (h.params i))) ∙ told x

pub texts-reads : (path : List ℕ) (e : RouteOf RouteEntry) (o : Option Form) → Reads path (Some e) o → AllText (walk e.pattern e.text path e.names 0 0)
texts-reads path e None h = absurd h
texts-reads path e (Some x) h = h.texts
