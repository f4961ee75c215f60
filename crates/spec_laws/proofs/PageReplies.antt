-- Pages that are asked one after another are one list.
use Rattle.std.proofs.Common.{zero, suc, ◌≡◌, ◌≤◌, ℕ, nat_le, List, [], ◌∷◌, ◌++◌, map, take, length, Bool, true, false, cond, Option, Some, None, refl, sym, ap, ap₂, ◌∙◌, subst, arith, append_assoc, append-nil, nat_eq, codes, decimal}
use Rattle.std.specs.Prelude.{nat_lt, Ok}
use Rattle.std.proofs.lemmas.Bool.{ltb-false}
use Rattle.std.specs.List.{AllByRecursion}
use Rattle.std.specs.Str.{IsUtf8}
use Rattle.serde_json.specs.Data.{Data, Items, item}
use Rattle.serde_json.specs.View.{items_of}
use Rattle.spec_api.specs.declared.kinds.Kind.{Kind}
use Rattle.spec_api.specs.declared.versions.At.{At}
use Rattle.spec_api.specs.declared.versions.At.TheVariants.{Present, NotOlder, Exact}
use Rattle.spec_api.specs.ListQueries.{ListOptions, going_on}
use Rattle.spec_api.specs.History.{History, View, Entries, present, viewed, list}
use Rattle.spec_api.specs.Lists.{list_answer, page_body, told_count, token_after}
use Rattle.spec_api.specs.Metadata.{metadata_text}
use Rattle.spec_api.specs.Keys.{Key}
use Rattle.spec_api.specs.Pages.{Place, Page, place_of, is_after, after_place, last_place, page_of}
use Rattle.spec_laws.specs.PageLaws.{ArePages, joined}
use Rattle.spec_api.specs.PageTokens.{Token, token_place, token_text, token_of}
use Rattle.spec_api.specs.Refusals.{Refusal, bad_request, not_found, no_such_path, method_not_allowed, already_exists, conflict, expired, length_required, too_large, unsupported_media_type, invalid, no_memory, too_new, storage_full, code}
use Rattle.spec_laws.specs.ReplyLaws.{Asked, body_of, IsAnswered, continue_in, GoOn, items_in, then_items, all_items, revision_at, revision_of, AreAt, PageRepliesAreLists}
use Rattle.spec_api.specs.Revisions.{greatest_revision}
use Rattle.spec_api.specs.Verbs.{as_item, outcome_code, outcome_body}
use Rattle.spec_api.specs.Versions.{listed_as, list_for}
use Rattle.spec_api.specs.Windows.{floor}
use Rattle.spec_api.specs.Reached.{IsReached}
use Rattle.spec_laws.proofs.EachWrite.{listed_put}
use Rattle.spec_laws.proofs.Limited.{limited}
use Rattle.spec_laws.proofs.NameBytes.{namespace_text, name_text}
use Rattle.spec_laws.proofs.Past.{past}
use Rattle.spec_laws.proofs.ValidNames.{IsValid, IsValidAt, all_valid}
use Rattle.spec_api.proofs.PageLists.{has_next}
use Rattle.spec_laws.proofs.JoinedPages.{pages_are_lists}
use Rattle.spec_api.proofs.TokensRead.{token_is_read}

-- ---- what an answer of 200 is

no_refusal : (f : Refusal) → code f ≡ 200 → ⊥
no_refusal (bad_request p) h = omega (arith, h)
no_refusal (not_found k) h = omega (arith, h)
no_refusal no_such_path h = omega (arith, h)
no_refusal method_not_allowed h = omega (arith, h)
no_refusal (already_exists k) h = omega (arith, h)
no_refusal (conflict k why) h = omega (arith, h)
no_refusal (expired asked floor) h = omega (arith, h)
no_refusal length_required h = omega (arith, h)
no_refusal too_large h = omega (arith, h)
no_refusal unsupported_media_type h = omega (arith, h)
no_refusal (invalid k f) h = omega (arith, h)
no_refusal no_memory h = omega (arith, h)
no_refusal (too_new asked present) h = omega (arith, h)
no_refusal storage_full h = omega (arith, h)

-- the list that is answered, and where it is
abbrev IsPage : ℕ → View → History → ListOptions → ℕ → Type 0
IsPage size v h o r = (r ≤ present h) × (list_for size h v o.at ≡ Ok (listed_as r (list h v r)))

exact_at : (b c : Bool) (size : ℕ) (v : View) (h : History) (o : ListOptions) (r : ℕ) → nat_lt r (floor v.kind size h) ≡ b → nat_lt (present h) r ≡ c
    → outcome_code (list_answer v o (list_for size h v (Exact r))) ≡ 200 → (r ≤ present h) × (list_for size h v (Exact r) ≡ Ok (listed_as r (list h v r)))
exact_at true c size v h o r l m ok = let none : code (expired r (floor v.kind size h)) ≡ 200 = rw l at ok in absurd (no_refusal (expired r (floor v.kind size h)) none)
exact_at false true size v h o r l m ok = let none : code (too_new r (present h)) ≡ 200 = rw (l, m) at ok in absurd (no_refusal (too_new r (present h)) none)
exact_at false false size v h o r l m ok = (ltb-false (present h) r m, rw (l, m) refl)

newer_at : (c : Bool) (size : ℕ) (v : View) (h : History) (o : ListOptions) (r : ℕ) → nat_lt (present h) r ≡ c
    → outcome_code (list_answer v o (list_for size h v (NotOlder r))) ≡ 200 → list_for size h v (NotOlder r) ≡ Ok (listed_as (present h) (list h v (present h)))
newer_at true size v h o r m ok = let none : code (too_new r (present h)) ≡ 200 = rw m at ok in absurd (no_refusal (too_new r (present h)) none)
newer_at false size v h o r m ok = rw m refl

page_at : (at : At) (size : ℕ) (v : View) (h : History) (o : ListOptions) → outcome_code (list_answer v o (list_for size h v at)) ≡ 200
    → (revision_at h at ≤ present h) × (list_for size h v at ≡ Ok (listed_as (revision_at h at) (list h v (revision_at h at))))
page_at Present size v h o ok = (omega arith, refl)
page_at (NotOlder r) size v h o ok = (omega arith, newer_at (nat_lt (present h) r) size v h o r refl ok)
page_at (Exact r) size v h o ok = exact_at (nat_lt r (floor v.kind size h)) (nat_lt (present h) r) size v h o r refl refl ok

-- the body of a page
abbrev paged : View → ListOptions → ℕ → Entries → Data
paged v o r ms = page_body v.kind r (told_count v o (listed_as r ms)) (page_of ms o.limit o.after)

body_is : (size : ℕ) (v : View) (a : Asked) (r : ℕ) (ms : Entries) → list_for size a.history v a.options.at ≡ Ok (listed_as r ms) → body_of size v a ≡ paged v a.options r ms
body_is size v a r ms is = ap (λ z. outcome_body (list_answer v a.options z)) is

-- ---- what a body says

no_text : (t : List ℕ) → Some t ≡ None → ⊥
no_text t h = cc

no_next : (n : Option Place) (k : Kind) (r : ℕ) (count : Option ℕ) (items : Entries) → continue_in (page_body k r count (record { items = items; next = n })) ≡ None → n ≡ None
no_next None k r count items h = refl
no_next (Some q) k r count items h = absurd (no_text (token_text (token_after r q)) h)

a_next : (n : Option Place) (k : Kind) (r : ℕ) (count : Option ℕ) (items : Entries) (text : List ℕ) → continue_in (page_body k r count (record { items = items; next = n })) ≡ Some text
    → (q : Place) × (n ≡ Some q) × (text ≡ token_text (token_after r q))
a_next None k r count items text h = absurd (no_text text (sym h))
a_next (Some q) k r count items text h = (q, refl, (let same : Some text ≡ Some (token_text (token_after r q)) = sym h in cc same))

says_revision : (n : Option Place) (k : Kind) (r : ℕ) (count : Option ℕ) (items : Entries)
    → metadata_text (codes "resourceVersion") (page_body k r count (record { items = items; next = n })) ≡ Some (decimal r)
says_revision None k r count items = refl
says_revision (Some q) k r None items = refl
says_revision (Some q) k r (Some c) items = refl

-- ---- the place where a page ends

-- names of which a token can be made
abbrev HasTexts : Entries → Type 0
HasTexts ms = AllByRecursion (λ (m : Key × Data). IsUtf8 m.0.namespace × IsUtf8 m.0.name) ms

are_texts : (ms : Entries) → AllByRecursion (λ (m : Key × Data). IsValid m.0) ms → HasTexts ms
are_texts [] a = tt
are_texts (m ∷ ms) a = ((namespace_text m.0.namespace a.0.0, name_text m.0.name a.0.1), are_texts ms a.1)

listed_texts : (h : History) (v : View) (r : ℕ) → IsReached h → HasTexts (list h v r)
listed_texts h v r reached = are_texts (list h v r) (listed_put IsValidAt h v r (all_valid h reached))

texts_cond : (b : Bool) (m : Key × Data) (ms : Entries) → IsUtf8 m.0.namespace × IsUtf8 m.0.name → HasTexts ms → HasTexts (cond b (m ∷ ms) ms)
texts_cond true m ms h t = (h, t)
texts_cond false m ms h t = t

texts_after : (p : Option Place) (ms : Entries) → HasTexts ms → HasTexts (after_place p ms)
texts_after p [] t = tt
texts_after p (m ∷ ms) t = texts_cond (is_after p m.0) m (after_place p ms) t.0 (texts_after p ms t.1)

texts_taken : (n : ℕ) (ms : Entries) → HasTexts ms → HasTexts (take n ms)
texts_taken zero ms t = tt
texts_taken (suc n) [] t = tt
texts_taken (suc n) (m ∷ ms) t = (t.0, texts_taken n ms t.1)

abbrev IsText : Place → Type 0
IsText q = IsUtf8 q.namespace × IsUtf8 q.name

last_text : (ms : Entries) (q : Place) → HasTexts ms → last_place ms ≡ Some q → IsText q
last_text [] q t h = cc
last_text (m ∷ []) q t h = let same : place_of m.0 ≡ q = cc in subst IsText same t.0
last_text (m ∷ n ∷ ms) q t h = last_text (n ∷ ms) q t.1 h

end_text : (ms : Entries) (n : ℕ) (p : Option Place) (q : Place) → HasTexts ms → (page_of ms n p).next ≡ Some q → IsText q
end_text ms n p q t h =
    last_text (take n (after_place p ms)) q (texts_taken n (after_place p ms) (texts_after p ms t))
    (has_next ms n p q (nat_eq n 0) (nat_le (length (after_place p ms)) n) refl refl h).1

-- ---- one page after another

items_append : (xs ys : Entries) → items_of (map (λ m. as_item m.1) (xs ++ ys)) ≡ then_items (items_of (map (λ m. as_item m.1) xs)) (items_of (map (λ m. as_item m.1) ys))
items_append [] ys = refl
items_append (x ∷ xs) ys = ap (item (as_item x.1)) (items_append xs ys)

answered_first : (size : ℕ) (v : View) (a : Asked) (bs : List Asked) → GoOn size v a bs → IsAnswered size v a
answered_first size v a [] on = on.0
answered_first size v a (b ∷ bs) on = on.0

one_more : (ms : Entries) (n : ℕ) (p : Option Place) (q : Place) (gs : List Page) → (page_of ms n p).next ≡ Some q → ArePages ms (Some q) gs → ArePages ms p (page_of ms n p ∷ gs)
one_more ms n p q [] next are = absurd are
one_more ms n p q (g ∷ gs) next are = ((n, refl), (q, next, are))

-- what is asked by the text of a token
by_token : (limit : ℕ) (t : Token) (text : List ℕ) (o : ListOptions) → token_of text ≡ Some t → going_on limit (token_of text) ≡ Ok o → o ≡ record { at = Exact t.revision; limit = limit; after = Some (token_place t) }
by_token limit t text o is h = let same : going_on limit (Some t) ≡ Ok o = subst (λ z. going_on limit z ≡ Ok o) is h in cc

module _ (size : ℕ) (v : View) (h : History) (r : ℕ) (reached : r ≤ present h) (low : r ≤ greatest_revision) (texts : HasTexts (list h v r)) where
  abbrev all : Entries
  all = list h v r

  -- it is asked when that much and maybe more has happened, and is a page of the list at r
  abbrev IsAt : Asked → Type 0
  IsAt a = ((more : History) × (a.history ≡ h ++ more)) × (list_for size a.history v a.options.at ≡ Ok (listed_as r all))

  abbrev Follows : Asked → List Asked → Type 0
  Follows a bs = (gs : List Page) × ArePages all a.options.after gs × (all_items size v a bs ≡ items_of (map (λ m. as_item m.1) (joined gs))) × AreAt size v r a bs

  abbrev page : Asked → Page
  page a = page_of all a.options.limit a.options.after

  abbrev count : Asked → Option ℕ
  count a = told_count v a.options (listed_as r all)

  body : (a : Asked) → IsAt a → body_of size v a ≡ page_body v.kind r (count a) (page a)
  body a is = body_is size v a r all is.1

  items_are : (a : Asked) → IsAt a → items_in (body_of size v a) ≡ items_of (map (λ m. as_item m.1) (page a).items)
  items_are a is = ap items_in (body a is)

  revision_is : (a : Asked) → IsAt a → metadata_text (codes "resourceVersion") (body_of size v a) ≡ Some (decimal r)
  revision_is a is = ap (metadata_text (codes "resourceVersion")) (body a is) ∙ says_revision (page a).next v.kind r (count a) (page a).items

  -- the next one is of that list too
  next_at : (a b : Asked) (q : Place) (limit : ℕ) → IsAt a → (more : History) × (b.history ≡ a.history ++ more) → b.options ≡ record { at = Exact r; limit = limit; after = Some q } → IsAnswered size v b → IsAt b
  next_at a b q limit is more options ok =
      let exact : b.options.at ≡ Exact r = ap (λ o. o.at) options in
      let here = page_at (Exact r) size v b.history b.options (subst (λ at. outcome_code (list_answer v b.options (list_for size b.history v at)) ≡ 200) exact ok) in
      let further : b.history ≡ h ++ (is.0.0 ++ more.0) = more.1 ∙ ap (λ z. z ++ more.0) is.0.1 ∙ append_assoc h is.0.0 more.0 in
      let same : list b.history v r ≡ all = ap (λ z. list z v r) further ∙ ap (viewed v) (past h (is.0.0 ++ more.0) r reached) in
      ((is.0.0 ++ more.0, further), ap (list_for size b.history v) exact ∙ here.1 ∙ ap (λ ms. Ok (listed_as r ms)) same)

  last_items : (a : Asked) → IsAt a → items_in (body_of size v a) ≡ items_of (map (λ m. as_item m.1) ((page a).items ++ []))
  last_items a is = items_are a is ∙ ap (λ ms. items_of (map (λ m. as_item m.1) ms)) (sym (append-nil (page a).items))

  more_items : (a : Asked) (others : Items) (ms : Entries) → IsAt a → others ≡ items_of (map (λ m. as_item m.1) ms) → then_items (items_in (body_of size v a)) others ≡ items_of (map (λ m. as_item m.1) ((page a).items ++ ms))
  more_items a others ms is same = ap₂ then_items (items_are a is) same ∙ sym (items_append (page a).items ms)

  follows : (a : Asked) (bs : List Asked) → IsAt a → GoOn size v a bs → Follows a bs
  follows a [] is on =
      let none : (page a).next ≡ None = no_next (page a).next v.kind r (count a) (page a).items (ap continue_in (sym (body a is)) ∙ on.1) in
      (page a ∷ [], ((a.options.limit, refl), none), last_items a is, revision_is a is)
  follows a (b ∷ bs) is on =
      let asked = on.2 in
      let next = a_next (page a).next v.kind r (count a) (page a).items asked.0 (ap continue_in (sym (body a is)) ∙ asked.2) in
      let q = next.0 in
      let text = end_text all a.options.limit a.options.after q texts next.1 in
      let token : token_of asked.0 ≡ Some (token_after r q) =
      token_is_read asked.0 (token_after r q) (record { written = next.2; revision = low; name = text.1; namespace = text.0 }) in
      let options = by_token asked.1 (token_after r q) asked.0 b.options token asked.3 in
      let after : b.options.after ≡ Some q = ap (λ o. o.after) options in
      let later = follows b bs (next_at a b q asked.1 is on.1 options (answered_first size v b bs on.3)) on.3 in (
        page a ∷ later.0,
        one_more all a.options.limit a.options.after q later.0 next.1 (subst (λ p. ArePages all p later.0) after later.1),
        more_items a (all_items size v b bs) (joined later.0) is later.2,
        (revision_is a is, later.3),
      )

pub page_replies : PageRepliesAreLists
page_replies size v a bs reached first on =
    let r = revision_of a in
    let at = page_at a.options.at size v a.history a.options (answered_first size v a bs on) in
    let few : present a.history ≤ 9007199254740991 = (limited a.history reached).1 in
    let low : r ≤ greatest_revision = omega (arith, at.0, few) in
    let are = follows size v a.history r at.0 low (listed_texts a.history v r reached) a bs (([], sym (append-nil a.history)), at.1) on in
    let pages : ArePages (list a.history v r) None are.0 = subst (λ p. ArePages (list a.history v r) p are.0) first are.1 in
    (are.2 ∙ ap (λ ms. items_of (map (λ m. as_item m.1) ms)) (pages_are_lists a.history v r are.0 pages), are.3)
