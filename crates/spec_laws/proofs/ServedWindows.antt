-- What windows answer.
use Rattle.std.proofs.Common.{◌≡◌, ◌≤◌, ℕ, ◌+◌, ◌-◌, [], ◌∷◌, ◌++◌, length, take, drop, Bool, true, false, refl, sym, ap, ap₂, ◌∙◌, arith}
use Rattle.std.specs.Prelude.{◌↔◌, nat_lt, Ok, IsOk, None}
use Rattle.std.proofs.lemmas.List.{take-append-drop, take_all}
use Rattle.std.proofs.lemmas.Bool.{le-ltb, ltb-false}
use Rattle.spec_api.specs.History.{History, compaction, View, writes, present, up_to, last_of, viewed, after_all, list}
use Rattle.spec_api.specs.Events.{events, events_after}
use Rattle.spec_laws.specs.WindowLaws.{WatchesAreServed, ListsAreUndone, RevisionsAreServed, CompactionsChangeNothing, WideWindowsServeAll}
use Rattle.spec_api.specs.Windows.{changes_after as kept_after, changes_of, last_n, last_revision, all_but, floor, within}
use Rattle.spec_server.specs.Recorded.{above, events_recorded, undone, Window, IsWindowAfter}
use Rattle.spec_laws.proofs.Past.{writes-append}
use Rattle.spec_laws.proofs.RecordedChanges.{last_n_above, changes_of_kept, all_undone}

within_at : {X : Type 0} (b c : Bool) (floor now r : ℕ) (x y : X) → nat_lt r floor ≡ b → nat_lt now r ≡ c → (floor ≤ r → r ≤ now → x ≡ y) → within floor now r x ≡ within floor now r y
within_at true c floor now r x y l m same = rw l refl
within_at false true floor now r x y l m same = rw (l, m) refl
within_at false false floor now r x y l m same = ap (λ z. within floor now r z) (same (ltb-false r floor l) (ltb-false now r m))

-- what is answered where nothing is served is no matter
within_same : {X : Type 0} (floor now r : ℕ) (x y : X) → (floor ≤ r → r ≤ now → x ≡ y) → within floor now r x ≡ within floor now r y
within_same floor now r x y same = within_at (nat_lt r floor) (nat_lt now r) floor now r x y refl refl same

held_above : (s : Window) (h : History) (v : View) (a : ℕ) → IsWindowAfter s h → v.kind ≡ s.kind → floor v.kind s.size h ≤ a → a ≤ present h → above a s.kept ≡ kept_after v.kind (up_to a h) (drop (a - 1) (writes h))
held_above s h v a f is l m = ap (above a) (f.0 ∙ ap (λ k. last_n s.size (changes_of k h)) (sym is)) ∙ last_n_above v.kind s.size (writes h) a (omega (arith, l)) m

floor_is : (s : Window) (h : History) (v : View) → IsWindowAfter s h → v.kind ≡ s.kind → s.floor ≡ floor v.kind s.size h
floor_is s h v f is = f.1 ∙ ap (λ k. floor k s.size h) (sym is)

all_now : (h : History) → up_to (present h) h ≡ writes h
all_now h = take_all (present h - 1) (writes h) (omega arith)

pub watch_served : WatchesAreServed
watch_served s h v a n f is =
    ap (λ z. within z (present h) a (take n (events_recorded v (above a s.kept)))) (floor_is s h v f is)
    ∙ within_same (floor v.kind s.size h) (present h) a (take n (events_recorded v (above a s.kept))) (take n (events h v a (present h)))
    (λ l m. ap (λ z. take n (events_recorded v z)) (held_above s h v a f is l m) ∙ ap (take n) (changes_of_kept v (drop (a - 1) (writes h)) (up_to a h))
    ∙ ap (λ ws. take n (events_after v (up_to a h) (drop (a - 1) ws))) (sym (all_now h)))

pub list_undone : ListsAreUndone
list_undone s h v r f is =
    ap (λ z. within z (present h) r (undone v (list h v (present h)) (above r s.kept))) (floor_is s h v f is)
    ∙ within_same (floor v.kind s.size h) (present h) r (undone v (list h v (present h)) (above r s.kept)) (list h v r)
    (λ l m. ap₂ (λ ws ks. undone v (viewed v (after_all [] ws)) ks) (all_now h ∙ sym (take-append-drop (r - 1) (writes h))) (held_above s h v r f is l m)
    ∙ all_undone v (drop (r - 1) (writes h)) (up_to r h))

-- ---- where something is served

served_at : {X : Type 0} (b c : Bool) (floor now r : ℕ) (x : X) → nat_lt r floor ≡ b → nat_lt now r ≡ c → IsOk (within floor now r x) → (floor ≤ r) × (r ≤ now)
served_at true c floor now r x l m ok = let none = rw l at ok in cc
served_at false true floor now r x l m ok = let none = rw (l, m) at ok in cc
served_at false false floor now r x l m ok = (ltb-false r floor l, ltb-false now r m)

-- what is served from the floor up to the present
pub within_is : {X : Type 0} (floor now r : ℕ) (x : X) → floor ≤ r → r ≤ now → within floor now r x ≡ Ok x
within_is floor now r x l m = rw (le-ltb r floor l, le-ltb now r m) refl

within_served : {X : Type 0} (floor now r : ℕ) (x : X) → IsOk (within floor now r x) ↔ ((floor ≤ r) × (r ≤ now))
within_served floor now r x = (served_at (nat_lt r floor) (nat_lt now r) floor now r x refl refl, λ p. rw (within_is floor now r x p.0 p.1) refl)

pub revisions_served : RevisionsAreServed
revisions_served size h v r n = (
  within_served (floor v.kind size h) (present h) r (take n (events h v r (present h))),
  within_served (floor v.kind size h) (present h) r (list h v r),
)

pub wide_served : WideWindowsServeAll
wide_served size h v r n room none first last =
    let none_over : length (changes_of v.kind h) - size ≡ 0 = omega (arith, room) in
    let left : all_but size (changes_of v.kind h) ≡ [] = ap (λ i. take i (changes_of v.kind h)) none_over in
    let low = ap (last_revision 1) left in
    let reached : floor v.kind size h ≤ r = omega (arith, low, none, first) in (
      within_is (floor v.kind size h) (present h) r (take n (events h v r (present h))) reached last,
      within_is (floor v.kind size h) (present h) r (list h v r) reached last,
    )

-- ---- compactions

writes_through : (h more : History) (c : ℕ) → writes (h ++ compaction c ∷ more) ≡ writes (h ++ more)
writes_through h more c = writes-append h (compaction c ∷ more) ∙ sym (writes-append h more)

pub compaction_changes_nothing : CompactionsChangeNothing
compaction_changes_nothing h more c r k v =
    let same = writes_through h more c in
    (ap (λ ws. length ws + 1) same, ap (λ ws. last_of None k (take (r - 1) ws)) same, ap (λ ws. viewed v (after_all [] (take (r - 1) ws))) same)
