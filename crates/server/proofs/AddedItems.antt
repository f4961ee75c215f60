-- Items of a page, made one after another.
use Rattle.std.proofs.Common.{◌≡◌, ◌≤◌, ◌<◌, ◌+◌, ◌-◌, ℕ, zero, suc, List, [], ◌∷◌, ◌++◌, length, max, Bool, true, false, refl, sym, ap, ap₂, ◌∙◌, arith, append_assoc, append-nil, length-append}
use Rattle.serde_json.specs.Data.{Data}
use Rattle.serde_json.specs.Written.{comma_if, compact_text}
use Rattle.spec_api.specs.History.{Entries}
use Rattle.spec_api.specs.Keys.{Key}
use Rattle.spec_api.specs.Verbs.{as_item}
use Rattle.object_keys.specs.Keys.{key_of}
use Rattle.store.specs.Snapshots.{LeavesAfter}
use Rattle.server.specs.ListTexts.{items_left, most_ahead, text_left, StopsAt}
use Rattle.server.specs.declared.items.ItemsStop.{ItemsStop}

-- the items of some of the first n members were added to a text, and the first k of these are left
pub record AreAdded (all left : Entries) (later0 later : Bool) (n k : ℕ) (old new : List ℕ) : Type 0 where
  pub before : Entries
  pub split : before ++ left ≡ all
  pub items : new ++ items_left later k left ≡ old ++ items_left later0 n all
  pub longer : length old ≤ length new
  pub few : length new ≤ max (length old) most_ahead

pub none_added : (all left : Entries) (later : Bool) (n : ℕ) (old : List ℕ) → left ≡ all → AreAdded all left later later n n old old
none_added all left later n old is = record { before = []; split = is; items = ap (λ ms. old ++ items_left later n ms) is; longer = omega arith; few = omega arith }

-- a member that was taken, whose item was added
module _ (all ms left : Entries) (m : Key × Data) (later0 later : Bool) (n k : ℕ) (old mid new : List ℕ) (h : AreAdded all ms later0 later n (suc k) old mid)
    (is : new ≡ mid ++ (comma_if later ++ compact_text (as_item m.1))) (taken : ms ≡ m ∷ left) where
  next_items : new ++ items_left true k left ≡ old ++ items_left later0 n all
  next_items =
      let item = compact_text (as_item m.1) in
      let more = items_left true k left in
      ap (λ t. t ++ more) is ∙ append_assoc mid (comma_if later ++ item) more ∙ ap (λ t. mid ++ t) (append_assoc (comma_if later) item more)
      ∙ ap (λ z. mid ++ items_left later (suc k) z) (sym taken) ∙ h.items

  next_longer : length old ≤ length new
  next_longer = omega (arith, h.longer, ap length is, length-append mid (comma_if later ++ compact_text (as_item m.1)))

  pub one_added : length new < most_ahead → AreAdded all left later0 true n k old new
  one_added short = record {
    before = h.before ++ m ∷ [];
    split = append_assoc h.before (m ∷ []) left ∙ ap (λ z. h.before ++ z) (sym taken) ∙ h.split;
    items = next_items;
    longer = next_longer;
    few = omega (arith, short);
  }

  comma_length : (b : Bool) → length (comma_if b) ≤ 1
  comma_length true = omega arith
  comma_length false = omega arith

  next_few : length new ≤ max (length old) most_ahead + (1 + length (compact_text (as_item m.1)))
  next_few =
      let item = compact_text (as_item m.1) in
      omega (arith, h.few, ap length is, length-append mid (comma_if later ++ item), length-append (comma_if later) item, comma_length later)

  pub stops_here : (stop : ItemsStop) → key_of stop.key ≡ m.0 → stop.left ≡ k → 0 < length new → StopsAt all later0 n old new stop
  stops_here stop named are full = record {
    before = h.before;
    object = m.1;
    left = left;
    split = sym h.split ∙ ap (λ z. h.before ++ z) taken ∙ ap (λ q. h.before ++ (q, m.1) ∷ left) (sym named);
    items = ap (λ z. new ++ items_left true z left) are ∙ next_items;
    longer = next_longer;
    full = full;
    few = next_few;
  }

items_of_none : (later : Bool) (k : ℕ) (ms : Entries) → ms ≡ [] → items_left later k ms ≡ []
items_of_none later zero ms none = refl
items_of_none later (suc k) ms none = ap (λ z. items_left later (suc k) z) none

-- all of them, where no member is left, or none is to be added
pub all_added : (all left : Entries) (later0 later : Bool) (n k : ℕ) (old new : List ℕ) → AreAdded all left later0 later n k old new → left ≡ [] → new ≡ old ++ items_left later0 n all
all_added all left later0 later n k old new h none = sym (append-nil new) ∙ ap (λ t. new ++ t) (sym (items_of_none later k left none)) ∙ h.items

pub as_many_added : (all left : Entries) (later0 later : Bool) (n k : ℕ) (old new : List ℕ) → AreAdded all left later0 later n k old new → k ≡ 0 → new ≡ old ++ items_left later0 n all
as_many_added all left later0 later n k old new h none = sym (append-nil new) ∙ ap (λ j. new ++ items_left later j left) (sym none) ∙ h.items

-- ---- the text after a piece

-- a piece is no longer than the text
pub piece_fits : (all : Entries) (later : Bool) (n : ℕ) (old mid new before closing : List ℕ) (stop : ItemsStop) → mid ≡ old ++ before → StopsAt all later n mid new stop
    → length new - length old ≤ length (text_left before later n all closing)
piece_fits all later n old mid new before closing stop begun s =
    let items = items_left later n all in
    omega (
      arith,
      ap length begun,
      ap length s.items,
      length-append old before,
      length-append new (items_left true stop.left s.left),
      length-append mid items,
      length-append before (items ++ closing),
      length-append items closing,
    )

module _ (all now : Entries) (later : Bool) (n : ℕ) (old mid new before closing : List ℕ) (stop : ItemsStop) (begun : mid ≡ old ++ before) (s : StopsAt all later n mid new stop)
    (past : LeavesAfter (key_of stop.key) all now) where
  left_now : now ≡ s.left
  left_now = past s.before s.left s.object s.split

  pub piece_made : old ++ text_left before later n all closing ≡ new ++ text_left [] true stop.left now closing
  piece_made =
      sym (append_assoc old before (items_left later n all ++ closing)) ∙ ap (λ t. t ++ (items_left later n all ++ closing)) (sym begun)
      ∙ sym (append_assoc mid (items_left later n all) closing) ∙ ap (λ t. t ++ closing) (sym s.items) ∙ append_assoc new (items_left true stop.left s.left) closing
      ∙ ap (λ z. new ++ (items_left true stop.left z ++ closing)) (sym left_now)

  -- it is as long as what is left is shorter
  pub piece_long : (len : ℕ) → len ≡ length (text_left before later n all closing) → len - (length new - length old) ≡ length (text_left [] true stop.left now closing)
  piece_long len long =
      let whole = text_left before later n all closing in
      let left = text_left [] true stop.left now closing in
      omega (arith, long, ap length piece_made, length-append old whole, length-append new left, s.longer, ap length begun, length-append old before)

-- after all pieces
pub end_made : (old mid more new before closing : List ℕ) (later : Bool) (n : ℕ) (all : Entries) → mid ≡ old ++ before → more ≡ mid ++ items_left later n all → new ≡ more ++ closing
    → old ++ text_left before later n all closing ≡ new ++ []
end_made old mid more new before closing later n all begun items end =
    sym (append_assoc old before (items_left later n all ++ closing)) ∙ ap (λ t. t ++ (items_left later n all ++ closing)) (sym begun)
    ∙ sym (append_assoc mid (items_left later n all) closing) ∙ ap (λ t. t ++ closing) (sym items) ∙ sym end ∙ sym (append-nil new)

pub one_less : (n : ℕ) → 0 < n → n ≡ suc (n - 1)
one_less n some = omega arith

pub no_more : (n : ℕ) → n ≤ 0 → n ≡ 0
no_more n none = omega arith

-- nothing is left
pub over : (before closing : List ℕ) (later : Bool) (ms : Entries) → before ≡ [] → closing ≡ [] → text_left before later 0 ms closing ≡ []
over before closing later ms none nothing = ap₂ (λ x y. x ++ y) none nothing
