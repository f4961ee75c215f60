-- What the passes of a baton know, and the law that ties them.
use Rattle.std.specs.Prelude.{◌≡◌, ◌≢◌, ◌⊎◌, ℕ, ◌<◌, ◌+◌, ◌==◌, ◌&&◌, ◌||◌, nat_lt, List, [], ◌∷◌, ◌++◌, Bool, true, false, Option, Some, None, is_some}
use mathlib.Core.Option.{some}
use lib.ListN.{get_elem?}
use Rattle.baton.specs.declared.views.Known.{Known}
use Rattle.baton.specs.declared.views.PassView.{PassView}
use Rattle.baton.specs.Marks.{StartsWith, entries, made_by, marked, CanHappen}

module _ {T E : Type 0} where
  -- nothing is known
  abbrev pub blank : Known T E
  blank = record { name = 0; heirs = false; opening = None; seen = []; made = []; holds = false }

  -- a pass that takes in no other
  abbrev pub alone : Known T E → PassView T E
  alone k = record { own = k; guest = blank }

  -- the one pass of a baton that has no state yet
  abbrev pub unopened : PassView T E
  unopened = alone (record { name = 0; heirs = true; opening = None; seen = []; made = []; holds = true })

  -- a pass of this name that has seen nothing
  abbrev pub newcomer : ℕ → Bool → T → Known T E
  newcomer name heirs opening = record { name = name; heirs = heirs; opening = Some opening; seen = []; made = []; holds = false }

  -- the name is the pass's own, or one that it may still give away
  abbrev pub owns : Known T E → ℕ → Bool
  owns k n = is_some k.opening && ((n == k.name) || (k.heirs && nat_lt k.name n))

  -- no entry has a name that the pass may still give away
  abbrev pub NoneAbove : Known T E → List (ℕ × E) → Type 0
  NoneAbove k h = (n : ℕ) → k.heirs ≡ true → k.name < n → made_by n h ≡ []

  -- what is known is so: the history begins with what was seen, and its entries of this name are what was made
  pub record Fits (opening : T) (h : List (ℕ × E)) (k : Known T E) : Type 0 where
    pub opened : k.opening ≡ Some opening
    pub seen : StartsWith h k.seen
    pub made : made_by k.name h ≡ k.made
    pub told : made_by k.name k.seen ≡ k.made
    pub whole : k.holds ≡ true → k.seen ≡ h
    pub unmade : NoneAbove k h

  -- and the names are owned at this seat alone
  abbrev pub Stands : T → List (ℕ × E) → (ℕ → ℕ) → ℕ → Known T E → Type 0
  Stands opening h seat_of seat k = (is_some k.opening ≡ true → Fits opening h k) × ((n : ℕ) → owns k n ≡ true → seat_of n ≡ seat)

  pub record Placed (opening : T) (h : List (ℕ × E)) (seat_of : ℕ → ℕ) (seat : ℕ) (v : PassView T E) : Type 0 where
    pub own : Stands opening h seat_of seat v.own
    pub guest : Stands opening h seat_of seat v.guest
    pub apart : (n : ℕ) → owns v.own n ≡ true → owns v.guest n ≡ false
    pub alive : v.own.holds ≡ true → is_some v.own.opening ≡ true
    pub waits : v.guest.holds ≡ false

  -- an empty baton is held by exactly one pass, and another by none
  abbrev pub Keeper : List T → List (PassView T E) → Type 0
  Keeper [] views =
      (holder : ℕ) × (v : PassView T E) × (get_elem? views holder ≡ some v) × (v.own.holds ≡ true)
      × ((seat : ℕ) (w : PassView T E) → get_elem? views seat ≡ some w → w.own.holds ≡ true → seat ≡ holder)
  Keeper (x ∷ items) views = (items ≡ []) × ((seat : ℕ) (w : PassView T E) → get_elem? views seat ≡ some w → w.own.holds ≡ false)

  -- the pass has this name and has seen this history
  abbrev pub Knows : (ℕ → List (ℕ × E) → Type 0) → Known T E → Type 0
  Knows Q k = (is_some k.opening ≡ true) × Q k.name k.seen

  -- so it is of some pass
  abbrev pub SomePass : (ℕ → List (ℕ × E) → Type 0) → List (PassView T E) → Type 0
  SomePass Q views = (seat : ℕ) × (v : PassView T E) × (get_elem? views seat ≡ some v) × (Knows Q v.own ⊎ Knows Q v.guest)

  -- some pass has seen the whole history, so of those that were seen it is the longest
  abbrev pub IsLongest : List (ℕ × E) → List (PassView T E) → Type 0
  IsLongest h views = SomePass (λ name seen. seen ≡ h) views

  -- each entry is marked with the name of a pass, so none is invented
  abbrev pub IsSigned : List (ℕ × E) → List (PassView T E) → Type 0
  IsSigned h views = CanHappen (λ before name e. SomePass (λ other seen. other ≡ name) views) h

  -- the view after a give
  abbrev pub given : Option E → PassView T E → PassView T E
  given change v =
      record v {
        own = record v.own { seen = v.own.seen ++ marked v.own.name change; made = v.own.made ++ entries (marked v.own.name change); holds = false };
      }

  -- the view after a take, where this is the history
  abbrev pub holding : List (ℕ × E) → PassView T E → PassView T E
  holding h v = record v { own = record v.own { seen = h; holds = true } }

  -- one pass takes in what another knows
  abbrev pub hosting : PassView T E → PassView T E → PassView T E
  hosting v w = record { own = v.own; guest = w.own }

  -- a pass that may give names away keeps its own alone
  abbrev pub settled : PassView T E → PassView T E
  settled v = record v { own = record v.own { heirs = false } }

  -- and the next one goes to a pass that has seen as much, and made nothing
  abbrev pub heir : PassView T E → PassView T E
  heir v = alone (record v.own { name = v.own.name + 1; made = []; holds = false })

module _ {T E : Type 0} (opens : T → Type 0) (gives : T → List E → T) (follows : List (ℕ × E) → ℕ → E → Type 0) where
  -- the state that lies in the baton is the one that the history gives
  abbrev pub Value : T → List (ℕ × E) → List T → Type 0
  Value opening h [] = Unit {0}
  Value opening h (x ∷ items) = x ≡ gives opening (entries h)

  abbrev pub Open : List T → List (PassView T E) → Type 0
  Open items views =
      (opening : T) × (h : List (ℕ × E)) × (seat_of : ℕ → ℕ) × opens opening × CanHappen follows h × Value opening h items × Keeper items views
      × ((seat : ℕ) (v : PassView T E) → get_elem? views seat ≡ some v → Placed opening h seat_of seat v) × IsLongest h views × IsSigned h views

  abbrev pub Kept : List T → List (PassView T E) → Type 0
  Kept items views = ((items ≡ []) × (views ≡ unopened ∷ [])) ⊎ Open items views

  -- the pass learns the whole history, which begins with all that it had seen and has of its entries just what it made;
  -- the state is what this history gives
  pub record Taken (v : PassView T E) (x : T) (w : PassView T E) : Type 0 where
    pub history : List (ℕ × E)
    pub knows : w ≡ holding history v
    pub later : StartsWith history v.own.seen
    pub made : made_by v.own.name history ≡ v.own.made
    pub unmade : NoneAbove v.own history
    pub happened : CanHappen follows history
    pub state : (opening : T) → v.own.opening ≡ Some opening → opens opening × (x ≡ gives opening (entries history))

  -- one seen history begins with the other, and in the longer the entries of either name are what was made
  abbrev pub Longer : Known T E → Known T E → Type 0
  Longer k l = StartsWith k.seen l.seen × (made_by k.name k.seen ≡ k.made) × (made_by l.name k.seen ≡ l.made) × CanHappen follows k.seen × NoneAbove k k.seen × NoneAbove l k.seen

  abbrev pub Met : Known T E → Known T E → Type 0
  Met k l = (k.name ≢ l.name) × (Longer k l ⊎ Longer l k)
