-- Changes that owed nothing, where each change of what was there, or each to what is there, owes the key: there are none.
use Rattle.std.proofs.Common.{◌≡◌, ◌≤◌, ◌+◌, inl, inr, ◌&&◌, not, is_some, length, nat_le, ℕ, List, [], ◌∷◌, false, decimal, Option, Some, IfSome, sym, ◌∙◌, subst, arith}
use Rattle.std.specs.List.{AllByRecursion}
use Rattle.serde_json.specs.Data.{Data}
use Rattle.spec_api.specs.History.{History, Write, present, state, entries_at, found}
use Rattle.spec_api.specs.Keys.{Key}
use Rattle.spec_api.specs.Metadata.{version}
use Rattle.spec_api.specs.ObjectRequests.{Request}
use Rattle.spec_api.specs.Reached.{IsReached}
use Rattle.spec_api.specs.Verbs.{accept, write_of, overflows, is_past_greatest, most_objects}
use Rattle.spec_api.proofs.Truths.{both_false}
use Rattle.spec_api.proofs.PutLaws.{same_name}
use Rattle.spec_client_go.specs.Informers.{Looks}
use Rattle.spec_client_go.specs.OwedKeys.{keys_of}
use Rattle.spec_client_go.specs.Reflectors.{name_in}
use Rattle.spec_client_go.specs.Shifts.{Shift}
use Rattle.spec_client_go.specs.WorkQueues.{WorkKey}
use Rattle.spec_laws.proofs.Limits.{room}
use Rattle.spec_laws.proofs.Reaching.{past}
use Rattle.spec_laws.proofs.SentObjects.{low_after}
use Rattle.spec_laws.proofs.VerbLaws.{versions}
use Rattle.spec_laws.proofs.Versions.{tells, same_decimal}
use Rattle.spec_sim.specs.ControlPlanes.{change_of}
use Rattle.sim_worker_laws.specs.OwedLaws.{IsAmong}
use Rattle.sim_rest_laws.specs.OwedObjectLaws.{LooksAfter}
use Rattle.sim_rest_laws.specs.ShiftRunLaws.{Lead}
use Rattle.sim_rest_laws.specs.StillLaws.{OwedNothing, ShownIn}
use Rattle.sim_rest_laws.proofs.OwedObjects.{named, owe_keys}
use Rattle.sim_rest_command_laws.specs.CommandLaws.{Unowed, EachChangeOwes, OwnWritesOwe}

-- each change to it owes the key
abbrev pub EachComingOwes : WorkKey → Key → Data → Type 0
EachComingOwes j x d = (s : Shift) (l : Looks) → s.key ≡ x → s.new ≡ Some d → IsAmong j (keys_of (change_of s) l)

module _ (j : WorkKey) (Shown : Looks → Type 0) where
  stays : (x : Key) (d : Data) (b : Option Data) (ss : List Shift) → EachChangeOwes j x d → Lead x (Some d) ss b → AllByRecursion (OwedNothing j Shown) ss → b ≡ Some d
  stays x d b [] owes f none = sym f
  stays x d b (s ∷ ss) owes (inl f) none = let u = none.0 in absurd (u.2 (owes s u.0 (sym (same_name x s.key f.0)) f.1))
  stays x d b (s ∷ ss) owes (inr f) none = stays x d b ss owes f.1 none.1

  was : (x : Key) (a : Option Data) (d : Data) (ss : List Shift) → EachComingOwes j x d → Lead x a ss (Some d) → AllByRecursion (OwedNothing j Shown) ss → a ≡ Some d
  was x a d [] owes f none = f
  was x a d (s ∷ ss) owes (inl f) none =
      let u = none.0 in
      let is : s.new ≡ Some d = was x s.new d ss owes f.2 none.1 in absurd (u.2 (owes s u.0 (sym (same_name x s.key f.0)) is))
  was x a d (s ∷ ss) owes (inr f) none = was x a d ss owes f.1 none.1

  pub still : (x : Key) (d : Data) (b : Option Data) → EachChangeOwes j x d → Unowed j Shown x (Some d) b → b ≡ Some d
  still x d b owes u = stays x d b u.0 owes u.1 u.2

  pub before : (x : Key) (a : Option Data) (d : Data) → EachComingOwes j x d → Unowed j Shown x a (Some d) → a ≡ Some d
  before x a d owes u = was x a d u.0 owes u.1 u.2

-- ---- what is written is another version than what was ever there

pub has_room : (g : History) (r : Request) (moment : List ℕ) (w : Write) → write_of (accept r g moment) ≡ Some w → present g + 1 ≤ 9007199254740991
has_room g r moment w wrote =
    let ms = entries_at g (present g) in
    let fits : overflows ms (present g) w ≡ false = subst (λ (o : Option Write). IfSome o (λ v. overflows ms (present g) v ≡ false)) wrote (room r ms (present g) moment) in
    low_after (present g + 1)
    (both_false (nat_le most_objects (length ms) && is_some w.put && not (is_some (found w.key ms))) (is_past_greatest (present g + 1)) fits).1

pub is_newer : (g : History) (r : Request) (moment : List ℕ) (w : Write) (at : ℕ) (x : Key) (d : Data) → IsReached g → state g at x ≡ Some d → write_of (accept r g moment) ≡ Some w → w.put ≡ Some d → ⊥
is_newer g r moment w at x d reached there wrote put =
    let least = has_room g r moment w wrote in
    let old = tells g at x d reached there in
    let of_put : IfSome w.put (λ e. version e ≡ Some (decimal (present g + 1))) =
    subst (λ (o : Option Write). IfSome o (λ v. IfSome v.put (λ e. version e ≡ Some (decimal (present g + 1))))) wrote (versions r g moment) in
    let new : version d ≡ Some (decimal (present g + 1)) = subst (λ (o : Option Data). IfSome o (λ e. version e ≡ Some (decimal (present g + 1)))) put of_put in
    let low : old.0 ≤ present g = old.3.1 in
    let same : old.0 ≡ present g + 1 = same_decimal old.0 (present g + 1) (omega (arith, low, least)) least (sym old.1 ∙ new) in omega (arith, low, same)

-- ---- what is written under the key of the turn

pub own_coming : (j : WorkKey) (h : History) (d : Data) → IsReached h → LooksAfter j.controller j.key.kind → state h (present h) j.key ≡ Some d → EachComingOwes j j.key d
own_coming j h d reached after is s l same new =
    subst (λ (k : Key). IsAmong (record { controller = j.controller; key = k }) (keys_of (change_of s) l)) same
    (owe_keys j.controller s d l (subst (λ (k : Key). LooksAfter j.controller k.kind) (sym same) after) new
    (subst (λ (k : Key). name_in (record { kind = k.kind; value = d }) ≡ k) (sym same) (named h j.key d reached is)))

pub own_writes : OwnWritesOwe
own_writes h g more moment j r d q since w begins reached after is unowed wrote own =
    let Shown = ShownIn q since in
    let u = unowed w wrote in
    let owes = own_coming j h d reached after is in
    let to_end : Unowed j Shown j.key w.put (Some d) =
    subst (λ (o : Option Data). Unowed j Shown j.key w.put o) is (subst (λ (k : Key). Unowed j Shown k w.put (state h (present h) k)) own u.1) in
    let put : w.put ≡ Some d = before j Shown j.key w.put d owes to_end in
    let to_put : Unowed j Shown j.key (state g (present g) j.key) (Some d) =
    subst (λ (o : Option Data). Unowed j Shown j.key (state g (present g) j.key) o) put (subst (λ (k : Key). Unowed j Shown k (state g (present g) k) w.put) own u.0) in
    let there : state g (present g) j.key ≡ Some d = before j Shown j.key (state g (present g) j.key) d owes to_put in
    is_newer g r moment w (present g) j.key d (past g more (subst IsReached begins reached)) there wrote put
