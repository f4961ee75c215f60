-- What a call of a desk means to the pass that makes it.
use Rattle.std.specs.Prelude.{◌≡◌, ℕ, List, ◌++◌, Option, IfSome, true, false}
use Rattle.baton.specs.Marks.{StartsWith, entries, made_by, marked}
use Rattle.baton.specs.declared.views.Known.{Known}
use Rattle.spec_api.specs.History.{History, Entry}
use Rattle.spec_api.specs.ObjectRequests.{Request}
use Rattle.spec_server.specs.Servers.{Server}
use Rattle.desk.specs.Histories.{Comes, HasCome}

-- what a pass knows once it has seen a history, and added this entry to it
abbrev pub having_seen : Known Server Entry → List (ℕ × Entry) → Option Entry → Known Server Entry
having_seen v h change = record v { seen = h ++ marked v.name change; made = v.made ++ entries (marked v.name change) }

-- There is a history of what came, which begins with all that the pass had seen and has of the pass's entries just what it made.
-- What is said of the call is so at this history, and afterwards the pass has seen it, and then the entry that it adds.
pub record Step (may_ask : Request → Type 0) (v : Known Server Entry) (change : History → Option Entry) (Says : History → Type 0) (w : Known Server Entry) : Type 0 where
  pub history : List (ℕ × Entry)
  pub later : StartsWith history v.seen
  pub made : made_by v.name history ≡ v.made
  pub came : HasCome may_ask history
  pub says : Says (entries history)
  pub knows : w ≡ having_seen v history (change (entries history))

-- what a pass knows once it has given the server back, with this entry
abbrev pub after_give : Known Server Entry → Option Entry → Known Server Entry
after_give v change = record v { seen = v.seen ++ marked v.name change; made = v.made ++ entries (marked v.name change); holds = false }

-- a pass that did not hold the server has learned all that came, and holds it
pub record HasTaken (may_ask : Request → Type 0) (v w : Known Server Entry) : Type 0 where
  pub later : StartsWith w.seen v.seen
  pub made : made_by v.name w.seen ≡ v.made
  pub came : HasCome may_ask w.seen
  pub same : w ≡ record v { seen = w.seen; holds = true }
  pub free : v.holds ≡ false

-- what a pass has seen that adds to what has come an entry that comes after it has come
abbrev pub StepsHaveCome : (Request → Type 0) → Type 0
StepsHaveCome may_ask =
    (v w : Known Server Entry) (h : List (ℕ × Entry)) (change : Option Entry) → HasCome may_ask h
    → IfSome change (λ e. Comes may_ask (entries h) e)
    → w ≡ having_seen v h change → HasCome may_ask w.seen
