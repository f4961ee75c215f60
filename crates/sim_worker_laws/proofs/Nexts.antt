-- What stands behind the next step of a turn.
use Rattle.std.proofs.Common.{◌≡◌, List, [], ◌∷◌, Bool, true, false, Option, Some, None, is_some, option_map, refl, sym, ap, ◌∙◌}
use mathlib.Core.Bool.{true≢false}
use Rattle.std.specs.Option.{option_or, unwrap_or}
use Rattle.spec_api.specs.declared.kinds.Kind.{Kind}
use Rattle.spec_api.specs.Keys.{Key}
use Rattle.spec_client_go.specs.Commands.{Command}
use Rattle.spec_sim.specs.NextSteps.{Sighting, of_kind, of_expectations, unseen, NextStep, look, ask_satisfied, read, expect, issue, finish, seeing, first, expecting, issuing, next}
use Rattle.spec_sim.specs.Turns.{Turn, Expected, asks, expected, all_accepted, left}

pub data Stands (t : Turn) : NextStep → Type 0 where
  to_look : (k : Kind) (rest : List Sighting) → unseen t ≡ of_kind k ∷ rest → Stands t (look k)
  to_ask : (rest : List Sighting) → unseen t ≡ of_expectations ∷ rest → Stands t ask_satisfied
  to_read : (k : Key) (rest : List Key) → unseen t ≡ [] → asks t ≡ k ∷ rest → Stands t (read k)
  to_expect : (e : Expected) → unseen t ≡ [] → asks t ≡ [] → t.has_expected ≡ false → expected t ≡ Some e → Stands t (expect e)
  to_issue : (x : Command) (rest : List Command) → unseen t ≡ [] → asks t ≡ [] → (is_some (expected t) ≡ true → t.has_expected ≡ true) → all_accepted t.issues ≡ true → left t ≡ x ∷ rest
      → Stands t (issue x)
  to_finish : Stands t finish

module _ (t : Turn) where
  by_issue : unseen t ≡ [] → asks t ≡ [] → (is_some (expected t) ≡ true → t.has_expected ≡ true) → (b : Bool) (xs : List Command) → all_accepted t.issues ≡ b → left t ≡ xs
      → Stands t (unwrap_or (option_map issue (issuing b xs)) finish)
  by_issue u a x false xs e f = to_finish
  by_issue u a x true [] e f = to_finish
  by_issue u a x true (y ∷ ys) e f = to_issue y ys u a x e f

  by_expected : unseen t ≡ [] → asks t ≡ [] → (b : Bool) (o : Option Expected) → t.has_expected ≡ b → expected t ≡ o
      → Stands t (unwrap_or (option_or (option_map expect (expecting b o)) (option_map issue (issuing (all_accepted t.issues) (left t)))) finish)
  by_expected u a true o x y = by_issue u a (λ z. x) (all_accepted t.issues) (left t) refl refl
  by_expected u a false (Some e) x y = to_expect e u a x y
  by_expected u a false None x y = by_issue u a (λ z. absurd (true≢false (sym z ∙ ap is_some y))) (all_accepted t.issues) (left t) refl refl

  by_read : unseen t ≡ [] → (ks : List Key) → asks t ≡ ks
      → Stands t
      (unwrap_or
      (option_or (option_map read (first ks))
      (option_or (option_map expect (expecting t.has_expected (expected t))) (option_map issue (issuing (all_accepted t.issues) (left t)))))
      finish)
  by_read u [] a = by_expected u a t.has_expected (expected t) refl refl
  by_read u (k ∷ ks) a = to_read k ks u a

  by_sight : (ss : List Sighting) → unseen t ≡ ss
      → Stands t
      (unwrap_or
      (option_or (option_map seeing (first ss))
      (option_or (option_map read (first (asks t)))
      (option_or (option_map expect (expecting t.has_expected (expected t))) (option_map issue (issuing (all_accepted t.issues) (left t))))))
      finish)
  by_sight [] u = by_read u (asks t) refl
  by_sight (of_kind k ∷ ss) u = to_look k ss u
  by_sight (of_expectations ∷ ss) u = to_ask ss u

pub stands : (t : Turn) → Stands t (next t)
stands t = by_sight t (unseen t) refl
