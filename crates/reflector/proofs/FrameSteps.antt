-- The step of an event, and of a bookmark, from list to list.
use Rattle.std.proofs.Common.{◌≡◌, ◌≤◌, ◌<◌, ℕ, nat_lt, List, [], ◌∷◌, ◌++◌, map, true, Option, Some, None, option_and_then, option_map, Ok, refl, sym, ap, ◌∙◌, subst, arith}
use Rattle.serde_json.specs.Data.{Data}
use Rattle.spec_api.specs.declared.kinds.Kind.{Kind}
use Rattle.spec_api.specs.declared.frames.ChangeKind.{ChangeKind}
use Rattle.spec_api.specs.declared.frames.ChangeKind.TheVariants.{Added, Modified, Deleted}
use Rattle.spec_api.specs.Keys.{Key}
use Rattle.spec_api.specs.History.{History, View, Entries, list, put_or_remove}
use Rattle.spec_api.specs.Objects.{Object}
use Rattle.spec_api.specs.Events.{Event, events, applied, apply}
use Rattle.spec_api.specs.Frames.{frame_kind}
use Rattle.spec_laws.specs.WatchLaws.{AreBetween}
use Rattle.spec_laws.proofs.AppliedEvents.{list_applied, goes_on, lie_between}
use Rattle.spec_client_go.specs.Reflectors.{Shown, Step, step, shown, if_above, or_unreadable, put_step, remove_step, name_in, apply_delta}

-- ---- the first event

only_one : (at r b : ℕ) (xs ys : List Event) (c : Event) (cs : List Event) → c.revision ≡ r → xs ++ ys ≡ c ∷ cs → AreBetween at r xs → AreBetween r b ys → AreBetween r b cs → (xs ≡ c ∷ []) × (ys ≡ cs)
only_one at r b [] [] c cs is e p q m = cc
only_one at r b [] (y ∷ ys) c cs is e p q m =
    let head : y ≡ c = cc in
    let same : y.revision ≡ c.revision = ap (λ (z : Event). z.revision) head in
    let low : r < y.revision = q.0 in absurd (omega arith)
only_one at r b (x ∷ []) ys c cs is e p q m =
    let head : x ≡ c = cc in
    let tail : ys ≡ cs = cc in (ap (λ z. z ∷ []) head, tail)
only_one at r b (x ∷ y ∷ xs) ys c cs is e p q m =
    let rest : y ∷ (xs ++ ys) ≡ cs = cc in
    let above = subst (AreBetween r b) (sym rest) m in
    let low : r < y.revision = above.0 in
    let high : y.revision ≤ r = p.2.1 in absurd (omega arith)

-- at an event: the list there, and the events after it
pub first_change : (h : History) (v : View) (at b : ℕ) (c : Event) (cs : List Event) → at ≤ b → c ∷ cs ≡ events h v at b
    → (at < c.revision) × (c.revision ≤ b) × (apply (list h v at) c ≡ list h v c.revision) × (cs ≡ events h v c.revision b)
first_change h v at b c cs le e =
    let between = subst (AreBetween at b) (sym e) (lie_between h v at b) in
    let low : at < c.revision = between.0 in
    let high : c.revision ≤ b = between.1 in
    let two = only_one at c.revision b (events h v at c.revision) (events h v c.revision b) c cs refl (sym (goes_on h v at c.revision b (omega arith) high) ∙ sym e) (lie_between h v at c.revision) (lie_between h v c.revision b) between.2 in (
      low,
      high,
      sym (ap (applied (list h v at)) two.0) ∙ list_applied h v at c.revision (omega arith),
      sym two.1,
    )

-- ---- a bookmark

-- each event, if there is one, is after it
abbrev pub IsBefore : ℕ → List Event → Type 0
IsBefore r [] = Unit {0}
IsBefore r (c ∷ cs) = r < c.revision

none_before : (at r : ℕ) (xs ys cs : List Event) → xs ++ ys ≡ cs → AreBetween at r xs → IsBefore r cs → xs ≡ []
none_before at r [] ys cs e p low = refl
none_before at r (x ∷ xs) ys [] e p low = cc
none_before at r (x ∷ xs) ys (c ∷ cs) e p low =
    let head : x ≡ c = cc in
    let same : x.revision ≡ c.revision = ap (λ (z : Event). z.revision) head in
    let high : x.revision ≤ r = p.1 in absurd (omega arith)

-- at a bookmark before the first event: the list there, and the events after it
pub at_bookmark : (h : History) (v : View) (at r b : ℕ) (cs : List Event) → at ≤ r → r ≤ b → IsBefore r cs → cs ≡ events h v at b → (list h v at ≡ list h v r) × (cs ≡ events h v r b)
at_bookmark h v at r b cs low high before e =
    let none = none_before at r (events h v at r) (events h v r b) cs (sym (goes_on h v at r b low high) ∙ sym e) (lie_between h v at r) before in (
      sym (ap (applied (list h v at)) none) ∙ list_applied h v at r low,
      e ∙ goes_on h v at r b low high ∙ ap (λ z. z ++ events h v r b) none,
    )

-- ---- the step of an event

above_is : (last : ℕ) (s : Shown) (o : Option Shown) → o ≡ Some s → last < s.revision → option_and_then (if_above last) o ≡ Some s
above_is last s o e low = let b : nat_lt last s.revision ≡ true = grind arith in rw (e, b) refl

-- what an event does to the map
abbrev pub done_to : Entries → ChangeKind → Key → Data → Entries
done_to ms kind n d = apply ms (record { kind = kind; revision = 0; key = n; object = d })

pub change_step_at : (kind : ChangeKind) (k : Kind) (last r : ℕ) (n : Key) (d : Data)
    → (let o : Object = record { kind = k; value = d } in shown k d ≡ Some (record { object = o; revision = r }) → name_in o ≡ n → last < r
    → (t : Step) × (step k last (record { kind = frame_kind kind; object = d }) ≡ Ok t) × (t.revision ≡ r) × ((ms : Entries) → apply_delta ms t.delta ≡ done_to ms kind n d))
change_step_at Added k last r n d e names low =
    let s : Shown = record { object = record { kind = k; value = d }; revision = r } in
    (put_step s, ap (λ o. or_unreadable (option_map put_step o)) (above_is last s (shown k d) e low), refl, λ ms. ap (λ m. put_or_remove ms m (Some d)) names)
change_step_at Modified k last r n d e names low =
    let s : Shown = record { object = record { kind = k; value = d }; revision = r } in
    (put_step s, ap (λ o. or_unreadable (option_map put_step o)) (above_is last s (shown k d) e low), refl, λ ms. ap (λ m. put_or_remove ms m (Some d)) names)
change_step_at Deleted k last r n d e names low =
    let s : Shown = record { object = record { kind = k; value = d }; revision = r } in
    (remove_step s, ap (λ o. or_unreadable (option_map remove_step o)) (above_is last s (shown k d) e low), refl, λ ms. ap (λ m. put_or_remove ms m None) names)
