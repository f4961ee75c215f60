-- A pass that met others, made a step, and met them again, has seen all that they have.
use Rattle.std.proofs.Common.{◌≡◌, ◌⊎◌, ⊎_elim, ℕ, ◌+◌, List, [], ◌∷◌, ◌++◌, map, All, length, length-append, sym, ap, ◌∙◌, subst, append_assoc, append-nil, arith}
use Rattle.std.specs.Prelude.{reverse, Some, Result, Ok, Err, OnOk}
use Rattle.std.proofs.lemmas.List.{map-append, reverse-append, reverse-reverse}
use Rattle.std.proofs.lemmas.List.Elements.{All-push}
use Rattle.std.proofs.lemmas.List.Sorted.{All-permutation, IsPermutation-reverse}
use Rattle.std.specs.declared.cmp.Ordering.{Ordering}
use Rattle.baton.specs.Marks.{StartsWith, made_by}
use Rattle.baton.proofs.Entries.{made_append}
use Rattle.keyed_board.specs.Steps.{Step}
use Rattle.shared_keyed_board.specs.Calls.{Sight, IsCall, Nothing, once_ok, HasSeenAll, HaveMet}
use Rattle.shared_keyed_board.specs.Histories.{History}

-- ---- passes that move over, the last first

module _ {X Y : Type 0} (f : X → Y) where
  pub moved_one : (to from back : List X) (x y : X) (all : List Y) → from ≡ back ++ x ∷ [] → f y ≡ f x → map f to ++ reverse (map f from) ≡ all → map f (to ++ y ∷ []) ++ reverse (map f back) ≡ all
  moved_one to from back x y all is same inv =
      let rest : reverse (map f from) ≡ f x ∷ reverse (map f back) = ap (λ (l : List X). reverse (map f l)) is ∙ ap reverse (map-append f back (x ∷ [])) ∙ reverse-append (map f back) (f x ∷ []) in
      ap (λ (l : List Y). l ++ reverse (map f back)) (map-append f to (y ∷ []) ∙ ap (λ (z : Y). map f to ++ z ∷ []) same)
      ∙ append_assoc (map f to) (f x ∷ []) (reverse (map f back))
      ∙ ap (λ (l : List Y). map f to ++ l) (sym rest) ∙ inv

  pub all_moved : (P : Y → Type 0) (to : List X) (x : X) → All P (map f to) → P (f x) → All P (map f (to ++ x ∷ []))
  all_moved P to x all one = subst (All P) (sym (map-append f to (x ∷ []))) (All-push P (map f to) (f x) all one)

-- ---- who has seen more

module _ {N : Type 0} (R : N → N → Ordering) where
  longer : (made : List (Step N)) (e : Step N) (rest : List (Step N)) → ¬ (made ≡ (made ++ e ∷ []) ++ rest)
  longer made e rest same =
      let n : length made ≡ length ((made ++ e ∷ []) ++ rest) = ap length same in
      let m = length-append (made ++ e ∷ []) rest in
      let k = length-append made (e ∷ []) in
      absurd (omega arith)

  -- what another pass has seen has none of the steps that a pass made after they met
  not_later : (v w p : Sight N) (e : Step N) → w.name ≡ v.name → w.made ≡ v.made ++ e ∷ [] → HaveMet R v p → ¬ (HasSeenAll R p w)
  not_later v w p e name made met after = ⊎_elim
      (λ (x : HasSeenAll R v p).
      longer v.made e (made_by v.name x.later.0)
      (sym x.mine ∙ ap (made_by v.name) x.later.1 ∙ made_append v.name p.seen x.later.0 ∙ ap (λ (l : List (Step N)). l ++ made_by v.name x.later.0) (ap (λ n. made_by n p.seen) (sym name) ∙ after.theirs ∙ made)))
      (λ (x : HasSeenAll R p v). longer v.made e [] (sym x.theirs ∙ ap (λ n. made_by n p.seen) (sym name) ∙ after.theirs ∙ made ∙ sym (append-nil (v.made ++ e ∷ [])))) met.1

  pub has_seen_all : (v w p : Sight N) (e : Step N) → w.name ≡ v.name → w.made ≡ v.made ++ e ∷ [] → HaveMet R v p → HaveMet R w p → HasSeenAll R w p
  has_seen_all v w p e name made before after = ⊎_elim (λ (x : HasSeenAll R w p). x) (λ (x : HasSeenAll R p w). absurd (not_later v w p e name made before x)) after.1

  -- so of many
  have_all_been_seen : (v w : Sight N) (e : Step N) (ps qs : List (Sight N)) → w.name ≡ v.name → w.made ≡ v.made ++ e ∷ [] → qs ≡ reverse ps → All (HaveMet R v) ps → All (HaveMet R w) qs → All (HasSeenAll R w) qs
  have_all_been_seen v w e ps qs name made is before after =
      let before' : All (HaveMet R v) qs = subst (All (HaveMet R v)) (sym is) (All-permutation (HaveMet R v) ps (reverse ps) (IsPermutation-reverse ps) before) in
      λ k d lt. has_seen_all v w _ e name made (before' k d lt) (after k d lt)

  -- a pass met others, made a step, if it could, and met them again
  pub gathered : {X Y : Type 0} (r : Result X Y) (e : Step N) (u v w x : Sight N) (ps qs : List (Sight N)) → v ≡ u → x ≡ w → IsCall R v (λ b. once_ok r (Some e)) Nothing w → qs ≡ reverse ps
      → All (HaveMet R u) ps → All (HaveMet R w) qs → OnOk r (All (HasSeenAll R x) qs)
  gathered (Ok a) e u v w x ps qs same still c is before after =
      subst (λ (s : Sight N). All (HasSeenAll R s) qs) (sym still)
      (have_all_been_seen u w e ps qs (ap (λ (s : Sight N). s.name) c.knows ∙ ap (λ (s : Sight N). s.name) same) (ap (λ (s : Sight N). s.made) c.knows ∙ ap (λ (s : Sight N). s.made ++ e ∷ []) same) is before after)
  gathered (Err f) e u v w x ps qs same still c is before after = tt
