-- Entries, and the history that they tell.
use Rattle.std.proofs.Common.{◌≡◌, ℕ, List, [], ◌∷◌, ◌++◌, append-nil, append_assoc, refl, sym, ap, ◌∙◌, subst, Bool, true, false, ◌==◌, if◌then◌else◌}
use Rattle.std.specs.Prelude.{Option, Some, None}
use Rattle.std.specs.declared.cmp.Ordering.{Ordering}
use Rattle.baton.specs.Marks.{StartsWith, entries, made_by, marked, CanHappen}
use Rattle.baton.proofs.Entries.{made_append, nothing_happened, happens}
use Rattle.keyed_board.specs.Said.{Parts, said}
use Rattle.keyed_board.specs.Steps.{Step}
use Rattle.shared_keyed_board.specs.Entries.{step_told, told, steps_told, latest, left_by, IsBegun, Follows}
use Rattle.shared_keyed_board.specs.Histories.{History, board, MayFollow}
use Rattle.shared_keyed_board.specs.declared.entries.BoardEntry.{BoardEntry}
use Rattle.shared_keyed_board.proofs.Standing.{board_more}

either_way : {X : Type 0} (xs : List X) (b : Bool) → xs ≡ (if b then xs else xs)
either_way xs true = refl
either_way xs false = refl

module _ {K N : Type 0} (say : K → N) where
  pub told_append : (g h : List (ℕ × BoardEntry K)) → told say (g ++ h) ≡ told say g ++ told say h
  told_append [] h = refl
  told_append (x ∷ g) h = ap (λ l. marked x.0 (step_told say x.1) ++ l) (told_append g h) ∙ sym (append_assoc (marked x.0 (step_told say x.1)) (told say g) (told say h))

  pub told_one : (name : ℕ) (e : BoardEntry K) → told say ((name, e) ∷ []) ≡ marked name (step_told say e)
  told_one name e = append-nil (marked name (step_told say e))

  pub told_more : (h : List (ℕ × BoardEntry K)) (name : ℕ) (e : BoardEntry K) → told say (h ++ (name, e) ∷ []) ≡ told say h ++ marked name (step_told say e)
  told_more h name e = told_append h ((name, e) ∷ []) ∙ ap (λ l. told say h ++ l) (told_one name e)

  -- the names do not matter to steps
  steps_of : (i j : ℕ) (o : Option (Step N)) → entries (marked i o) ≡ entries (marked j o)
  steps_of i j None = refl
  steps_of i j (Some e) = refl

  steps_append : (es fs : List (BoardEntry K)) → steps_told say (es ++ fs) ≡ steps_told say es ++ steps_told say fs
  steps_append [] fs = refl
  steps_append (x ∷ es) fs = ap (λ l. entries (marked 0 (step_told say x)) ++ l) (steps_append es fs) ∙ sym (append_assoc (entries (marked 0 (step_told say x))) (steps_told say es) (steps_told say fs))

  pub steps_more : (es : List (BoardEntry K)) (e : BoardEntry K) (name : ℕ) → steps_told say (es ++ e ∷ []) ≡ steps_told say es ++ entries (marked name (step_told say e))
  steps_more es e name =
      steps_append es (e ∷ []) ∙ ap (λ l. steps_told say es ++ l) (append-nil (entries (marked 0 (step_told say e))) ∙ steps_of 0 name (step_told say e))

  one_of : (name i : ℕ) (o : Option (Step N)) → made_by name (marked i o) ≡ (if i == name then entries (marked i o) else [])
  unfolding made_by
  one_of name i None = either_way [] (i == name)
  one_of name i (Some e) = refl

  -- the steps of a pass, told
  pub made_told : (name : ℕ) (h : List (ℕ × BoardEntry K)) → made_by name (told say h) ≡ steps_told say (made_by name h)
  unfolding made_by
  made_told name [] = refl
  made_told name (x ∷ h) =
      made_append name (marked x.0 (step_told say x.1)) (told say h) ∙ (λ i. one_of name x.0 (step_told say x.1) i ++ made_told name h i) ∙ by (x.0 == name)
    where
      by : (b : Bool) → ((if b then entries (marked x.0 (step_told say x.1)) else []) ++ steps_told say (made_by name h)) ≡ steps_told say (if b then x.1 ∷ made_by name h else made_by name h)
      by true = ap (λ l. l ++ steps_told say (made_by name h)) (steps_of x.0 0 (step_told say x.1))
      by false = refl

  pub told_later : (h g : List (ℕ × BoardEntry K)) → StartsWith h g → StartsWith (told say h) (told say g)
  told_later h g s = (told say s.0, ap (told say) s.1 ∙ told_append g s.0)

  -- ---- the boards

  latest_more : (p : Parts K) (es : List (BoardEntry K)) (e : BoardEntry K) → latest p (es ++ e ∷ []) ≡ e.board
  latest_more p [] e = refl
  latest_more p (x ∷ es) e = latest_more x.board es e

  entries_more : (h : List (ℕ × BoardEntry K)) (name : ℕ) (e : BoardEntry K) → entries (h ++ (name, e) ∷ []) ≡ entries h ++ e ∷ []
  entries_more [] name e = refl
  entries_more (x ∷ h) name e = ap (λ l. x.1 ∷ l) (entries_more h name e)

  -- the last entry leaves its board
  pub latest_is : (p : Parts K) (h : List (ℕ × BoardEntry K)) (name : ℕ) (e : BoardEntry K) → latest p (entries (h ++ (name, e) ∷ [])) ≡ e.board
  latest_is p h name e = ap (latest p) (entries_more h name e) ∙ latest_more p (entries h) e

module _ {K N : Type 0} (R : N → N → Ordering) (say : K → N) where
  board_left : (h : History N) (name : ℕ) (o : Option (Step N)) → board R (h ++ marked name o) ≡ left_by (board R h) o
  board_left h name None = ap (board R) (append-nil h)
  board_left h name (Some e) = board_more R h name e

  happened_from : (h rest : List (ℕ × BoardEntry K)) → CanHappen (MayFollow R) (told say h) → CanHappen (Follows R say) (h ++ rest) → CanHappen (MayFollow R) (told say (h ++ rest))
  happened_from h [] t can = subst (λ (g : List (ℕ × BoardEntry K)). CanHappen (MayFollow R) (told say g)) (sym (append-nil h)) t
  happened_from h (x ∷ rest) t can =
      let is = append_assoc h (x ∷ []) rest in
      let f = can h x.0 x.1 rest refl in
      subst (λ (g : List (ℕ × BoardEntry K)). CanHappen (MayFollow R) (told say g)) is
      (happened_from (h ++ x ∷ []) rest (subst (CanHappen (MayFollow R)) (sym (told_more say h x.0 x.1)) (happens (MayFollow R) (told say h) x.0 (step_told say x.1) t f.may))
      (subst (CanHappen (Follows R say)) (sym is) can))

  -- what entries tell can happen
  pub told_happened : (h : List (ℕ × BoardEntry K)) → CanHappen (Follows R say) h → CanHappen (MayFollow R) (told say h)
  told_happened h can = happened_from [] h (nothing_happened (MayFollow R)) can

  board_after : (p : Parts K) (h : List (ℕ × BoardEntry K)) (name : ℕ) (e : BoardEntry K) → Follows R say h name e → said R say (latest p (entries (h ++ (name, e) ∷ []))) ≡ board R (told say (h ++ (name, e) ∷ []))
  board_after p h name e f = ap (said R say) (latest_is say p h name e) ∙ f.board ∙ sym (ap (board R) (told_more say h name e) ∙ board_left (told say h) name (step_told say e))

  board_from : (p : Parts K) (h rest : List (ℕ × BoardEntry K)) → said R say (latest p (entries h)) ≡ board R (told say h) → CanHappen (Follows R say) (h ++ rest) → said R say (latest p (entries (h ++ rest))) ≡ board R (told say (h ++ rest))
  board_from p h [] t can = subst (λ (g : List (ℕ × BoardEntry K)). said R say (latest p (entries g)) ≡ board R (told say g)) (sym (append-nil h)) t
  board_from p h (x ∷ rest) t can =
      let is = append_assoc h (x ∷ []) rest in
      subst (λ (g : List (ℕ × BoardEntry K)). said R say (latest p (entries g)) ≡ board R (told say g)) is
      (board_from p (h ++ x ∷ []) rest (board_after p h x.0 x.1 (can h x.0 x.1 rest refl)) (subst (CanHappen (Follows R say)) (sym is) can))

  -- the board that the entries leave is the one that they tell
  pub told_board : (p : Parts K) (h : List (ℕ × BoardEntry K)) → IsBegun R say p → CanHappen (Follows R say) h → said R say (latest p (entries h)) ≡ board R (told say h)
  told_board p h opened can = board_from p [] h opened can
