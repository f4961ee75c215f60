-- What is issued of a plan, as answers come.
use Rattle.std.proofs.Common.{◌≡◌, ◌∙◌, ◌≤◌, ◌<◌, ◌-◌, ℕ, zero, suc, List, [], ◌∷◌, ◌++◌, length, map, filter, drop, Some, Bool, true, false, refl, sym, ap, append_assoc, arith, if◌then◌else◌}
use Rattle.std.proofs.Math.Seq.{drop-nil}
use Rattle.std.proofs.lemmas.List.{drop_all}
use Rattle.std.proofs.lemmas.Option.{slice_get_within}
use Rattle.std.specs.Arc.{arc_value}
use Rattle.std.specs.Global.{Global}
use Rattle.std.specs.List.{slice_get}
use Rattle.std.specs.declared.sync.Arc.{Arc}
use Rattle.spec_client_go.specs.Commands.{Command}
use Rattle.spec_sim.specs.NextSteps.{first}
use Rattle.spec_sim.specs.Turns.{Answer, Issue, is_accepted, is_refused, all_accepted, version_answered, version_in}
use Rattle.reconcile_turn.specs.Answers.{answers_of, is_undone, last_version, undone_of}
use Rattle.reconcile_turn.specs.Seen.{answer_of}
use Rattle.reconcile_turn.specs.Stages.{issued}
use Rattle.reconcile_turn.specs.declared.answers.CommandAnswer.{CommandAnswer as Shared}

-- an answer to the first command that has none is one more issue
pub issued_more : (cs : List Command) (as' : List Answer) (a : Answer) (c : Command) → first (drop (length as') cs) ≡ Some c
    → issued cs (as' ++ a ∷ []) ≡ issued cs as' ++ record { command = c; answer = a } ∷ []
issued_more [] [] a c next = absurd (cc)
issued_more [] (b ∷ bs) a c next = absurd (cc)
issued_more (d ∷ cs) [] a c next = let e : d ≡ c = cc in ap (λ (x : Command). record { command = x; answer = a } ∷ []) e
issued_more (d ∷ cs) (b ∷ bs) a c next = ap (λ (is : List Issue). record { command = d; answer = b } ∷ is) (issued_more cs bs a c next)

-- there is still one to answer
pub fits_more : (cs : List Command) (as' : List Answer) (a : Answer) (c : Command) → first (drop (length as') cs) ≡ Some c → length (as' ++ a ∷ []) ≤ length cs
fits_more [] [] a c next = absurd (cc)
fits_more [] (b ∷ bs) a c next = absurd (cc)
fits_more (d ∷ cs) [] a c next = omega arith
fits_more (d ∷ cs) (b ∷ bs) a c next = let h : length (bs ++ a ∷ []) ≤ length cs = fits_more cs bs a c next in omega arith

pub length-issued : (cs : List Command) (as' : List Answer) → length as' ≤ length cs → length (issued cs as') ≡ length as'
length-issued cs [] fits = refl
length-issued [] (a ∷ as') fits = absurd (omega arith)
length-issued (c ∷ cs) (a ∷ as') fits = let h : length as' ≤ length cs = omega arith in ap suc (length-issued cs as' h)

-- all were accepted where all before were, and this one is
pub accepted_more : (is : List Issue) (i : Issue) → all_accepted is ≡ true → all_accepted (is ++ i ∷ []) ≡ is_accepted i.answer
accepted_more [] i before = grind arith
accepted_more (j ∷ is) i before = grind (arith, accepted_more is i)

pub last_version_issued : (cs : List Command) (as' : List Answer) → length as' ≤ length cs → version_answered (issued cs as') ≡ last_version as'
last_version_issued cs [] fits = refl
last_version_issued [] (a ∷ as') fits = absurd (omega arith)
last_version_issued (c ∷ cs) (a ∷ []) fits = refl
last_version_issued (c ∷ []) (a ∷ b ∷ as') fits = absurd (omega arith)
last_version_issued (c ∷ d ∷ cs) (a ∷ b ∷ as') fits = let h : length (b ∷ as') ≤ length (d ∷ cs) = omega arith in last_version_issued (d ∷ cs) (b ∷ as') h

-- what is not done is what was refused, and what is left
pub undone-issued : (cs : List Command) (as' : List Answer) → undone_of cs as' ≡ map (λ (i : Issue). i.command) (filter (λ (i : Issue). is_refused i.answer) (issued cs as')) ++ drop (length (issued cs as')) cs
undone-issued cs [] = refl
undone-issued [] (a ∷ as') = refl
undone-issued (c ∷ cs) (a ∷ as') = grind (arith, undone-issued cs as')

-- the next command is undone or done
pub undone_next : (cs : List Command) (as' : List Answer) (i : ℕ) (c : Command) → slice_get cs i ≡ Some c
    → undone_of (drop i cs) (drop i as') ≡ (if is_undone (slice_get as' i) then c ∷ undone_of (drop (suc i) cs) (drop (suc i) as') else undone_of (drop (suc i) cs) (drop (suc i) as'))
undone_next [] as' i c at = absurd (cc)
undone_next (d ∷ cs) [] zero c at = let e : d ≡ c = cc in ap (λ (x : Command). x ∷ cs) e
undone_next (d ∷ cs) (a ∷ as') zero c at =
    let e : d ≡ c = cc in ap (λ (x : Command). if is_refused a then x ∷ undone_of cs as' else undone_of cs as') e
undone_next (d ∷ cs) [] (suc i) c at =
    let e : drop i [] ≡ [] = drop-nil {A = Answer} i in
    ap (λ (bs : List Answer). undone_of (drop i cs) bs) (sym e) ∙ undone_next cs [] i c at
    ∙ ap (λ (bs : List Answer). c ∷ undone_of (drop (suc i) cs) bs) (drop-nil {A = Answer} (suc i))
undone_next (d ∷ cs) (a ∷ as') (suc i) c at = undone_next cs as' i c at

-- ---- the last answer

pub last_at : (as' : List (Arc Shared Global)) (n : ℕ) (a : Arc Shared Global) → length as' ≡ suc n → Some a ≡ slice_get as' n → last_version (answers_of as') ≡ version_in (answer_of (arc_value a))
last_at [] n a len at = absurd (cc)
last_at (b ∷ []) zero a len at = let e : b ≡ a = cc in ap (λ (x : Arc Shared Global). version_in (answer_of (arc_value x))) e
last_at (b ∷ []) (suc n) a len at = absurd (omega arith)
last_at (b ∷ d ∷ as') zero a len at = absurd (omega arith)
last_at (b ∷ d ∷ as') (suc n) a len at = let e : length (d ∷ as') ≡ suc n = omega arith in last_at (d ∷ as') n a e at

pub last_is : (as' : List (Arc Shared Global)) (a : Arc Shared Global) (x y : Shared) → Some a ≡ slice_get as' (length as' - 1) → y ≡ arc_value a → y ≡ x → last_version (answers_of as') ≡ version_in (answer_of x)
last_is as' a x y at found is =
    let within : length as' - 1 < length as' = slice_get_within as' (length as' - 1) a (sym at) in
    let len : length as' ≡ suc (length as' - 1) = omega arith in
    last_at as' (length as' - 1) a len at ∙ ap (λ (z : Shared). version_in (answer_of z)) (sym found ∙ is)

-- ---- the undone commands, one after another

pub undone_more : (cs : List Command) (as' : List Answer) (i j : ℕ) (c : Command) (ls ms all : List Command) → j ≡ suc i → slice_get cs i ≡ Some c → is_undone (slice_get as' i) ≡ true → ms ≡ ls ++ c ∷ []
    → ls ++ undone_of (drop i cs) (drop i as') ≡ all → ms ++ undone_of (drop j cs) (drop j as') ≡ all
undone_more cs as' i j c ls ms all next at is more before =
    let rest = undone_of (drop (suc i) cs) (drop (suc i) as') in
    let one : undone_of (drop i cs) (drop i as') ≡ c ∷ rest = undone_next cs as' i c at ∙ ap (λ (b : Bool). if b then c ∷ rest else rest) is in
    ap (λ (k : ℕ). ms ++ undone_of (drop k cs) (drop k as')) next ∙ ap (λ (ds : List Command). ds ++ rest) more ∙ append_assoc ls (c ∷ []) rest ∙ ap (λ (ds : List Command). ls ++ ds) (sym one) ∙ before

pub undone_same : (cs : List Command) (as' : List Answer) (i j : ℕ) (c : Command) (ls ms all : List Command) → j ≡ suc i → slice_get cs i ≡ Some c → is_undone (slice_get as' i) ≡ false → ms ≡ ls
    → ls ++ undone_of (drop i cs) (drop i as') ≡ all → ms ++ undone_of (drop j cs) (drop j as') ≡ all
undone_same cs as' i j c ls ms all next at is same before =
    let rest = undone_of (drop (suc i) cs) (drop (suc i) as') in
    let none : undone_of (drop i cs) (drop i as') ≡ rest = undone_next cs as' i c at ∙ ap (λ (b : Bool). if b then c ∷ rest else rest) is in
    ap (λ (k : ℕ). ms ++ undone_of (drop k cs) (drop k as')) next ∙ ap (λ (ds : List Command). ds ++ rest) same ∙ ap (λ (ds : List Command). ls ++ ds) (sym none) ∙ before

-- past the last command nothing is undone
pub undone_past : (cs : List Command) (as' : List Answer) (i : ℕ) → length cs ≤ i → undone_of (drop i cs) as' ≡ []
undone_past cs [] i past = drop_all i cs past
undone_past cs (a ∷ as') i past = ap (λ (ds : List Command). undone_of ds (a ∷ as')) (drop_all i cs past)
