-- What a reconcile asked that was run once more is what was noted.
use Rattle.std.proofs.Common.{◌≡◌, ◌⊎◌, ◌∙◌, ◌+◌, ℕ, zero, suc, List, [], ◌∷◌, Bool, true, false, true≢false, None, Some, Result, Ok, Err, IfOk, inl, inr, sym, subst, ap, refl, drop, length, slice_get, arith, String}
use Rattle.std.specs.Global.{Global}
use Rattle.std.proofs.Math.Seq.{drop-length, drop-cons}
use Rattle.std.proofs.lemmas.Option.{slice_get_within, get_or_from_slice_get}
use Rattle.spec_api.specs.ObjectRequests as words
use Rattle.spec_server.specs.Snapshots.{Snapshot}
use Rattle.http_client.specs.declared.answer.Answer.{Answer}
use Rattle.object_keys.specs.declared.per_kind.PerKind.{PerKind}
use Rattle.keyed_board.specs.declared.outcome.Outcome.{Outcome}
use Rattle.request_encoding.specs.Texts.{can_be_told}
use Rattle.reconciler.specs.Traces.{Acts, AreAsked, Trace}
use Rattle.controller_simulation.specs.Playing.{Answers, IsNotSent, LineOf, Plays, Repeats, Stops, is_repeating}
use Rattle.controller_simulation.specs.Replayed.{ActsAsNoted, AsksNext, IsNoted}
use Rattle.controller_simulation.specs.declared.past.PastRequest.{PastRequest}
use Rattle.controller_simulation.specs.declared.playback.Playback.{Playback}
use Rattle.controller_simulation.specs.declared.playback.Reached.{Reached}
use Rattle.controller_simulation.specs.declared.playback.Reached.TheVariants.{Repeating, Asks, Differs, NoMemory}
use Rattle.controller_simulation.specs.Turns.{EndsBy, IsNext}
use Rattle.controller_simulation.specs.declared.turns.Next.{Next}
use Rattle.controller_simulation.specs.declared.turns.Next.TheVariants as next

-- the rest of a list from an element on
rest_at : {X : Type 0} (xs : List X) (i : ℕ) (x : X) → slice_get xs i ≡ Some x → drop i xs ≡ x ∷ drop (i + 1) xs
rest_at xs i x at =
    let after : suc i ≡ i + 1 = omega arith in
    drop-cons xs i x (slice_get_within xs i x at) ∙ (ap (λ h. h ∷ drop (suc i) xs) (get_or_from_slice_get xs i x x at) ∙ ap (λ n. x ∷ drop n xs) after)

-- one that goes on where it is not repeated has no line
untold : (Line : String Global → Type 0) (NoLine : Type 0) (p : Playback) (r : Reached) → is_repeating r ≡ true → Stops Line NoLine p r → NoLine
untold Line NoLine p Repeating t s = s
untold Line NoLine p (Asks l) t s = absurd (true≢false (sym t))
untold Line NoLine p Differs t s = absurd (true≢false (sym t))
untold Line NoLine p NoMemory t s = absurd (true≢false (sym t))

-- who goes on after an answer went on before
went_on :
    (Line : String Global → Type 0) (NoLine : Type 0) (p : Playback) (a : Answer) (q : Playback) (b : Bool) → is_repeating p.reached ≡ b → Plays Line NoLine p a q → is_repeating q.reached ≡ true
    → is_repeating p.reached ≡ true
went_on Line NoLine p a q true is plays goes = is
went_on Line NoLine p a q false is plays goes = ap is_repeating (sym (plays.over is).1) ∙ goes

all_went_on : (trace : Trace) (p q : Playback) → AreAsked Answers p trace q → is_repeating q.reached ≡ true → is_repeating p.reached ≡ true
all_went_on [] p q asked goes = subst (λ (x : Playback). is_repeating x.reached ≡ true) asked goes
all_went_on (e ∷ es) p q asked goes =
    went_on (LineOf e.0) (can_be_told e.0 ≡ false) p e.1 asked.0 (is_repeating p.reached) refl asked.1 (all_went_on es asked.0 q asked.2 goes)

-- one request, and those after it
one :
    (e : words.Request × Answer) (es : Trace) (p q : Playback) → Plays (LineOf e.0) (can_be_told e.0 ≡ false) p e.1 q → is_repeating q.reached ≡ true → IsNoted (drop q.played q.past.now) es
    → Repeats (LineOf e.0) p e.1 q ⊎ IsNotSent (LineOf e.0) (can_be_told e.0 ≡ false) p e.1 q → IsNoted (drop p.played p.past.now) (e ∷ es)
one e es p q plays goes rest (inl r) =
    let kept = subst (λ l. IsNoted (drop q.played l) es) plays.same rest in
    inl (r.note, drop (p.played + 1) p.past.now, rest_at p.past.now p.played r.note r.next, r.asked, r.came_again, subst (λ n. IsNoted (drop n p.past.now) es) r.played kept)
one e es p q plays goes rest (inr s) =
    let kept = subst (λ l. IsNoted (drop q.played l) es) plays.same rest in
    inr (untold (LineOf e.0) (can_be_told e.0 ≡ false) p q.reached goes s.2, s.0, subst (λ n. IsNoted (drop n p.past.now) es) s.1 kept)

all_noted :
    (trace : Trace) (p q : Playback) → AreAsked Answers p trace q → is_repeating p.reached ≡ true → is_repeating q.reached ≡ true → q.played ≡ length p.past.now
    → IsNoted (drop p.played p.past.now) trace
all_noted [] p q asked going goes whole =
    let at : p.played ≡ length p.past.now = ap (λ (x : Playback). x.played) (sym asked) ∙ whole in
    subst (λ n. drop n p.past.now ≡ []) (sym at) (drop-length p.past.now)
all_noted (e ∷ es) p q asked going goes whole =
    let goes_next = all_went_on es asked.0 q asked.2 goes in
    let rest = all_noted es asked.0 q asked.2 goes_next goes (whole ∙ ap length (sym asked.1.same)) in
    one e es p asked.0 asked.1 goes_next rest (asked.1.plays going)

-- who asked something new, or differs, is so to the end
stopped : (trace : Trace) (p q : Playback) → AreAsked Answers p trace q → is_repeating p.reached ≡ false → q.reached ≡ p.reached
stopped [] p q asked over = ap (λ (x : Playback). x.reached) asked
stopped (e ∷ es) p q asked over =
    let same = (asked.1.over over).1 in stopped es asked.0 q asked.2 (ap is_repeating same ∙ over) ∙ same

-- nothing was noted from a place on where nothing is there
none_at : {X : Type 0} (xs : List X) (i : ℕ) → slice_get xs i ≡ None → drop i xs ≡ []
none_at [] zero none = refl
none_at [] (suc i) none = refl
none_at (x ∷ xs) zero none = let e : Some x ≡ None = none in absurd (cc)
none_at (x ∷ xs) (suc i) none = none_at xs i none

-- one that stops there stops at this line
stops_at : (Line : String Global → Type 0) (NoLine : Type 0) (p : Playback) (r : Reached) (line : String Global) → r ≡ Asks line → Stops Line NoLine p r → Line line × (drop p.played p.past.now ≡ [])
stops_at Line NoLine p r line is s =
    let at = subst (Stops Line NoLine p) is s in (at.0, none_at p.past.now p.played at.1)

next_after :
    (line : String Global) (e : words.Request × Answer) (es : Trace) (p n q : Playback) → Plays (LineOf e.0) (can_be_told e.0 ≡ false) p e.1 n → AreAsked Answers n es q → q.reached ≡ Asks line
    → (is_repeating n.reached ≡ true → AsksNext (drop n.played n.past.now) line es) → Repeats (LineOf e.0) p e.1 n ⊎ IsNotSent (LineOf e.0) (can_be_told e.0 ≡ false) p e.1 n
    → (b : Bool) → is_repeating n.reached ≡ b → AsksNext (drop p.played p.past.now) line (e ∷ es)
next_after line e es p n q plays asked ends later (inl r) b is =
    let rest = subst (λ l. AsksNext (drop n.played l) line es) plays.same (later r.goes_on) in
    inl (r.note, drop (p.played + 1) p.past.now, rest_at p.past.now p.played r.note r.next, r.asked, r.came_again, subst (λ i. AsksNext (drop i p.past.now) line es) r.played rest)
next_after line e es p n q plays asked ends later (inr s) true is =
    let rest = subst (λ l. AsksNext (drop n.played l) line es) plays.same (later is) in
    inr (inl (untold (LineOf e.0) (can_be_told e.0 ≡ false) p n.reached is s.2, s.0, subst (λ i. AsksNext (drop i p.past.now) line es) s.1 rest))
next_after line e es p n q plays asked ends later (inr s) false is =
    let at = stops_at (LineOf e.0) (can_be_told e.0 ≡ false) p n.reached line (sym (stopped es n q asked is) ∙ ends) s.2 in inr (inr (at.1, at.0, s.0))

all_next : (line : String Global) (trace : Trace) (p q : Playback) → AreAsked Answers p trace q → is_repeating p.reached ≡ true → q.reached ≡ Asks line → AsksNext (drop p.played p.past.now) line trace
all_next line [] p q asked going ends = absurd (true≢false (sym going ∙ ap is_repeating (ap (λ (x : Playback). x.reached) (sym asked) ∙ ends)))
all_next line (e ∷ es) p q asked going ends =
    next_after line e es p asked.0 q asked.1 asked.2 ends (λ on. all_next line es asked.0 q asked.2 on ends) (asked.1.plays going) (is_repeating asked.0.reached) refl

pub noted :
    {K : Type 0} (told : Bool) (says : K → PerKind Snapshot → Trace → Outcome → Type 0) (key : K) (shown : PerKind Snapshot) (notes : List PastRequest) (p q : Playback) (outcome : Outcome)
    → p.past.now ≡ notes → p.played ≡ 0 → p.reached ≡ Repeating → q.reached ≡ Repeating → q.played ≡ length notes → Acts told says Answers key shown p q outcome
    → ActsAsNoted told says key shown notes (next.Ends outcome)
noted false says key shown notes p q outcome same first begins goes whole acts = tt
noted true says key shown notes p q outcome same first begins goes whole acts =
    let all = all_noted acts.0 p q acts.1 (ap is_repeating begins) (ap is_repeating goes) (whole ∙ ap length (sym same)) in
    let of_notes = subst (λ l. IsNoted (drop p.played l) acts.0) same all in
    (acts.0, subst (λ n. IsNoted (drop n notes) acts.0) first of_notes, acts.2)

-- of one that does not end nothing is said
nothing : {K : Type 0} (told : Bool) (says : K → PerKind Snapshot → Trace → Outcome → Type 0) (key : K) (shown : PerKind Snapshot) (notes : List PastRequest) → ActsAsNoted told says key shown notes next.Differs
nothing false says key shown notes = tt
nothing true says key shown notes = tt

asking :
    {K : Type 0} (told : Bool) (says : K → PerKind Snapshot → Trace → Outcome → Type 0) (key : K) (shown : PerKind Snapshot) (notes : List PastRequest) (p q : Playback) (outcome : Outcome)
    (line : String Global) → q.reached ≡ Asks line → p.past.now ≡ notes → p.played ≡ 0 → p.reached ≡ Repeating → Acts told says Answers key shown p q outcome
    → ActsAsNoted told says key shown notes (next.Asks line)
asking false says key shown notes p q outcome line ends same first begins acts = tt
asking true says key shown notes p q outcome line ends same first begins acts =
    let all = all_next line acts.0 p q acts.1 (ap is_repeating begins) ends in
    let of_notes = subst (λ l. AsksNext (drop p.played l) line acts.0) same all in
    (acts.0, outcome, subst (λ n. AsksNext (drop n notes) line acts.0) first of_notes, acts.2)

-- what comes next, by how far it came
pub next_noted :
    {K : Type 0} (told : Bool) (says : K → PerKind Snapshot → Trace → Outcome → Type 0) (key : K) (shown : PerKind Snapshot) (notes : List PastRequest) (p q : Playback) (outcome : Outcome)
    (r : Reached) (whole : Bool) (n : Next) → IsNext r whole outcome n → q.reached ≡ r → (whole ≡ true → q.played ≡ length notes) → p.past.now ≡ notes → p.played ≡ 0 → p.reached ≡ Repeating
    → Acts told says Answers key shown p q outcome → ActsAsNoted told says key shown notes n
next_noted told says key shown notes p q outcome Repeating true n is reached whole same first begins asked =
    subst (ActsAsNoted told says key shown notes) (sym is) (noted told says key shown notes p q outcome same first begins reached (whole refl) asked)
next_noted told says key shown notes p q outcome Repeating false n is reached whole same first begins asked = subst (ActsAsNoted told says key shown notes) (sym is) (nothing told says key shown notes)
next_noted told says key shown notes p q outcome (Asks line) whole n is reached w same first begins asked = subst (ActsAsNoted told says key shown notes) (sym is) (asking told says key shown notes p q outcome line reached same first begins asked)
next_noted told says key shown notes p q outcome Differs whole n is reached w same first begins asked = subst (ActsAsNoted told says key shown notes) (sym is) (nothing told says key shown notes)
next_noted told says key shown notes p q outcome NoMemory whole n is reached w same first begins asked = absurd is

-- and how it ends
pub next_ends : (Allows : Outcome → Type 0) (outcome : Outcome) (r : Reached) (whole : Bool) (n : Next) → IsNext r whole outcome n → Allows outcome → EndsBy Allows n
next_ends Allows outcome Repeating true n is allowed = subst (EndsBy Allows) (sym is) allowed
next_ends Allows outcome Repeating false n is allowed = subst (EndsBy Allows) (sym is) tt
next_ends Allows outcome (Asks line) whole n is allowed = subst (EndsBy Allows) (sym is) tt
next_ends Allows outcome Differs whole n is allowed = subst (EndsBy Allows) (sym is) tt
next_ends Allows outcome NoMemory whole n is allowed = absurd is

-- what is so of a value that was made is so where what implies it is
pub if_ok : {X E : Type 0} {P : X → Type 0} (r : Result X E) (Q : X → Type 0) → ((x : X) → P x → Q x) → IfOk r P → IfOk r Q
if_ok (Ok x) Q f h = f x h
if_ok (Err e) Q f h = tt
