-- The revision to which lines lead a reflector that watches.
use Rattle.std.proofs.Common.{◌≡◌, ◌≤◌, ◌<◌, ◌^◌, ℕ, nat_lt, List, [], ◌∷◌, ◌++◌, map, Bool, true, false, cond, Option, Some, option_and_then, option_map, Ok, refl, sym, ap, ◌∙◌, arith, append_assoc}
use Rattle.std.specs.List.{AllByRecursion}
use Rattle.std.proofs.lemmas.Bool.{ltb-false}
use Rattle.serde_json.specs.Data.{Data}
use Rattle.spec_api.specs.declared.kinds.Kind.{Kind}
use Rattle.spec_api.specs.declared.frames.ChangeKind.{ChangeKind}
use Rattle.spec_api.specs.declared.frames.ChangeKind.TheVariants.{Added, Modified, Deleted}
use Rattle.spec_api.specs.Events.{Event}
use Rattle.spec_api.specs.Frames.{Frame, frame_kind}
use Rattle.spec_api.specs.History.{History, View}
use Rattle.spec_api.specs.Streams.{Line, event, bookmark, initial, initial_end, frame_of, AreEventsWithBookmarks}
use Rattle.spec_api.specs.Versions.{Watched, last_change}
use Rattle.spec_api.specs.WatchReplies.{lines_from}
use Rattle.spec_client_go.specs.Reflectors.{Shown, shown, if_above, Step, step, run, going_on, or_unreadable, put_step, remove_step, mark_step}
use Rattle.spec_laws.specs.LookLaws.{Look, AreLooks, last_stand, look_lines}
use Rattle.spec_laws.specs.SentLaws.{IsTold}
use Rattle.spec_laws.specs.WatchLaws.{AreBetween}
use Rattle.spec_laws.proofs.StandingWatches.{given_stands}
use Rattle.reflector.proofs.Marks.{bookmark_step}

-- the revision of the last line, or this one
abbrev pub last_line : ℕ → List Line → ℕ
last_line at [] = at
last_line at (event c ∷ ls) = last_line c.revision ls
last_line at (bookmark r ∷ ls) = last_line r ls
last_line at (initial n d ∷ ls) = last_line at ls
last_line at (initial_end r ∷ ls) = last_line r ls

-- ---- steps

above_is : (last : ℕ) (s : Shown) (o : Option Shown) → o ≡ Some s → last < s.revision → option_and_then (if_above last) o ≡ Some s
above_is last s o e low = let b : nat_lt last s.revision ≡ true = grind arith in rw (e, b) refl

change_step : (kind : ChangeKind) (k : Kind) (last : ℕ) (d : Data) (s : Shown) → shown k d ≡ Some s → last < s.revision
    → (t : Step) × (step k last (record { kind = frame_kind kind; object = d }) ≡ Ok t) × (t.revision ≡ s.revision)
change_step Added k last d s e low = (put_step s, ap (λ o. or_unreadable (option_map put_step o)) (above_is last s (shown k d) e low), refl)
change_step Modified k last d s e low = (put_step s, ap (λ o. or_unreadable (option_map put_step o)) (above_is last s (shown k d) e low), refl)
change_step Deleted k last d s e low = (remove_step s, ap (λ o. or_unreadable (option_map remove_step o)) (above_is last s (shown k d) e low), refl)

stepped : (k : Kind) (at r : ℕ) (e : Frame) (es : List Frame) (t : Step) → step k at e ≡ Ok t → t.revision ≡ r → (run k at (e ∷ es)).revision ≡ (run k r es).revision
stepped k at r e es t is to = ap (λ o. (going_on at (λ q. run k q es) o).revision) is ∙ ap (λ q. (run k q es).revision) to

-- ---- lines

pub runs_to : (k : Kind) (ls : List Line) (at b : ℕ) (cs : List Event) → b < 2 ^ 53 → AreEventsWithBookmarks at b cs ls → AreBetween at b cs → AllByRecursion (IsTold k) cs
    → (run k at (map (frame_of k) ls)).revision ≡ last_line at ls
runs_to k [] at b cs low g p told = refl
runs_to k (event d ∷ ls) at b [] low g p told = absurd g
runs_to k (event d ∷ ls) at b (c ∷ cs) low g p told =
    let here = change_step c.kind k at c.object (record { object = record { kind = k; value = c.object }; revision = c.revision }) told.0.shows p.0 in
    ap (λ (x : Event). (run k at (frame_of k (event x) ∷ map (frame_of k) ls)).revision) g.0
    ∙ stepped k at c.revision (frame_of k (event c)) (map (frame_of k) ls) here.0 here.1 here.2
    ∙ runs_to k ls c.revision b cs low g.1 p.2 told.1 ∙ ap (λ (x : Event). last_line x.revision ls) (sym g.0)
runs_to k (bookmark r ∷ ls) at b [] low g p told =
    let up = g.1 in
    stepped k at r (frame_of k (bookmark r)) (map (frame_of k) ls) (mark_step r) (bookmark_step k at r g.0 (omega (arith, up, low))) refl ∙ runs_to k ls r b [] low g.2 tt told
runs_to k (bookmark r ∷ ls) at b (c ∷ cs) low g p told =
    let up = g.1 in
    stepped k at r (frame_of k (bookmark r)) (map (frame_of k) ls) (mark_step r) (bookmark_step k at r g.0 (omega (arith, up, low))) refl
    ∙ runs_to k ls r b (c ∷ cs) low g.3 (g.2, p.1, p.2) told
runs_to k (initial n d ∷ ls) at b [] low g p told = absurd g
runs_to k (initial n d ∷ ls) at b (c ∷ cs) low g p told = absurd g
runs_to k (initial_end r ∷ ls) at b [] low g p told = absurd g
runs_to k (initial_end r ∷ ls) at b (c ∷ cs) low g p told = absurd g

-- ---- looks

after_events : (cs : List Event) (a : ℕ) (more : List Line) → last_line a (map event cs ++ more) ≡ last_line (last_change a cs) more
after_events [] a more = refl
after_events (c ∷ cs) a more = after_events cs c.revision more

after_bookmark : (b : Bool) (at stands : ℕ) (more : List Line) → nat_lt at stands ≡ b → at ≤ stands → last_line at (cond b (bookmark stands ∷ []) [] ++ more) ≡ last_line stands more
after_bookmark true at stands more m le = refl
after_bookmark false at stands more m le = let down = ltb-false at stands m in let same : at ≡ stands = omega (arith, le, down) in ap (λ r. last_line r more) same

after_look : (a : ℕ) (w : Watched) (more : List Line) → last_change a w.events ≤ w.stands → last_line a (lines_from a w ++ more) ≡ last_line w.stands more
after_look a w more le =
    let tail : List Line = cond (nat_lt (last_change a w.events) w.stands) (bookmark w.stands ∷ []) [] in
    ap (last_line a) (append_assoc (map event w.events) tail more) ∙ after_events w.events a (tail ++ more)
    ∙ after_bookmark (nat_lt (last_change a w.events) w.stands) (last_change a w.events) w.stands more refl le

pub last_look : (size : ℕ) (v : View) (h : History) (a : ℕ) (ls : List Look) → AreLooks size v h a ls → last_line a (look_lines a ls) ≡ last_stand a ls
last_look size v h a [] is = refl
last_look size v h a (l ∷ ls) is =
    after_look a l.given (look_lines l.given.stands ls) (given_stands size l.history v a l.most l.given is.1).3.2 ∙ last_look size v l.history l.given.stands ls is.2
