-- The lines of a stream, applied.
use Rattle.std.proofs.Common.{◌≡◌, ◌≤◌, ℕ, List, [], ◌∷◌, ◌++◌, map, Less, Greater, refl, sym, ap, ◌∙◌, subst, append_assoc, append-nil}
use Rattle.std.specs.Ordering.{ordering_reverse}
use Rattle.std.specs.BTreeMap.{insert_entry}
use Rattle.serde_json.specs.Data.{Data}
use Rattle.spec_api.specs.Keys.{Key, key_cmp}
use Rattle.spec_api.specs.History.{History, View, Entries, up_to, in_view, after_all, list}
use Rattle.spec_api.proofs.PutLaws.{name_cmp_total, IsAbove, IsAscending, IsAscending-after_all, IsAscending-filter}
use Rattle.spec_api.specs.Events.{Event, events, applied}
use Rattle.spec_api.specs.Streams.{Line, event, bookmark, initial, initial_end, AreEventsWithBookmarks, IsStream, IsInitialStream, apply_line, applied_lines}
use Rattle.spec_laws.proofs.AppliedEvents.{list_applied}

-- the changes among the lines are the changes
goes_applied : (ls : List Line) (at b : ℕ) (cs : List Event) (ms : Entries) → AreEventsWithBookmarks at b cs ls → applied_lines ms ls ≡ applied ms cs
goes_applied [] at b [] ms h = refl
goes_applied [] at b (c ∷ cs) ms h = absurd h
goes_applied (event d ∷ ls) at b [] ms h = absurd h
goes_applied (event d ∷ ls) at b (c ∷ cs) ms h = ap (λ x. applied_lines (apply_line ms (event x)) ls) h.0 ∙ goes_applied ls c.revision b cs (apply_line ms (event c)) h.1
goes_applied (bookmark r ∷ ls) at b [] ms h = goes_applied ls r b [] ms h.2
goes_applied (bookmark r ∷ ls) at b (c ∷ cs) ms h = goes_applied ls r b (c ∷ cs) ms h.3
goes_applied (initial n d ∷ ls) at b [] ms h = absurd h
goes_applied (initial n d ∷ ls) at b (c ∷ cs) ms h = absurd h
goes_applied (initial_end r ∷ ls) at b [] ms h = absurd h
goes_applied (initial_end r ∷ ls) at b (c ∷ cs) ms h = absurd h

pub stream_applied : (h : History) (v : View) (a b : ℕ) (ls : List Line) → a ≤ b → IsStream h v a b ls → applied_lines (list h v a) ls ≡ list h v b
stream_applied h v a b ls le s = goes_applied ls a b (events h v a b) (list h v a) s ∙ list_applied h v a b le

-- ---- entries that go in by rising key

in_middle : (j : Key) (es : Entries) (e : Key × Data) (more : Entries) → IsAbove key_cmp j (es ++ e ∷ more) → key_cmp j e.0 ≡ Less
in_middle j [] e more h = h.0
in_middle j (f ∷ es) e more h = in_middle j es e more h.1

pub put_last : (es : Entries) (e : Key × Data) (more : Entries) → IsAscending key_cmp (es ++ e ∷ more) → insert_entry key_cmp es e.0 e.1 ≡ es ++ e ∷ []
put_last [] e more a = refl
put_last (f ∷ es) e more a =
    let above : key_cmp e.0 f.0 ≡ Greater = name_cmp_total.antisymm e.0 f.0 ∙ ap ordering_reverse (in_middle f.0 es e more a.0) in
    rw above (ap (λ z. f ∷ z) (put_last es e more a.1))

pub all_put : (ms es : Entries) (ls : List Line) → IsAscending key_cmp (es ++ ms) → applied_lines es (map (λ m. initial m.0 m.1) ms ++ ls) ≡ applied_lines (es ++ ms) ls
all_put [] es ls a = ap (λ z. applied_lines z ls) (sym (append-nil es))
all_put (e ∷ ms) es ls a =
    ap (λ z. applied_lines z (map (λ m. initial m.0 m.1) ms ++ ls)) (put_last es e ms a) ∙ all_put ms (es ++ e ∷ []) ls (subst (IsAscending key_cmp) (sym (append_assoc es (e ∷ []) ms)) a)
    ∙ ap (λ z. applied_lines z ls) (append_assoc es (e ∷ []) ms)

pub list_ascending : (h : History) (v : View) (a : ℕ) → IsAscending key_cmp (list h v a)
list_ascending h v a = IsAscending-filter key_cmp (λ m. in_view v m.0 m.1) (after_all [] (up_to a h)) (IsAscending-after_all [] (up_to a h) tt)

pub initial_stream_applied : (h : History) (v : View) (a b : ℕ) (ls : List Line) → a ≤ b → IsInitialStream h v a b ls → applied_lines [] ls ≡ list h v b
initial_stream_applied h v a b ls le s =
    ap (applied_lines []) s.1 ∙ all_put (list h v a) [] (initial_end a ∷ s.0) (list_ascending h v a) ∙ stream_applied h v a b s.0 le s.2
