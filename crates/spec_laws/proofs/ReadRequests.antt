-- What is read of a request is well asked, moments are times, and what has happened after some lines is reached.
use Rattle.std.proofs.Common.{◌≡◌, ◌≤◌, ◌<◌, nat_lt, ◌==◌, ◌&&◌, ℕ, List, [], ◌∷◌, ◌++◌, length, Bool, true, false, cond, not, nat_le, codes, bytes_eq, IfSome, Option, Some, None, Result, Ok, Err, ok_or, refl, sym, subst, arith}
use Rattle.std.proofs.lemmas.Bool.{ltb-true, lt-ltb}
use Rattle.std.proofs.lemmas.Bool.Decides.{nat_tests}
use Rattle.json.proofs.Printed.Utf8.{are_ascii, IsUtf8-are_ascii}
use Rattle.serde_json.specs.Data.{Data}
use Rattle.spec_api.proofs.Truths.{both_true}
use Rattle.spec_api.specs.declared.methods.Method.{Method}
use Rattle.spec_api.specs.declared.methods.Method.TheVariants.{Get, Post, Put, Patch, Delete}
use Rattle.spec_api.specs.declared.refusals.Part.{Part}
use Rattle.spec_api.specs.declared.refusals.Part.TheVariants as part
use Rattle.spec_api.specs.History.{History, compaction, present}
use Rattle.spec_api.specs.Replies.{Session, start, reply_for, history_from, default_window}
use Rattle.spec_line_protocol.specs.Lines.{history_of, Line, ask, at, compact, compact_at, unreadable, ask_if, cut, target_alone, target_and_body, line_from, line_of, session_after, next, after_lines}
use Rattle.spec_api.specs.Moments as moments
use Rattle.spec_api.specs.Moments.{has_form, is_day, is_digit, is_moment}
use Rattle.spec_api.specs.Keys.{Key}
use Rattle.spec_api.specs.ListQueries as collections
use Rattle.spec_api.specs.ListQueries.{Read}
use Rattle.spec_api.specs.Revisions.{revision_of}
use Rattle.spec_api.specs.Values.{data_of}
use Rattle.spec_api.specs.Refusals.{Refusal, bad_request, method_not_allowed, too_large}
use Rattle.spec_api.specs.Targets.{Query, Asked, request, list, watch, Route, collection, object_at, status_of, route, path_of, decoded, query_for, names_namespace, is_allowed, is_too_long, body_of, asks_with, delete_options, read_as, selected, asked, asked_with, asked_at, read_request}
use Rattle.spec_api.specs.Verbs.{accept, with_write, write_of}
use Rattle.spec_api.specs.ObjectRequests.{Request, create_object, update_object, update_status, patch_object, delete_object}
use Rattle.spec_api.specs.DeleteOptions.{Options}
use Rattle.spec_api.specs.History as history
use Rattle.spec_laws.proofs.Parsed.{parsed_data}
use Rattle.spec_laws.proofs.Runs.{kept_asked, kept_watched, by_compaction}
use Rattle.spec_api.specs.Reached.{IsParsed, CanBeRead, IsTimestamp, IsReached, opened, asks, compacts}
use Rattle.spec_laws.specs.ReachedLaws.{RunsAreReached, RequestsAreAsked, MomentsAreTimes}

abbrev pub AsksWell : Result Asked Refusal → Type 0
AsksWell (Err f) = Unit {0}
AsksWell (Ok (request q)) = CanBeRead q
AsksWell (Ok (list v o)) = Unit {0}
AsksWell (Ok (watch v o)) = Unit {0}

well_or : (b : Bool) (f : Refusal) (r : Result Asked Refusal) → (b ≡ false → AsksWell r) → AsksWell (cond b (Err f) r)
well_or true f r each = tt
well_or false f r each = each refl

abbrev IsOrderedBody : Result Data Refusal → Type 0
IsOrderedBody (Err f) = Unit {0}
IsOrderedBody (Ok d) = IsParsed d

ordered_or : (o : Option Data) → IfSome o IsParsed → IsOrderedBody (ok_or o (bad_request part.Body))
ordered_or None h = tt
ordered_or (Some d) h = h

ordered_body : (text : List ℕ) → IsOrderedBody (body_of text)
ordered_body text = ordered_or (data_of text) (parsed_data text)

well_with : (f : Data → Request) (r : Result Data Refusal) → ((d : Data) → IsParsed d → CanBeRead (f d)) → IsOrderedBody r → AsksWell (asks_with f r)
well_with f (Err e) each h = tt
well_with f (Ok d) each h = each d h

well_body : (f : Data → Request) (text : List ℕ) → ((d : Data) → IsParsed d → CanBeRead (f d)) → AsksWell (asks_with f (body_of text))
well_body f text each = well_with f (body_of text) each (ordered_body text)

well_deletes : (n : Key) (r : Result Options Refusal) → AsksWell (asks_with (delete_object n) r)
well_deletes n (Err e) = tt
well_deletes n (Ok o) = tt

well_read : (v : history.View) (r : Read) → AsksWell (Ok (read_as v r))
well_read v (collections.list o) = tt
well_read v (collections.watch o) = tt

pub well_asked : (method : Method) (r : Route) (q : Query) (text : List ℕ) → names_namespace r ≡ true → AsksWell (asked method r q text)
well_asked Get (collection k ns) q text h = well_read (selected k ns q.collection) q.collection.read
well_asked Get (object_at n) q text h = tt
well_asked Get (status_of n) q text h = tt
well_asked Post (collection k None) q text h = tt
well_asked Post (collection k (Some ns)) q text h = well_body (create_object k ns) text (λ d a. (h, a))
well_asked Post (object_at n) q text h = tt
well_asked Post (status_of n) q text h = tt
well_asked Put (collection k ns) q text h = tt
well_asked Put (object_at n) q text h = well_body (update_object n) text (λ d a. a)
well_asked Put (status_of n) q text h = well_body (update_status n) text (λ d a. a)
well_asked Patch (collection k ns) q text h = tt
well_asked Patch (object_at n) q text h = well_body (patch_object n) text (λ d a. a)
well_asked Patch (status_of n) q text h = tt
well_asked Delete (collection k ns) q text h = tt
well_asked Delete (object_at n) q text h = well_deletes n (delete_options q text)
well_asked Delete (status_of n) q text h = tt

well_query : (method : Method) (r : Route) (text : List ℕ) (o : Result Query Part) → names_namespace r ≡ true → AsksWell (asked_with method r text o)
well_query method r text (Err p) h = tt
well_query method r text (Ok q) h = well_or (is_too_long text) too_large (asked method r q text) (λ _. well_asked method r q text h)

not_false : (b : Bool) → not b ≡ false → b ≡ true
not_false true h = refl
not_false false h = cc

well_at : (method : Method) (target text : List ℕ) (o : Option Route) → AsksWell (asked_at method target text o)
well_at method target text None = tt
well_at method target text (Some r) =
    well_or (not (names_namespace r)) (bad_request part.Path) _
    (λ names. well_or (not (is_allowed method r)) method_not_allowed (asked_with method r text (query_for method r target))
    (λ _. well_query method r text (query_for method r target) (not_false (names_namespace r) names)))

well_request : (method : Method) (target text : List ℕ) → AsksWell (read_request method target text)
well_request method target text = well_at method (decoded target) text (route (path_of (decoded target)))

-- ---- the moments

abbrev pub IsTimed : Line → Type 0
IsTimed (ask method target body) = Unit {0}
IsTimed (at moment) = IsTimestamp moment
IsTimed (compact r) = Unit {0}
IsTimed unreadable = Unit {0}

-- a text of a form is as long as the form
as_long : (form t : List ℕ) → has_form form t ≡ true → length t ≡ length form
as_long [] [] h = refl
as_long [] (b ∷ bs) h = cc
as_long (f ∷ fs) [] h = cc
as_long (f ∷ fs) (b ∷ bs) h =
    let more : length bs ≡ length fs = as_long fs bs (both_true (cond (f == 48) (is_digit b) (b == f)) (has_form fs bs) h).1 in omega arith

first_true : (a b c d e : Bool) → (a && b && c && d && e) ≡ true → a ≡ true
first_true true b c d e h = refl
first_true false b c d e h = h

has_moment_form : (t : List ℕ) → is_moment t ≡ true → has_form (codes "0000-00-00T00:00:00Z") t ≡ true
has_moment_form t h =
    first_true (has_form (codes "0000-00-00T00:00:00Z") t) (is_day (moments.part 0 4 t) (moments.part 5 2 t) (moments.part 8 2 t)) (nat_le (moments.part 11 2 t) 23) (nat_le (moments.part 14 2 t) 59)
    (nat_le (moments.part 17 2 t) 59) h

byte_ascii : (v : Bool) (f b : ℕ) → f < 128 → cond v (is_digit b) (b == f) ≡ true → b < 128
byte_ascii true f b low h = grind (arith, nat_tests)
byte_ascii false f b low h = grind (arith, nat_tests)

form_ascii : (form t : List ℕ) → are_ascii form ≡ true → has_form form t ≡ true → are_ascii t ≡ true
form_ascii [] [] low h = refl
form_ascii [] (b ∷ bs) low h = cc
form_ascii (f ∷ fs) [] low h = cc
form_ascii (f ∷ fs) (b ∷ bs) low h =
    let here = both_true (cond (f == 48) (is_digit b) (b == f)) (has_form fs bs) h in
    let lows = both_true (nat_lt f 128) (are_ascii fs) low in
    let byte = byte_ascii (f == 48) f b (ltb-true f 128 lows.0) here.0 in
    rw (lt-ltb b 128 byte) (form_ascii fs bs lows.1 here.1)

timed_moment : (t : List ℕ) → is_moment t ≡ true → IsTimestamp t
timed_moment t h =
    let long : length t ≡ 20 = as_long (codes "0000-00-00T00:00:00Z") t (has_moment_form t h) in
    (omega arith, omega arith, IsUtf8-are_ascii t (form_ascii (codes "0000-00-00T00:00:00Z") t refl (has_moment_form t h)))

timed_either : (b : Bool) (x y : Line) → IsTimed x → IsTimed y → IsTimed (cond b x y)
timed_either true x y p q = p
timed_either false x y p q = q

timed_if : (method : Method) (target body : List ℕ) → IsTimed (ask_if method target body)
timed_if method target body = timed_either (length target == 0) unreadable (ask method target body) tt tt

timed_alone : (method : Method) (rest : List ℕ) (o : Option (List ℕ × List ℕ)) → IsTimed (target_alone method rest o)
timed_alone method rest None = timed_if method rest []
timed_alone method rest (Some p) = timed_if method p.0 p.1

timed_both : (method : Method) (o : Option (List ℕ × List ℕ)) → IsTimed (target_and_body method o)
timed_both method None = tt
timed_both method (Some p) = timed_if method p.0 p.1

timed_compact : (o : Option ℕ) → IsTimed (compact_at o)
timed_compact None = tt
timed_compact (Some r) = tt

timed_at : (a b : Bool) (t : List ℕ) (y : Line) → (b ≡ true → IsTimestamp t) → IsTimed y → IsTimed (cond (a && b) (at t) y)
timed_at true true t y h q = h refl
timed_at true false t y h q = q
timed_at false b t y h q = q

pub timed_from : (o : Option (List ℕ × List ℕ)) → IsTimed (line_from o)
timed_from None = tt
timed_from (Some p) =
    timed_either (bytes_eq p.0 (codes "GET")) (target_alone Get p.1 (cut p.1)) _ (timed_alone Get p.1 (cut p.1))
    (timed_either (bytes_eq p.0 (codes "DELETE")) (target_alone Delete p.1 (cut p.1)) _ (timed_alone Delete p.1 (cut p.1))
    (timed_either (bytes_eq p.0 (codes "POST")) (target_and_body Post (cut p.1)) _ (timed_both Post (cut p.1))
    (timed_either (bytes_eq p.0 (codes "PUT")) (target_and_body Put (cut p.1)) _ (timed_both Put (cut p.1))
    (timed_either (bytes_eq p.0 (codes "PATCH")) (target_and_body Patch (cut p.1)) _ (timed_both Patch (cut p.1))
    (timed_at (bytes_eq p.0 (codes "AT")) (is_moment p.1) p.1 _ (timed_moment p.1)
    (timed_either (bytes_eq p.0 (codes "COMPACT")) (compact_at (revision_of p.1)) unreadable (timed_compact (revision_of p.1)) tt))))))

-- ---- after any lines

-- a property of histories that a write leaves, where requests come of lines
module _ (P : History → Type 0) (each : (q : Request) (h : History) (moment : List ℕ) → CanBeRead q → IsTimestamp moment → P h → P (with_write h (write_of (accept q h moment)))) (still : (h : History) (r : ℕ) → r ≤ present h → P h → P (h ++ compaction r ∷ [])) where
  abbrev pub Holds : Session → Type 0
  Holds s = IsTimestamp s.moment × P s.history

  by_request : (s : Session) (r : Result Asked Refusal) → AsksWell r → Holds s → P (history_from s.history (reply_for s r))
  by_request s (Err f) well p = p.1
  by_request s (Ok (request q)) well p = each q s.history s.moment well p.0 p.1
  by_request s (Ok (list v o)) well p = subst P (sym (kept_asked s v o)) p.1
  by_request s (Ok (watch v o)) well p = subst P (sym (kept_watched s v o)) p.1

  pub by_line : (s : Session) (line : Line) → IsTimed line → Holds s → Holds (session_after s line)
  by_line s (ask method target body) timed p = (p.0, by_request s (read_request method target body) (well_request method target body) p)
  by_line s (at moment) timed p = (timed, p.1)
  by_line s (compact r) timed p = (p.0, by_compaction P still s.history r p.1)
  by_line s unreadable timed p = p

  by_text : (b : Bool) (s : Session) (t : List ℕ) → Holds s → Holds (cond b s (session_after s (line_of t)))
  by_text true s t p = p
  by_text false s t p = by_line s (line_of t) (timed_from (cut t)) p

  by_session : (s : Session) (lines : List (List ℕ)) → Holds s → Holds (after_lines s lines)
  by_session s [] p = p
  by_session s (t ∷ ts) p = by_session (next s t) ts (by_text (length t == 0) s t p)

  by_asked : (lines : List (List ℕ)) → P [] → P (history_of lines)
  by_asked lines p = (by_session (start default_window) lines ((omega arith, omega arith, IsUtf8-are_ascii (codes "2026-01-01T00:00:00Z") refl), p)).1

asks_of : (q : Request) (r : Result Asked Refusal) → r ≡ Ok (request q) → AsksWell r → CanBeRead q
asks_of q r is well = subst AsksWell is well

pub requests_asked : RequestsAreAsked
requests_asked method target body q is = asks_of q (read_request method target body) is (well_request method target body)

pub moments_timed : MomentsAreTimes
moments_timed t h = timed_moment t h

pub runs_reached : RunsAreReached
runs_reached lines = by_asked IsReached (λ q h moment a t r. asks h q moment r a t) (λ h r le before. compacts h r before le) lines opened
