-- What a watch is given, by the events of a cache.
use Rattle.std.proofs.Common.{◌≡◌, ◌<◌, ◌≤◌, ◌⊎◌, inl, inr, ℕ, suc, List, [], ◌∷◌, length, map, take, nat_le, nat_lt, Bool, true, false, cond, Option, None, Some, Result, Ok, Err, sym, ap, ◌∙◌, arith}
use Rattle.std.specs.Prelude.{if◌then◌else◌}
use Rattle.std.specs.Result.{result_map_both}
use Rattle.std.proofs.lemmas.Bool.Decides.{nat_tests}
use Rattle.std.proofs.lemmas.List.{take_all, length-append}
use Rattle.serde_json.specs.Data.{Data}
use Rattle.spec_api.specs.Events.{Event as Change, event_of}
use Rattle.spec_api.specs.History.{View, seen}
use Rattle.spec_api.specs.Keys.{Key}
use Rattle.spec_api.specs.Refusals.{Refusal}
use Rattle.spec_api.specs.Versions.{watched, last_change}
use Rattle.spec_api.specs.Windows.{Change as Kept, within}
use Rattle.spec_server.specs.Recorded.{Window, above, event_recorded, events_recorded, recorded_since}
use Rattle.revisions.specs.Events.{event_seen}
use Rattle.watch_cache.specs.Served.{Serves}
use Rattle.revisions.specs.Watches.{watched_of}
use Rattle.revisions.specs.declared.watched.WatchedEvents.{WatchedEvents}

-- the first n of more than n changes
pub given_part : {Y : Type 0} (seen : Y → List Change) (all : Result (List Change) Refusal) (y : Y) (now a n : ℕ) (w : WatchedEvents) → Serves seen all (Ok y) → n < length (seen y)
    → map event_seen w.events.items ≡ take n (seen y) → w.stands ≡ last_change a (take n (seen y)) → Serves watched_of (result_map_both (watched now a n) (λ f. f) all) (Ok w)
given_part seen (Err f) y now a n w is more changes stands = absurd is
given_part seen (Ok cs) y now a n w is more changes stands =
    let over : nat_le (length (seen y)) n ≡ false = grind (arith, nat_tests) in
    let at : (if nat_le (length (seen y)) n then now else last_change a (take n (seen y))) ≡ w.stands = ap (λ b. cond b now (last_change a (take n (seen y)))) over ∙ sym stands in
    ap (watched now a n) is ∙ (λ i. record { events = sym changes i; stands = at i })

-- ---- no window has more changes than it keeps

one-change : (r : ℕ) (k : Key) (old new : Option Data) → length (event_of r k old new) ≤ 1
one-change r k None None = omega arith
one-change r k None (Some new) = omega arith
one-change r k (Some old) None = omega arith
one-change r k (Some old) (Some new) = omega arith

few-changes : (v : View) (ks : List Kept) → length (events_recorded v ks) ≤ length ks
few-changes v [] = omega arith
few-changes v (k ∷ ks) =
    let one = one-change k.revision k.key (seen v k.key k.old) (seen v k.key k.new) in
    omega (arith, length-append (event_recorded v k) (events_recorded v ks), one, few-changes v ks)

few-above : (a : ℕ) (ks : List Kept) → length (above a ks) ≤ length ks
few-above a [] = omega arith
few-above a (k ∷ ks) = by (nat_lt a k.revision) (few-above a ks)
  where
    by : (b : Bool) → length (above a ks) ≤ length ks → length (cond b (k ∷ above a ks) (above a ks)) ≤ suc (length ks)
    by true h = omega (arith, h)
    by false h = omega (arith, h)

-- two numbers that are the same, or no fewer than the changes of the window, ask for the same changes
pub since-all : (w : Window) (now : ℕ) (v : View) (a m n : ℕ) → (m ≡ n) ⊎ ((length w.kept ≤ m) × (length w.kept ≤ n)) → recorded_since w now v a m ≡ recorded_since w now v a n
since-all w now v a m n (inl same) = ap (recorded_since w now v a) same
since-all w now v a m n (inr most) =
    let cs = events_recorded v (above a w.kept) in
    let few : length cs ≤ length w.kept = omega (arith, few-changes v (above a w.kept), few-above a w.kept) in
    let all : take m cs ≡ take n cs = take_all m cs (omega (arith, few, most.0)) ∙ sym (take_all n cs (omega (arith, few, most.1))) in
    ap (within w.floor now a) all
