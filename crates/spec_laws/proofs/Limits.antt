-- Bodies, objects and revisions stay within their limits.
use Rattle.std.proofs.Common.{◌≡◌, ℕ, suc, ◌+◌, ◌-◌, ◌≤◌, ◌||◌, ◌&&◌, not, is_some, Option, IfSome, Result, List, [], ◌∷◌, ◌++◌, length, Bool, true, false, cond, Some, None, Ok, Err, nat_le, nat_lt, Ordering, Less, Equal, Greater, arith, subst, refl, sym, ap, ◌∙◌}
use Rattle.std.specs.Cmp.{IsTotalOrder}
use Rattle.std.specs.Ordering.{match_ordering}
use Rattle.std.specs.Map.{lookup, remove_entry}
use Rattle.std.specs.BTreeMap.{insert_entry, is_at}
use Rattle.serde_json.specs.Data.{Data}
use Rattle.spec_laws.specs.HistoryLaws.{BodiesFit, WritesHaveRoom}
use Rattle.spec_api.proofs.Truths.{both_false}
use Rattle.spec_api.specs.Keys.{Key, key_cmp}
use Rattle.spec_api.specs.History.{History, Write, write, writes, up_to, Entries, after, after_all, put_or_remove, entries_at, found, present}
use Rattle.spec_api.specs.declared.methods.Method.{Method}
use Rattle.spec_api.specs.declared.refusals.Part.{Part}
use Rattle.spec_api.specs.declared.refusals.Part.TheVariants as part
use Rattle.spec_api.specs.Refusals.{Refusal, bad_request, method_not_allowed, too_large}
use Rattle.spec_api.specs.Targets.{Query, Asked, Route, asked, asked_at, asked_with, decoded, is_allowed, is_too_long, names_namespace, path_of, query_for, route}
use Rattle.spec_api.specs.Verbs.{new_name, write_of, overflows, most_objects, is_past_greatest}
use Rattle.spec_laws.proofs.Cases.{of_accept_at}
use Rattle.spec_laws.proofs.Past.{writes-append, whole}
use Rattle.spec_api.proofs.PutLaws.{IsAscending, IsAbove-below, none_above, name_cmp_total, IsAscending-after_all}
use Rattle.spec_laws.proofs.SetMetadata.{at_most}
use Rattle.spec_laws.proofs.VerbLaws.{present-write}

-- what is asked where the test for a refusal fails
unless : (b : Bool) (f : Refusal) (r : Result Asked Refusal) (q : Asked) → cond b (Err f) r ≡ Ok q → (b ≡ false) × (r ≡ Ok q)
unless true f r q is = cc
unless false f r q is = (refl, is)

body_with : (method : Method) (r : Route) (text : List ℕ) (o : Result Query Part) (q : Asked) → asked_with method r text o ≡ Ok q → length text ≤ 1048576
body_with method r text (Err p) q is = cc
body_with method r text (Ok query) q is = at_most 1048576 (length text) (unless (is_too_long text) too_large (asked method r query text) q is).0

body_at : (method : Method) (target text : List ℕ) (o : Option Route) (q : Asked) → asked_at method target text o ≡ Ok q → length text ≤ 1048576
body_at method target text None q is = cc
body_at method target text (Some r) q is =
    let named = unless (not (names_namespace r)) (bad_request part.Path) _ q is in
    let allowed = unless (not (is_allowed method r)) method_not_allowed _ q named.1 in
    body_with method r text (query_for method r target) q allowed.1

pub bodies : BodiesFit
bodies method target text q is = body_at method (decoded target) text (route (path_of (decoded target))) q is

module _ {K X : Type 0} {R : K → K → Ordering} (o : IsTotalOrder R) (k : K) (v : X) where
  one_more_at : (e : K × X) (es : List (K × X)) (r : Ordering) → length (insert_entry R es k v) ≤ length es + 1
      → length (match_ordering r ((k, v) ∷ e ∷ es) ((e.0, v) ∷ es) (e ∷ insert_entry R es k v)) ≤ suc (length es) + 1
  one_more_at e es Less h = omega arith
  one_more_at e es Equal h = omega arith
  one_more_at e es Greater h = omega (arith, h)

  one_more : (es : List (K × X)) → length (insert_entry R es k v) ≤ length es + 1
  one_more [] = omega arith
  one_more (e ∷ es) = one_more_at e es (R k e.0) (one_more es)

  as_many_at : (e : K × X) (es : List (K × X)) (d : X) (r : Ordering) → R k e.0 ≡ r → IsAscending R (e ∷ es) → lookup (is_at (R k)) (e ∷ es) ≡ Some d
      → (lookup (is_at (R k)) es ≡ Some d → length (insert_entry R es k v) ≡ length es)
      → length (match_ordering r ((k, v) ∷ e ∷ es) ((e.0, v) ∷ es) (e ∷ insert_entry R es k v)) ≡ suc (length es)
  as_many_at e es d Less at a is later =
      let gone : lookup (is_at (R k)) es ≡ None = none_above o k es (IsAbove-below o k e.0 es at a.0) in
      let left : lookup (is_at (R k)) (e ∷ es) ≡ None = rw at gone in
      let never : None ≡ Some d = sym left ∙ is in cc
  as_many_at e es d Equal at a is later = refl
  as_many_at e es d Greater at a is later =
      let left : lookup (is_at (R k)) (e ∷ es) ≡ lookup (is_at (R k)) es = rw at refl in
      ap suc (later (sym left ∙ is))

  as_many : (es : List (K × X)) (d : X) → IsAscending R es → lookup (is_at (R k)) es ≡ Some d → length (insert_entry R es k v) ≡ length es
  as_many [] d a is = cc
  as_many (e ∷ es) d a is = as_many_at e es d (R k e.0) refl a is (as_many es d a.1)

after_all-append : (ms : Entries) (ws : List Write) (w : Write) → after_all ms (ws ++ w ∷ []) ≡ after (after_all ms ws) w
after_all-append ms [] w = refl
after_all-append ms (v ∷ ws) w = after_all-append (after ms v) ws w

now : History → Entries
now h = entries_at h (present h)

now-is : (h : History) → now h ≡ after_all [] (writes h)
unfolding now
now-is h = ap (after_all []) (whole (present h - 1) (writes h) (omega arith))

now-write : (h : History) (w : Write) → now (h ++ write w ∷ []) ≡ after (now h) w
now-write h w =
    now-is (h ++ write w ∷ []) ∙ ap (after_all []) (writes-append h (write w ∷ [])) ∙ after_all-append [] (writes h) w ∙ ap (λ ms. after ms w) (sym (now-is h))

-- what is there after one more write
pub members-write : (h : History) (w : Write) → entries_at (h ++ write w ∷ []) (present (h ++ write w ∷ [])) ≡ after (entries_at h (present h)) w
unfolding now
members-write h w = now-write h w

abbrev pub Within : History → Type 0
Within h = (length (entries_at h (present h)) ≤ 262144) × (present h ≤ 9007199254740991)

no_more_at : (k : Key) (e : Key × Data) (es : Entries) (b : Bool) → length (remove_entry (is_at (key_cmp k)) es) ≤ length es → length (cond b es (e ∷ remove_entry (is_at (key_cmp k)) es)) ≤ suc (length es)
no_more_at k e es true h = omega arith
no_more_at k e es false h = omega (arith, h)

no_more : (k : Key) (es : Entries) → length (remove_entry (is_at (key_cmp k)) es) ≤ length es
no_more k [] = omega arith
no_more k (e ∷ es) = no_more_at k e es (is_at (key_cmp k) e.0) (no_more k es)

room_left : (n : ℕ) → (nat_le 262144 n && true) ≡ false → n + 1 ≤ 262144
room_left n h = room_at (nat_le 262144 n) refl h
  where
    room_at : (b : Bool) → nat_le 262144 n ≡ b → (b && true) ≡ false → n + 1 ≤ 262144
    room_at true is h = cc
    room_at false is h = grind arith

few_at : (k : Key) (d : Data) (ms : Entries) (o : Option Data) → found k ms ≡ o → IsAscending key_cmp ms → length ms ≤ 262144
    → (nat_le 262144 (length ms) && true && not (is_some o)) ≡ false → length (insert_entry key_cmp ms k d) ≤ 262144
few_at k d ms None is a few room =
    let left : length ms + 1 ≤ 262144 = room_left (length ms) (sym (and_true (nat_le 262144 (length ms) && true)) ∙ room) in
    let more : length (insert_entry key_cmp ms k d) ≤ length ms + 1 = one_more name_cmp_total k d ms in
    omega (arith, left, more)
  where
    and_true : (b : Bool) → (b && true) ≡ b
    and_true true = refl
    and_true false = refl
few_at k d ms (Some existing) is a few room = subst (λ n. n ≤ 262144) (sym (as_many name_cmp_total k d ms existing a is)) few

few_after : (k : Key) (o : Option Data) (ms : Entries) → IsAscending key_cmp ms → length ms ≤ 262144
    → (nat_le 262144 (length ms) && is_some o && not (is_some (found k ms))) ≡ false → length (put_or_remove ms k o) ≤ 262144
few_after k None ms a few room = let less = no_more k ms in omega (arith, less, few)
few_after k (Some d) ms a few room = few_at k d ms (found k ms) refl a few room

pub at_most_next : (n : ℕ) → nat_lt 9007199254740991 n ≡ false → n ≤ 9007199254740991
at_most_next n h = at_most 9007199254740991 n h

-- a write that does not overflow leaves what is within the limits within them
pub within-write : (h : History) (w : Write) → overflows (entries_at h (present h)) (present h) w ≡ false → Within h → Within (h ++ write w ∷ [])
within-write h w room within =
    let parts = both_false (nat_le 262144 (length (entries_at h (present h))) && is_some w.put && not (is_some (found w.key (entries_at h (present h))))) (is_past_greatest (present h + 1)) room in (
      subst (λ ms. length ms ≤ 262144) (sym (members-write h w)) (few_after w.key w.put (entries_at h (present h)) (IsAscending-after_all [] (up_to (present h) h) tt) within.0 parts.0),
      subst (λ r. r ≤ 9007199254740991) (sym (present-write h w)) (at_most_next (present h + 1) parts.1),
    )

held_room : (a b : Bool) (o : Option Data) (d : Data) → o ≡ Some d → b ≡ false → ((a && not (is_some o)) || b) ≡ false
held_room a b None d is low = cc
held_room true b (Some e) d is low = low
held_room false b (Some e) d is low = low

room_of : (a b c : Bool) → (a || b) ≡ false → ((a && true && not c) || b) ≡ false
room_of true b c h = cc
room_of false b c h = h

gone_room : (a b c : Bool) → b ≡ false → ((a && false && c) || b) ≡ false
gone_room true b c h = h
gone_room false b c h = h

pub room : WritesHaveRoom
room q ms r moment =
    let full = nat_le most_objects (length ms) in
    let last = is_past_greatest (r + 1) in
    of_accept_at (λ o. IfSome (write_of o) (λ w. overflows ms r w ≡ false)) (λ f. tt) (λ code body. tt) q ms r moment
    (λ kind ns d o read valid fits free left. room_of full last (is_some (found (new_name kind ns o ms r) ms)) left) (λ k o existing at valid fits low. held_room (full && true) last (found k ms) existing at low)
    (λ k o existing at free low. gone_room full last (not (is_some (found k ms))) low) (λ k o existing at fits low. held_room (full && true) last (found k ms) existing at low)
    (λ k o existing at low. held_room (full && true) last (found k ms) existing at low) (λ k o existing at none low. gone_room full last (not (is_some (found k ms))) low)
