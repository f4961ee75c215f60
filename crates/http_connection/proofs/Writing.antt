-- Bytes that are written, one part after the other.
use Rattle.std.proofs.Common.{◌≡◌, ◌+◌, ℕ, List, [], ◌++◌, length, nat_lt, take, drop, Bool, true, false, Option, inl, inr, refl, sym, ap, subst, ◌∙◌, arith, append_assoc, append-nil, length-append, true≢false}
use Rattle.std.proofs.KnownBytes.{Appends-nil, Appends-trans}
use Rattle.std.proofs.Math.Seq.{take-add}
use Rattle.std.proofs.lemmas.List.{take-append-drop, append_cancel_left}
use Rattle.std.specs.Io.KnownBytes.{Appends}
use Rattle.http_connection.specs.declared.phase.ConnectionPhase.{ConnectionPhase}
use Rattle.http_connection.specs.declared.phase.ConnectionPhase.TheVariants as phase
use Rattle.http_connection.specs.declared.watching.Watching.{Watching}
use Rattle.http_connection.specs.Sending.{IsAsFar, IsBegun, IsSent, IsWritten, Rests, WatchesOn}
use Rattle.http_connection.specs.Watches.{unwritten}

pub sends_none : (a : Option (List ℕ)) (bytes : List ℕ) (taken : ℕ) → IsSent a a bytes taken taken
sends_none a bytes taken = ([], Appends-nil a, append-nil (take taken bytes))

pub sends_on : (a b c : Option (List ℕ)) (bytes : List ℕ) (taken at n : ℕ) → IsSent a b bytes taken at → Appends b c (take n (drop at bytes)) → IsSent a c bytes taken (at + n)
sends_on a b c bytes taken at n (front, first, is) second =
    let back = take n (drop at bytes) in (
      front ++ back,
      Appends-trans a b c front back first second,
      sym (append_assoc (take taken bytes) front back) ∙ ap (λ x. x ++ back) is ∙ sym (take-add at n bytes),
    )

-- what was not written of bytes is what is left of them
pub left_of : (bytes put : List ℕ) (taken n : ℕ) → take taken bytes ++ put ≡ take n bytes → put ++ drop n bytes ≡ drop taken bytes
left_of bytes put taken n is =
    append_cancel_left (take taken bytes) (put ++ drop n bytes) (drop taken bytes)
    (sym (append_assoc (take taken bytes) put (drop n bytes)) ∙ ap (λ t. t ++ drop n bytes) is ∙ take-append-drop n bytes ∙ sym (take-append-drop taken bytes))

-- ---- watches

module _ (a b c : Option (List ℕ)) (w u : Watching) where
  pub written_more : (v : Watching) → IsWritten a b w u → IsWritten b c u v → IsWritten a c w v
  written_more v h k = record {
    put = h.put ++ k.put;
    appends = Appends-trans a b c h.put k.put h.appends k.appends;
    rest = append_assoc h.put k.put (unwritten v) ∙ ap (λ t. h.put ++ t) k.rest ∙ h.rest;
    same = (k.same.0 ∙ h.same.0, k.same.1 ∙ h.same.1, k.same.2 ∙ h.same.2);
    at = k.at ∙ h.at;
    bounded = λ x. k.bounded (h.bounded x);
    made = λ x. k.made (h.made x);
  }

  pub begun_more : IsWritten a b w u → IsBegun b c u → IsBegun a c w
  begun_more h (put, left, appends, is) =
      (h.put ++ put, left, Appends-trans a b c h.put put h.appends appends, append_assoc h.put put left ∙ ap (λ t. h.put ++ t) is ∙ h.rest)

module _ (a b : Option (List ℕ)) (w u : Watching) (h : IsWritten a b w u) where
  pub written_as_far : (v : Watching) → IsAsFar u v → IsWritten a b w v
  written_as_far v (same, at, is, bounded, made) = record {
    put = h.put;
    appends = h.appends;
    rest = ap (λ t. h.put ++ t) is ∙ h.rest;
    same = (same.0 ∙ h.same.0, same.1 ∙ h.same.1, same.2 ∙ h.same.2);
    at = at ∙ h.at;
    bounded = λ x. bounded (h.bounded x);
    made = λ x. made (h.made x);
  }

  pub begun_so_far : IsBegun a b w
  begun_so_far = (h.put, unwritten u, h.appends, h.rest)

  pub watches_rest : (no_room : Bool) (p : ConnectionPhase) → Rests u p → WatchesOn no_room a b w p
  watches_rest no_room (phase.Watching v) as_far = written_as_far v as_far
  watches_rest no_room (phase.Closing s) (is, over, none) =
      (is, inr (inl (sym h.at ∙ over, subst (Appends a b) (sym (append-nil h.put) ∙ ap (λ t. h.put ++ t) (sym none) ∙ h.rest) h.appends)))
  watches_rest no_room (phase.Reading x) never = never
  watches_rest no_room (phase.Asked x) never = never
  watches_rest no_room phase.Answering never = never
  watches_rest no_room (phase.Replying x) never = never
  watches_rest no_room (phase.Listing x) never = never

  -- something it opened with is still to be made, as it was when it was begun
  pub still_made : nat_lt 0 (length u.rest) ≡ true → nat_lt 0 (length w.rest) ≡ true
  still_made now = by (nat_lt 0 (length w.rest)) refl
    where
      by : (m : Bool) → nat_lt 0 (length w.rest) ≡ m → m ≡ true
      by true is = refl
      by false is = absurd (true≢false (sym now ∙ h.made is))

pub written_none : (a : Option (List ℕ)) (w : Watching) → IsWritten a a w w
written_none a w = record { put = []; appends = Appends-nil a; rest = refl; same = (refl, refl, refl); at = refl; bounded = λ x. x; made = λ x. x }

-- ---- what is made

-- bytes that are written as far as this
pub written_to : (a b : Option (List ℕ)) (w u : Watching) (n : ℕ) → IsSent a b w.out.items w.taken n → u ≡ record { view = w.view; bookmarks = w.bookmarks; at = w.at; at_once = w.at_once; out = w.out; taken = n; rest = w.rest; pieces = w.pieces; later = w.later; is_paused = false }
    → IsWritten a b w u
written_to a b w u n (put, appends, is) same = subst (IsWritten a b w) (sym same) (record {
  put = put;
  appends = appends;
  rest = sym (append_assoc put (drop n w.out.items) (w.rest ++ w.later.items)) ∙ ap (λ t. t ++ (w.rest ++ w.later.items)) (left_of w.out.items put w.taken n is);
  same = (refl, refl, refl);
  at = refl;
  bounded = λ x. omega (arith, x, ap length (left_of w.out.items put w.taken n is), length-append put (drop n w.out.items), length-append (drop n w.out.items) w.later.items, length-append (drop w.taken w.out.items) w.later.items);
  made = λ x. x;
})

-- and that may not have been written: a beginning
pub begun_to : (a b : Option (List ℕ)) (w : Watching) (n : ℕ) → IsSent a b w.out.items w.taken n → IsBegun a b w
begun_to a b w n (put, appends, is) =
    let tail = w.rest ++ w.later.items in
    (put, drop n w.out.items ++ tail, appends, sym (append_assoc put (drop n w.out.items) tail) ∙ ap (λ t. t ++ tail) (left_of w.out.items put w.taken n is))
