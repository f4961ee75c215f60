-- Writes gone through one after another, from the state before them.
use Rattle.std.proofs.Common.{◌≡◌, ◌≤◌, ◌<◌, ◌+◌, ℕ, List, [], ◌∷◌, ◌++◌, length, take, drop, get_or, None, arith, refl, sym, ap, ◌∙◌, append_assoc, length-append, ◌⊎◌, inl, inr}
use Rattle.std.proofs.lemmas.List.{take-take, take_min, drop_all, length-take, length-take-le, take_more, drop_more}
use Rattle.std.proofs.lemmas.Bool.{cases_lt}
use Rattle.serde_json.specs.Data.{Data}
use Rattle.std.specs.Prelude.{Option}
use Rattle.spec_api.specs.History.{Write, View, Entries, found, seen, last_of, after, after_all}
use Rattle.spec_api.specs.Events.{Event, event_of, event_of_write, events_after}
use Rattle.spec_api.proofs.PutLaws.{found-after_all}

-- cutting at the length of a beginning is cutting where it ends
pub short_take : {X : Type 0} (xs : List X) (n m : ℕ) → n ≡ length (take m xs) → take n xs ≡ take m xs
short_take xs n m is = ap (λ k. take k xs) (is ∙ length-take m xs) ∙ take_min m xs

drop_at : {X : Type 0} (xs : List X) (n m : ℕ) → n ≡ length (take m xs) → (length xs < m) ⊎ (m ≤ length xs) → drop n xs ≡ drop m xs
drop_at xs n m is (inl h) = let long = length-take m xs in drop_all n xs (omega (arith, is, long, h)) ∙ sym (drop_all m xs (omega (arith, h)))
drop_at xs n m is (inr h) = ap (λ k. drop k xs) (is ∙ length-take-le m xs h)

pub short_drop : {X : Type 0} (xs : List X) (n m : ℕ) → n ≡ length (take m xs) → drop n xs ≡ drop m xs
short_drop xs n m is = drop_at xs n m is (cases_lt (length xs) m)

-- whatever stands before no writes, they have no events
changes_from : (v : View) (ws before before' : List Write) → (ws ≡ []) ⊎ (before ≡ before') → events_after v before ws ≡ events_after v before' ws
changes_from v ws before before' (inl h) = ap (events_after v before) h ∙ sym (ap (events_after v before') h)
changes_from v ws before before' (inr h) = ap (λ b. events_after v b ws) h

none_or_same : (ws : List Write) (m n : ℕ) → (n < m) ⊎ (m ≤ n) → (drop m (take n ws) ≡ []) ⊎ (take m (take n ws) ≡ take m ws)
none_or_same ws m n (inl h) = let short = length-take n ws in inl (drop_all m (take n ws) (omega (arith, short, h)))
none_or_same ws m n (inr h) = inr (take-take m n ws h)

-- the events of the m-th to the n-th write, from what stands before them among the first n
pub changes_of_part : (v : View) (ws : List Write) (m n : ℕ) → events_after v (take m (take n ws)) (drop m (take n ws)) ≡ events_after v (take m ws) (drop m (take n ws))
changes_of_part v ws m n = changes_from v (drop m (take n ws)) (take m (take n ws)) (take m ws) (none_or_same ws m n (cases_lt n m))

-- what the write at place i gives after the events of those before it
module _ (v : View) (before ws : List Write) (i : ℕ) (w : Write) (within : i < length ws) (is : w ≡ get_or ws i w) where
  left : drop i ws ≡ w ∷ drop (i + 1) ws
  left = drop_more ws i w within ∙ ap (λ u. u ∷ drop (i + 1) ws) (sym is)

  pub gone_through : before ++ take (i + 1) ws ≡ (before ++ take i ws) ++ w ∷ []
  gone_through = ap (λ us. before ++ us) (take_more ws i w within ∙ ap (λ u. take i ws ++ u ∷ []) (sym is)) ∙ sym (append_assoc before (take i ws) (w ∷ []))

  after_all-push : (ms : Entries) (us : List Write) → after_all ms (us ++ w ∷ []) ≡ after (after_all ms us) w
  after_all-push ms [] = refl
  after_all-push ms (u ∷ us) = after_all-push (after ms u) us

  pub state_after : (ms new : Entries) → ms ≡ after_all [] (before ++ take i ws) → new ≡ after ms w → new ≡ after_all [] (before ++ take (i + 1) ws)
  state_after ms new h k = k ∙ ap (λ z. after z w) h ∙ sym (after_all-push [] (before ++ take i ws)) ∙ ap (after_all []) (sym gone_through)

  pub told : (so_far new : List Event) (r : ℕ) (ms : Entries) (old now : Option Data) → r ≡ length before + i + 2 → ms ≡ after_all [] (before ++ take i ws)
      → old ≡ seen v w.key (found w.key ms) → now ≡ seen v w.key w.put → new ≡ so_far ++ event_of r w.key old now
      → so_far ++ events_after v (before ++ take i ws) (drop i ws) ≡ new ++ events_after v (before ++ take (i + 1) ws) (drop (i + 1) ws)
  told so_far new r ms old now r_is state was is_now new_is =
      let b = before ++ take i ws in
      let short : length (take i ws) ≡ i = length-take-le i ws (omega arith) in
      let place : r ≡ length b + 2 = omega (arith, r_is, short, length-append before (take i ws)) in
      let found_is : old ≡ seen v w.key (last_of None w.key b) = was ∙ ap (λ z. seen v w.key (found w.key z)) state ∙ ap (seen v w.key) (found-after_all w.key [] b tt) in
      let change_is : event_of r w.key old now ≡ event_of_write v b w =
      ap (λ n. event_of n w.key old now) place ∙ ap (λ o. event_of (length b + 2) w.key o now) found_is ∙ ap (event_of (length b + 2) w.key (seen v w.key (last_of None w.key b))) is_now in
      ap (λ us. so_far ++ events_after v b us) left
      ∙ sym (append_assoc so_far (event_of_write v b w) (events_after v (b ++ w ∷ []) (drop (i + 1) ws)))
      ∙ ap (λ cs. (so_far ++ cs) ++ events_after v (b ++ w ∷ []) (drop (i + 1) ws)) (sym change_is)
      ∙ ap (λ cs. cs ++ events_after v (b ++ w ∷ []) (drop (i + 1) ws)) (sym new_is)
      ∙ ap (λ us. new ++ events_after v us (drop (i + 1) ws)) (sym gone_through)
