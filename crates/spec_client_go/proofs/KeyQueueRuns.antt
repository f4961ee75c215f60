-- What each call on a queue keeps: the queue has no repeats, and each key stands in one of four ways.
use Rattle.std.proofs.Common.{◌≡◌, refl, sym, ap, ◌∙◌, List, [], ◌∷◌, ◌++◌, Bool, true, false, not, ◌&&◌, ◌||◌, if◌then◌else◌, Some, Ordering}
use mathlib.Core.Bool.{true≢false}
use Rattle.std.specs.Cmp.{Equal-is, eq_by_cmp_equiv, IsEquivalence, IsTotalOrder}
use Rattle.std.specs.List.{list_any, IsDistinct, AllByRecursion}
use Rattle.std.specs.Ordering.{eq_by_cmp}
use Rattle.std.specs.FinSet as set
use Rattle.std.specs.FinSet.{contains_tied, contains-insert, contains-remove, contains-empty}
use Rattle.std.proofs.lemmas.Map.Keys.{IsDistinct-push, IsDistinct-head, IsDistinct-tail}
use Rattle.spec_client_go.specs.KeyQueues.{KeyQueue, idle, added, got_from, done, front, Call, add, get, finish, shut_down, after, after_all, made, is_key, hands_out, was_handed}

-- a queued key wants a look and is in no hands; another that wants one is in a worker's hands
abbrev pub fits : Bool → Bool → Bool → Bool
fits true dirty processing = dirty && not processing
fits false dirty processing = not dirty || processing

-- the four ways, call by call
add_held : (e a d p : Bool) → (e ≡ true → d ≡ false) → (e ≡ true → p ≡ true) → fits a d p ≡ true → fits a (e || d) p ≡ true
add_held false a d p hd hp h = h
add_held true false d true hd hp h = refl
add_held true true d true hd hp h = absurd (true≢false (sym h ∙ ap (λ b. b && false) (hd refl)))
add_held true a d false hd hp h = absurd (true≢false (sym (hp refl)))

add_waiting : (e a d p : Bool) → (e ≡ true → p ≡ false) → fits a d p ≡ true → fits (e || a) (e || d) p ≡ true
add_waiting false a d p hp h = h
add_waiting true a d p hp h = ap not (hp refl)

take_next : (e b d p : Bool) → (e ≡ true → b ≡ false) → fits (e || b) d p ≡ true → fits b (not e && d) (e || p) ≡ true
take_next false b d p hb h = h
take_next true false d p hb h = refl
take_next true true d p hb h = absurd (true≢false (hb refl))

done_again : (e a d p : Bool) → (e ≡ true → d ≡ true) → fits a d p ≡ true → fits (e || a) d (not e && p) ≡ true
done_again false a d p hd h = h
done_again true a d p hd h = ap (λ b. b && true) (hd refl)

done_clean : (e a d p : Bool) → (e ≡ true → d ≡ false) → fits a d p ≡ true → fits a d (not e && p) ≡ true
done_clean false a d p hd h = h
done_clean true false d p hd h = ap (λ b. not b || false) (hd refl)
done_clean true true d p hd h = absurd (true≢false (sym h ∙ ap (λ b. b && not p) (hd refl)))

new_is_absent : (a d p : Bool) → d ≡ false → fits a d p ≡ true → a ≡ false
new_is_absent false d p hd h = refl
new_is_absent true d p hd h = absurd (true≢false (sym h ∙ ap (λ b. b && not p) hd))

held_is_absent : (a d p : Bool) → p ≡ true → fits a d p ≡ true → a ≡ false
held_is_absent false d p hp h = refl
held_is_absent true true p hp h = absurd (true≢false (sym h ∙ ap not hp))
held_is_absent true false p hp h = absurd (true≢false (sym h))

-- what the four ways say
pub queued_is_free : (a d p : Bool) → fits a d p ≡ true → a ≡ true → p ≡ false
queued_is_free true true true h e = sym h
queued_is_free true true false h e = refl
queued_is_free true false p h e = absurd (true≢false (sym h))
queued_is_free false d p h e = absurd (true≢false (sym e))

pub queued_is_wanted : (a d p : Bool) → fits a d p ≡ true → a ≡ true → d ≡ true
queued_is_wanted true true p h e = refl
queued_is_wanted true false p h e = h
queued_is_wanted false d p h e = absurd (true≢false (sym e))

pub wanted_is_somewhere : (a d p : Bool) → fits a d p ≡ true → d ≡ true → (a || p) ≡ true
wanted_is_somewhere true d p h e = refl
wanted_is_somewhere false true p h e = h
wanted_is_somewhere false false p h e = absurd (true≢false (sym e))

module _ {N : Type 0} (R : N → N → Ordering) (total : IsTotalOrder R) where
  abbrev pub same : N → N → Bool
  same = eq_by_cmp R

  abbrev pub Standing : List N → set.FinSet R → set.FinSet R → Type 0
  Standing queue dirty processing = (k : N) → fits (list_any (same k) queue) (set.contains dirty k) (set.contains processing k) ≡ true

  abbrev pub IsSound : KeyQueue R → Type 0
  IsSound w = IsDistinct same w.queue × Standing w.queue w.dirty w.processing

  same_laws : IsEquivalence same
  same_laws = eq_by_cmp_equiv total

  any_pushed : (p : N → Bool) (ks : List N) (k : N) → list_any p (ks ++ k ∷ []) ≡ (p k || list_any p ks)
  any_pushed p [] k = refl
  any_pushed p (x ∷ ks) k = ap (λ b. p x || b) (any_pushed p ks k) ∙ swapped (p x) (p k) _
    where
      swapped : (a b c : Bool) → (a || (b || c)) ≡ (b || (a || c))
      swapped true true c = refl
      swapped true false c = refl
      swapped false b c = refl

  absent : (k : N) (ks : List N) → AllByRecursion (λ y. same k y ≡ false) ks → list_any (same k) ks ≡ false
  absent k [] h = refl
  absent k (x ∷ ks) h = ap (λ b. b || list_any (same k) ks) h.0 ∙ absent k ks h.1

  any_alike : (q k : N) → same q k ≡ true → (ks : List N) → list_any (same q) ks ≡ list_any (same k) ks
  any_alike q k t [] = refl
  any_alike q k t (x ∷ ks) = λ i. same_laws.congr q k x t i || any_alike q k t ks i

  set_alike : (q k : N) → same q k ≡ true → (s : set.FinSet R) → set.contains s q ≡ set.contains s k
  set_alike q k t s = sym (contains_tied total s q k ((Equal-is (R q k)).0 t))

  added-sound : (k : N) (w : KeyQueue R) → IsSound w → IsSound (added k w)
  added-sound k w h = by (w.is_shut || set.contains w.dirty k) refl
    where
      clean : (a b : Bool) → (a || b) ≡ false → b ≡ false
      clean true b e = absurd (true≢false e)
      clean false b e = e

      placed : (p : Bool) → set.contains w.processing k ≡ p → set.contains w.dirty k ≡ false → IsSound (record w { queue = if p then w.queue else w.queue ++ k ∷ []; dirty = set.insert w.dirty k })
      placed true hp hd = (
        h.0,
        λ q. ap (λ d. fits (list_any (same q) w.queue) d (set.contains w.processing q)) (contains-insert total w.dirty k q)
            ∙ add_held (same q k) _ _ _ (λ t. set_alike q k t w.dirty ∙ hd) (λ t. set_alike q k t w.processing ∙ hp) (h.1 q),
      )
      placed false hp hd = (
        IsDistinct-push same_laws w.queue k h.0 (new_is_absent _ _ _ hd (h.1 k)),
        λ q. (λ i. fits (any_pushed (same q) w.queue k i) (contains-insert total w.dirty k q i) (set.contains w.processing q))
            ∙ add_waiting (same q k) _ _ _ (λ t. set_alike q k t w.processing ∙ hp) (h.1 q),
      )

      by : (b : Bool) → (w.is_shut || set.contains w.dirty k) ≡ b → IsSound (if b then w else record w { queue = if set.contains w.processing k then w.queue else w.queue ++ k ∷ []; dirty = set.insert w.dirty k })
      by true e = h
      by false e = placed (set.contains w.processing k) refl (clean w.is_shut (set.contains w.dirty k) e)

  got-sound : (queue : List N) (w : KeyQueue R) → IsDistinct same queue → Standing queue w.dirty w.processing → w.queue ≡ queue → IsSound w → IsSound (got_from queue w)
  got-sound [] w once stand e h = h
  got-sound (k ∷ ks) w once stand e h = (
    IsDistinct-tail same k ks once,
    λ q. (λ i. fits (list_any (same q) ks) (contains-remove total w.dirty k q i) (contains-insert total w.processing k q i))
        ∙ take_next (same q k) _ _ _ (λ t. any_alike q k t ks ∙ absent k ks (IsDistinct-head same k ks once)) (stand q),
  )

  done-sound : (k : N) (w : KeyQueue R) → IsSound w → IsSound (done k w)
  done-sound k w h = by (set.contains w.processing k) refl
    where
      placed : (d : Bool) → set.contains w.dirty k ≡ d → set.contains w.processing k ≡ true → IsSound (record w { queue = if d then w.queue ++ k ∷ [] else w.queue; processing = set.remove w.processing k })
      placed true hd hp = (
        IsDistinct-push same_laws w.queue k h.0 (held_is_absent _ _ _ hp (h.1 k)),
        λ q. (λ i. fits (any_pushed (same q) w.queue k i) (set.contains w.dirty q) (contains-remove total w.processing k q i))
            ∙ done_again (same q k) _ _ _ (λ t. set_alike q k t w.dirty ∙ hd) (h.1 q),
      )
      placed false hd hp = (
        h.0,
        λ q. ap (fits (list_any (same q) w.queue) (set.contains w.dirty q)) (contains-remove total w.processing k q)
            ∙ done_clean (same q k) _ _ _ (λ t. set_alike q k t w.dirty ∙ hd) (h.1 q),
      )

      by : (b : Bool) → set.contains w.processing k ≡ b → IsSound (if b then record w { queue = if set.contains w.dirty k then w.queue ++ k ∷ [] else w.queue; processing = set.remove w.processing k } else w)
      by true e = placed (set.contains w.dirty k) refl e
      by false e = h

  pub after-sound : (w : KeyQueue R) (c : Call N) → IsSound w → IsSound (after w c)
  after-sound w (add k) h = added-sound k w h
  after-sound w get h = got-sound w.queue w h.0 h.1 refl h
  after-sound w (finish k) h = done-sound k w h
  after-sound w shut_down h = h

  pub runs_are_sound : (w : KeyQueue R) (cs : List (Call N)) → IsSound w → IsSound (after_all w cs)
  runs_are_sound w [] h = h
  runs_are_sound w (c ∷ cs) h = runs_are_sound (after w c) cs (after-sound w c h)

  pub idle-sound : IsSound (idle {R = R})
  unfolding IsDistinct
  idle-sound = (tt, λ k i. fits false (contains-empty R k i) (contains-empty R k i))

  pub sound : (cs : List (Call N)) → IsSound (made R cs)
  sound cs = runs_are_sound idle cs idle-sound

  pub front_is_queued : (ks : List N) (k : N) → front ks ≡ Some k → list_any (same k) ks ≡ true
  front_is_queued [] k e = cc
  front_is_queued (x ∷ ks) k e = ap (λ b. b || list_any (same k) ks) (same_front x k e)
    where
      same_front : (x k : N) → Some x ≡ Some k → same k x ≡ true
      same_front x k e = let is : x ≡ k = cc in ap (same k) is ∙ same_laws.refl k

  -- a key that wants a look wants it after a call, or the call hands it out
  after-wanted : (k : N) (w : KeyQueue R) (c : Call N) → set.contains w.dirty k ≡ true → (set.contains (after w c).dirty k || hands_out k w c) ≡ true
  after-wanted k w (add j) d = by (w.is_shut || set.contains w.dirty j)
    where
      some : (a b : Bool) → b ≡ true → ((a || b) || false) ≡ true
      some true b e = refl
      some false b e = ap (λ b. b || false) e

      by : (b : Bool) → (set.contains (if b then w else record w { queue = if set.contains w.processing j then w.queue else w.queue ++ j ∷ []; dirty = set.insert w.dirty j }).dirty k || false) ≡ true
      by true = ap (λ b. b || false) d
      by false = ap (λ b. b || false) (contains-insert total w.dirty j k) ∙ some (same k j) _ d
  after-wanted k w get d = by w.queue
    where
      one_or_other : (a b : Bool) → b ≡ true → ((not a && b) || a) ≡ true
      one_or_other true b e = refl
      one_or_other false b e = ap (λ b. b || false) e

      by : (ks : List N) → (set.contains (got_from ks w).dirty k || is_key R k (front ks)) ≡ true
      by [] = ap (λ b. b || false) d
      by (j ∷ ks) = ap (λ b. b || same k j) (contains-remove total w.dirty j k) ∙ one_or_other (same k j) _ d
  after-wanted k w (finish j) d = by (set.contains w.processing j)
    where
      by : (b : Bool) → (set.contains (if b then record w { queue = if set.contains w.dirty j then w.queue ++ j ∷ [] else w.queue; processing = set.remove w.processing j } else w).dirty k || false) ≡ true
      by true = ap (λ b. b || false) d
      by false = ap (λ b. b || false) d
  after-wanted k w shut_down d = ap (λ b. b || false) d

  pub wanted_is_served : (k : N) (w : KeyQueue R) (cs : List (Call N)) → set.contains w.dirty k ≡ true → (set.contains (after_all w cs).dirty k || was_handed k w cs) ≡ true
  wanted_is_served k w [] d = ap (λ b. b || false) d
  wanted_is_served k w (c ∷ cs) d = by (set.contains (after w c).dirty k) (hands_out k w c) refl (after-wanted k w c d) (wanted_is_served k (after w c) cs)
    where
      or_true : (a : Bool) → (a || true) ≡ true
      or_true true = refl
      or_true false = refl

      by : (a b : Bool) → set.contains (after w c).dirty k ≡ a → (a || b) ≡ true → (set.contains (after w c).dirty k ≡ true → (set.contains (after_all (after w c) cs).dirty k || was_handed k (after w c) cs) ≡ true)
          → (set.contains (after_all (after w c) cs).dirty k || (b || was_handed k (after w c) cs)) ≡ true
      by true true e o rest = or_true _
      by true false e o rest = rest e
      by false true e o rest = or_true _
      by false false e o rest = absurd (true≢false (sym o))

  pub added-wanted : (k : N) (w : KeyQueue R) → w.is_shut ≡ false → set.contains (added k w).dirty k ≡ true
  added-wanted k w open_still = by (set.contains w.dirty k) refl
    where
      by : (d : Bool) → set.contains w.dirty k ≡ d → set.contains (added k w).dirty k ≡ true
      by true e = placed (w.is_shut || set.contains w.dirty k) e
        where
          placed : (b : Bool) → set.contains w.dirty k ≡ true → set.contains (if b then w else record w { queue = if set.contains w.processing k then w.queue else w.queue ++ k ∷ []; dirty = set.insert w.dirty k }).dirty k ≡ true
          placed true e = e
          placed false e = contains-insert total w.dirty k k ∙ ap (λ b. b || set.contains w.dirty k) (same_laws.refl k)
      by false e =
          ap (λ b. set.contains (if b then w else record w { queue = if set.contains w.processing k then w.queue else w.queue ++ k ∷ []; dirty = set.insert w.dirty k }).dirty k) (ap (λ b. b || set.contains w.dirty k) open_still ∙ e)
          ∙ contains-insert total w.dirty k k ∙ ap (λ b. b || set.contains w.dirty k) (same_laws.refl k)

  -- after the shut-down a call makes no key want a look
  after-shut : (k : N) (w : KeyQueue R) (c : Call N) → w.is_shut ≡ true → ((after w c).is_shut ≡ true) × (set.contains (after w c).dirty k ≡ true → set.contains w.dirty k ≡ true)
  after-shut k w (add j) e = by (w.is_shut || set.contains w.dirty j) (ap (λ b. b || set.contains w.dirty j) e)
    where
      by : (b : Bool) → b ≡ true
          → ((if b then w else record w { queue = if set.contains w.processing j then w.queue else w.queue ++ j ∷ []; dirty = set.insert w.dirty j }).is_shut ≡ true)
          × (set.contains (if b then w else record w { queue = if set.contains w.processing j then w.queue else w.queue ++ j ∷ []; dirty = set.insert w.dirty j }).dirty k ≡ true → set.contains w.dirty k ≡ true)
      by true t = (e, λ d. d)
      by false t = absurd (true≢false (sym t))
  after-shut k w get e = by w.queue
    where
      both : (a b : Bool) → (not a && b) ≡ true → b ≡ true
      both true b h = absurd (true≢false (sym h))
      both false b h = h

      by : (ks : List N) → ((got_from ks w).is_shut ≡ true) × (set.contains (got_from ks w).dirty k ≡ true → set.contains w.dirty k ≡ true)
      by [] = (e, λ d. d)
      by (j ∷ ks) = (e, λ d. both (same k j) _ (sym (contains-remove total w.dirty j k) ∙ d))
  after-shut k w (finish j) e = by (set.contains w.processing j)
    where
      by : (b : Bool)
          → ((if b then record w { queue = if set.contains w.dirty j then w.queue ++ j ∷ [] else w.queue; processing = set.remove w.processing j } else w).is_shut ≡ true)
          × (set.contains (if b then record w { queue = if set.contains w.dirty j then w.queue ++ j ∷ [] else w.queue; processing = set.remove w.processing j } else w).dirty k ≡ true → set.contains w.dirty k ≡ true)
      by true = (e, λ d. d)
      by false = (e, λ d. d)
  after-shut k w shut_down e = (refl, λ d. d)

  pub shut-wanted : (k : N) (w : KeyQueue R) (cs : List (Call N)) → w.is_shut ≡ true → set.contains (after_all w cs).dirty k ≡ true → set.contains w.dirty k ≡ true
  shut-wanted k w [] e d = d
  shut-wanted k w (c ∷ cs) e d = let step = after-shut k w c e in step.1 (shut-wanted k (after w c) cs step.0 d)
