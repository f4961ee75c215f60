-- Steps of a follower, joined.
use Rattle.std.proofs.Common.{◌≡◌, ◌+◌, ◌++◌, ℕ, List, [], ◌∷◌, refl, sym, ap, ◌∙◌, subst, arith}
use Rattle.spec_api.specs.declared.kinds.Kind.{Kind}
use Rattle.spec_server.specs.Snapshots.{Snapshot}
use Rattle.spec_client_go.specs.Shifts.{Shift}
use Rattle.api_client.specs.Exchanges.{Exchange}
use Rattle.list_and_watch.specs.Gone.{asks_at, asks_in, IsTold, Does, Deals, Tells, AreDone, HasGone, GoesOn, AsksOnce}
use Rattle.list_and_watch.specs.Told.{Told, Step, exchange, cut, publish, give, keep, ask, tell, clock, wait, after_step, after_steps}
use Rattle.list_and_watch.specs.declared.causes.Cause.{Cause}
use Rattle.list_and_watch.specs.declared.onward.Onward.{Onward}

steps_both : (ss ts : List Step) (t : Told) → after_steps (ss ++ ts) t ≡ after_steps ts (after_steps ss t)
steps_both [] ts t = refl
steps_both (s ∷ ss) ts t = steps_both ss ts (after_step s t)

asks_both : (ss ts : List Step) → asks_in (ss ++ ts) ≡ asks_in ss + asks_in ts
asks_both [] ts = omega arith
asks_both (s ∷ ss) ts = let more = asks_both ss ts in omega arith

-- ---- one more, and further ones

module _ {W : Type 0} (does : Step → Told → W → W → Type 0) where
  done_both : (ss ts : List Step) (t : Told) (a b c : W) → AreDone does ss t a b → AreDone does ts (after_steps ss t) b c → AreDone does (ss ++ ts) t a c
  done_both [] ts t a b c same now = subst (λ x. AreDone does ts t x c) same now
  done_both (s ∷ ss) ts t a b c (x, first, rest) now = (x, first, done_both ss ts (after_step s t) x b c rest now)

  -- what leads on, after what led there
  goes_by : (m : ℕ) (t u : Told) (b c : W) → HasGone does m t b u c → (n : ℕ) (first : Told) (start : W) → HasGone does n first start t b → HasGone does (n + m) first start u c
  goes_by m t u b c on n first start h =
      let both = asks_both h.steps on.steps in
      let before = h.asked in
      let more = on.asked in
      record {
        steps = h.steps ++ on.steps;
        leads = steps_both h.steps on.steps first ∙ ap (after_steps on.steps) h.leads ∙ on.leads;
        done = done_both h.steps on.steps first start b c h.done (subst (λ x. AreDone does on.steps x b c) (sym h.leads) on.done);
        asked = omega arith;
      }

  single : (s : Step) (t u : Told) (b c : W) → after_step s t ≡ u → does s t b c → HasGone does (asks_at s) t b u c
  single s t u b c is now = record { steps = s ∷ []; leads = is; done = (c, now, refl); asked = omega arith }

  fewer : (n m : ℕ) (first : Told) (start : W) (t : Told) (b : W) → HasGone does (n + m) first start t b → HasGone does n first start t b
  fewer n m first start t b h = let before = h.asked in record { steps = h.steps; leads = h.leads; done = h.done; asked = omega arith }

  pub goes : (s : Step) (t u : Told) (b c : W) → after_step s t ≡ u → does s t b c → GoesOn does t b u c
  goes s t u b c is now n first start h = fewer n (asks_at s) first start u c (goes_by (asks_at s) t u b c (single s t u b c is now) n first start h)

  pub asks : (onward : Onward) (t : Told) (b c : W) → does (ask onward) t b c → AsksOnce does t b t c
  asks onward t b c now n first start h = goes_by 1 t t b c (single (ask onward) t t b c refl now) n first start h

  pub begins : (t : Told) (b : W) → HasGone does 0 t b t b
  begins t b = record { steps = []; leads = refl; done = refl; asked = omega arith }

  pub still : (t u : Told) (b : W) → u ≡ t → GoesOn does t b u b
  still t u b is n first start h = subst (λ x. HasGone does n first start x b) (sym is) h

  pub goes_both : (t u v : Told) (a b c : W) → GoesOn does t a u b → GoesOn does u b v c → GoesOn does t a v c
  goes_both t u v a b c one two n first start so = two n first start (one n first start so)

  pub goes_to_ask : (t u v : Told) (a b c : W) → GoesOn does t a u b → AsksOnce does u b v c → AsksOnce does t a v c
  goes_to_ask t u v a b c one two n first start so = two n first start (one n first start so)

  pub asks_and_goes : (t u v : Told) (a b c : W) → AsksOnce does t a u b → GoesOn does u b v c → AsksOnce does t a v c
  asks_and_goes t u v a b c one two n first start so = two (n + 1) first start (one n first start so)

  pub asked_goes : (t u : Told) (a b : W) → AsksOnce does t a u b → GoesOn does t a u b
  asked_goes t u a b one n first start so = fewer n 1 first start u b (one n first start so)

-- ---- the same steps, seen with more or with less

module _ {W V : Type 0} (does : Step → Told → W → W → Type 0) (shown : Step → Told → V → V → Type 0) (seen : W → V)
    (each : (s : Step) (t : Told) (b a : W) → does s t b a → shown s t (seen b) (seen a)) where
  pub done_as : (ss : List Step) (t : Told) (b a : W) → AreDone does ss t b a → AreDone shown ss t (seen b) (seen a)
  done_as [] t b a same = ap seen same
  done_as (s ∷ ss) t b a (x, now, rest) = (seen x, each s t b x now, done_as ss (after_step s t) x a rest)

  gone_as : (n : ℕ) (t u : Told) (b c : W) → HasGone does n t b u c → HasGone shown n t (seen b) u (seen c)
  gone_as n t u b c h = record { steps = h.steps; leads = h.leads; done = done_as h.steps t b c h.done; asked = h.asked }

  pub goes_as : (t u : Told) (b c : W) → GoesOn does t b u c → GoesOn shown t (seen b) u (seen c)
  goes_as t u b c on n first start h = fewer shown n 0 first start u (seen c) (goes_by shown 0 t u (seen b) (seen c) (gone_as 0 t u b c (on 0 t b (begins does t b))) n first start h)

  pub asks_as : (t u : Told) (b c : W) → AsksOnce does t b u c → AsksOnce shown t (seen b) u (seen c)
  asks_as t u b c on n first start h = goes_by shown 1 t u (seen b) (seen c) (gone_as 1 t u b c (on 0 t b (begins does t b))) n first start h

module _ {S A : Type 0} (takes refuses : S → List Shift → Snapshot → Cause → S → Type 0) (answers : S → Onward → S → Type 0) (hears : S → S → Type 0) (exchanges : A → Exchange → A → Type 0) (k : Kind) where
  with_server : (p : A) (s : Step) (t : Told) (b a : S) → Tells takes refuses answers hears s t b a → Deals takes refuses answers hears exchanges k s t (b, p) (a, p)
  with_server p (exchange e memory) t b a so = absurd so.0
  with_server p cut t b a so = (tt, so.1, refl)
  with_server p publish t b a so = (tt, so.1, refl)
  with_server p give t b a so = (tt, so.1, refl)
  with_server p keep t b a so = (tt, so.1, refl)
  with_server p (ask onward) t b a so = (tt, so.1, refl)
  with_server p tell t b a so = (tt, so.1, refl)
  with_server p (clock n) t b a so = absurd so.0
  with_server p (wait n onward) t b a so = absurd so.0

  -- the server knows nothing of it
  pub beside_server : (p : A) (t u : Told) (b c : S) → GoesOn (Tells takes refuses answers hears) t b u c → GoesOn (Deals takes refuses answers hears exchanges k) t (b, p) u (c, p)
  beside_server p t u b c on = goes_as (Tells takes refuses answers hears) (Deals takes refuses answers hears exchanges k) (λ x. (x, p)) (with_server p) t u b c on

  module _ {T : Type 0} (shows : T → ℕ → T → Type 0) (waits : T → ℕ → Onward → T → Type 0) where
    with_clock : (x : T) (s : Step) (t : Told) (b a : S × A) → Deals takes refuses answers hears exchanges k s t b a → Does takes refuses answers hears exchanges shows waits k s t (b.0, b.1, x) (a.0, a.1, x)
    with_clock x (exchange e memory) t b a so = (so.1, so.2, refl)
    with_clock x cut t b a so = (so.1, so.2, refl)
    with_clock x publish t b a so = (so.1, so.2, refl)
    with_clock x give t b a so = (so.1, so.2, refl)
    with_clock x keep t b a so = (so.1, so.2, refl)
    with_clock x (ask onward) t b a so = (so.1, so.2, refl)
    with_clock x tell t b a so = (so.1, so.2, refl)
    with_clock x (clock n) t b a so = absurd so.0
    with_clock x (wait n onward) t b a so = absurd so.0

    -- no time passes
    pub beside_clock : (x : T) (t u : Told) (b c : S × A) → GoesOn (Deals takes refuses answers hears exchanges k) t b u c → GoesOn (Does takes refuses answers hears exchanges shows waits k) t (b.0, b.1, x) u (c.0, c.1, x)
    beside_clock x t u b c on = goes_as (Deals takes refuses answers hears exchanges k) (Does takes refuses answers hears exchanges shows waits k) (λ (y : S × A). (y.0, y.1, x)) (with_clock x) t u b c on

    -- nor does the server know of it
    pub asks_beside : (p : A) (x : T) (t u : Told) (b c : S) → AsksOnce (Tells takes refuses answers hears) t b u c → AsksOnce (Does takes refuses answers hears exchanges shows waits k) t (b, p, x) u (c, p, x)
    asks_beside p x t u b c on = asks_as (Tells takes refuses answers hears) (Does takes refuses answers hears exchanges shows waits k) (λ y. (y, p, x)) (λ s r y z so. with_clock x s r (y, p) (z, p) (with_server p s r y z so)) t u b c on

    -- what the sink sees of it
    pub sink_told : (ss : List Step) (t : Told) (b a : S × A × T) → AreDone (Does takes refuses answers hears exchanges shows waits k) ss t b a → AreDone (IsTold takes refuses answers hears) ss t b.0 a.0
    sink_told ss t b a done = done_as (Does takes refuses answers hears exchanges shows waits k) (IsTold takes refuses answers hears) (λ (y : S × A × T). y.0) (λ s r y z so. so.0) ss t b a done
