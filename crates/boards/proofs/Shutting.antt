-- Only the shut-down shuts a queue.
use Rattle.std.proofs.Common.{◌≡◌, refl, ◌∙◌, List, [], ◌∷◌, ◌++◌, Bool, true, false, ◌||◌, if◌then◌else◌}
use Rattle.std.specs.FinSet as set
use Rattle.std.specs.declared.cmp.Ordering.{Ordering}
use Rattle.keyed_queues.specs.Queues.{KeyQueue, added, added_all, got, got_from, done}

module _ {N : Type 0} (R : N → N → Ordering) where
  pub added_shut : (k : N) (w : KeyQueue R) → (added k w).is_shut ≡ w.is_shut
  added_shut k w = by (w.is_shut || set.contains w.dirty k)
    where
      by : (b : Bool) → (if b then w else record w { queue = if set.contains w.processing k then w.queue else w.queue ++ k ∷ []; dirty = set.insert w.dirty k }).is_shut ≡ w.is_shut
      by true = refl
      by false = refl

  pub all_added_shut : (ks : List N) (w : KeyQueue R) → (added_all ks w).is_shut ≡ w.is_shut
  all_added_shut [] w = refl
  all_added_shut (k ∷ ks) w = all_added_shut ks (added k w) ∙ added_shut k w

  pub got_shut : (w : KeyQueue R) → (got w).is_shut ≡ w.is_shut
  got_shut w = by w.queue
    where
      by : (ks : List N) → (got_from ks w).is_shut ≡ w.is_shut
      by [] = refl
      by (k ∷ ks) = refl

  pub done_shut : (k : N) (w : KeyQueue R) → (done k w).is_shut ≡ w.is_shut
  done_shut k w = by (set.contains w.processing k)
    where
      by : (b : Bool) → (if b then record w { queue = if set.contains w.dirty k then w.queue ++ k ∷ [] else w.queue; processing = set.remove w.processing k } else w).is_shut ≡ w.is_shut
      by true = refl
      by false = refl
