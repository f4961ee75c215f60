-- What an object has once a server has merged a patch of finalizers.
use Rattle.std.specs.Prelude.{◌≡◌, ℕ, List, true, false, not}
use Rattle.std.specs.Str.{bytes_eq}
use Rattle.serde_json.specs.Data.{Data, Items}
use Rattle.spec_api.specs.Checks.{finalizers, has_text, text_is}
use Rattle.spec_api.specs.Values.{merged}
use Rattle.spec_reconcile.specs.MetadataEdits.{only}
use Rattle.reconciler.specs.Finalizers.{but_finalizer, finalizers_patch, with_finalizer}

-- the finalizers but this one, in their order
abbrev pub others : List ℕ → Data → Items
others t d = only (λ f. not (text_is (bytes_eq t) f)) (finalizers d)

-- it has the finalizer that was to be added, and all others stay
pub record IsAdded (t : List ℕ) (before after : Data) : Type 0 where
  pub has : has_text (finalizers after) t ≡ true
  pub stay : others t after ≡ others t before

-- it has the finalizer no longer that was to be removed, and all others stay
pub record IsRemoved (t : List ℕ) (before after : Data) : Type 0 where
  pub gone : has_text (finalizers after) t ≡ false
  pub stay : others t after ≡ others t before

abbrev pub FinalizersAreAdded : Type 0
FinalizersAreAdded = (t : List ℕ) (d : Data) → IsAdded t d (merged d (finalizers_patch (with_finalizer t d) d))

abbrev pub FinalizersAreRemoved : Type 0
FinalizersAreRemoved = (t : List ℕ) (d : Data) → IsRemoved t d (merged d (finalizers_patch (but_finalizer t d) d))
