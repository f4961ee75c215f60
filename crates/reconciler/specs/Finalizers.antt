-- What is asked so that an object has a finalizer, or has it no longer (Kubernetes, Finalizers).
use Rattle.std.specs.Prelude.{ℕ, List, [], codes, not, Option, Some, None, Result, unwrap_or, if◌then◌else◌}
use Rattle.std.specs.Str.{bytes_eq}
use Rattle.serde_json.specs.Data.{Data, Items, Members, array, object, string, member, no_members}
use Rattle.spec_api.specs.Checks.{finalizers, has_text, text_is}
use Rattle.spec_api.specs.Keys.{Key}
use Rattle.spec_api.specs.Metadata.{version}
use Rattle.spec_api.specs.ObjectRequests as words
use Rattle.spec_reconcile.specs.MetadataEdits.{only, with_last}
use Rattle.keyed_board.specs.declared.failure.Failure.{Failure}
use Rattle.reconciler.specs.Guarded.{guarded}

-- a patch of the finalizers, which names the version that was seen
abbrev pub finalizers_patch : Items → Data → Data
finalizers_patch items d =
    object (member (codes "metadata") (object (member (codes "finalizers") (array items) (member (codes "resourceVersion") (string (unwrap_or (version d) [])) no_members))) no_members)

-- the finalizers of an object with one more, and without one
abbrev pub with_finalizer : List ℕ → Data → Items
with_finalizer t d = with_last (string t) (finalizers d)

abbrev pub but_finalizer : List ℕ → Data → Items
but_finalizer t d = only (λ f. not (text_is (bytes_eq t) f)) (finalizers d)

-- what is asked so that an object has a finalizer: nothing just where it has it
abbrev pub adds_finalizer : List ℕ → Key → Data → Result (Option words.Request) Failure
adds_finalizer t k d = guarded d (if has_text (finalizers d) t then None else Some (words.patch_object k (finalizers_patch (with_finalizer t d) d)))

-- what is asked so that an object has a finalizer no longer: nothing just where it has it not
abbrev pub drops_finalizer : List ℕ → Key → Data → Result (Option words.Request) Failure
drops_finalizer t k d = guarded d (if has_text (finalizers d) t then Some (words.patch_object k (finalizers_patch (but_finalizer t d) d)) else None)
