-- Labels that have one text are one.
use Rattle.std.proofs.Common.{◌≡◌, ℕ, List, true, codes, IfSome, Option, Some, None, option_and_then, ap}
use Rattle.std.proofs.lemmas.Slice.Eq.{bytes_eq-Decides}
use Rattle.serde_json.specs.Data.{Data, object, Members}
use Rattle.serde_json.specs.Find.{get}
use Rattle.serde_json.specs.Written.{compact_text}
use Rattle.spec_api.specs.Checks.{in_spec}
use Rattle.spec_api.specs.Metadata.{metadata, metadata_of, labels_of}
use Rattle.spec_api.specs.Values.{inner_of}
use Rattle.sim_overshoot_laws.specs.Overshoot.{have_same_labels}
use Rattle.reconcile_locality_laws.proofs.PlainTexts.{Plain, one_text, plain_get, plain_inner}

plain_then : (q : List ℕ) (o : Option Data) → IfSome o Plain → IfSome (option_and_then (get q) o) Plain
plain_then q None p = tt
plain_then q (Some d) p = plain_get q d p

pub plain_in_spec : (q : List ℕ) (d : Data) → Plain d → IfSome (in_spec q d) Plain
plain_in_spec q d p = plain_then q (get (codes "spec") d) (plain_get (codes "spec") d p)

plain_labels : (d : Data) → Plain d → Plain (object (labels_of d))
plain_labels d p = plain_inner (metadata (codes "labels") d) (plain_get (codes "labels") (object (metadata_of d)) (plain_inner (get (codes "metadata") d) (plain_get (codes "metadata") d p)))

pub same_labels : (d e : Data) → Plain d → Plain e → have_same_labels d e ≡ true → labels_of d ≡ labels_of e
same_labels d e p q is =
    ap members_in (one_text (object (labels_of d)) (object (labels_of e)) (plain_labels d p) (plain_labels e q) ((bytes_eq-Decides (compact_text (object (labels_of d))) (compact_text (object (labels_of e)))).0 is))
  where
    members_in : Data → Members
    members_in x = inner_of (Some x)
