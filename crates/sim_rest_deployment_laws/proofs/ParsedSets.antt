-- What a Deployment's updates say stays as a parser gives it.
use Rattle.std.proofs.Common.{◌≡◌, ◌<◌, ◌-◌, ◌^◌, ℕ, List, min, Bool, true, false, cond, codes, decimal, nat_lt, refl, arith}
use Rattle.json.proofs.Printed.Utf8.{are_ascii}
use Rattle.serde_json.specs.Data.{Data, string, object, Members, put}
use Rattle.spec_api.specs.Defaults.{unsigned_value}
use Rattle.spec_api.specs.Metadata.{metadata, metadata_of}
use Rattle.spec_api.specs.Reached.{IsParsed}
use Rattle.spec_api.specs.Values.{inner_of}
use Rattle.spec_laws.proofs.AskedEdits.{in_meta, ascii, decimal_utf8, status_both, status_parsed}
use Rattle.spec_laws.proofs.Parsed.{Both, Both-set, inner, joined}
use Rattle.spec_laws.proofs.ParsedEdits.{inner_edits}
use Rattle.spec_laws.proofs.ParsedObjects.{meta, with_meta}
use Rattle.spec_reconcile.specs.Deployments.{counted, with_replicas, with_summary}
use Rattle.spec_reconcile.specs.Revisions.{revision_annotation, revision, annotated, with_revision, raised}
use Rattle.spec_reconcile.specs.Statuses.{status, with_status}
use Rattle.spec_reconcile.specs.declared.rollouts.Summary.{Summary}

raised_parsed : (due : ℕ) (d : Data) → due < 2 ^ 64 → IsParsed d → IsParsed (raised due d)
raised_parsed due d low p = by (nat_lt (revision d) due)
  where
    by : (b : Bool) → IsParsed (cond b (with_revision due d) d)
    by true =
        let old = inner_of (metadata (codes "annotations") d) in
        let notes = annotated due old in
        let both : Both notes = Both-set revision_annotation refl (string (decimal due)) old (decimal_utf8 due low) (inner (metadata (codes "annotations") d) (in_meta (codes "annotations") d p)) in
        with_meta (put (codes "annotations") (object notes) (metadata_of d)) d (Both-set (codes "annotations") refl (object notes) (metadata_of d) (joined notes both) (meta d p)) p
    by false = p

-- a set with another number of pods and another revision
pub renewed_parsed : (n due : ℕ) (d : Data) → n < 2 ^ 64 → due < 2 ^ 64 → IsParsed d → IsParsed (with_replicas n (raised due d))
renewed_parsed n due d low few p =
    inner_edits (raised due d) (unsigned_value n) (codes "spec") (codes "replicas") (ascii (codes "spec") refl) (ascii (codes "replicas") refl) (raised_parsed due d few p) low

-- a Deployment with another status
pub collided_parsed : (n : ℕ) (d : Data) → n < 2 ^ 64 → IsParsed d → IsParsed (with_status (put (codes "collisionCount") (unsigned_value n) (status d)) d)
collided_parsed n d low p =
    status_parsed (put (codes "collisionCount") (unsigned_value n) (status d)) d (Both-set (codes "collisionCount") refl (unsigned_value n) (status d) low (status_both d p)) p

with_count : (k : List ℕ) → are_ascii k ≡ true → (n : ℕ) (ms : Members) → Both ms → Both (put k (counted n) ms)
with_count k ascii n ms both = let low : min n (2 ^ 64 - 1) < 2 ^ 64 = omega arith in Both-set k ascii (counted n) ms low both

pub summary_parsed : (c : Summary) (d : Data) → IsParsed d → IsParsed (with_status (with_summary c (status d)) d)
summary_parsed c d p =
    let a = put (codes "observedGeneration") (counted c.generation) (status d) in
    let b = put (codes "unavailableReplicas") (counted c.unavailable) a in
    let e = put (codes "updatedReplicas") (counted c.updated) b in
    let f = put (codes "availableReplicas") (counted c.available) e in
    let r = put (codes "readyReplicas") (counted c.ready) f in
    status_parsed (with_summary c (status d)) d
    (with_count (codes "replicas") refl c.replicas r
    (with_count (codes "readyReplicas") refl c.ready f
    (with_count (codes "availableReplicas") refl c.available e
    (with_count (codes "updatedReplicas") refl c.updated b
    (with_count (codes "unavailableReplicas") refl c.unavailable a (with_count (codes "observedGeneration") refl c.generation (status d) (status_both d p))))))) p
