-- The members of an object that reads as itself: what is put among them, taken out or filled in.
use Rattle.std.proofs.Common.{◌≡◌, ℕ, List, false, codes, bytes_eq, is_some, decimal, IfSome, Option, Some, None, Result, Ok, Err, refl, sym, ap, ◌∙◌, subst, arith}
use Rattle.serde_json.specs.Data.{Data, null, boolean, number, string, array, object, Members, put}
use Rattle.serde_json.specs.Find.{get, get_member}
use Rattle.spec_api.specs.declared.kinds.Kind.{Kind}
use Rattle.spec_api.specs.declared.kinds.Kind.TheVariants.{ConfigMap, Pod, ReplicaSet, Deployment}
use Rattle.spec_api.specs.declared.refusals.Part.{Part}
use Rattle.spec_api.specs.declared.schemas.Schema.TheVariants.{Root, Metadata}
use Rattle.spec_api.specs.Defaults.{defaulted}
use Rattle.spec_api.specs.Metadata.{metadata_of, at_revision}
use Rattle.spec_api.specs.NewObjects.{first_status, with_status}
use Rattle.spec_api.specs.Reading.{reading}
use Rattle.spec_api.specs.Replacements.{as_stored, in_place, keeping, unchanged_metadata, unchanged_members, status_in, with_status_in}
use Rattle.spec_api.specs.Values.{members_of, without}
use Rattle.spec_api.specs.Verbs.{object_in}
use Rattle.spec_api.proofs.VerbSteps.{with_defaults}
use Rattle.spec_laws.proofs.DefaultsRead.{defaults_read}
use Rattle.spec_api.proofs.FirstStatus.{get-members_of}
use Rattle.spec_api.proofs.JsonMembers.{get_member-without_other}
use Rattle.spec_laws.proofs.NeatMembers.{One, Neat, Neat-good, Neat-get, Neat-keeping, Neat-metadata, Neat-put, Neat-without, Neat-whole, Filled-put, IsFilled, one_metadata, one_text, opens}
use Rattle.spec_laws.proofs.ReadAgain.{Filled, Filled-filled, Has, HasSpec, filled_members, reads_again, settled}

-- members that fit their kind, with nothing to be left out or filled in
pub record AreWhole (k : Kind) (ms : Members) : Type 0 where
  pub neat : Neat 99 (Root k) ms
  pub filled : Filled k ms

pub reads_whole : (k : Kind) (ms : Members) → AreWhole k ms → reading k (object ms) ≡ Ok (object ms)
reads_whole k ms w = settled k ms (Neat-good (Root k) ms w.neat) w.filled (Neat-whole 99 (Root k) ms w.neat)

pub neat_metadata : (k : Kind) (d : Data) → AreWhole k (members_of d) → Neat 98 Metadata (metadata_of d)
neat_metadata k null w = tt
neat_metadata k (boolean b) w = tt
neat_metadata k (number n) w = tt
neat_metadata k (string s) w = tt
neat_metadata k (array ds) w = tt
neat_metadata k (object ms) w = Neat-metadata k ms w.neat

-- ---- what is put among them

pub whole_put : (k : Kind) (q : List ℕ) (d : Data) (ms : Members) → One 99 (Root k) q d → AreWhole k ms → AreWhole k (put q d ms)
whole_put k q d ms one w =
    record {
      neat = Neat-put 99 (Root k) q d ms one w.neat;
      filled = Filled-put k q d ms w.filled;
    }

pub whole_with : (k : Kind) (meta ms : Members) → Neat 98 Metadata meta → AreWhole k ms → AreWhole k (put (codes "metadata") (object meta) ms)
whole_with k meta ms m w = whole_put k (codes "metadata") (object meta) ms (one_metadata k meta m) w

pub whole_at : (k : Kind) (r : ℕ) (meta : Members) (d : Data) → IsFilled (decimal r) → Neat 98 Metadata meta → AreWhole k (members_of d)
    → AreWhole k (members_of (at_revision r meta d))
whole_at k r meta d full m w =
    whole_with k (put (codes "resourceVersion") (string (decimal r)) meta) (members_of d)
    (Neat-put 98 Metadata (codes "resourceVersion") (string (decimal r)) meta (one_text (decimal r) full).3 m) w

-- ---- the status

abbrev pub MayBe : Kind → Option Data → Type 0
MayBe k s = IfSome s (One 99 (Root k) (codes "status"))

pub whole_status : (k : Kind) (s : Option Data) (ms : Members) → MayBe k s → AreWhole k ms → AreWhole k (with_status s ms)
whole_status k None ms one w = w
whole_status k (Some d) ms one w = whole_put k (codes "status") d ms one w

pub may_first : (k : Kind) → MayBe k (first_status k)
may_first ConfigMap = tt
may_first Pod = (refl, refl, (refl, tt, tt), omega arith, refl)
may_first ReplicaSet = (refl, refl, (refl, tt, tt), omega arith, refl)
may_first Deployment = (refl, refl, tt, omega arith, refl)

may_said : (k : Kind) (s : Option Data) (ms : Members) → get_member (codes "status") ms ≡ s → AreWhole k ms → MayBe k (status_in k s)
may_said k None ms is w = may_first k
may_said k (Some d) ms is w = Neat-get 99 (Root k) (codes "status") ms d is w.neat

pub whole_with_said : (k : Kind) (existing o : Data) → AreWhole k (members_of existing) → AreWhole k (members_of o) → AreWhole k (members_of (with_status_in k existing o))
whole_with_said k existing o h w =
    whole_status k (status_in k (get (codes "status") o)) (members_of existing)
    (may_said k (get (codes "status") o) (members_of o) (sym (get-members_of (codes "status") o)) w) h

-- ---- what is preserved

stays : (q : List ℕ) (ms : Members) → bytes_eq q (codes "status") ≡ false → Has q ms → Has q (without (codes "status") ms)
stays q ms other h = ap is_some (get_member-without_other q (codes "status") ms other) ∙ h

spec_stays : (k : Kind) (ms : Members) → HasSpec k ms → HasSpec k (without (codes "status") ms)
spec_stays ConfigMap ms h = tt
spec_stays Pod ms h = stays (codes "spec") ms refl h
spec_stays ReplicaSet ms h = tt
spec_stays Deployment ms h = tt

whole_without : (k : Kind) (ms : Members) → AreWhole k ms → AreWhole k (without (codes "status") ms)
whole_without k ms w =
    let f = w.filled in
    record {
      neat = Neat-without 99 (Root k) (codes "status") ms w.neat;
      filled = (stays (codes "metadata") ms refl f.0, spec_stays k ms f.1, stays (codes "kind") ms refl f.2, stays (codes "apiVersion") ms refl f.3);
    }

whole_held : (k : Kind) (s : Option Data) (existing ms : Members) → get_member (codes "status") existing ≡ s → AreWhole k existing → AreWhole k ms → AreWhole k (as_stored (codes "status") s ms)
whole_held k None existing ms is h w = whole_without k ms w
whole_held k (Some d) existing ms is h w = whole_put k (codes "status") d ms (Neat-get 99 (Root k) (codes "status") existing d is h.neat) w

whole_kept : (k : Kind) (existing ms : Members) → AreWhole k existing → AreWhole k ms → AreWhole k (keeping (unchanged_members k) existing ms)
whole_kept ConfigMap existing ms h w = w
whole_kept Pod existing ms h w = whole_held Pod (get_member (codes "status") existing) existing ms refl h w
whole_kept ReplicaSet existing ms h w = whole_held ReplicaSet (get_member (codes "status") existing) existing ms refl h w
whole_kept Deployment existing ms h w = whole_held Deployment (get_member (codes "status") existing) existing ms refl h w

pub whole_in_place : (k : Kind) (existing o : Data) → AreWhole k (members_of existing) → AreWhole k (members_of o) → AreWhole k (members_of (in_place k existing o))
whole_in_place k existing o h w =
    whole_with k (keeping unchanged_metadata (metadata_of existing) (metadata_of o)) (keeping (unchanged_members k) (members_of existing) (members_of o))
    (Neat-keeping 98 Metadata unchanged_metadata (metadata_of existing) (metadata_of o) (neat_metadata k existing h) (neat_metadata k o w)) (whole_kept k (members_of existing) (members_of o) h w)

-- ---- what is read

pub whole_read : (k : Kind) (d o : Data) → reading k d ≡ Ok o → AreWhole k (members_of o)
whole_read k d o read =
    let opening = opens k d o read in
    let as_read : AreWhole k (filled_members k opening.left) = record { neat = opening.neat; filled = Filled-filled k opening.left } in
    subst (λ x. AreWhole k (members_of x)) (sym opening.is) as_read

-- ---- what is read

said_as : (k : Kind) (d o : Data) (read : Result Data Part) → reading k d ≡ read → with_defaults k read ≡ Ok o → AreWhole k (members_of o)
said_as k d o (Err p) is h = cc
said_as k d o (Ok e) is h =
    let full : AreWhole k (members_of (defaulted k e)) = whole_read k (defaulted k e) (defaulted k e) (defaults_read k e (reads_again k d e is)) in
    let one : defaulted k e ≡ o = cc in
    subst (λ x. AreWhole k (members_of x)) one full

-- what a body says, with its defaults
pub whole_said : (k : Kind) (d o : Data) → object_in k d ≡ Ok o → AreWhole k (members_of o)
whole_said k d o h = said_as k d o (reading k d) refl h
