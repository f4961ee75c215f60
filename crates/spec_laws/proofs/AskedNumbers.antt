-- What the commands of Deployments' plans say.
use Rattle.std.proofs.Common.{◌≡◌, ℕ, pos, ◌<◌, ◌≤◌, ◌^◌, List, nat_lt, Bool, true, false, Some, None, if◌then◌else◌, unwrap_or, option_and_then, codes, refl, sym, ap, subst, ◌∙◌, arith}
use Rattle.std.proofs.lemmas.Bool.{lt-ltb}
use Rattle.serde_json.specs.Data.{Data, null, boolean, number, string, array, object, Members, put}
use Rattle.serde_json.specs.Find.{get, get_member, as_str}
use Rattle.serde_json.proofs.Views.{get_member-put, get_member-put_other}
use Rattle.spec_api.specs.Defaults.{unsigned_value}
use Rattle.spec_api.specs.Metadata.{metadata, metadata_of, version}
use Rattle.spec_api.specs.Values.{inner_of, members_of}
use Rattle.spec_api.proofs.JsonMembers.{apart, metadata_text-with, text_in-put_other}
use Rattle.spec_reconcile.specs.Counts.{count, not_below_0, replicas}
use Rattle.spec_reconcile.specs.Deployments.{Rollout, new_object, with_replicas}
use Rattle.spec_reconcile.specs.Revisions.{annotated, raised, revision, with_revision}
use Rattle.spec_laws.specs.DeploymentLaws.{ScalesAskForTheirNumber, MadeSetsAskForTheirNumber, UpdatesNameTheLookedVersion}

counted : (n : ℕ) → n < 2 ^ 63 → count (Some (unsigned_value n)) ≡ n
counted n h = ap (λ b. not_below_0 (unwrap_or (if b then Some (pos n) else None) (pos 0))) (lt-ltb n (2 ^ 63) h)

asked_in : (n : ℕ) (spec ms : Members) → replicas (object (put (codes "spec") (object (put (codes "replicas") (unsigned_value n) spec)) ms)) ≡ count (Some (unsigned_value n))
asked_in n spec ms =
    ap (λ found. count (option_and_then (get (codes "replicas")) found)) (get_member-put (codes "spec") (object (put (codes "replicas") (unsigned_value n) spec)) ms)
    ∙ ap count (get_member-put (codes "replicas") (unsigned_value n) spec)

pub scaled_asks : ScalesAskForTheirNumber
scaled_asks n d h = asked_in n (inner_of (get (codes "spec") d)) (members_of d) ∙ counted n h

pub made_asks : MadeSetsAskForTheirNumber
made_asks r n h = counted n h

-- a number that is asked for is given, if 63 bits hold it, else a lower one
abbrev pub Gives : ℕ → ℕ → Type 0
Gives n m = (m ≤ n) × (n < 2 ^ 63 → n ≤ m)

gives-at : (n : ℕ) (b : Bool) → nat_lt n (2 ^ 63) ≡ b → Gives n (not_below_0 (unwrap_or (if b then Some (pos n) else None) (pos 0)))
gives-at n true e = (omega arith, λ h. omega arith)
gives-at n false e = (omega arith, λ h. let small = lt-ltb n (2 ^ 63) h in cc)

pub made_gives : (r : Rollout) (n : ℕ) → Gives n (replicas (new_object r n))
made_gives r n = gives-at n (nat_lt n (2 ^ 63)) refl

pub scaled_gives : (n : ℕ) (d : Data) → Gives n (replicas (with_replicas n d))
scaled_gives n d = subst (Gives n) (sym (asked_in n (inner_of (get (codes "spec") d)) (members_of d))) (gives-at n (nat_lt n (2 ^ 63)) refl)

-- ---- versions

found_among : (k : List ℕ) (d : Data) → get_member k (members_of d) ≡ get k d
found_among k null = refl
found_among k (boolean b) = refl
found_among k (number n) = refl
found_among k (string s) = refl
found_among k (array ds) = refl
found_among k (object ms) = refl

version_beside : (spec d : Data) → version (object (put (codes "spec") spec (members_of d))) ≡ version d
version_beside spec d =
    ap (λ m. option_and_then as_str (get_member (codes "resourceVersion") (inner_of m)))
    (get_member-put_other (codes "metadata") (codes "spec") spec (members_of d) (apart (codes "metadata") (codes "spec") refl) ∙ found_among (codes "metadata") d)

version_raised : (b : Bool) (due : ℕ) (d : Data) → version (if b then with_revision due d else d) ≡ version d
version_raised false due d = refl
version_raised true due d =
    let annotations = object (annotated due (inner_of (metadata (codes "annotations") d))) in
    metadata_text-with (codes "resourceVersion") (put (codes "annotations") annotations (metadata_of d)) d
    ∙ text_in-put_other (codes "resourceVersion") (codes "annotations") annotations (metadata_of d) refl

pub names_looked : UpdatesNameTheLookedVersion
names_looked n due d =
    version_beside (object (put (codes "replicas") (unsigned_value n) (inner_of (get (codes "spec") (raised due d))))) (raised due d)
    ∙ version_raised (nat_lt (revision d) due) due d
