-- What a request that names a version, or a uid, takes effect on.
use Rattle.std.proofs.Common.{◌≡◌, ℕ, List, false, Some, Ok, refl, sym, ap, ◌∙◌}
use Rattle.serde_json.specs.Data.{Data}
use Rattle.spec_api.specs.Defaults.{defaulted}
use Rattle.spec_api.specs.History.{History, found, entries_at, present, state}
use Rattle.spec_laws.specs.LifecycleLaws.{ReplacesVersion, ReplacesUid, UpdatesReplaceTheirVersion, StatusesReplaceTheirVersion, PatchesReplaceTheirVersion, DeletesRemoveTheirVersion, DeletesFindTheirUid}
use Rattle.spec_api.specs.Metadata.{uid, version, differs}
use Rattle.spec_api.specs.Keys.{Key}
use Rattle.spec_api.specs.Reading.{reading}
use Rattle.spec_api.specs.Values.{merged}
use Rattle.spec_api.specs.Verbs.{object_in}
use Rattle.spec_api.proofs.VerbSteps.{with_defaults}
use Rattle.spec_laws.proofs.Cases.{of_delete, of_patch, of_status, of_update}
use Rattle.spec_laws.proofs.VerbLaws.{found-state, one_object, same, version-defaulted}

-- the stored version is the one that is named
named_is : (p existing : Data) (named : List ℕ) → version p ≡ Some named → differs (version p) (version existing) ≡ false → version existing ≡ Some named
named_is p existing named says equal = same named (version existing) (ap (λ v. differs v (version existing)) (sym says) ∙ equal)

abbrev Held : Key → List ℕ → History → Type 0
Held k named h = (existing : Data) × (k ≡ k) × (state h (present h) k ≡ Some existing) × (version existing ≡ Some named)

held_at : (k : Key) (h : History) (existing : Data) (named : List ℕ) → found k (entries_at h (present h)) ≡ Some existing → version existing ≡ Some named → Held k named h
held_at k h existing named at is = (existing, refl, sym (found-state h k) ∙ at, is)

pub updates_version : UpdatesReplaceTheirVersion
updates_version k d o named h moment read names =
    let says : (p : Data) → object_in k.kind d ≡ Ok p → version p ≡ Some named =
    λ p is.
    let one : p ≡ defaulted k.kind o = one_object (object_in k.kind d) p (defaulted k.kind o) is (ap (with_defaults k.kind) read) in
    ap version one ∙ version-defaulted k.kind o ∙ names in
    of_update (ReplacesVersion k named h) (λ f. tt) (λ shown. tt) k (object_in k.kind d) (entries_at h (present h)) (present h)
    (λ p existing is at equal valid fits low. held_at k h existing named at (named_is p existing named (says p is) equal))
    (λ p existing is at equal free low. held_at k h existing named at (named_is p existing named (says p is) equal))

pub statuses_version : StatusesReplaceTheirVersion
statuses_version k d o named h moment read names =
    of_status (ReplacesVersion k named h) (λ f. tt) (λ shown. tt) k (reading k.kind d) (entries_at h (present h)) (present h)
    (λ p existing is at equal fits low.
    let one : p ≡ o = one_object (reading k.kind d) p o is read in
    held_at k h existing named at (named_is p existing named (ap version one ∙ names) equal))

one_held : (was existing : Data) → Some was ≡ Some existing → was ≡ existing
one_held was existing is = cc

pub patches_version : PatchesReplaceTheirVersion
patches_version k d existing o named h moment there read names =
    let says : (p was : Data) → object_in k.kind (merged was d) ≡ Ok p → found k (entries_at h (present h)) ≡ Some was → version p ≡ Some named =
    λ p was is at.
    let same_held : existing ≡ was = one_held existing was (sym there ∙ sym (found-state h k) ∙ at) in
    let one : p ≡ o = one_object (object_in k.kind (merged was d)) p o is (ap (λ x. object_in k.kind (merged x d)) (sym same_held) ∙ read) in
    ap version one ∙ names in
    of_patch (ReplacesVersion k named h) (λ f. tt) (λ shown. tt) k d (entries_at h (present h)) (present h)
    (λ p was is at equal valid fits low. held_at k h was named at (named_is p was named (says p was is at) equal))
    (λ p was is at equal free low. held_at k h was named at (named_is p was named (says p was is at) equal))

pub deletes_version : DeletesRemoveTheirVersion
deletes_version k o named h moment names =
    let is_named : (existing : Data) → differs o.version (version existing) ≡ false → version existing ≡ Some named =
    λ existing equal. same named (version existing) (ap (λ v. differs v (version existing)) (sym names) ∙ equal) in
    of_delete (ReplacesVersion k named h) (λ f. tt) (λ code body. tt) k o (entries_at h (present h)) (present h) moment
    (λ existing at same_uid equal low. held_at k h existing named at (is_named existing equal)) (λ existing at same_uid equal none low. held_at k h existing named at (is_named existing equal))

pub deletes_uid : DeletesFindTheirUid
deletes_uid k o named h moment names =
    let is_named : (existing : Data) → differs o.uid (uid existing) ≡ false → uid existing ≡ Some named =
    λ existing equal. same named (uid existing) (ap (λ v. differs v (uid existing)) (sym names) ∙ equal) in
    of_delete (ReplacesUid k named h) (λ f. tt) (λ code body. tt) k o (entries_at h (present h)) (present h) moment
    (λ existing at equal same_version low. (existing, refl, sym (found-state h k) ∙ at, is_named existing equal))
    (λ existing at equal same_version none low. (existing, refl, sym (found-state h k) ∙ at, is_named existing equal))
