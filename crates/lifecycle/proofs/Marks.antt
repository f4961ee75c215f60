-- The metadata of an object that is being deleted, from what its steps are told.
use Rattle.std.proofs.Common.{◌≡◌, ℕ, List, Bool, true, false, cond, codes, refl, ap, ◌∙◌}
use Rattle.serde_json.specs.Data.{Data, string, Members, put}
use Rattle.spec_api.specs.declared.kinds.Kind.{Kind}
use Rattle.spec_api.specs.Deletion.{with_deletion}
use Rattle.spec_api.specs.Kinds.{has_generation}
use Rattle.spec_api.specs.Metadata.{metadata_of, is_being_deleted}
use Rattle.spec_api.specs.Replacements.{with_next_generation}

otherwise : (b : Bool) (x y : Members) → b ≡ false → y ≡ cond b x y
otherwise true x y h = cc
otherwise false x y h = refl

-- the deletion is told of an object that was not being deleted
pub deletion_told : (k : Kind) (moment : List ℕ) (existing : Data) (before raised : Members) → is_being_deleted existing ≡ false → before ≡ metadata_of existing → raised ≡ with_next_generation (has_generation k) existing before
    → put (codes "deletionTimestamp") (string moment) raised ≡ with_deletion k moment existing
deletion_told k moment existing before raised h is up =
    ap (put (codes "deletionTimestamp") (string moment)) (up ∙ ap (with_next_generation (has_generation k) existing) is)
    ∙ otherwise (is_being_deleted existing) (metadata_of existing) (put (codes "deletionTimestamp") (string moment) (with_next_generation (has_generation k) existing (metadata_of existing))) h
