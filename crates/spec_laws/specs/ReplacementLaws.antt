-- When an object in the place of another says the same.
use Rattle.std.specs.Prelude.{◌≡◌, ◌↔◌, true, Some, codes}
use Rattle.serde_json.specs.Data.{Data, object, Members}
use Rattle.serde_json.specs.Find.{get}
use Rattle.serde_json.specs.Written.{compact_text}
use Rattle.spec_api.specs.declared.kinds.Kind.{Kind}
use Rattle.spec_api.specs.Metadata.{metadata, metadata_of, with_metadata}
use Rattle.spec_api.specs.Replacements.{in_place, says_the_same, with_status_in}
use Rattle.spec_api.specs.Values.{data_of, without}

-- an object without its version
abbrev pub without_version : Data → Data
without_version d = with_metadata (without (codes "resourceVersion") (metadata_of d)) d

-- an object with metadata, which is what its own text is read as
abbrev pub IsReadBack : Data → Type 0
IsReadBack d = (data_of (compact_text d) ≡ Some d) × (meta : Members) × (get (codes "metadata") d ≡ Some (object meta))

-- two objects at one version say the same exactly if they are the same but for it
abbrev pub SameButForTheVersion : Type 0
SameButForTheVersion =
    (stored d : Data) → IsReadBack stored → IsReadBack d → metadata (codes "resourceVersion") stored ≡ metadata (codes "resourceVersion") d
    → (says_the_same stored d ≡ true) ↔ (without_version stored ≡ without_version d)

-- and at one version they are: whatever version an update names, what it says is taken at the version that is stored (Kubernetes API Conventions, Metadata)
abbrev pub UpdatesAreAtTheVersion : Type 0
UpdatesAreAtTheVersion =
    (k : Kind) (stored o v : Data) → metadata (codes "resourceVersion") stored ≡ Some v
    → (metadata (codes "resourceVersion") (in_place k stored o) ≡ Some v) × (metadata (codes "resourceVersion") (with_status_in k stored o) ≡ Some v)
