-- The revisions of a Deployment: which of them a ReplicaSet is, as its annotation says (Kubernetes, Deployments, Checking Rollout History of a Deployment).
use Rattle.std.specs.Prelude.{ℕ, ◌+◌, ◌&&◌, max, min, nat_lt, nat_le, length, List, [], ◌∷◌, Bool, codes, decimal, option_and_then, if◌then◌else◌}
use Rattle.std.specs.List.{list_all}
use Rattle.std.specs.Str.Parse.{digits_value}
use Rattle.serde_json.specs.Data.{Data, Members as Fields, object, string, put}
use Rattle.serde_json.specs.Find.{get}
use Rattle.spec_api.specs.Metadata.{metadata, metadata_of, with_metadata}
use Rattle.spec_api.specs.Moments.{is_digit}
use Rattle.spec_api.specs.SelectorValues.{text_in}
use Rattle.spec_api.specs.Values.{inner_of}

abbrev pub revision_annotation : List ℕ
revision_annotation = codes "deployment.kubernetes.io/revision"

-- 1 to 18 digits
abbrev pub is_revision : List ℕ → Bool
is_revision t = nat_lt 0 (length t) && nat_le (length t) 18 && list_all is_digit t

abbrev pub revision_said : List ℕ → ℕ
revision_said t = if is_revision t then digits_value 10 t else 0

-- which revision of its Deployment a set is; 0 where it does not say
abbrev pub revision : Data → ℕ
revision d = revision_said (text_in (option_and_then (get revision_annotation) (metadata (codes "annotations") d)))

abbrev pub greatest : List ℕ → ℕ
greatest [] = 0
greatest (n ∷ ns) = max n (greatest ns)

-- the greatest number of 18 digits: one above it would be read as 0 once it is written
abbrev pub greatest_revision : ℕ
greatest_revision = 999999999999999999

-- the revision after all of these, as far as revisions go
abbrev pub next_revision : List ℕ → ℕ
next_revision ns = min (greatest ns + 1) greatest_revision

-- annotations that say a revision
abbrev pub annotated : ℕ → Fields → Fields
annotated n ms = put revision_annotation (string (decimal n)) ms

abbrev pub with_revision : ℕ → Data → Data
with_revision n d = with_metadata (put (codes "annotations") (object (annotated n (inner_of (metadata (codes "annotations") d)))) (metadata_of d)) d

-- a revision is never lowered
abbrev pub raised : ℕ → Data → Data
raised due d = if nat_lt (revision d) due then with_revision due d else d
