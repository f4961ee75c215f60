-- The counts that objects say (Kubernetes API reference, ReplicaSetSpec, ReplicaSetStatus, DeploymentSpec and DeploymentStatus).
use Rattle.std.specs.Prelude.{ℕ, List, Option, codes, unwrap_or, ℤ, pos, negsuc}
use Rattle.serde_json.specs.Data.{Data}
use Rattle.spec_api.specs.Checks.{in_spec, in_status, whole_of}

abbrev pub not_below_0 : ℤ → ℕ
not_below_0 (pos n) = n
not_below_0 (negsuc n) = 0

-- a whole number; 0 where none is
abbrev pub count : Option Data → ℕ
count found = not_below_0 (unwrap_or (whole_of found) (pos 0))

abbrev pub count_in_spec : List ℕ → Data → ℕ
count_in_spec k d = count (in_spec k d)

abbrev pub count_in_status : List ℕ → Data → ℕ
count_in_status k d = count (in_status k d)

-- how many pods it is to have
abbrev pub replicas : Data → ℕ
replicas d = count_in_spec (codes "replicas") d
