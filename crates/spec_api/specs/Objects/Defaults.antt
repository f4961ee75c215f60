-- What is filled in where it is absent, before an object is checked and stored (Kubernetes API reference, ReplicaSetSpec and DeploymentSpec).
use Rattle.std.specs.Prelude.{ℕ, List, Bool, option_map, unwrap_or, codes, if◌then◌else◌}
use Rattle.std.specs.Str.{bytes_eq}
use Rattle.spec_api.specs.Texts.Values.{Data, number, unsigned, string, get, with_member, with_default}
use Rattle.spec_api.specs.declared.kinds.Kind.{Kind}
use Rattle.spec_api.specs.declared.kinds.Kind.TheVariants.{ReplicaSet, Deployment}
use Rattle.spec_api.specs.Objects.Metadata.{text_at}
use Rattle.spec_api.specs.Objects.Reading.{empty}
use Rattle.spec_api.specs.Objects.SelectorValues.{is_some_and}

abbrev pub unsigned_value : ℕ → Data
unsigned_value n = number (unsigned n)

-- the value with this member changed, if it has the member
abbrev pub with_changed : List ℕ → (Data → Data) → Data → Data
with_changed k change d = unwrap_or (option_map (λ e. with_member k (change e) d) (get k d)) d

abbrev pub rolling_defaults : Data → Data
rolling_defaults d = with_default (codes "maxUnavailable") (string (codes "25%")) (with_default (codes "maxSurge") (string (codes "25%")) d)

abbrev pub is_rolling_update : Data → Bool
is_rolling_update d = is_some_and (bytes_eq (codes "RollingUpdate")) (text_at (codes "type") d)

-- a rolling update has its two amounts
abbrev pub with_rolling : Data → Data
with_rolling d =
    if is_rolling_update d then with_changed (codes "rollingUpdate") rolling_defaults (with_default (codes "rollingUpdate") empty d) else d

abbrev pub strategy_defaults : Data → Data
strategy_defaults d = with_rolling (with_default (codes "type") (string (codes "RollingUpdate")) d)

abbrev pub replica_set_defaults : Data → Data
replica_set_defaults d = with_default (codes "replicas") (unsigned_value 1) d

abbrev pub deployment_defaults : Data → Data
deployment_defaults d =
    with_changed (codes "strategy") strategy_defaults
    (with_default (codes "strategy") empty (with_default (codes "revisionHistoryLimit") (unsigned_value 10) (with_default (codes "replicas") (unsigned_value 1) d)))

-- an object of a kind with the defaults of what its spec leaves out
abbrev pub defaulted : Kind → Data → Data
defaulted ReplicaSet d = with_changed (codes "spec") replica_set_defaults d
defaulted Deployment d = with_changed (codes "spec") deployment_defaults d
defaulted k d = d
