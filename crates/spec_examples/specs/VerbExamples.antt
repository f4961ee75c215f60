-- Worked facts of creates, updates and patches, computed from the definitions: what is written for these lines.
use Rattle.std.specs.Prelude.{◌≡◌, ℕ, List, codes, ◌++◌}
use Rattle.serde_json.specs.Data.{Data}
use Rattle.spec_api.specs.declared.kinds.Kind.TheVariants.{ConfigMap}
use Rattle.spec_api.specs.History.{History}
use Rattle.spec_line_protocol.specs.Lines.{replay}
use Rattle.spec_api.specs.Refusals.{not_found}
use Rattle.spec_api.specs.Verbs.{refused, accept}
use Rattle.spec_api.specs.ObjectRequests.{update_status}

-- a name is made of the revision of the write
abbrev pub GeneratedNamesAreTried : Type 0
GeneratedNamesAreTried =
    replay
    (codes "POST /api/v1/namespaces/default/configmaps {\"metadata\":{\"generateName\":\"web-\"}}\n")
    ≡ codes "201 {\"apiVersion\":\"v1\",\"kind\":\"ConfigMap\",\"metadata\":{\"creationTimestamp\":\"2026-01-01T00:00:00Z\",\"generateName\":\"web-\",\"name\":\"web-bbbbd\",\"namespace\":\"default\",\"resourceVersion\":\"2\",\"uid\":\"00000000-0000-8000-8000-000000000002\"}}\n"

-- a made name that is taken is passed over
abbrev pub TakenNamesArePassedOver : Type 0
TakenNamesArePassedOver =
    replay
    (codes "POST /api/v1/namespaces/default/configmaps {\"metadata\":{\"name\":\"web-bbbbf\"}}\n"
    ++ codes "POST /api/v1/namespaces/default/configmaps {\"metadata\":{\"generateName\":\"web-\"}}\n")
    ≡ codes "201 {\"apiVersion\":\"v1\",\"kind\":\"ConfigMap\",\"metadata\":{\"creationTimestamp\":\"2026-01-01T00:00:00Z\",\"name\":\"web-bbbbf\",\"namespace\":\"default\",\"resourceVersion\":\"2\",\"uid\":\"00000000-0000-8000-8000-000000000002\"}}\n"
    ++ codes "201 {\"apiVersion\":\"v1\",\"kind\":\"ConfigMap\",\"metadata\":{\"creationTimestamp\":\"2026-01-01T00:00:00Z\",\"generateName\":\"web-\",\"name\":\"web-bbbbg\",\"namespace\":\"default\",\"resourceVersion\":\"3\",\"uid\":\"00000000-0000-8000-8000-000000000003\"}}\n"

-- an update that says nothing new is no write, and takes no revision
abbrev pub NothingNewIsNotWritten : Type 0
NothingNewIsNotWritten =
    replay
    (codes "POST /api/v1/namespaces/default/configmaps {\"metadata\":{\"name\":\"a\"},\"data\":{\"k\":\"v\"}}\n"
    ++ codes "PUT /api/v1/namespaces/default/configmaps/a {\"metadata\":{\"name\":\"a\"},\"data\":{\"k\":\"v\"}}\n"
    ++ codes "POST /api/v1/namespaces/default/configmaps {\"metadata\":{\"name\":\"b\"}}\n")
    ≡ codes "201 {\"apiVersion\":\"v1\",\"data\":{\"k\":\"v\"},\"kind\":\"ConfigMap\",\"metadata\":{\"creationTimestamp\":\"2026-01-01T00:00:00Z\",\"name\":\"a\",\"namespace\":\"default\",\"resourceVersion\":\"2\",\"uid\":\"00000000-0000-8000-8000-000000000002\"}}\n"
    ++ codes "200 {\"apiVersion\":\"v1\",\"data\":{\"k\":\"v\"},\"kind\":\"ConfigMap\",\"metadata\":{\"creationTimestamp\":\"2026-01-01T00:00:00Z\",\"name\":\"a\",\"namespace\":\"default\",\"resourceVersion\":\"2\",\"uid\":\"00000000-0000-8000-8000-000000000002\"}}\n"
    ++ codes "201 {\"apiVersion\":\"v1\",\"kind\":\"ConfigMap\",\"metadata\":{\"creationTimestamp\":\"2026-01-01T00:00:00Z\",\"name\":\"b\",\"namespace\":\"default\",\"resourceVersion\":\"3\",\"uid\":\"00000000-0000-8000-8000-000000000003\"}}\n"

-- a patch removes what is null in it, and leaves what it does not name
abbrev pub PatchesTakeOutNulls : Type 0
PatchesTakeOutNulls =
    replay
    (codes "POST /api/v1/namespaces/default/configmaps {\"metadata\":{\"name\":\"a\"},\"data\":{\"k\":\"v\"}}\n"
    ++ codes "PATCH /api/v1/namespaces/default/configmaps/a {\"data\":{\"k\":null,\"m\":\"w\"}}\n")
    ≡ codes "201 {\"apiVersion\":\"v1\",\"data\":{\"k\":\"v\"},\"kind\":\"ConfigMap\",\"metadata\":{\"creationTimestamp\":\"2026-01-01T00:00:00Z\",\"name\":\"a\",\"namespace\":\"default\",\"resourceVersion\":\"2\",\"uid\":\"00000000-0000-8000-8000-000000000002\"}}\n"
    ++ codes "200 {\"apiVersion\":\"v1\",\"data\":{\"m\":\"w\"},\"kind\":\"ConfigMap\",\"metadata\":{\"creationTimestamp\":\"2026-01-01T00:00:00Z\",\"name\":\"a\",\"namespace\":\"default\",\"resourceVersion\":\"3\",\"uid\":\"00000000-0000-8000-8000-000000000002\"}}\n"

-- a Deployment is stored with its defaults, its first generation and its first status
abbrev pub DeploymentsAreFilledIn : Type 0
DeploymentsAreFilledIn =
    replay
    (codes "POST /apis/apps/v1/namespaces/default/deployments {\"metadata\":{\"name\":\"d\"},\"spec\":{\"selector\":{\"matchLabels\":{\"app\":\"d\"}},\"template\":{\"metadata\":{\"labels\":{\"app\":\"d\"}},\"spec\":{}}}}\n")
    ≡ codes "201 {\"apiVersion\":\"apps/v1\",\"kind\":\"Deployment\",\"metadata\":{\"creationTimestamp\":\"2026-01-01T00:00:00Z\",\"generation\":1,\"name\":\"d\",\"namespace\":\"default\",\"resourceVersion\":\"2\",\"uid\":\"00000000-0000-8000-8000-000000000002\"},\"spec\":{\"replicas\":1,\"revisionHistoryLimit\":10,\"selector\":{\"matchLabels\":{\"app\":\"d\"}},\"strategy\":{\"rollingUpdate\":{\"maxSurge\":\"25%\",\"maxUnavailable\":\"25%\"},\"type\":\"RollingUpdate\"},\"template\":{\"metadata\":{\"labels\":{\"app\":\"d\"}},\"spec\":{}}},\"status\":{}}\n"

-- a new spec is a new generation, a new status is none; a changed selector, and two amounts of zero, are refused
abbrev pub GenerationsCountSpecs : Type 0
GenerationsCountSpecs =
    replay
    (codes "POST /apis/apps/v1/namespaces/default/deployments {\"metadata\":{\"name\":\"d\"},\"spec\":{\"selector\":{\"matchLabels\":{\"app\":\"d\"}},\"template\":{\"metadata\":{\"labels\":{\"app\":\"d\"}},\"spec\":{}}}}\n"
    ++ codes "PUT /apis/apps/v1/namespaces/default/deployments/d/status {\"metadata\":{\"name\":\"d\"},\"status\":{\"collisionCount\":1}}\n"
    ++ codes "PATCH /apis/apps/v1/namespaces/default/deployments/d {\"spec\":{\"replicas\":2}}\n"
    ++ codes "PATCH /apis/apps/v1/namespaces/default/deployments/d {\"spec\":{\"selector\":{\"matchLabels\":{\"app\":\"e\"}}}}\n"
    ++ codes "PATCH /apis/apps/v1/namespaces/default/deployments/d {\"spec\":{\"strategy\":{\"rollingUpdate\":{\"maxSurge\":0,\"maxUnavailable\":\"0%\"}}}}\n")
    ≡ codes "201 {\"apiVersion\":\"apps/v1\",\"kind\":\"Deployment\",\"metadata\":{\"creationTimestamp\":\"2026-01-01T00:00:00Z\",\"generation\":1,\"name\":\"d\",\"namespace\":\"default\",\"resourceVersion\":\"2\",\"uid\":\"00000000-0000-8000-8000-000000000002\"},\"spec\":{\"replicas\":1,\"revisionHistoryLimit\":10,\"selector\":{\"matchLabels\":{\"app\":\"d\"}},\"strategy\":{\"rollingUpdate\":{\"maxSurge\":\"25%\",\"maxUnavailable\":\"25%\"},\"type\":\"RollingUpdate\"},\"template\":{\"metadata\":{\"labels\":{\"app\":\"d\"}},\"spec\":{}}},\"status\":{}}\n"
    ++ codes "200 {\"apiVersion\":\"apps/v1\",\"kind\":\"Deployment\",\"metadata\":{\"creationTimestamp\":\"2026-01-01T00:00:00Z\",\"generation\":1,\"name\":\"d\",\"namespace\":\"default\",\"resourceVersion\":\"3\",\"uid\":\"00000000-0000-8000-8000-000000000002\"},\"spec\":{\"replicas\":1,\"revisionHistoryLimit\":10,\"selector\":{\"matchLabels\":{\"app\":\"d\"}},\"strategy\":{\"rollingUpdate\":{\"maxSurge\":\"25%\",\"maxUnavailable\":\"25%\"},\"type\":\"RollingUpdate\"},\"template\":{\"metadata\":{\"labels\":{\"app\":\"d\"}},\"spec\":{}}},\"status\":{\"collisionCount\":1}}\n"
    ++ codes "200 {\"apiVersion\":\"apps/v1\",\"kind\":\"Deployment\",\"metadata\":{\"creationTimestamp\":\"2026-01-01T00:00:00Z\",\"generation\":2,\"name\":\"d\",\"namespace\":\"default\",\"resourceVersion\":\"4\",\"uid\":\"00000000-0000-8000-8000-000000000002\"},\"spec\":{\"replicas\":2,\"revisionHistoryLimit\":10,\"selector\":{\"matchLabels\":{\"app\":\"d\"}},\"strategy\":{\"rollingUpdate\":{\"maxSurge\":\"25%\",\"maxUnavailable\":\"25%\"},\"type\":\"RollingUpdate\"},\"template\":{\"metadata\":{\"labels\":{\"app\":\"d\"}},\"spec\":{}}},\"status\":{\"collisionCount\":1}}\n"
    ++ codes "422 {\"apiVersion\":\"v1\",\"code\":422,\"kind\":\"Status\",\"message\":\"deployments.apps \\\"d\\\" is invalid: spec.selector\",\"metadata\":{},\"reason\":\"Invalid\",\"status\":\"Failure\"}\n"
    ++ codes "422 {\"apiVersion\":\"v1\",\"code\":422,\"kind\":\"Status\",\"message\":\"deployments.apps \\\"d\\\" is invalid: spec.strategy\",\"metadata\":{},\"reason\":\"Invalid\",\"status\":\"Failure\"}\n"

-- a status is not found where the kind has none, whatever the body says and whatever is there
abbrev pub ConfigMapsHaveNoStatus : Type 0
ConfigMapsHaveNoStatus =
    (namespace name : List ℕ) (d : Data) (h : History) (moment : List ℕ)
    → accept (update_status (record { kind = ConfigMap; namespace = namespace; name = name }) d) h moment ≡ refused (not_found (record { kind = ConfigMap; namespace = namespace; name = name }))
