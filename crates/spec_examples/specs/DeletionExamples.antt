-- Worked facts of deletes, computed from the definitions: what is written for these lines.
use Rattle.std.specs.Prelude.{◌≡◌, codes, ◌++◌}
use Rattle.spec_line_protocol.specs.Lines.{replay}

-- an object with a finalizer has its deletionTimestamp set and stays, gets no other finalizer, and is removed with its last one
abbrev pub FinalizersKeepTheirObject : Type 0
FinalizersKeepTheirObject =
    replay
    (codes "POST /api/v1/namespaces/default/configmaps {\"metadata\":{\"name\":\"a\",\"finalizers\":[\"example.com/f\"]}}\n"
    ++ codes "DELETE /api/v1/namespaces/default/configmaps/a\n"
    ++ codes "PUT /api/v1/namespaces/default/configmaps/a {\"metadata\":{\"name\":\"a\",\"finalizers\":[\"example.com/f\",\"example.com/g\"]}}\n"
    ++ codes "PUT /api/v1/namespaces/default/configmaps/a {\"metadata\":{\"name\":\"a\",\"finalizers\":[]}}\n"
    ++ codes "GET /api/v1/namespaces/default/configmaps/a\n"
    ++ codes "GET /api/v1/namespaces/default/configmaps?watch=true&resourceVersion=3\n")
    ≡ codes "201 {\"apiVersion\":\"v1\",\"kind\":\"ConfigMap\",\"metadata\":{\"creationTimestamp\":\"2026-01-01T00:00:00Z\",\"finalizers\":[\"example.com/f\"],\"name\":\"a\",\"namespace\":\"default\",\"resourceVersion\":\"2\",\"uid\":\"00000000-0000-8000-8000-000000000002\"}}\n"
    ++ codes "200 {\"apiVersion\":\"v1\",\"kind\":\"ConfigMap\",\"metadata\":{\"creationTimestamp\":\"2026-01-01T00:00:00Z\",\"deletionTimestamp\":\"2026-01-01T00:00:00Z\",\"finalizers\":[\"example.com/f\"],\"name\":\"a\",\"namespace\":\"default\",\"resourceVersion\":\"3\",\"uid\":\"00000000-0000-8000-8000-000000000002\"}}\n"
    ++ codes "422 {\"apiVersion\":\"v1\",\"code\":422,\"kind\":\"Status\",\"message\":\"configmaps \\\"a\\\" is invalid: metadata.finalizers\",\"metadata\":{},\"reason\":\"Invalid\",\"status\":\"Failure\"}\n"
    ++ codes "200 {\"apiVersion\":\"v1\",\"kind\":\"ConfigMap\",\"metadata\":{\"creationTimestamp\":\"2026-01-01T00:00:00Z\",\"deletionTimestamp\":\"2026-01-01T00:00:00Z\",\"name\":\"a\",\"namespace\":\"default\",\"resourceVersion\":\"4\",\"uid\":\"00000000-0000-8000-8000-000000000002\"}}\n"
    ++ codes "404 {\"apiVersion\":\"v1\",\"code\":404,\"details\":{\"kind\":\"configmaps\",\"name\":\"a\"},\"kind\":\"Status\",\"message\":\"configmaps \\\"a\\\" not found\",\"metadata\":{},\"reason\":\"NotFound\",\"status\":\"Failure\"}\n"
    ++ codes "200 watch 1\n{\"object\":{\"apiVersion\":\"v1\",\"kind\":\"ConfigMap\",\"metadata\":{\"creationTimestamp\":\"2026-01-01T00:00:00Z\",\"deletionTimestamp\":\"2026-01-01T00:00:00Z\",\"finalizers\":[\"example.com/f\"],\"name\":\"a\",\"namespace\":\"default\",\"resourceVersion\":\"4\",\"uid\":\"00000000-0000-8000-8000-000000000002\"}},\"type\":\"DELETED\"}\n"

-- a precondition that is not met, and a dry run, leave the object; a delete without either removes it
abbrev pub DeletesAreConditional : Type 0
DeletesAreConditional =
    replay
    (codes "POST /api/v1/namespaces/default/configmaps {\"metadata\":{\"name\":\"a\"},\"data\":{\"k\":\"v\"}}\n"
    ++ codes "DELETE /api/v1/namespaces/default/configmaps/a {\"preconditions\":{\"resourceVersion\":\"9\"}}\n"
    ++ codes "DELETE /api/v1/namespaces/default/configmaps/a {\"dryRun\":[\"All\"]}\n"
    ++ codes "DELETE /api/v1/namespaces/default/configmaps/a\n")
    ≡ codes "201 {\"apiVersion\":\"v1\",\"data\":{\"k\":\"v\"},\"kind\":\"ConfigMap\",\"metadata\":{\"creationTimestamp\":\"2026-01-01T00:00:00Z\",\"name\":\"a\",\"namespace\":\"default\",\"resourceVersion\":\"2\",\"uid\":\"00000000-0000-8000-8000-000000000002\"}}\n"
    ++ codes "409 {\"apiVersion\":\"v1\",\"code\":409,\"details\":{\"kind\":\"configmaps\",\"name\":\"a\"},\"kind\":\"Status\",\"message\":\"Operation cannot be fulfilled on configmaps \\\"a\\\": the precondition on resourceVersion is not met\",\"metadata\":{},\"reason\":\"Conflict\",\"status\":\"Failure\"}\n"
    ++ codes "400 {\"apiVersion\":\"v1\",\"code\":400,\"kind\":\"Status\",\"message\":\"bad request: options\",\"metadata\":{},\"reason\":\"BadRequest\",\"status\":\"Failure\"}\n"
    ++ codes "200 {\"apiVersion\":\"v1\",\"details\":{\"kind\":\"configmaps\",\"name\":\"a\",\"uid\":\"00000000-0000-8000-8000-000000000002\"},\"kind\":\"Status\",\"metadata\":{},\"status\":\"Success\"}\n"

-- a policy is a finalizer: it marks once, and another policy takes it away
abbrev pub PoliciesAreFinalizers : Type 0
PoliciesAreFinalizers =
    replay
    (codes "POST /apis/apps/v1/namespaces/default/replicasets {\"metadata\":{\"name\":\"r\"},\"spec\":{\"selector\":{\"matchLabels\":{\"app\":\"r\"}},\"template\":{\"metadata\":{\"labels\":{\"app\":\"r\"}},\"spec\":{}}}}\n"
    ++ codes "DELETE /apis/apps/v1/namespaces/default/replicasets/r?propagationPolicy=Foreground\n"
    ++ codes "DELETE /apis/apps/v1/namespaces/default/replicasets/r?propagationPolicy=Foreground\n"
    ++ codes "DELETE /apis/apps/v1/namespaces/default/replicasets/r?propagationPolicy=Background\n")
    ≡ codes "201 {\"apiVersion\":\"apps/v1\",\"kind\":\"ReplicaSet\",\"metadata\":{\"creationTimestamp\":\"2026-01-01T00:00:00Z\",\"generation\":1,\"name\":\"r\",\"namespace\":\"default\",\"resourceVersion\":\"2\",\"uid\":\"00000000-0000-8000-8000-000000000002\"},\"spec\":{\"replicas\":1,\"selector\":{\"matchLabels\":{\"app\":\"r\"}},\"template\":{\"metadata\":{\"labels\":{\"app\":\"r\"}},\"spec\":{}}},\"status\":{\"replicas\":0}}\n"
    ++ codes "202 {\"apiVersion\":\"apps/v1\",\"kind\":\"ReplicaSet\",\"metadata\":{\"creationTimestamp\":\"2026-01-01T00:00:00Z\",\"deletionTimestamp\":\"2026-01-01T00:00:00Z\",\"finalizers\":[\"foregroundDeletion\"],\"generation\":2,\"name\":\"r\",\"namespace\":\"default\",\"resourceVersion\":\"3\",\"uid\":\"00000000-0000-8000-8000-000000000002\"},\"spec\":{\"replicas\":1,\"selector\":{\"matchLabels\":{\"app\":\"r\"}},\"template\":{\"metadata\":{\"labels\":{\"app\":\"r\"}},\"spec\":{}}},\"status\":{\"replicas\":0}}\n"
    ++ codes "202 {\"apiVersion\":\"apps/v1\",\"kind\":\"ReplicaSet\",\"metadata\":{\"creationTimestamp\":\"2026-01-01T00:00:00Z\",\"deletionTimestamp\":\"2026-01-01T00:00:00Z\",\"finalizers\":[\"foregroundDeletion\"],\"generation\":2,\"name\":\"r\",\"namespace\":\"default\",\"resourceVersion\":\"3\",\"uid\":\"00000000-0000-8000-8000-000000000002\"},\"spec\":{\"replicas\":1,\"selector\":{\"matchLabels\":{\"app\":\"r\"}},\"template\":{\"metadata\":{\"labels\":{\"app\":\"r\"}},\"spec\":{}}},\"status\":{\"replicas\":0}}\n"
    ++ codes "200 {\"apiVersion\":\"v1\",\"details\":{\"group\":\"apps\",\"kind\":\"replicasets\",\"name\":\"r\",\"uid\":\"00000000-0000-8000-8000-000000000002\"},\"kind\":\"Status\",\"metadata\":{},\"status\":\"Success\"}\n"

-- a removed Pod is answered as it stood, at the revision of its removal
abbrev pub RemovedPodsAreAnswered : Type 0
RemovedPodsAreAnswered =
    replay
    (codes "POST /api/v1/namespaces/default/pods {\"metadata\":{\"name\":\"p\",\"finalizers\":[\"orphan\"]}}\n"
    ++ codes "DELETE /api/v1/namespaces/default/pods/p?propagationPolicy=Background\n")
    ≡ codes "201 {\"apiVersion\":\"v1\",\"kind\":\"Pod\",\"metadata\":{\"creationTimestamp\":\"2026-01-01T00:00:00Z\",\"finalizers\":[\"orphan\"],\"name\":\"p\",\"namespace\":\"default\",\"resourceVersion\":\"2\",\"uid\":\"00000000-0000-8000-8000-000000000002\"},\"spec\":{},\"status\":{\"phase\":\"Pending\"}}\n"
    ++ codes "200 {\"apiVersion\":\"v1\",\"kind\":\"Pod\",\"metadata\":{\"creationTimestamp\":\"2026-01-01T00:00:00Z\",\"finalizers\":[\"orphan\"],\"name\":\"p\",\"namespace\":\"default\",\"resourceVersion\":\"3\",\"uid\":\"00000000-0000-8000-8000-000000000002\"},\"spec\":{},\"status\":{\"phase\":\"Pending\"}}\n"
