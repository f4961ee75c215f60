-- Lines that the worked facts share.
use Rattle.std.specs.Prelude.{ℕ, List, [], ◌∷◌, ◌++◌, flat_map, codes, decimal}

-- lines, each with its newline
abbrev pub text : List (List ℕ) → List ℕ
text ls = flat_map (λ l. l ++ 10 ∷ []) ls

-- a create of a ConfigMap, with these members before its metadata
abbrev pub create : List ℕ → List ℕ → List ℕ
create name extra = codes "request POST /api/v1/namespaces/default/configmaps {" ++ (extra ++ (codes "\"metadata\":{\"name\":\"" ++ (name ++ codes "\"}}")))

-- its reply, where its write has this revision
abbrev pub created : List ℕ → List ℕ → ℕ → List ℕ
created name extra r =
    codes "201 {\"apiVersion\":\"v1\","
    ++ (extra
    ++ (codes "\"kind\":\"ConfigMap\",\"metadata\":{\"creationTimestamp\":\"2026-01-01T00:00:00Z\",\"name\":\""
    ++ (name
    ++ (codes "\",\"namespace\":\"default\",\"resourceVersion\":\""
    ++ (decimal r ++ (codes "\",\"uid\":\"00000000-0000-8000-8000-00000000000" ++ (decimal r ++ codes "\"}}")))))))

abbrev pub bad_line : List ℕ
bad_line = codes "400 {\"apiVersion\":\"v1\",\"code\":400,\"kind\":\"Status\",\"message\":\"bad request: head\",\"metadata\":{},\"reason\":\"BadRequest\",\"status\":\"Failure\"}"

-- data whose value is a letter of two bytes
abbrev pub accent : List ℕ
accent = codes "\"data\":{\"k\":\"" ++ (195 ∷ 169 ∷ codes "\"},")
