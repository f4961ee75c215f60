-- A table of expectations, by the maps that hold it.
use Rattle.std.specs.Prelude.{ℕ, List, ◌++◌, [], ◌∷◌, map, string_bytes, String, Option, None, Some, refl}
use Rattle.std.specs.Global.{Global}
use Rattle.std.specs.Coded.{Coded, code_by, coded×, coded_ℕ, coded_list}
use Rattle.std.specs.Ordering.{nat_cmp}
use Rattle.std.specs.declared.cmp.Ordering.{Ordering}
use Rattle.std.specs.Cmp.Lexicographic.{slice_cmp}
use Rattle.std.specs.BTreeMap.{BTreeMap}
use Rattle.std.specs.FinMap as map_of
use Rattle.std.specs.FinSet as set
use Rattle.model_encodings.specs.HistoryCodes.{coded_key}
use Rattle.spec_api.specs.Keys.{Key as Name, key_cmp}
use Rattle.spec_client_go.specs.Expectations as spec
use Rattle.spec_client_go.specs.Expectations.{Owner, owner_cmp, Table, Uids}
use Rattle.expectations.specs.declared.expectation.Expectation.{Expectation}
use Rattle.object_keys.specs.Keys.{key_of}
use Rattle.object_keys.specs.declared.key.Key.{Key}
use Rattle.object_keys.specs.Seen.{seen_map, seen_set}

abbrev pub uid_cmp : List ℕ → List ℕ → Ordering
uid_cmp = slice_cmp nat_cmp

-- what one expectation says
abbrev pub expectation_of : Expectation → spec.Expectation
expectation_of e = record { creations = e.creations; deletions = seen_set uid_cmp string_bytes e.deletions.keys; since = e.since }

-- what the ReplicaSets that have had one key wait for, by uid
abbrev pub Owners : Type 0
Owners = map_of.FinMap uid_cmp spec.Expectation

abbrev pub owners_of : BTreeMap (String Global) Expectation → Owners
owners_of m = seen_map uid_cmp string_bytes expectation_of m.entries

abbrev pub changed_from : Option spec.Expectation → (spec.Expectation → spec.Expectation) → List ℕ → Owners → Owners
changed_from None f uid m = m
changed_from (Some e) f uid m = map_of.insert m uid (f e)

abbrev pub changed_at : (spec.Expectation → spec.Expectation) → List ℕ → Owners → Owners
changed_at f uid m = changed_from (map_of.get m uid) f uid m

-- those of every key
abbrev pub Nested : Type 0
Nested = map_of.FinMap key_cmp Owners

abbrev pub nested_of : List (Key × BTreeMap (String Global) Expectation) → Nested
nested_of es = seen_map key_cmp key_of owners_of es

-- all in one table, by key and uid
abbrev pub inside : Name → List (List ℕ × spec.Expectation) → List (Owner × spec.Expectation)
inside k fs = map {B = Owner × spec.Expectation} (λ f. (record { key = k; uid = f.0 }, f.1)) fs

abbrev pub flattened : List (Name × Owners) → List (Owner × spec.Expectation)
flattened [] = []
flattened (e ∷ es) = inside e.0 (map_of.entries e.1) ++ flattened es

abbrev pub flat : Nested → Table
flat n = map_of.from_entries (flattened (map_of.entries n))

-- the code by which a model may hold it
abbrev pub owner_code : Coded Owner
owner_code = code_by (Name × List ℕ) (coded× coded_key (coded_list coded_ℕ)) (λ o. (o.key, o.uid)) (λ p. record { key = p.0; uid = p.1 }) (λ _. refl)

abbrev pub uids_code : Coded Uids
uids_code = set.code (coded_list coded_ℕ)

abbrev pub expectation_code : Coded spec.Expectation
expectation_code = code_by (ℕ × (Uids × ℕ)) (coded× coded_ℕ (coded× uids_code coded_ℕ)) (λ e. (e.creations, (e.deletions, e.since))) (λ p. record { creations = p.0; deletions = p.1.0; since = p.1.1 }) (λ _. refl)

abbrev pub table_code : Coded Table
table_code = map_of.code owner_code expectation_code
