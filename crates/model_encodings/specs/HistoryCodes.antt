-- Codes by which models may hold names, writes and histories.
use Rattle.std.specs.Prelude.{ℕ, List, Option, refl}
use Rattle.std.specs.Coded.{Coded, code_by, coded×, coded⊎, coded_ℕ, coded_list, coded_option}
use Rattle.std.proofs.Common.{◌⊎◌, inl, inr, ◌≡◌}
use Rattle.serde_json.specs.Data.{Data}
use Rattle.spec_api.specs.declared.kinds.Kind.{Kind}
use Rattle.spec_api.specs.contracts.kinds.Kind as kind
use Rattle.model_encodings.specs.Codes.{coded_data, coded_text}
use Rattle.spec_api.specs.Keys.{Key}
use Rattle.spec_api.specs.History.{Write, Entry, write, compaction, History}

abbrev pub coded_key : Coded Key
coded_key =
    code_by (Kind × (List ℕ × List ℕ)) (coded× kind.the_row.coded (coded× coded_text coded_text)) (λ n. (n.kind, (n.namespace, n.name))) (λ p. record { kind = p.0; namespace = p.1.0; name = p.1.1 }) (λ _. refl)

abbrev pub coded_write : Coded Write
coded_write = code_by (Key × Option Data) (coded× coded_key (coded_option coded_data)) (λ w. (w.key, w.put)) (λ p. record { key = p.0; put = p.1 }) (λ _. refl)

abbrev pub entry_parts : Entry → Write ⊎ ℕ
entry_parts (write w) = inl w
entry_parts (compaction r) = inr r

abbrev pub entry_from : Write ⊎ ℕ → Entry
entry_from (inl w) = write w
entry_from (inr r) = compaction r

pub entry_back : (e : Entry) → entry_from (entry_parts e) ≡ e
entry_back (write w) = refl
entry_back (compaction r) = refl

abbrev pub coded_entry : Coded Entry
coded_entry = code_by (Write ⊎ ℕ) (coded⊎ coded_write coded_ℕ) entry_parts entry_from entry_back

abbrev pub coded_history : Coded History
coded_history = coded_list coded_entry
