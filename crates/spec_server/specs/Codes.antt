-- Codes by which models may store windows, snapshots and servers.
use Rattle.std.proofs.Common.{ap, ◌∙◌}
use Rattle.std.proofs.lemmas.Option.{slice_get-map}
use Rattle.std.specs.Prelude.{◌≡◌, ℕ, List, Option, map, option_map, unwrap_or, slice_get, refl}
use Rattle.std.specs.Coded.{Coded, code_by, coded×, coded_ℕ, coded_list, coded_option}
use Rattle.serde_json.specs.Data.{Data}
use Rattle.spec_api.specs.declared.kinds.Kind.{Kind}
use Rattle.spec_api.specs.contracts.kinds.Kind as kind
use Rattle.spec_api.specs.Kinds.{kinds, rank, kinds_at}
use Rattle.model_encodings.specs.Codes.{coded_data}
use Rattle.model_encodings.specs.HistoryCodes.{coded_key}
use Rattle.spec_api.specs.Keys.{Key}
use Rattle.spec_api.specs.Windows.{Change}
use Rattle.spec_server.specs.Recorded.{Window, opened}
use Rattle.spec_api.specs.History.{Entries}
use Rattle.spec_server.specs.Snapshots.{Snapshot}
use Rattle.spec_server.specs.Servers.{Server}

abbrev pub coded_change : Coded Change
coded_change =
    code_by ((ℕ × Key) × (Option Data × Option Data)) (coded× (coded× coded_ℕ coded_key) (coded× (coded_option coded_data) (coded_option coded_data)))
    (λ k. ((k.revision, k.key), (k.old, k.new))) (λ p. record { revision = p.0.0; key = p.0.1; old = p.1.0; new = p.1.1 }) (λ _. refl)

abbrev pub coded_window : Coded Window
coded_window =
    code_by ((Kind × ℕ) × (List Change × ℕ)) (coded× (coded× kind.the_row.coded coded_ℕ) (coded× (coded_list coded_change) coded_ℕ))
    (λ w. ((w.kind, w.size), (w.kept, w.floor))) (λ p. record { kind = p.0.0; size = p.0.1; kept = p.1.0; floor = p.1.1 }) (λ _. refl)

abbrev pub coded_members : Coded Entries
coded_members = coded_list (coded× coded_key coded_data)

abbrev pub coded_snapshot : Coded Snapshot
coded_snapshot = code_by (Entries × ℕ) (coded× coded_members coded_ℕ) (λ s. (s.members, s.revision)) (λ p. record { members = p.0; revision = p.1 }) (λ _. refl)

-- the windows of all kinds in a list, and back
abbrev pub window_at : List Window → Kind → Window
window_at ws k = unwrap_or (slice_get ws (rank k)) (opened k 0)

pub window_at-listed : (f : Kind → Window) (k : Kind) → window_at (map f kinds) k ≡ f k
window_at-listed f k = ap (λ o. unwrap_or o (opened k 0)) (slice_get-map f kinds (rank k) ∙ ap (option_map f) (kinds_at k))

abbrev pub coded_windows : Coded (Kind → Window)
coded_windows = code_by (List Window) (coded_list coded_window) (λ f. map f kinds) window_at (λ f. λ i. λ k. window_at-listed f k i)

abbrev pub coded_server : Coded Server
coded_server =
    code_by (Snapshot × (Kind → Window)) (coded× coded_snapshot coded_windows) (λ s. (s.snapshot, s.windows)) (λ p. record { snapshot = p.0; windows = p.1 }) (λ _. refl)
