-- Codes by which models may store the lines of a watch.
use Rattle.std.specs.Prelude.{ℕ, refl}
use Rattle.std.specs.Coded.{Coded, code_by, coded×, coded⊎, coded_ℕ}
use Rattle.std.proofs.Common.{◌⊎◌, inl, inr, ◌≡◌}
use Rattle.serde_json.specs.Data.{Data}
use Rattle.model_encodings.specs.Codes.{coded_data}
use Rattle.model_encodings.specs.HistoryCodes.{coded_key}
use Rattle.spec_api.specs.contracts.frames.ChangeKind as change
use Rattle.spec_api.specs.declared.frames.ChangeKind.{ChangeKind}
use Rattle.spec_api.specs.Events.{Event}
use Rattle.spec_api.specs.Keys.{Key}
use Rattle.spec_api.specs.Streams.{Line, event, bookmark, initial, initial_end}

abbrev pub coded_event : Coded Event
coded_event =
    code_by ((ChangeKind × ℕ) × (Key × Data)) (coded× (coded× change.the_row.coded coded_ℕ) (coded× coded_key coded_data)) (λ c. ((c.kind, c.revision), (c.key, c.object)))
    (λ p. record { kind = p.0.0; revision = p.0.1; key = p.1.0; object = p.1.1 }) (λ _. refl)

abbrev pub LineParts : Type 0
LineParts = (Event ⊎ ℕ) ⊎ ((Key × Data) ⊎ ℕ)

abbrev pub line_parts : Line → LineParts
line_parts (event c) = inl (inl c)
line_parts (bookmark r) = inl (inr r)
line_parts (initial n d) = inr (inl (n, d))
line_parts (initial_end r) = inr (inr r)

abbrev pub line_from : LineParts → Line
line_from (inl (inl c)) = event c
line_from (inl (inr r)) = bookmark r
line_from (inr (inl p)) = initial p.0 p.1
line_from (inr (inr r)) = initial_end r

pub line_back : (l : Line) → line_from (line_parts l) ≡ l
line_back (event c) = refl
line_back (bookmark r) = refl
line_back (initial n d) = refl
line_back (initial_end r) = refl

abbrev pub coded_line : Coded Line
coded_line = code_by LineParts (coded⊎ (coded⊎ coded_event coded_ℕ) (coded⊎ (coded× coded_key coded_data) coded_ℕ)) line_parts line_from line_back
