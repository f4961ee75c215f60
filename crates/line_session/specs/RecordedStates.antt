-- A session with the journal of all that has happened at it.
use Rattle.std.specs.Prelude.{ℕ, [], ◌∷◌, ◌++◌, Option, Some, None, refl}
use Rattle.std.specs.Coded.{Coded, code_by, coded×}
use Rattle.model_encodings.specs.HistoryCodes.{coded_history}
use Rattle.spec_api.specs.History as history
use Rattle.spec_api.specs.History.{History, Entry}
use Rattle.spec_line_protocol.specs.Lines.{Line}
use Rattle.line_session.specs.SessionStates as sessions
use Rattle.line_session.specs.SessionStates.{SessionState, coded_state, Effect, nothing, write, moment, compaction, effect_on}

-- a session, and its writes and compactions, the oldest first
pub record RecordedState : Type 0 where
  pub session : SessionState
  pub journal : History

-- a code by which a model may store it
abbrev pub coded_recorded : Coded RecordedState
coded_recorded =
    code_by (SessionState × History) (coded× coded_state coded_history) (λ s. (s.session, s.journal)) (λ p. record { session = p.0; journal = p.1 }) (λ _. refl)

-- nothing has happened yet
abbrev pub begun : ℕ → RecordedState
begun window = record { session = sessions.begun window; journal = [] }

-- what happens by an effect, if anything does
abbrev pub entry_in : Effect → Option Entry
entry_in nothing = None
entry_in (write w) = Some (history.write w)
entry_in (moment t) = None
entry_in (compaction r) = Some (history.compaction r)

-- a history that this is added to
abbrev pub with_entry : History → Option Entry → History
with_entry h None = h
with_entry h (Some e) = h ++ e ∷ []

-- the journal once a line is served
abbrev pub journal_after : SessionState → History → Line → History
journal_after s j l = with_entry j (entry_in (effect_on s l))
