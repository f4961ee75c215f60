-- Codes by which models may store turns, and what was issued in them.
use Rattle.std.proofs.Common.{◌⊎◌, inl, inr, ◌≡◌}
use Rattle.std.specs.Prelude.{ℕ, List, Bool, Option, Some, None, refl}
use Rattle.std.specs.Coded.{Coded, code_by, coded×, coded⊎, coded_ℕ, coded_bool, coded_list, coded_option}
use Rattle.serde_json.specs.Data.{Data}
use Rattle.model_encodings.specs.Codes.{coded_text, coded_data}
use Rattle.model_encodings.specs.HistoryCodes.{coded_key}
use Rattle.spec_api.specs.contracts.kinds.Kind as kind
use Rattle.spec_api.specs.contracts.policies.Policy as policy
use Rattle.spec_api.specs.declared.kinds.Kind.{Kind}
use Rattle.spec_api.specs.declared.policies.Policy.{Policy}
use Rattle.spec_api.specs.Keys.{Key}
use Rattle.spec_server.specs.Codes.{coded_snapshot}
use Rattle.spec_server.specs.Snapshots.{Snapshot}
use Rattle.spec_client_go.specs.Codes.{coded_work_key}
use Rattle.spec_client_go.specs.Commands.{Version, seen, answered, Command, create, update, update_status, delete}
use Rattle.spec_client_go.specs.Hands.{Read}
use Rattle.spec_client_go.specs.WorkQueues.{WorkKey}
use Rattle.spec_sim.specs.Managers.{Issued}
use Rattle.spec_sim.specs.Turns.{Sight, looked, satisfied, Answer, accepted, refused, lost, Issue, Turn}

-- ---- what is seen

abbrev pub sight_parts : Sight → (Kind × Snapshot) ⊎ Bool
sight_parts (looked k s) = inl (k, s)
sight_parts (satisfied b) = inr b

abbrev pub sight_from : (Kind × Snapshot) ⊎ Bool → Sight
sight_from (inl p) = looked p.0 p.1
sight_from (inr b) = satisfied b

pub sight_back : (s : Sight) → sight_from (sight_parts s) ≡ s
sight_back (looked k s) = refl
sight_back (satisfied b) = refl

abbrev pub coded_sight : Coded Sight
coded_sight = code_by ((Kind × Snapshot) ⊎ Bool) (coded⊎ (coded× kind.the_row.coded coded_snapshot) coded_bool) sight_parts sight_from sight_back

abbrev pub coded_read : Coded Read
coded_read = code_by (Key × Option Data) (coded× coded_key (coded_option coded_data)) (λ r. (r.key, r.found)) (λ p. record { key = p.0; found = p.1 }) (λ _. refl)

-- ---- what is issued

abbrev pub version_parts : Version → Option (List ℕ)
version_parts (seen v) = Some v
version_parts answered = None

abbrev pub version_from : Option (List ℕ) → Version
version_from (Some v) = seen v
version_from None = answered

pub version_back : (v : Version) → version_from (version_parts v) ≡ v
version_back (seen v) = refl
version_back answered = refl

abbrev pub coded_version : Coded Version
coded_version = code_by (Option (List ℕ)) (coded_option coded_text) version_parts version_from version_back

abbrev pub Deletion : Type 0
Deletion = (Key × Option (List ℕ)) × (Option Version × Option Policy)

abbrev pub CommandParts : Type 0
CommandParts = ((Kind × (List ℕ × Data)) ⊎ (Key × Data)) ⊎ ((Key × Data) ⊎ Deletion)

abbrev pub command_parts : Command → CommandParts
command_parts (create k ns d) = inl (inl (k, (ns, d)))
command_parts (update k d) = inl (inr (k, d))
command_parts (update_status k d) = inr (inl (k, d))
command_parts (delete k u v p) = inr (inr ((k, u), (v, p)))

abbrev pub command_from : CommandParts → Command
command_from (inl (inl p)) = create p.0 p.1.0 p.1.1
command_from (inl (inr p)) = update p.0 p.1
command_from (inr (inl p)) = update_status p.0 p.1
command_from (inr (inr p)) = delete p.0.0 p.0.1 p.1.0 p.1.1

pub command_back : (c : Command) → command_from (command_parts c) ≡ c
command_back (create k ns d) = refl
command_back (update k d) = refl
command_back (update_status k d) = refl
command_back (delete k u v p) = refl

abbrev pub coded_command : Coded Command
coded_command =
    code_by CommandParts
    (coded⊎ (coded⊎ (coded× kind.the_row.coded (coded× coded_text coded_data)) (coded× coded_key coded_data))
    (coded⊎ (coded× coded_key coded_data) (coded× (coded× coded_key (coded_option coded_text)) (coded× (coded_option coded_version) (coded_option policy.the_row.coded)))))
    command_parts command_from command_back

abbrev pub answer_parts : Answer → (ℕ × Data) ⊎ Option ℕ
answer_parts (accepted code body) = inl (code, body)
answer_parts (refused code) = inr (Some code)
answer_parts lost = inr None

abbrev pub answer_from : (ℕ × Data) ⊎ Option ℕ → Answer
answer_from (inl p) = accepted p.0 p.1
answer_from (inr (Some code)) = refused code
answer_from (inr None) = lost

pub answer_back : (a : Answer) → answer_from (answer_parts a) ≡ a
answer_back (accepted code body) = refl
answer_back (refused code) = refl
answer_back lost = refl

abbrev pub coded_answer : Coded Answer
coded_answer = code_by ((ℕ × Data) ⊎ Option ℕ) (coded⊎ (coded× coded_ℕ coded_data) (coded_option coded_ℕ)) answer_parts answer_from answer_back

abbrev pub coded_issue : Coded Issue
coded_issue = code_by (Command × Answer) (coded× coded_command coded_answer) (λ i. (i.command, i.answer)) (λ p. record { command = p.0; answer = p.1 }) (λ _. refl)

-- ---- turns

abbrev pub coded_turn : Coded Turn
coded_turn =
    code_by ((WorkKey × (List Sight × List Read)) × (Bool × List Issue))
    (coded× (coded× coded_work_key (coded× (coded_list coded_sight) (coded_list coded_read))) (coded× coded_bool (coded_list coded_issue)))
    (λ t. ((t.work_key, (t.sights, t.reads)), (t.has_expected, t.issues)))
    (λ p. record { work_key = p.0.0; sights = p.0.1.0; reads = p.0.1.1; has_expected = p.1.0; issues = p.1.1 }) (λ _. refl)

abbrev pub coded_issued : Coded Issued
coded_issued = code_by (Turn × (Command × Answer)) (coded× coded_turn (coded× coded_command coded_answer)) (λ i. (i.turn, (i.command, i.answer))) (λ p. record { turn = p.0; command = p.1.0; answer = p.1.1 }) (λ _. refl)
