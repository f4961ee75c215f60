-- The lines by which the outcomes of a control plane are told.
use Rattle.std.specs.Prelude.{ℕ, List, [], ◌∷◌, ◌++◌, Option, Some, None, unwrap_or, codes, decimal, if◌then◌else◌}
use Rattle.spec_api.specs.Checks.{generate_name}
use Rattle.spec_api.specs.Keys.{Key}
use Rattle.spec_api.specs.Kinds.{plural}
use Rattle.spec_api.specs.Metadata.{name}
use Rattle.spec_client_go.specs.declared.controller.Controller.{Controller}
use Rattle.spec_client_go.specs.declared.controller.Controller.TheVariants.{ReplicaSet, Deployment, Collector}
use Rattle.spec_client_go.specs.Commands.{Command, create, update, update_status, delete}
use Rattle.spec_client_go.specs.WorkQueues.{WorkKey}
use Rattle.spec_sim.specs.OutcomeTexts as cluster_texts
use Rattle.spec_sim.specs.OutcomeTexts.{words_line}
use Rattle.spec_sim.specs.Outcomes.{Outcome, of_cluster, handled, took, looked, satisfied, read, expected, issued, finished, time}
use Rattle.spec_sim.specs.Turns.{Answer, accepted, refused, lost}

-- a key by its resource, namespace and name, with slashes between them
abbrev pub key_text : Key → List ℕ
key_text k = plural k.kind ++ (47 ∷ (k.namespace ++ (47 ∷ k.name)))

abbrev pub controller_text : Controller → List ℕ
controller_text ReplicaSet = codes "rs"
controller_text Deployment = codes "deploy"
controller_text Collector = codes "gc"

abbrev pub work_key_words : Option WorkKey → List (List ℕ)
work_key_words None = codes "none" ∷ []
work_key_words (Some k) = controller_text k.controller ∷ key_text k.key ∷ []

abbrev pub verb : Command → List ℕ
verb (create k ns d) = codes "create"
verb (update k d) = codes "update"
verb (update_status k d) = codes "status"
verb (delete k u v p) = codes "delete"

-- the key of a command's object; where the server makes its name, what the name is made of stands for it
abbrev pub key_of : Command → Key
key_of (create k ns d) = record { kind = k; namespace = ns; name = unwrap_or (name d) (unwrap_or (generate_name d) []) }
key_of (update k d) = k
key_of (update_status k d) = k
key_of (delete k u v p) = k

abbrev pub answer_text : Answer → List ℕ
answer_text (accepted code body) = decimal code
answer_text (refused code) = decimal code
answer_text lost = codes "lost"

-- what is told of the cluster stands as it is; other outcomes are told by a word, and then what they say
abbrev pub outcome_text : Outcome → List ℕ
outcome_text (of_cluster o) = cluster_texts.outcome_text o
outcome_text (handled k n) = words_line (codes "handled") (plural k ∷ decimal n ∷ [])
outcome_text (took w k) = words_line (codes "took") (decimal w ∷ work_key_words k)
outcome_text (looked w k r) = words_line (codes "looked") (decimal w ∷ plural k ∷ decimal r ∷ [])
outcome_text (satisfied w b) = words_line (codes "satisfied") (decimal w ∷ (if b then codes "yes" else codes "no") ∷ [])
outcome_text (read w k v) = words_line (codes "read") (decimal w ∷ key_text k ∷ unwrap_or v (codes "absent") ∷ [])
outcome_text (expected w n m) = words_line (codes "expected") (decimal w ∷ decimal n ∷ decimal m ∷ [])
outcome_text (issued w c a) = words_line (codes "issued") (decimal w ∷ verb c ∷ key_text (key_of c) ∷ answer_text a ∷ [])
outcome_text (finished w b) = words_line (codes "finished") (decimal w ∷ (if b then codes "done" else codes "retry") ∷ [])
outcome_text (time n) = words_line (codes "time") (decimal n ∷ [])
