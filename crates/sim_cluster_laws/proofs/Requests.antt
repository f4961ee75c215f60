-- What a client's line does that asks a request.
use Rattle.std.proofs.Common.{◌≡◌, ℕ, List, ap, ◌∙◌}
use Rattle.spec_api.specs.History.{History}
use Rattle.spec_api.specs.Keys.{Key}
use Rattle.spec_api.specs.ObjectRequests.{Request}
use Rattle.spec_api.specs.Replies.{Session, outcome, reply_for, history_from}
use Rattle.spec_api.specs.Verbs.{accept, history_after}
use Rattle.spec_line_protocol.specs.Lines.{line_of, reply_text, reply_to, session_after}
use Rattle.spec_laws.specs.LifecycleLaws.{ReplacesVersion}
use Rattle.spec_laws.proofs.NamedVersions.{updates_version, statuses_version, patches_version, deletes_version}
use Rattle.spec_sim.specs.Moves.{replied}
use Rattle.sim_cluster_laws.specs.ClusterLaws.{Asks, NamesVersion, update, status, patch, delete, NamedVersionsAreReplaced}

pub replaces : (h : History) (k : Key) (named : List ℕ) (q : Request) (moment : List ℕ) → NamesVersion h k named q → ReplacesVersion k named h (accept q h moment)
replaces h k named q moment (update d o read names) = updates_version k d o named h moment read names
replaces h k named q moment (status d o read names) = statuses_version k d o named h moment read names
replaces h k named q moment (patch d existing o there read names) = patches_version k d existing o named h moment there read names
replaces h k named q moment (delete o names) = deletes_version k o named h moment names

asked_reply : (s : Session) (t : List ℕ) (q : Request) → Asks t q → reply_to s (line_of t) ≡ reply_text (outcome (accept q s.history s.moment))
asked_reply s t q a = ap (reply_to s) a.3 ∙ ap (λ r. reply_text (reply_for s r)) a.4

asked_next : (s : Session) (t : List ℕ) (q : Request) → Asks t q → (session_after s (line_of t)).history ≡ history_after s.history (accept q s.history s.moment)
asked_next s t q a = ap (λ l. (session_after s l).history) a.3 ∙ ap (λ r. history_from s.history (reply_for s r)) a.4

pub named_replaced : NamedVersionsAreReplaced
named_replaced c t q k named a n = (ap replied (asked_reply c.session t q a), asked_next c.session t q a, replaces c.session.history k named q c.session.moment n)
