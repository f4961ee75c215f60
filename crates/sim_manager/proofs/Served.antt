-- What a worker learns of its command.
use Rattle.std.proofs.Common.{◌≡◌, ℕ, List, Option, Ok, refl, option_map}
use Rattle.std.specs.Prelude.{string_bytes}
use Rattle.spec_laws.specs.AnswerLaws.{IsOfObject}
use Rattle.verb_parts.specs.Serves.{Serves}
use Rattle.sim_cluster.specs.Requested.{IsRead}
use Rattle.spec_client_go.specs.Commands.{Command, create, update, update_status, delete, request_of}
use Rattle.spec_api.specs.Verbs.{Outcome, answered, refused, write_of}
use Rattle.meta.specs.Writes as writes
use Rattle.meta.specs.declared.writes.Write.{Write}
use Rattle.spec_sim.specs.Managers.{answer_of}
use Rattle.spec_sim.specs.Turns.{accepted}
use Rattle.reply.specs.declared.reply.Reply.{Reply}
use Rattle.reconcile_turn.specs.Seen.{data_of}

-- the reply to a command that is accepted is read as the answer
pub acceptance_of : (o : Outcome) (r : Reply) (w : Option Write) → IsRead o → Serves o (Ok (r, w)) → accepted r.code (data_of (string_bytes r.text)) ≡ answer_of o
acceptance_of (answered a) r w is_read serves = rw serves.text (rw (is_read a refl) (rw serves.code refl))
acceptance_of (refused f) r w is_read serves = absurd serves

-- and what is written is what the answer writes
pub write_served : (o : Outcome) (r : Reply) (w : Option Write) → Serves o (Ok (r, w)) → option_map writes.write_of w ≡ write_of o
write_served (answered a) r w serves = serves.write
write_served (refused f) r w serves = absurd serves

-- no command asks for a list
pub asks_of_object : (v : Option (List ℕ)) (x : Command) → IsOfObject (request_of v x)
asks_of_object v (create k ns d) = tt
asks_of_object v (update k d) = tt
asks_of_object v (update_status k d) = tt
asks_of_object v (delete k u n p) = tt
