-- What a served request says of its outcome.
use Rattle.std.proofs.Common.{◌≡◌, ℕ, List, false, Option, Some, Ok, IfSome, option_map, sym, ap, ◌∙◌, subst}
use Rattle.spec_api.specs.History.{Entries}
use Rattle.spec_api.specs.Verbs as outcomes
use Rattle.spec_api.specs.Verbs.{Outcome, answered, refused, accept_at, overflows}
use Rattle.spec_api.specs.ObjectRequests.{Request}
use Rattle.spec_laws.proofs.Limits.{room}
use Rattle.meta.specs.Writes.{write_of}
use Rattle.meta.specs.declared.writes.Write.{Write}
use Rattle.reply.specs.declared.reply.Reply.{Reply}
use Rattle.verb_parts.specs.Serves.{Serves}

pub served_write : (o : Outcome) (r : Reply) (w : Option Write) → Serves o (Ok (r, w)) → option_map write_of w ≡ outcomes.write_of o
served_write (answered a) r w is = is.write
served_write (refused f) r w is = absurd is

-- what is served has room
pub served_room : (ms : Entries) (r : ℕ) (moment : List ℕ) (q : Request) (reply : Reply) (o : Option Write) (w : Write) → Serves (accept_at q ms r moment) (Ok (reply, o)) → o ≡ Some w
    → overflows ms r (write_of w) ≡ false
served_room ms r moment q reply o w is at =
    let written : Some (write_of w) ≡ outcomes.write_of (accept_at q ms r moment) = sym (ap (option_map write_of) at) ∙ served_write (accept_at q ms r moment) reply o is in
    subst (λ z. IfSome z (λ e. overflows ms r e ≡ false)) (sym written) (room q ms r moment)
