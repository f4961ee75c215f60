-- A body that is read as a text is one.
use Rattle.std.proofs.Common.{ap, subst}
use Rattle.std.specs.Str.{IsUtf8}
use Rattle.std.proofs.lemmas.Str.{IsUtf8-string_bytes}
use Rattle.spec_sim.specs.Turns.{accepted}
use Rattle.reconcile_turn.specs.Seen.{data_of}
use Rattle.manager_worker.proofs.answers.accepted.Goals as goal

pub returns-in-Ok : goal.returns-in-Ok
returns-in-Ok c =
    let same = ap (λ v. v.items) c.in-Ok.ensures.ok in
    record { text = λ u. ap (λ b. accepted c.args.reply.code (data_of b)) same; none = λ n. absurd (n (subst IsUtf8 same (IsUtf8-string_bytes c.in-Ok.text))) }
