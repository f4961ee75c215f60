-- Of the next key that comes due the board of controllers tells what that of work keys does.
use Rattle.std.proofs.Common.{sym, ◌∙◌, ◌+◌}
use Rattle.spec_client_go.proofs.WorkKeyOrder.{work_key_total, work_key_tells}
use Rattle.spec_client_go.specs.Boards.{Board}
use Rattle.spec_client_go.specs.WorkQueues.{work_key_cmp}
use Rattle.keyed_queues.proofs.WorkDelays.{same_due}
use Rattle.keyed_queues.specs.Queues.{idle}
use Rattle.boards.proofs.DueTold.{due_told}
use Rattle.boards.specs.Boards.{KeyBoard}
use Rattle.work_board.specs.DueLaws.{DueIsTold}

-- of the board's delays, failures and time
abbrev keys_of : Board → KeyBoard work_key_cmp Board
keys_of b = record { work = idle; delays = b.delays; failures = b.failures; side = b; time = b.time }

pub due_is_told : DueIsTold
due_is_told b =
    let told = due_told work_key_cmp work_key_total work_key_tells Board (keys_of b) in (
      λ ms h.
          let is = told.0 ms h in
          record {
            before = λ passed lt. sym (same_due (b.time + passed) b.delays) ∙ is.before passed lt;
            on_time = λ none. is.on_time (same_due (b.time + ms) b.delays ∙ none);
          },
      λ h now. sym (same_due now b.delays) ∙ told.1 h now,
    )
