use Rattle.std.proofs.Common.{◌+◌, ◌*◌, length}
use Rattle.http_event_loop.proofs.rows.+row.Given as goal

abbrev pub decreases-run_row : goal.decreases-run_row
decreases-run_row g l = 3 * length l.row.now

abbrev pub decreases-run_beside : goal.decreases-run_beside
decreases-run_beside g l = 3 * length l.rest.now + 2

abbrev pub decreases-run_beside-there : goal.decreases-run_beside-there
decreases-run_beside-there g l = 3 * length l.rest.now + 1
