use Rattle.kcp_lines.proofs.Runs.{replayed}
use Rattle.kcp_lines.proofs.replay_laws.replies_are_replays.Goals as goal

pub returns : goal.returns
returns c = replayed
