use Rattle.line_session.proofs.Followed.{sessions_follow}
use Rattle.line_session.proofs.session_laws.sessions_follow.Goals as goal

pub returns : goal.returns
returns c = sessions_follow
