use Rattle.kcp_commands.proofs.all_together.run_at.Goals as goal

pub run_over-requires-clause-new : goal.run_over-requires-clause-new
run_over-requires-clause-new g c κs within = c.requires.new
