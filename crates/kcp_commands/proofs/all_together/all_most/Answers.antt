use Rattle.kcp_commands.proofs.all_together.all_most.Goals as goal

pub run_at-requires-clause-new : goal.run_at-requires-clause-new
run_at-requires-clause-new g c κs within = c.in-Ok.ensures.passes
