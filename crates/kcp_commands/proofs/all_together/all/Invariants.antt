use Rattle.kcp_commands.proofs.all_together.all.Given as goal

abbrev pub ghosts-all_most : goal.ghosts-all_most
ghosts-all_most g a = record { name = a.blank.name; parts = a.blank.parts }
