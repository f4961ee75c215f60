use Rattle.kcp_commands.proofs.serving_threads.serve.Given as goal

abbrev pub ghosts-serve_most : goal.ghosts-serve_most
ghosts-serve_most g a = record { name = a.blank.name; parts = a.blank.parts }
