use Rattle.verb_create.proofs.made_names.+push_suffix.Given as goal

abbrev pub decreases-push_suffix : goal.decreases-push_suffix
decreases-push_suffix l = l.letters
