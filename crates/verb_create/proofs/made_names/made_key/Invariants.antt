use Rattle.spec_api.specs.Verbs.{is_free}
use Rattle.verb_create.proofs.MadeNames.{Left}
use Rattle.verb_create.proofs.made_names.made_key.Given as goal

-- the names that are left have the first that is free
abbrev pub invariant-loop-tries : goal.invariant-loop-tries
invariant-loop-tries l = Left (is_free l.fn.kind l.namespace l.store.members) l.given l.first l.tries
