-- Where nothing is left to do, what is declared is there.
use Rattle.sim_rest_plane_laws.proofs.Ends.{deletions_at_rest, deployments_at_rest, items_at_rest, nothing_left, sets_at_rest}
use Rattle.world.specs.Rests.{RestsAsDeclared}
use Rattle.world.specs.Taken.{Taken}

pub rests : (t : Taken) → RestsAsDeclared t
rests t =
    record {
      nothing_is_left = λ before after c x d reads z. nothing_left c t.window t.workers t.initial before after x d reads z.once z.rest z.references;
      sets = λ before after x set z. sets_at_rest t.window t.workers t.initial before after x set z.once z.rest z.references;
      deployments = λ before after x d z. deployments_at_rest t.window t.workers t.initial before after x d z.once z.rest z.references;
      owners = λ before after x d z. items_at_rest t.window t.workers t.initial before after x d z.once z.rest z.references;
      deletions = λ before after x d z. deletions_at_rest t.window t.workers t.initial before after x d z.once z.rest z.references;
    }
