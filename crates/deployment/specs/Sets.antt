-- A Deployment with its sets, as definitions have it.
use Rattle.std.specs.Prelude.{map, option_map}
use Rattle.object_keys.specs.Keys.{key_of}
use Rattle.spec_reconcile.specs.Deployments as plans
use Rattle.deployment.specs.declared.rollout.Rollout.{Rollout}
use Rattle.reconcile_types.specs.Entries.{entry_of}

abbrev pub rollout_seen : Rollout → plans.Rollout
rollout_seen r =
    record {
      key = key_of r.key.now;
      deployment = r.deployment.now.value;
      new = option_map entry_of r.new;
      old = map entry_of r.old.items;
    }
