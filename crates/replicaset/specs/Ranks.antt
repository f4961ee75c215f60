-- Ranks of pods, as definitions have them.
use Rattle.std.specs.Prelude.{ℕ, List, ◌≡◌, map, length, filter}
use Rattle.std.specs.Str.{bytes_eq}
use Rattle.serde_json.specs.Data.{Data}
use Rattle.spec_api.specs.History.{Entries}
use Rattle.spec_api.specs.Keys.{Key}
use Rattle.object_keys.specs.Keys.{key_of}
use Rattle.spec_reconcile.specs.PodRanks as plans
use Rattle.replicaset.specs.declared.ranks.Phase.{Phase}
use Rattle.replicaset.specs.declared.ranks.Phase.TheVariants.{Pending, Unknown, Running}
use Rattle.replicaset.specs.declared.ranks.Rank.{Rank}
use Rattle.replicaset.specs.declared.ranks.Ranked.{Ranked}
use Rattle.reconcile_types.specs.Entries.{entry_of}

abbrev pub phase_of : Phase → ℕ
phase_of Pending = 0
phase_of Unknown = 1
phase_of Running = 2

abbrev pub rank_of : Rank → plans.Rank
rank_of r =
    record {
      is_placed = r.is_placed;
      phase = phase_of r.phase;
      is_ready = r.is_ready;
      cost = r.cost;
      on_node = r.on_node.0;
      creation = r.creation.0.now;
      key = key_of r.key.now;
    }

abbrev pub ranked_of : Ranked → plans.Rank × (Key × Data)
ranked_of r = (rank_of r.rank, entry_of r.pod)

abbrev pub pods_of : List Ranked → Entries
pods_of rs = map (λ r. entry_of r.pod) rs

-- ---- what is read of a pod before the pods on its node are counted

abbrev pub read_of : Ranked → plans.Rank × (List ℕ × (Key × Data))
read_of r = (rank_of r.rank, (r.node.now, entry_of r.pod))

abbrev pub read : Key × Data → plans.Rank × (List ℕ × (Key × Data))
read p = (plans.rank_beside 0 p, (plans.node p.1, p))

-- each says what its pod says
pub record AreRead (rs : List Ranked) : Type 0 where
  pub are_read : map read_of rs ≡ map read (pods_of rs)

-- ---- what is counted of them

abbrev pub ready_among : List Ranked → ℕ
ready_among rs = length (filter (λ r. r.rank.is_ready) rs)

abbrev pub on_node_among : List ℕ → List Ranked → ℕ
on_node_among n rs = length (filter (λ r. bytes_eq r.node.now n) rs)

abbrev pub with_on_node : ℕ → plans.Rank → plans.Rank
with_on_node n r =
    record {
      is_placed = r.is_placed;
      phase = r.phase;
      is_ready = r.is_ready;
      cost = r.cost;
      on_node = n;
      creation = r.creation;
      key = r.key;
    }
