-- What was looked at and read, as definitions have it.
use Rattle.std.specs.Prelude.{List, [], map, Option, Some, None, option_map}
use Rattle.spec_api.specs.History.{Entries}
use Rattle.spec_server.specs.Snapshots.{Snapshot}
use Rattle.spec_client_go.specs.Hands as hands
use Rattle.spec_client_go.specs.Informers as informers
use Rattle.object_keys.specs.Keys.{key_of}
use Rattle.reconcile_types.specs.declared.hands.Hand.{Hand}
use Rattle.reconcile_types.specs.declared.hands.Read.{Read}
use Rattle.object_keys.specs.declared.per_kind.PerKind.{PerKind}

-- what looks show, each map by its members
abbrev pub looks_by : {S : Type 0} → (S → Entries) → PerKind S → informers.Looks
looks_by members l =
    record {
      config_maps = members l.config_maps;
      pods = members l.pods;
      replica_sets = members l.replica_sets;
      deployments = members l.deployments;
    }

-- the objects of the four kinds, each map as its snapshot says
abbrev pub looks_of : {S : Type 0} → (S → Snapshot) → PerKind S → informers.Looks
looks_of snapshot l = looks_by (λ s. (snapshot s).members) l

-- a look that was not taken shows nothing
abbrev pub members_of : {S : Type 0} → (S → Snapshot) → Option S → Entries
members_of snapshot None = []
members_of snapshot (Some s) = (snapshot s).members

abbrev pub read_of : Read → hands.Read
read_of r = record { key = key_of r.key; found = option_map (λ o. o.value) r.found }

abbrev pub reads_of : List Read → List hands.Read
reads_of rs = map read_of rs

abbrev pub hand_of : {S : Type 0} → (S → Snapshot) → Hand S → hands.Hand
hand_of snapshot h =
    record {
      key = key_of h.key;
      looks = looks_by (members_of snapshot) h.looks;
      is_satisfied = h.is_satisfied;
      reads = reads_of h.reads.items;
    }
