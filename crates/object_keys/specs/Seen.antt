-- Sets and maps of keys, seen by what the keys say.
use Rattle.std.specs.Prelude.{List, map}
use Rattle.std.specs.declared.cmp.Ordering.{Ordering}
use Rattle.std.specs.FinMap as map_of
use Rattle.std.specs.FinSet as set
use Rattle.spec_client_go.specs.WorkQueues.{WorkKeys, work_key_cmp}
use Rattle.object_keys.specs.declared.work_key.WorkKey.{WorkKey}
use Rattle.object_keys.specs.WorkKeys.{work_key_of}

-- the entries, each key and value seen
abbrev pub seen_entries : {K N X Y : Type 0} → (K → N) → (X → Y) → List (K × X) → List (N × Y)
seen_entries say h es = map (λ e. (say e.0, h e.1)) es

abbrev pub seen_map : {K N X Y : Type 0} (R : N → N → Ordering) → (K → N) → (X → Y) → List (K × X) → map_of.FinMap R Y
seen_map R say h es = map_of.from_entries (seen_entries say h es)

abbrev pub seen_set : {K N : Type 0} (R : N → N → Ordering) → (K → N) → List K → set.FinSet R
seen_set R say ks = set.from_list (map say ks)

-- the work keys, as the definitions have them
abbrev pub work_keys_of : List WorkKey → WorkKeys
work_keys_of ks = seen_set work_key_cmp work_key_of ks

-- what stands at work keys, by key
abbrev pub by_work_key : {X Y : Type 0} → (X → Y) → List (WorkKey × X) → map_of.FinMap work_key_cmp Y
by_work_key h es = seen_map work_key_cmp work_key_of h es
