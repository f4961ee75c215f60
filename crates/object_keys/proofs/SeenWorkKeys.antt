-- Sets of work keys as contracts see them, and maps from them.
use Rattle.std.proofs.Common.{◌≡◌, List, true, false, None, option_map}
use Rattle.std.specs.List.{list_any}
use Rattle.std.specs.Ordering.{eq_by_cmp, is_eq}
use Rattle.std.specs.BTreeMap.{is_at, insert_entry}
use Rattle.std.specs.BTreeSet.{insert_key}
use Rattle.std.specs.Map as map
use Rattle.std.specs.Map.{lookup}
use Rattle.std.specs.Set as key_set
use Rattle.std.specs.FinMap as map_of
use Rattle.std.specs.FinSet as set
use Rattle.spec_client_go.specs.WorkQueues.{work_key_cmp as task_cmp}
use Rattle.spec_client_go.proofs.WorkKeyOrder.{work_key_total, work_key_tells}
use Rattle.object_keys.specs.declared.work_key.WorkKey.{WorkKey}
use Rattle.object_keys.specs.WorkKeys.{work_key_of}
use Rattle.object_keys.specs.Seen.{work_keys_of, by_work_key}
use Rattle.object_keys.proofs.WorkKeyOrder.{work_key_cmp, work_key_cmp-task_cmp}
use Rattle.object_keys.proofs.SeenMaps as maps
use Rattle.object_keys.proofs.SeenSets as sets

-- keys that compare equal are the same work key
pub same_task : (a b : WorkKey) → is_eq (work_key_cmp a b) ≡ true → work_key_of a ≡ work_key_of b
same_task = sets.says_same task_cmp work_key_total work_key_tells work_key_of work_key_cmp work_key_cmp-task_cmp

pub contains-tasks : (ks : List WorkKey) (k : WorkKey) → set.contains (work_keys_of ks) (work_key_of k) ≡ list_any (is_at (work_key_cmp k)) ks
contains-tasks = sets.contains-seen task_cmp work_key_total work_key_tells work_key_of work_key_cmp work_key_cmp-task_cmp

pub insert-tasks : (ks : List WorkKey) (k : WorkKey) → work_keys_of (insert_key work_key_cmp ks k) ≡ set.insert (work_keys_of ks) (work_key_of k)
insert-tasks = sets.insert-seen task_cmp work_key_total work_key_tells work_key_of work_key_cmp work_key_cmp-task_cmp

pub remove-tasks : (old new : List WorkKey) (k : WorkKey) → list_any (is_at (work_key_cmp k)) new ≡ false → key_set.KeepsOthers (eq_by_cmp work_key_cmp) (is_at (work_key_cmp k)) old new
    → work_keys_of new ≡ set.remove (work_keys_of old) (work_key_of k)
remove-tasks = sets.remove-seen task_cmp work_key_total work_key_tells work_key_of work_key_cmp work_key_cmp-task_cmp

module _ {X Y : Type 0} (h : X → Y) where
  pub get-by_task : (es : List (WorkKey × X)) (k : WorkKey) → map_of.get (by_work_key h es) (work_key_of k) ≡ option_map h (lookup (is_at (work_key_cmp k)) es)
  get-by_task = maps.get-seen task_cmp work_key_total work_key_tells work_key_of work_key_cmp work_key_cmp-task_cmp h

  pub insert-by_task : (es : List (WorkKey × X)) (k : WorkKey) (v : X) → by_work_key h (insert_entry work_key_cmp es k v) ≡ map_of.insert (by_work_key h es) (work_key_of k) (h v)
  insert-by_task = maps.insert-seen task_cmp work_key_total work_key_tells work_key_of work_key_cmp work_key_cmp-task_cmp h

  pub remove-by_task : (old new : List (WorkKey × X)) (k : WorkKey) → lookup (is_at (work_key_cmp k)) new ≡ None → map.KeepsOthers (eq_by_cmp work_key_cmp) (is_at (work_key_cmp k)) old new
      → by_work_key h new ≡ map_of.remove (by_work_key h old) (work_key_of k)
  remove-by_task = maps.remove-seen task_cmp work_key_total work_key_tells work_key_of work_key_cmp work_key_cmp-task_cmp h
