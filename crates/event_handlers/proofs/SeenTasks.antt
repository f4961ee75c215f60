-- What an insertion does, by what keys of work say.
use Rattle.std.proofs.Common.{◌≡◌, List, [], ◌∷◌, ◌++◌, map, Ordering, Less, Equal, Greater, refl, ap, ◌∙◌}
use Rattle.std.specs.Ordering.{match_ordering}
use Rattle.std.specs.BTreeSet.{insert_key}
use Rattle.spec_client_go.specs.WorkQueues.{WorkKey as Task, work_key_cmp as task_cmp}
use Rattle.spec_client_go.specs.OwedKeys.{with_keys}
use Rattle.object_keys.specs.WorkKeys.{work_key_of}
use Rattle.object_keys.specs.declared.work_key.WorkKey.{WorkKey}
use Rattle.object_keys.proofs.WorkKeyOrder.{work_key_cmp, work_key_cmp-task_cmp}

pub said-insert_key : (ks : List WorkKey) (k : WorkKey) → map work_key_of (insert_key work_key_cmp ks k) ≡ insert_key task_cmp (map work_key_of ks) (work_key_of k)
said-insert_key [] k = refl
said-insert_key (x ∷ ks) k =
    by (said-insert_key ks k) (work_key_cmp k x)
    ∙ ap (λ o. match_ordering o (work_key_of k ∷ work_key_of x ∷ map work_key_of ks) (work_key_of x ∷ map work_key_of ks) (work_key_of x ∷ insert_key task_cmp (map work_key_of ks) (work_key_of k))) (work_key_cmp-task_cmp k x)
  where
    by : map work_key_of (insert_key work_key_cmp ks k) ≡ insert_key task_cmp (map work_key_of ks) (work_key_of k) → (o : Ordering)
        → map work_key_of (match_ordering o (k ∷ x ∷ ks) (x ∷ ks) (x ∷ insert_key work_key_cmp ks k))
        ≡ match_ordering o (work_key_of k ∷ work_key_of x ∷ map work_key_of ks) (work_key_of x ∷ map work_key_of ks) (work_key_of x ∷ insert_key task_cmp (map work_key_of ks) (work_key_of k))
    by rest Less = refl
    by rest Equal = refl
    by rest Greater = ap (λ r. work_key_of x ∷ r) rest

-- keys, and then others
pub with_keys_joined : (ts ks ls : List Task) → with_keys ts (ks ++ ls) ≡ with_keys (with_keys ts ks) ls
with_keys_joined ts [] ls = refl
with_keys_joined ts (k ∷ ks) ls = with_keys_joined (insert_key task_cmp ts k) ks ls
