-- The finalizers that a delete leaves, in the words of the API (Kubernetes, Garbage Collection; Finalizers).
use Rattle.std.specs.Prelude.{◌≡◌, Bool, true, ◌&&◌, None, Some, is_some, if◌then◌else◌}
use Rattle.serde_json.specs.Data.{Data, Items, no_items, item}
use Rattle.serde_json.specs.Find.{as_str}
use Rattle.spec_api.specs.declared.policies.Policy.{Policy}
use Rattle.spec_api.specs.Checks.{has_text, text_is}
use Rattle.spec_api.specs.Deletion.{is_of_policy, of_policy, left_by}
use Rattle.spec_api.specs.SelectorValues.{all_items}

-- whether it is a text, as each finalizer of a stored object is
abbrev pub is_text : Data → Bool
is_text d = is_some (as_str d)

-- the finalizers but `orphan` and `foregroundDeletion`
abbrev pub without_policies : Items → Items
without_policies no_items = no_items
without_policies (item d ds) = if is_of_policy d then without_policies ds else item d (without_policies ds)

abbrev pub followed_by : Items → Items → Items
followed_by no_items last = last
followed_by (item d ds) last = item d (followed_by ds last)

-- these, and then the one of the policy: `orphan`, `foregroundDeletion`, or none
abbrev pub replaced_by : Policy → Items → Items
replaced_by p ds = followed_by (without_policies ds) (of_policy p)

-- each of these is one of those
abbrev pub are_among : Items → Items → Bool
are_among ds es = all_items (text_is (has_text es)) ds

-- two lists with the same finalizers, in whatever order and however often
abbrev pub same_set : Items → Items → Bool
same_set ds es = are_among ds es && are_among es ds

-- a delete without a policy leaves the finalizers as they are
abbrev pub NoPolicyLeavesAll : Type 0
NoPolicyLeavesAll = (ds : Items) → left_by None ds ≡ ds

-- one with a policy replaces those of any policy by its own; where that gives the same set, the list stays as it is
abbrev pub PoliciesReplaceFinalizers : Type 0
PoliciesReplaceFinalizers =
    (p : Policy) (ds : Items) → all_items is_text ds ≡ true → left_by (Some p) ds ≡ (if same_set (replaced_by p ds) ds then ds else replaced_by p ds)
