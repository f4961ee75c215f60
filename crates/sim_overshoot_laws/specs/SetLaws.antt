-- What is so of every ReplicaSet, whenever it is there and whoever asked: it keeps its selector, which matches the pods that are made of its template.
use Rattle.std.specs.Prelude.{◌≡◌, ◌≤◌, ℕ, List, true, Some, Ok, codes}
use Rattle.serde_json.specs.Data.{Data}
use Rattle.spec_api.specs.declared.kinds.Kind.TheVariants.{Pod, ReplicaSet}
use Rattle.spec_api.specs.Checks.{in_spec, is_template_valid}
use Rattle.spec_api.specs.History.{History, present, state}
use Rattle.spec_api.specs.Keys.{Key}
use Rattle.spec_api.specs.Metadata.{uid}
use Rattle.spec_api.specs.NewObjects.{created}
use Rattle.spec_api.specs.Reached.{IsReached}
use Rattle.spec_api.specs.Reading.{reading}
use Rattle.spec_reconcile.specs.NewPods.{new_pod}
use Rattle.spec_reconcile.specs.Pods.{matches}

-- the selector of a set matches its template
abbrev pub SetsMatchTheirTemplates : Type 0
SetsMatchTheirTemplates = (h : History) (r : ℕ) (k : Key) (set : Data) → IsReached h → k.kind ≡ ReplicaSet → state h r k ≡ Some set → is_template_valid set ≡ true

-- a set, which is one as long as it has one uid, has one selector
abbrev pub SelectorsStay : Type 0
SelectorsStay =
    (h : History) (r s : ℕ) (k l : Key) (d e : Data) → IsReached h → r ≤ present h → s ≤ present h → k.kind ≡ ReplicaSet → state h r k ≡ Some d → state h s l ≡ Some e → uid d ≡ uid e
    → in_spec (codes "selector") d ≡ in_spec (codes "selector") e

-- what is stored of the pod that is made of a set's template matches the set
abbrev pub NewPodsMatchTheirSet : Type 0
NewPodsMatchTheirSet =
    (k : Key) (set o : Data) (r : ℕ) (ns name moment : List ℕ) → reading ReplicaSet set ≡ Ok set → is_template_valid set ≡ true → reading Pod (new_pod k set) ≡ Ok o
    → matches set (created Pod r ns name moment o) ≡ true
