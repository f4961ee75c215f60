-- A text that nests no deeper than is read back, or else a tree beside it, gives what was stored.
use Rattle.std.proofs.Common.{◌≡◌, ◌≤◌, ℕ, List, Option, Some, None, unwrap_or, ap}
use Rattle.serde_json.specs.Data.{Data, null, depth}
use Rattle.serde_json.specs.Read.{read, max_depth}
use Rattle.meta.specs.Stored.{IsTree, data_kept}

pub data_kept-is : (tree : Option Data) (text : List ℕ) (d : Data) → IsTree tree d → (depth d ≤ max_depth → read text ≡ Some d) → data_kept tree text ≡ d
data_kept-is None text d shallow back = ap (λ r. unwrap_or r null) (back shallow)
data_kept-is (Some e) text d same back = same
