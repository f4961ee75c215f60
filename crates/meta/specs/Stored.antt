-- What is stored of an object.
use Rattle.std.specs.Prelude.{◌≡◌, ◌≤◌, ℕ, List, true, false, Option, Some, None, is_some, unwrap_or, option_and_then, map, codes}
use Rattle.std.specs.Box.{box_value}
use Rattle.std.specs.Global.{Box}
use Rattle.serde_json.specs.Data.{Data, null, depth}
use Rattle.serde_json.specs.Find.{as_object}
use Rattle.serde_json.specs.Read.{read, max_depth}
use Rattle.serde_json.specs.View.{view}
use Rattle.serde_json.specs.Written.{has_float, compact_text, IsInOrder}
use Rattle.serde_json.specs.declared.value.Value.{Value}
use Rattle.spec_api.specs.Metadata.{metadata}
use Rattle.spec_api.specs.Verbs.{as_item}
use Rattle.spec_api.specs.declared.kinds.Kind.{Kind}
use Rattle.meta.specs.Labels.{labels_of, label_of}
use Rattle.meta.specs.WholeTexts.{Fits, given}
use Rattle.meta.specs.declared.labels.Label.{Label}
use Rattle.meta.specs.declared.whole_texts.WholeText.{WholeText}

-- what a tree says
abbrev pub tree_view : Box Value → Data
tree_view tree = view (box_value tree)

-- the data of the tree, where one is stored, and else of the text
abbrev pub data_kept : Option Data → List ℕ → Data
data_kept None text = unwrap_or (read text) null
data_kept (Some d) text = d

-- d is the data of an object of kind k, this is its text as an item of a list, this gives its text, and these are its labels
pub record Keeps (d : Data) (k : Kind) (item : List ℕ) (whole : WholeText) (labels : List Label) : Type 0 where
  pub no_float : has_float d ≡ false
  pub is_object : is_some (as_object d) ≡ true
  pub is_item : item ≡ compact_text (as_item d)
  pub fits : Fits whole item
  pub gives_text : given k whole item ≡ compact_text d
  pub in_order : IsInOrder (compact_text d) d
  pub reads_back : depth d ≤ max_depth → read (compact_text d) ≡ Some d
  pub are_labels : map label_of labels ≡ labels_of (option_and_then as_object (metadata (codes "labels") d))

-- the tree of d is stored only where d nests too deep
abbrev pub IsTree : Option Data → Data → Type 0
IsTree None d = depth d ≤ max_depth
IsTree (Some e) d = e ≡ d
