-- A text and a value that say given requirements (Kubernetes, Labels and Selectors, API; API reference, LabelSelector).
use Rattle.std.specs.Prelude.{ℕ, ◌&&◌, List, [], ◌∷◌, ◌++◌, Bool, map, codes, is_some}
use Rattle.std.specs.List.{list_all, join_with_byte}
use Rattle.serde_json.specs.Data.{Data, string, array, object, Items, no_items, item, no_members, member}
use Rattle.spec_api.specs.declared.selectors.Operator.{Operator}
use Rattle.spec_api.specs.declared.selectors.Operator.TheVariants.{In, NotIn, Exists, DoesNotExist}
use Rattle.spec_api.specs.Labels.{is_label_key, is_label_value}
use Rattle.spec_api.specs.SelectorValues.{fitting}
use Rattle.spec_api.specs.Selectors.{Requirement}

-- a requirement that a selector can have
abbrev pub is_sound : Requirement → Bool
is_sound r = is_label_key r.key && list_all is_label_value r.values && is_some (fitting r.operator r.values)

-- one value after a mark, more of them in parentheses after a word
abbrev pub values_text : List ℕ → List ℕ → List (List ℕ) → List ℕ
values_text mark word [] = []
values_text mark word (v ∷ []) = mark ++ v
values_text mark word (v ∷ w ∷ vs) = word ++ join_with_byte 44 (v ∷ w ∷ vs) ++ codes ")"

abbrev pub text_with : Operator → List ℕ → List (List ℕ) → List ℕ
text_with In k vs = k ++ values_text (codes "=") (codes " in (") vs
text_with NotIn k vs = k ++ values_text (codes "!=") (codes " notin (") vs
text_with Exists k vs = k
text_with DoesNotExist k vs = codes "!" ++ k

-- `k=v`, `k in (v,w)`, `k!=v`, `k notin (v,w)`, `k`, or `!k`
abbrev pub requirement_text : Requirement → List ℕ
requirement_text r = text_with r.operator r.key r.values

abbrev pub selector_text : List Requirement → List ℕ
selector_text rs = join_with_byte 44 (map requirement_text rs)

abbrev pub text_items : List (List ℕ) → Items
text_items [] = no_items
text_items (v ∷ vs) = item (string v) (text_items vs)

abbrev pub operator_name : Operator → List ℕ
operator_name In = codes "In"
operator_name NotIn = codes "NotIn"
operator_name Exists = codes "Exists"
operator_name DoesNotExist = codes "DoesNotExist"

-- `{"key":k,"operator":o,"values":[v,..]}`
abbrev pub expression_value : Requirement → Data
expression_value r =
    object (member (codes "key") (string r.key) (member (codes "operator") (string (operator_name r.operator)) (member (codes "values") (array (text_items r.values)) no_members)))

abbrev pub expression_items : List Requirement → Items
expression_items [] = no_items
expression_items (r ∷ rs) = item (expression_value r) (expression_items rs)

abbrev pub selector_value : List Requirement → Data
selector_value rs = object (member (codes "matchExpressions") (array (expression_items rs)) no_members)

-- `{"matchLabels":{k:v}}`
abbrev pub pair_value : List ℕ → List ℕ → Data
pair_value k v = object (member (codes "matchLabels") (object (member k (string v) no_members)) no_members)
