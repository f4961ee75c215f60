-- What a selector of labels asks for (Kubernetes, Labels and Selectors).
use Rattle.std.specs.Prelude.{ℕ, List, [], ◌∷◌, Bool, false, not, is_some, if◌then◌else◌, Option, None, Some}
use Rattle.std.specs.List.{list_all, list_any}
use Rattle.std.specs.Option.{option_map_or}
use Rattle.std.specs.Str.{bytes_eq}
use Rattle.serde_json.specs.Data.{Members}
use Rattle.spec_api.specs.declared.selectors.Operator.{Operator}
use Rattle.spec_api.specs.declared.selectors.Operator.TheVariants.{In, NotIn, Exists, DoesNotExist}
use Rattle.spec_api.specs.Texts.Labels.{is_label_key, is_label_value, label_at}

-- one requirement: a key, and by which operator which values are asked of it
pub record Requirement : Type 0 where
  pub key : List ℕ
  pub operator : Operator
  pub values : List (List ℕ)

abbrev pub is_among : List (List ℕ) → List ℕ → Bool
is_among values v = list_any (λ w. bytes_eq w v) values

-- `In` needs the label, `NotIn` does not (Labels and Selectors, Set-based requirement)
abbrev pub holds : Operator → List (List ℕ) → Option (List ℕ) → Bool
holds In values found = option_map_or (is_among values) found false
holds NotIn values found = not (option_map_or (is_among values) found false)
holds Exists values found = is_some found
holds DoesNotExist values found = not (is_some found)

abbrev pub meets : Requirement → Members → Bool
meets r labels = holds r.operator r.values (label_at r.key labels)

-- labels meet a selector that says these requirements if they meet each
abbrev pub meets_all : List Requirement → Members → Bool
meets_all rs labels = list_all (λ r. meets r labels) rs

abbrev pub put_first : {A : Type 0} → Option A → Option (List A) → Option (List A)
put_first (Some a) (Some rest) = Some (a ∷ rest)
put_first first rest = None

-- what each part reads as, if all of them are read
abbrev pub each_read : {A : Type 0} → (List ℕ → Option A) → List (List ℕ) → Option (List A)
each_read read [] = Some []
each_read read (t ∷ ts) = put_first (read t) (each_read read ts)

abbrev pub only_if : {A : Type 0} → Bool → A → Option A
only_if b a = if b then Some a else None

abbrev pub label_key : List ℕ → Option (List ℕ)
label_key t = only_if (is_label_key t) t

abbrev pub label_value : List ℕ → Option (List ℕ)
label_value t = only_if (is_label_value t) t

abbrev pub requiring : Option (List ℕ) → Operator → Option (List (List ℕ)) → Option Requirement
requiring (Some k) operator (Some vs) = Some (record { key = k; operator = operator; values = vs })
requiring key operator values = None
