-- How the text of a selector is written (Kubernetes, Labels and Selectors, API).
use Rattle.std.specs.Prelude.{◌≡◌, ◌⊎◌, ◌<◌, ℕ, List, [], ◌∷◌, ◌++◌, true, false, codes, length}
use Rattle.std.specs.List.{list_all}
use Rattle.spec_api.specs.declared.selectors.Operator.{Operator}
use Rattle.spec_api.specs.declared.selectors.Operator.TheVariants.{In, NotIn, Exists, DoesNotExist}
use Rattle.spec_api.specs.Labels.{is_label_key, is_label_value}
use Rattle.spec_api.specs.SelectorTexts.{is_blank}
use Rattle.spec_api.specs.Selectors.{Requirement}

-- spaces and tabs, or nothing
abbrev pub AreBlanks : List ℕ → Type 0
AreBlanks t = list_all is_blank t ≡ true

-- ---- values

-- a value, which may be empty, with blanks around it
pub record IsValueText (t v : List ℕ) : Type 0 where
  pub before : List ℕ
  pub after : List ℕ
  pub is_before : AreBlanks before
  pub is_after : AreBlanks after
  pub is_value : is_label_value v ≡ true
  pub is : t ≡ before ++ (v ++ after)

-- values with commas between them
abbrev pub AreValuesText : List ℕ → List (List ℕ) → Type 0
AreValuesText t [] = ⊥
AreValuesText t (v ∷ []) = IsValueText t v
AreValuesText t (v ∷ w ∷ vs) =
    (one : List ℕ) × (more : List ℕ) × (t ≡ one ++ (codes "," ++ more)) × IsValueText one v × AreValuesText more (w ∷ vs)

-- ---- the forms of a requirement

-- `k`
pub record IsKeyText (t k : List ℕ) : Type 0 where
  pub before : List ℕ
  pub after : List ℕ
  pub is_before : AreBlanks before
  pub is_after : AreBlanks after
  pub is_key : is_label_key k ≡ true
  pub is : t ≡ before ++ (k ++ after)

-- `!k`
pub record IsNegatedText (t k : List ℕ) : Type 0 where
  pub before : List ℕ
  pub rest : List ℕ
  pub is_before : AreBlanks before
  pub is_rest : IsKeyText rest k
  pub is : t ≡ before ++ (codes "!" ++ rest)

-- `=` or `==`, and `!=`
abbrev pub IsSign : Operator → List ℕ → Type 0
IsSign In t = (t ≡ codes "=") ⊎ (t ≡ codes "==")
IsSign NotIn t = t ≡ codes "!="
IsSign Exists t = ⊥
IsSign DoesNotExist t = ⊥

-- `k=v`, `k==v` and `k!=v`
pub record IsComparedText (t k : List ℕ) (o : Operator) (v : List ℕ) : Type 0 where
  pub left : List ℕ
  pub sign : List ℕ
  pub right : List ℕ
  pub is_left : IsKeyText left k
  pub is_sign : IsSign o sign
  pub is_right : IsValueText right v
  pub is : t ≡ left ++ (sign ++ right)

abbrev pub IsWord : Operator → List ℕ → Type 0
IsWord In t = t ≡ codes "in"
IsWord NotIn t = t ≡ codes "notin"
IsWord Exists t = ⊥
IsWord DoesNotExist t = ⊥

-- `k in (v,w)` and `k notin (v,w)`, with at least one blank before the word, and something in the parentheses
pub record IsListedText (t k : List ℕ) (o : Operator) (vs : List (List ℕ)) : Type 0 where
  pub before : List ℕ
  pub apart : List ℕ
  pub word : List ℕ
  pub between : List ℕ
  pub values : List ℕ
  pub after : List ℕ
  pub is_before : AreBlanks before
  pub is_key : is_label_key k ≡ true
  pub is_apart : AreBlanks apart
  pub is_some_apart : 0 < length apart
  pub is_word : IsWord o word
  pub is_between : AreBlanks between
  pub is_something : list_all is_blank values ≡ false
  pub are_values : AreValuesText values vs
  pub is_after : AreBlanks after
  pub is : t ≡ before ++ (k ++ (apart ++ (word ++ (between ++ (codes "(" ++ (values ++ (codes ")" ++ after)))))))

-- a requirement in one of its forms
pub data IsRequirementText (t : List ℕ) (r : Requirement) : Type 0 where
  alone : r.operator ≡ Exists → r.values ≡ [] → IsKeyText t r.key → IsRequirementText t r
  negated : r.operator ≡ DoesNotExist → r.values ≡ [] → IsNegatedText t r.key → IsRequirementText t r
  compared : (v : List ℕ) → r.values ≡ v ∷ [] → IsComparedText t r.key r.operator v → IsRequirementText t r
  listed : IsListedText t r.key r.operator r.values → IsRequirementText t r

-- ---- the whole text

-- requirements with commas between them; the empty text says nothing
abbrev pub IsSelectorText : List ℕ → List Requirement → Type 0
IsSelectorText t [] = t ≡ []
IsSelectorText t (r ∷ []) = IsRequirementText t r
IsSelectorText t (r ∷ s ∷ rs) =
    (one : List ℕ) × (more : List ℕ) × (t ≡ one ++ (codes "," ++ more)) × IsRequirementText one r × IsSelectorText more (s ∷ rs)
