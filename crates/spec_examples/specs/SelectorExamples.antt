-- Worked facts of selectors.
use Rattle.std.specs.Prelude.{◌≡◌, ℕ, List, [], ◌∷◌, Bool, true, false, codes, Option, None, Some, Result, Ok, Err, option_map}
use Rattle.serde_json.specs.Data.{Members}
use Rattle.serde_json.specs.Read.{read}
use Rattle.spec_api.specs.declared.selectors.Operator.TheVariants.{In, NotIn, Exists, DoesNotExist}
use Rattle.spec_api.specs.Labels.{is_label_value}
use Rattle.spec_api.specs.SelectorFields.{FieldRequirement, fields_of_text, fields_meet}
use Rattle.spec_api.specs.SelectorTexts.{selector_of_text}
use Rattle.spec_api.specs.SelectorValues.{Flaw, mistyped, unfit, selector_of_value}
use Rattle.spec_api.specs.Selectors.{Requirement, meets_all}
use Rattle.spec_api.specs.Values.{inner_of}

abbrev pub says : List ℕ → Option (List Requirement)
says t = selector_of_text t

abbrev pub value_says : List ℕ → Option (Result (List Requirement) Flaw)
value_says t = option_map selector_of_value (read t)

abbrev pub selected : Option (List Requirement) → Members → Option Bool
selected rs labels = option_map (λ (r : List Requirement). meets_all r labels) rs

-- whether the labels in a JSON object meet what a text says
abbrev pub text_selects : List ℕ → List ℕ → Option Bool
text_selects t labels = selected (selector_of_text t) (inner_of (read labels))

abbrev pub field_selects : List ℕ → List ℕ → List ℕ → Option Bool
field_selects t name namespace = option_map (λ (r : List FieldRequirement). fields_meet r name namespace) (fields_of_text t)

abbrev pub AllFormsAreRead : Type 0
AllFormsAreRead =
    says (codes "a, !b,c=d , e==f,g!=h,i in (j,k), l notin ( m , n )")
    ≡ Some (record { key = codes "a"; operator = Exists; values = [] } ∷ record { key = codes "b"; operator = DoesNotExist; values = [] }
    ∷ record { key = codes "c"; operator = In; values = codes "d" ∷ [] } ∷ record { key = codes "e"; operator = In; values = codes "f" ∷ [] }
    ∷ record { key = codes "g"; operator = NotIn; values = codes "h" ∷ [] } ∷ record { key = codes "i"; operator = In; values = codes "j" ∷ codes "k" ∷ [] }
    ∷ record { key = codes "l"; operator = NotIn; values = codes "m" ∷ codes "n" ∷ [] } ∷ [])

abbrev pub EmptyTextSaysNothing : Type 0
EmptyTextSaysNothing = says [] ≡ Some []

abbrev pub BlanksAreRefused : Type 0
BlanksAreRefused = says (codes "  ") ≡ None

abbrev pub EmptyRequirementIsRefused : Type 0
EmptyRequirementIsRefused = (says (codes "a,") ≡ None) × (says (codes ",a") ≡ None) × (says (codes "a,,b") ≡ None)

abbrev pub EmptyListIsRefused : Type 0
EmptyListIsRefused = (says (codes "k in ()") ≡ None) × (says (codes "k notin ( )") ≡ None)

abbrev pub EmptyItemsAreValues : Type 0
EmptyItemsAreValues = says (codes "k in (,)") ≡ Some (record { key = codes "k"; operator = In; values = [] ∷ [] ∷ [] } ∷ [])

abbrev pub EmptyValueIsRead : Type 0
EmptyValueIsRead = says (codes "k=") ≡ Some (record { key = codes "k"; operator = In; values = [] ∷ [] } ∷ [])

abbrev pub OpenParenthesisIsRefused : Type 0
OpenParenthesisIsRefused = (says (codes "a in (b") ≡ None) × (says (codes "a in (b),c)") ≡ None) × (says (codes "a in ((b))") ≡ None)

abbrev pub BlankBeforeWordIsNeeded : Type 0
BlankBeforeWordIsNeeded = (says (codes "kin (v)") ≡ None) × (says (codes "k in(v)") ≡ Some (record { key = codes "k"; operator = In; values = codes "v" ∷ [] } ∷ []))

abbrev pub SplitOperatorIsRefused : Type 0
SplitOperatorIsRefused = (says (codes "k = = v") ≡ None) × (says (codes "k ! = v") ≡ None) × (says (codes "k===v") ≡ None)

abbrev pub BlankAfterMarkIsRead : Type 0
BlankAfterMarkIsRead = says (codes "! k") ≡ Some (record { key = codes "k"; operator = DoesNotExist; values = [] } ∷ [])

abbrev pub QualifiedKeysAreRead : Type 0
QualifiedKeysAreRead =
    (says (codes "example.com/a_B.c-1") ≡ Some (record { key = codes "example.com/a_B.c-1"; operator = Exists; values = [] } ∷ []))
    × (says (codes "Example.com/a") ≡ None) × (says (codes "a/b/c") ≡ None) × (says (codes "/a") ≡ None) × (says (codes "a b") ≡ None)

abbrev pub ValuesAreChecked : Type 0
ValuesAreChecked =
    (is_label_value [] ≡ true) × (is_label_value (codes "a-") ≡ false) × (is_label_value (codes "A_1.b") ≡ true)
    × (is_label_value (codes "012345678901234567890123456789012345678901234567890123456789012") ≡ true)
    × (is_label_value (codes "0123456789012345678901234567890123456789012345678901234567890123") ≡ false)
    × (says (codes "k=a b") ≡ None) × (says (codes "k>1") ≡ None)

abbrev pub AbsentKeysAreSelected : Type 0
AbsentKeysAreSelected =
    (text_selects (codes "env notin (prod),!old") (codes "{}") ≡ Some true) × (text_selects (codes "env!=prod") (codes "{}") ≡ Some true)
    × (text_selects (codes "env=prod") (codes "{}") ≡ Some false) × (text_selects (codes "env in (prod,)") (codes "{}") ≡ Some false)
    × (text_selects (codes "env=") (codes "{\"env\":\"\"}") ≡ Some true) × (text_selects (codes "env,x!=2") (codes "{\"env\":\"e\",\"x\":\"2\"}") ≡ Some false)

abbrev pub ValuesAreSelectors : Type 0
ValuesAreSelectors =
    (value_says (codes "{}") ≡ Some (Ok []))
    × (value_says (codes "{\"matchLabels\":{\"a\":\"b\"},\"matchExpressions\":[{\"key\":\"c\",\"operator\":\"NotIn\",\"values\":[\"d\"]},{\"key\":\"e\",\"operator\":\"Exists\",\"values\":[]}]}")
    ≡ option_map (λ (r : List Requirement). Ok r) (says (codes "a=b,c notin (d),e")))
    × (value_says (codes "{\"matchLabels\":null,\"matchExpressions\":null}") ≡ Some (Ok []))
    × (value_says (codes "{\"matchLabels\":{\"a\":\"b\",\"c\":null},\"matchExpressions\":[{\"key\":\"e\",\"operator\":\"Exists\",\"values\":null}]}")
    ≡ option_map (λ (r : List Requirement). Ok r) (says (codes "a=b,e")))

abbrev pub ValuesAreRefused : Type 0
ValuesAreRefused =
    (value_says (codes "{\"matchLabels\":{\"a\":1}}") ≡ Some (Err mistyped)) × (value_says (codes "{\"matchExpressions\":{}}") ≡ Some (Err mistyped))
    × (value_says (codes "{\"a\":[{\"b\":1.5}]}") ≡ Some (Err mistyped)) × (value_says (codes "{\"a\":[{\"b\":1}]}") ≡ Some (Ok []))
    × (value_says (codes "{\"matchExpressions\":[{\"key\":\"a\",\"operator\":\"Exists\",\"values\":[null]}]}") ≡ Some (Err mistyped))
    × (value_says (codes "{\"matchExpressions\":[{\"key\":null,\"operator\":\"Exists\"}]}") ≡ Some (Err unfit))
    × (value_says (codes "{\"matchExpressions\":[{\"key\":\"a\",\"operator\":\"In\"}]}") ≡ Some (Err unfit))
    × (value_says (codes "{\"matchExpressions\":[{\"key\":\"a\",\"operator\":\"Exists\",\"values\":[\"b\"]}]}") ≡ Some (Err unfit))
    × (value_says (codes "{\"matchExpressions\":[{\"key\":\"a\",\"operator\":\"in\",\"values\":[\"b\"]}]}") ≡ Some (Err unfit))
    × (value_says (codes "{\"matchExpressions\":[{\"operator\":\"Exists\"}]}") ≡ Some (Err unfit))
    × (value_says (codes "{\"matchLabels\":{\"a b\":\"c\"}}") ≡ Some (Err unfit))

abbrev pub FieldsAreRead : Type 0
FieldsAreRead =
    (field_selects (codes "metadata.name=a") (codes "a") (codes "n") ≡ Some true) × (field_selects (codes "metadata.name!=a") (codes "a") (codes "n") ≡ Some false)
    × (field_selects (codes "metadata.namespace==n,metadata.name!=b") (codes "a") (codes "n") ≡ Some true) × (field_selects [] (codes "a") (codes "n") ≡ Some true)
    × (field_selects (codes "metadata.name===a") (codes "=a") (codes "n") ≡ Some true)

abbrev pub FieldsAreRefused : Type 0
FieldsAreRefused =
    (fields_of_text (codes "metadata.uid=a") ≡ None) × (fields_of_text (codes "metadata.name") ≡ None) × (fields_of_text (codes "metadata.name= a") ≡ None)
    × (fields_of_text (codes "metadata.name=a,") ≡ None) × (fields_of_text (codes "metadata.name!a") ≡ None)
