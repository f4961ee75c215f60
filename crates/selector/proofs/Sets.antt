-- Requirements of sets that are none.
use Rattle.std.proofs.Common.{◌≡◌, ℕ, List, false, Option, None, Some, refl, ap, ◌∙◌, option_and_then}
use Rattle.std.specs.List.{list_any, before_first, after_first}
use Rattle.spec_api.specs.declared.selectors.Operator.{Operator}
use Rattle.spec_api.specs.SelectorTexts.{is_blank, in_requirement, set_operator, listed_values, before_last, trimmed}
use Rattle.spec_api.specs.Selectors.{label_key, requiring}
use Rattle.selector.proofs.Cutting.{after-nowhere}

without-values : (k : Option (List ℕ)) (o : Option Operator) → option_and_then (λ (p : Operator). requiring k p None) o ≡ None
without-values k None = refl
without-values None (Some o) = refl
without-values (Some k) (Some o) = refl

pub no-closing : (head list : List ℕ) → before_last 41 list ≡ None → in_requirement head list ≡ None
no-closing head list h =
    ap (λ b. option_and_then (λ (p : Operator). requiring (label_key (before_first is_blank head)) p (option_and_then listed_values b)) (set_operator (trimmed (after_first is_blank head)))) h
    ∙ without-values (label_key (before_first is_blank head)) (set_operator (trimmed (after_first is_blank head)))

pub no-word : (head list : List ℕ) → list_any is_blank head ≡ false → in_requirement head list ≡ None
no-word head list h =
    ap (λ w. option_and_then (λ (p : Operator). requiring (label_key (before_first is_blank head)) p (option_and_then listed_values (before_last 41 list))) (set_operator (trimmed w))) (after-nowhere is_blank head h)
