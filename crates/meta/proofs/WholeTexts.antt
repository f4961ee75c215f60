-- Texts that are added one after another, or follow one another.
use Rattle.std.proofs.Common.{◌≡◌, ◌∙◌, ◌++◌, ℕ, List, ap, sym, append_assoc}

-- what follows the parts of a member follows the member
pub member_first : (opening value closing rest text from_value from_closing : List ℕ) → text ≡ opening ++ from_value → from_value ≡ value ++ from_closing → from_closing ≡ closing ++ rest
    → text ≡ (opening ++ (value ++ closing)) ++ rest
member_first opening value closing rest text from_value from_closing first second third =
    first ∙ ap (λ t. opening ++ t) (second ∙ ap (λ t. value ++ t) third ∙ sym (append_assoc value closing rest)) ∙ sym (append_assoc opening (value ++ closing) rest)

-- five texts that are added one after another
pub five_pushed : (old a b c d e one two three four five : List ℕ) → one ≡ old ++ a → two ≡ one ++ b → three ≡ two ++ c → four ≡ three ++ d → five ≡ four ++ e
    → five ≡ old ++ (a ++ (b ++ (c ++ (d ++ e))))
five_pushed old a b c d e one two three four five is1 is2 is3 is4 is5 =
    let nested : ((((old ++ a) ++ b) ++ c) ++ d) ++ e ≡ old ++ (a ++ (b ++ (c ++ (d ++ e)))) =
    append_assoc (((old ++ a) ++ b) ++ c) d e ∙ append_assoc ((old ++ a) ++ b) c (d ++ e) ∙ append_assoc (old ++ a) b (c ++ (d ++ e)) ∙ append_assoc old a (b ++ (c ++ (d ++ e))) in
    is5 ∙ ap (λ t. t ++ e) (is4 ∙ ap (λ t. t ++ d) (is3 ∙ ap (λ t. t ++ c) (is2 ∙ ap (λ t. t ++ b) is1))) ∙ nested
