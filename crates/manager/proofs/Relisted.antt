-- Keys that are appended, map after map.
use Rattle.std.proofs.Common.{◌≡◌, ◌++◌, List, [], Result, Ok, Err, OnOk, sym, ap, ◌∙◌, append_assoc}
use Rattle.std.proofs.lemmas.List.{map-append}
use Rattle.spec_api.specs.Keys.{Key}
use Rattle.spec_client_go.specs.OwedKeys.{for_controller}
use Rattle.spec_client_go.specs.WorkQueues.{WorkKey}
use Rattle.spec_client_go.specs.declared.controller.Controller.{Controller}

for_both : (w : Controller) (ks js : List Key) → for_controller w (ks ++ js) ≡ for_controller w ks ++ for_controller w js
for_both w ks js = map-append (λ k. record { controller = w; key = k }) ks js

for_four : (w : Controller) (a b c d : List Key) → for_controller w (a ++ (b ++ (c ++ d))) ≡ for_controller w a ++ (for_controller w b ++ (for_controller w c ++ for_controller w d))
for_four w a b c d =
    for_both w a (b ++ (c ++ d)) ∙ ap (λ l. for_controller w a ++ l) (for_both w b (c ++ d) ∙ ap (λ l. for_controller w b ++ l) (for_both w c d))

four_appended : (old a b c d : List WorkKey) → (((old ++ a) ++ b) ++ c) ++ d ≡ old ++ (a ++ (b ++ (c ++ d)))
four_appended old a b c d = append_assoc ((old ++ a) ++ b) c d ∙ append_assoc (old ++ a) b (c ++ d) ∙ append_assoc old a (b ++ (c ++ d))

pub four_maps : {X Y : Type 0} (r : Result X Y) (w : Controller) (a b c d : List Key) (old one two three four : List WorkKey)
    → one ≡ old ++ for_controller w a → two ≡ one ++ for_controller w b → three ≡ two ++ for_controller w c → OnOk r (four ≡ three ++ for_controller w d)
    → OnOk r (four ≡ old ++ for_controller w (a ++ (b ++ (c ++ d))))
four_maps (Ok x) w a b c d old one two three four is_one is_two is_three is_four =
    is_four
    ∙ ap (λ l. l ++ for_controller w d) (is_three ∙ ap (λ l. l ++ for_controller w c) (is_two ∙ ap (λ l. l ++ for_controller w b) is_one))
    ∙ four_appended old (for_controller w a) (for_controller w b) (for_controller w c) (for_controller w d)
    ∙ ap (λ l. old ++ l) (sym (for_four w a b c d))
four_maps (Err e) w a b c d old one two three four is_one is_two is_three is_four = tt

pub three_parts : (none one two three a b c : List WorkKey) → none ≡ [] → one ≡ none ++ a → two ≡ one ++ b → three ≡ two ++ c → three ≡ a ++ (b ++ c)
three_parts none one two three a b c is_none is_one is_two is_three =
    is_three ∙ ap (λ l. l ++ c) (is_two ∙ ap (λ l. l ++ b) (is_one ∙ ap (λ l. l ++ a) is_none)) ∙ append_assoc a b c
