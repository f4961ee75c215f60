-- What follows the beginning of a text.
use Rattle.std.proofs.Common.{◌≡◌, ℕ, List, ◌++◌, length, take, drop, Bool, true, false, Option, Some, None, option_map, bytes_eq, Bor, refl, sym, ap, ◌∙◌}
use Rattle.std.proofs.Math.Seq.{take-append_seam}
use Rattle.std.proofs.lemmas.List.{take-append-drop}
use Rattle.std.proofs.lemmas.Slice.Eq.{bytes_eq-Decides}
use Rattle.std.specs.Option.{MatchOption}
use Rattle.std.specs.Str.Pattern.{LacksTextAt, FindsTextPrefix, StripsPrefix}
use Rattle.kcp_options.specs.Options.{after_prefix}

-- a text that lacks the beginning does not begin so
lacks : (n s : List ℕ) (b : Bool) → bytes_eq n (take (length n) s) ≡ b → LacksTextAt n s 0 → b ≡ false
lacks n s false e none = refl
lacks n s true e none =
    let same : n ≡ take (length n) s = (bytes_eq-Decides n (take (length n) s)).0 e in
    absurd (none (drop (length n) s) (sym (take-append-drop (length n) s) ∙ ap (λ z. z ++ drop (length n) s) (sym same)))

-- a text that begins so does
begins : (n s : List ℕ) (k : ℕ) → s ≡ n ++ drop k s → bytes_eq n (take (length n) s) ≡ true
begins n s k e = (bytes_eq-Decides n (take (length n) s)).1 (sym (ap (take (length n)) e ∙ take-append_seam n (drop k s)))

-- `strip_prefix` at a text
pub strips : (n s : List ℕ) (r : Option (Bor (List ℕ))) → MatchOption r (FindsTextPrefix n s None) (λ x. StripsPrefix (FindsTextPrefix n) s x.now)
    → option_map (λ x. x.now) r ≡ after_prefix n s
strips n s None none = rw (lacks n s (bytes_eq n (take (length n) s)) refl none) refl
strips n s (Some x) p = rw (begins n s p.0 p.1.1) (ap Some (p.2 ∙ ap (λ k. drop k s) p.1.0))
