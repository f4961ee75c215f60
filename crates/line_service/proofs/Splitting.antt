-- Lines as the parts between newlines: one empty part more where the text is empty or ends in a newline.
use Rattle.std.proofs.Common.{◌≡◌, ℕ, List, [], ◌∷◌, ◌++◌, ◌⊎◌, inl, inr, Bool, true, false, ◌==◌, cond, refl, ap, ◌∙◌}
use Rattle.std.specs.List.{onto_first, slice_split}
use Rattle.line_service.specs.Replies.{lines_of, replies, after}

onto-snoc : (x : ℕ) (lines : List (List ℕ)) → (onto_first x (lines ++ ([] ∷ [])) ≡ onto_first x lines) ⊎ (onto_first x (lines ++ ([] ∷ [])) ≡ onto_first x lines ++ ([] ∷ []))
onto-snoc x [] = inl refl
onto-snoc x (line ∷ lines) = inr refl

at_byte : (b : Bool) (x : ℕ) (parts lines : List (List ℕ)) → (parts ≡ lines) ⊎ (parts ≡ lines ++ ([] ∷ []))
    → (cond b ([] ∷ parts) (onto_first x parts) ≡ cond b ([] ∷ lines) (onto_first x lines)) ⊎ (cond b ([] ∷ parts) (onto_first x parts) ≡ cond b ([] ∷ lines) (onto_first x lines) ++ ([] ∷ []))
at_byte true x parts lines (inl e) = inl (ap (λ ls. [] ∷ ls) e)
at_byte true x parts lines (inr e) = inr (ap (λ ls. [] ∷ ls) e)
at_byte false x parts lines (inl e) = inl (ap (onto_first x) e)
at_byte false x parts lines (inr e) =
    elim (onto-snoc x lines) [ inl same ↦ inl (ap (onto_first x) e ∙ same) | inr more ↦ inr (ap (onto_first x) e ∙ more) ]

-- the parts between newlines are the lines, or the lines and an empty one
pub split-lines : (bytes : List ℕ) → (slice_split (λ b. b == 10) bytes ≡ lines_of bytes) ⊎ (slice_split (λ b. b == 10) bytes ≡ lines_of bytes ++ ([] ∷ []))
split-lines [] = inr refl
split-lines (x ∷ xs) = at_byte (x == 10) x (slice_split (λ b. b == 10) xs) (lines_of xs) (split-lines xs)

module _ {S : Type 0} (reply : S → List ℕ → List ℕ) (next : S → List ℕ → S) where
  -- an empty line that is not answered adds nothing
  replies-snoc : ((s : S) → reply s [] ≡ []) → (s : S) (lines : List (List ℕ)) → replies reply next s (lines ++ ([] ∷ [])) ≡ replies reply next s lines
  replies-snoc silent s [] = ap (λ r. r ++ []) (silent s)
  replies-snoc silent s (line ∷ lines) = ap (λ r. reply s line ++ r) (replies-snoc silent (next s line) lines)

  after-snoc : ((s : S) → next s [] ≡ s) → (s : S) (lines : List (List ℕ)) → after next s (lines ++ ([] ∷ [])) ≡ after next s lines
  after-snoc kept s [] = kept s
  after-snoc kept s (line ∷ lines) = after-snoc kept (next s line) lines

  -- of a service that skips empty lines, the replies to the parts between newlines are those to the lines
  pub replies-split : ((s : S) → reply s [] ≡ []) → (s : S) (bytes : List ℕ) → replies reply next s (slice_split (λ b. b == 10) bytes) ≡ replies reply next s (lines_of bytes)
  replies-split silent s bytes =
      elim (split-lines bytes) [
        | inl e ↦ ap (replies reply next s) e
        | inr e ↦ ap (replies reply next s) e ∙ replies-snoc silent s (lines_of bytes)
      ]

  -- and so are the states after them
  pub after-split : ((s : S) → next s [] ≡ s) → (s : S) (bytes : List ℕ) → after next s (slice_split (λ b. b == 10) bytes) ≡ after next s (lines_of bytes)
  after-split kept s bytes =
      elim (split-lines bytes) [
        | inl e ↦ ap (after next s) e
        | inr e ↦ ap (after next s) e ∙ after-snoc kept s (lines_of bytes)
      ]
