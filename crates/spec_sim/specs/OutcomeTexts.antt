-- The lines by which outcomes are told.
use Rattle.std.specs.Prelude.{ℕ, List, [], ◌∷◌, ◌++◌, Option, Some, None, codes, decimal}
use Rattle.spec_api.specs.Kinds.{plural}
use Rattle.spec_client_go.specs.declared.reflectors.End.{End}
use Rattle.spec_client_go.specs.declared.reflectors.End.TheVariants.{Expired, Unreadable}
use Rattle.spec_sim.specs.Moves.{Outcome, replied, no_step, listed, opened, streaming, expired, sent, fed, was_cut, published, restarted}

-- a line of words, with a space between them
abbrev pub words_line : List ℕ → List (List ℕ) → List ℕ
words_line w [] = w ++ 10 ∷ []
words_line w (v ∷ vs) = w ++ (32 ∷ words_line v vs)

abbrev pub end_words : Option End → List (List ℕ)
end_words None = []
end_words (Some Expired) = codes "expired" ∷ []
end_words (Some Unreadable) = codes "unreadable" ∷ []

-- a reply is a line already, or nothing; other outcomes are told by a word, the kind's plural name and numbers
abbrev pub outcome_text : Outcome → List ℕ
outcome_text (replied text) = text
outcome_text no_step = words_line (codes "no") (codes "step" ∷ [])
outcome_text (listed k r n) = words_line (codes "listed") (plural k ∷ decimal r ∷ decimal n ∷ [])
outcome_text (opened k r) = words_line (codes "opened") (plural k ∷ decimal r ∷ [])
outcome_text (streaming k r) = words_line (codes "streaming") (plural k ∷ decimal r ∷ [])
outcome_text (expired k) = words_line (codes "expired") (plural k ∷ [])
outcome_text (sent k n) = words_line (codes "sent") (plural k ∷ decimal n ∷ [])
outcome_text (fed k r e) = words_line (codes "fed") (plural k ∷ decimal r ∷ end_words e)
outcome_text (was_cut k r) = words_line (codes "cut") (plural k ∷ decimal r ∷ [])
outcome_text (published k r n) = words_line (codes "published") (plural k ∷ decimal r ∷ decimal n ∷ [])
outcome_text restarted = words_line (codes "restarted") []
