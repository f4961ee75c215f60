-- The words of a text, one cut after another.
use Rattle.std.proofs.Common.{◌≡◌, ◌==◌, ℕ, List, [], ◌∷◌, Bool, true, false, Option, Some, None, option_map, option_and_then, cond, if◌then◌else◌, refl, sym, ap, ◌∙◌}
use Rattle.std.specs.List.{onto_first}
use Rattle.spec_line_protocol.specs.Lines.{cut}
use Rattle.spec_sim.specs.ControlPlaneStepLines.{step_in_words}
use Rattle.spec_sim.specs.StepLines.{words, move_of, config_in}
use Rattle.sim_steps.specs.Words.{with_first, few_words, step_by_words}
use Rattle.sim_steps.specs.PlaneSteps.{plane_step_by_words}

-- ---- words, by where the text is cut

abbrev by_cut : List ℕ → Option (List ℕ × List ℕ) → List (List ℕ)
by_cut t None = t ∷ []
by_cut t (Some p) = p.0 ∷ words p.1

longer : (x : ℕ) (t : List ℕ) (o : Option (List ℕ × List ℕ)) → onto_first x (by_cut t o) ≡ by_cut (x ∷ t) (option_map (λ (p : List ℕ × List ℕ). (x ∷ p.0, p.1)) o)
longer x t None = refl
longer x t (Some p) = refl

at_byte : (b : Bool) (x : ℕ) (t : List ℕ) → words t ≡ by_cut t (cut t)
    → cond b ([] ∷ words t) (onto_first x (words t)) ≡ by_cut (x ∷ t) (if b then Some ([], t) else option_map (λ (p : List ℕ × List ℕ). (x ∷ p.0, p.1)) (cut t))
at_byte true x t h = refl
at_byte false x t h = ap (onto_first x) h ∙ longer x t (cut t)

pub words-cut : (t : List ℕ) → words t ≡ by_cut t (cut t)
words-cut [] = refl
words-cut (x ∷ t) = at_byte (x == 32) x t (words-cut t)

cut-words : (t : List ℕ) (o : Option (List ℕ × List ℕ)) → o ≡ cut t → words t ≡ by_cut t o
cut-words t o e = words-cut t ∙ ap (by_cut t) (sym e)

-- ---- two words, or three

pub two : (a r : List ℕ) → None ≡ cut r → Some (a, r, None) ≡ with_first a (words r)
two a r e = sym (ap (with_first a) (cut-words r None e))

pub three : (a r b c : List ℕ) → Some (b, c) ≡ cut r → None ≡ cut c → Some (a, b, Some c) ≡ with_first a (words r)
three a r b c e f = sym (ap (with_first a) (cut-words r (Some (b, c)) e ∙ ap (λ ws. b ∷ ws) (cut-words c None f)))

none-of-four : (a b c t : List ℕ) (o : Option (List ℕ × List ℕ)) → None ≡ with_first a (b ∷ c ∷ by_cut t o)
none-of-four a b c t None = refl
none-of-four a b c t (Some p) = refl

pub more : (a r b c : List ℕ) (p : List ℕ × List ℕ) → Some (b, c) ≡ cut r → Some p ≡ cut c → None ≡ with_first a (words r)
more a r b c p e f =
    none-of-four a b p.0 p.1 (cut p.1)
    ∙ sym (ap (with_first a) (cut-words r (Some (b, c)) e ∙ ap (λ ws. b ∷ ws) (cut-words c (Some p) f ∙ ap (λ ws. p.0 ∷ ws) (words-cut p.1))))

pub first : (t a r : List ℕ) → Some (a, r) ≡ cut t → with_first a (words r) ≡ few_words (words t)
first t a r e = sym (ap few_words (cut-words t (Some (a, r)) e))

pub alone : (t : List ℕ) → None ≡ cut t → None ≡ few_words (words t)
alone t e = sym (ap few_words (cut-words t None e))

-- ---- moves, configurations and workers' steps, by two words or three

pub move_by_words : (ws : List (List ℕ)) → option_and_then step_by_words (few_words ws) ≡ move_of ws
move_by_words [] = refl
move_by_words (a ∷ []) = refl
move_by_words (a ∷ b ∷ []) = refl
move_by_words (a ∷ b ∷ c ∷ []) = refl
move_by_words (a ∷ b ∷ c ∷ d ∷ ws) = refl

-- the words of a configuration
pub config_first : (t a r : List ℕ) → Some (a, r) ≡ cut t → config_in (a ∷ words r) ≡ config_in (words t)
config_first t a r e = sym (ap config_in (cut-words t (Some (a, r)) e))

pub config_alone : (t : List ℕ) → None ≡ cut t → None ≡ config_in (words t)
config_alone t e = sym (ap config_in (cut-words t None e))

pub plane_step_in_words : (ws : List (List ℕ)) → option_and_then plane_step_by_words (few_words ws) ≡ step_in_words ws
plane_step_in_words [] = refl
plane_step_in_words (a ∷ []) = refl
plane_step_in_words (a ∷ b ∷ []) = refl
plane_step_in_words (a ∷ b ∷ c ∷ []) = refl
plane_step_in_words (a ∷ b ∷ c ∷ d ∷ ws) = refl
