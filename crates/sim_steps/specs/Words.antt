-- Words of a line as code has them.
use Rattle.std.specs.Prelude.{ℕ, ◌&&◌, nat_lt, nat_le, List, [], ◌∷◌, length, Bool, Option, Some, None, option_map, option_and_then}
use Rattle.std.specs.Borrow.{Bor}
use Rattle.std.specs.List.{list_all}
use Rattle.spec_api.specs.Moments.{is_digit}
use Rattle.spec_sim.specs.declared.initial_syncs.InitialSync.{InitialSync}
use Rattle.spec_sim.specs.declared.initial_syncs.InitialSync.TheVariants as sync
use Rattle.spec_sim.specs.StepLines.{kind_of, move_named, move_with, Config, initial_said, config_said}
use Rattle.spec_sim.specs.Clusters.{ClusterStep, moves}
use Rattle.spec_sim.specs.Moves.{Move}
use Rattle.sim_steps.specs.declared.words.Words.{Words}

abbrev pub both_now : Bor (List ℕ) × Bor (List ℕ) → List ℕ × List ℕ
both_now (a, b) = (a.now, b.now)

-- two words, and a third one, if there is one
abbrev pub words_seen : Words → List ℕ × List ℕ × Option (List ℕ)
words_seen w = (w.first.now, w.second.now, option_map (λ t. t.now) w.third)

-- a word, and one or two others
abbrev pub with_first : List ℕ → List (List ℕ) → Option (List ℕ × List ℕ × Option (List ℕ))
with_first a (b ∷ []) = Some (a, b, None)
with_first a (b ∷ c ∷ []) = Some (a, b, Some c)
with_first a ws = None

-- two words, or three
abbrev pub few_words : List (List ℕ) → Option (List ℕ × List ℕ × Option (List ℕ))
few_words [] = None
few_words (a ∷ ws) = with_first a ws

-- the move that the first word asks for, with how much the third one says
abbrev pub movement_of : List ℕ × List ℕ × Option (List ℕ) → Option Move
movement_of (verb, k, None) = move_named verb
movement_of (verb, k, Some t) = move_with verb t

-- the step that two or three words ask for
abbrev pub step_by_words : List ℕ × List ℕ × Option (List ℕ) → Option ClusterStep
step_by_words w = option_and_then (λ k. option_map (moves k) (movement_of w)) (kind_of w.1)

-- one to nine digits
abbrev pub is_number : List ℕ → Bool
is_number t = nat_lt 0 (length t) && nat_le (length t) 9 && list_all is_digit t

-- how followers begin, as a word says, or else by lists
abbrev pub initial_by : Option (List ℕ) → Option InitialSync
initial_by None = Some sync.List
initial_by (Some t) = initial_said t

-- the sizes that two words say, and how followers begin, as a third one may say
abbrev pub config_by : List ℕ × List ℕ × Option (List ℕ) → Option Config
config_by (w, n, i) = config_said w n (initial_by i)
