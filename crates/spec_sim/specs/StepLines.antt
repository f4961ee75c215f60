-- The lines that ask for steps, and what is written for them.
use Rattle.std.specs.Prelude.{ℕ, ◌==◌, ◌&&◌, not, nat_lt, nat_le, List, [], ◌∷◌, ◌++◌, length, take, drop, Option, Some, None, option_map, option_and_then, unwrap_or, codes, if◌then◌else◌}
use Rattle.std.specs.List.{filter, find, list_all, slice_split}
use Rattle.std.specs.Str.{bytes_eq}
use Rattle.std.specs.Str.Parse.{digits_value}
use Rattle.spec_api.specs.declared.kinds.Kind.{Kind}
use Rattle.spec_api.specs.Kinds.{kinds, plural}
use Rattle.spec_api.specs.Moments.{is_digit}
use Rattle.spec_api.specs.Revisions.{revision_of}
use Rattle.spec_line_protocol.specs.Lines.{cut, lines_of}
use Rattle.spec_sim.specs.declared.initial_syncs.InitialSync.{InitialSync}
use Rattle.spec_sim.specs.declared.initial_syncs.InitialSync.TheVariants as sync
use Rattle.spec_sim.specs.Moves as move
use Rattle.spec_sim.specs.Moves.{Move}
use Rattle.spec_sim.specs.Clusters.{Cluster, opened, ClusterStep, request, compact, moves, restart, step}
use Rattle.spec_sim.specs.OutcomeTexts.{outcome_text}

-- ---- words

-- the texts between spaces
abbrev pub words : List ℕ → List (List ℕ)
words t = slice_split (λ b. b == 32) t

-- one to nine digits; zeros may lead
abbrev pub number_of : List ℕ → Option ℕ
number_of t = if nat_lt 0 (length t) && nat_le (length t) 9 && list_all is_digit t then Some (digits_value 10 t) else None

-- the kind with this plural name
abbrev pub kind_of : List ℕ → Option Kind
kind_of t = find (λ k. bytes_eq t (plural k)) kinds

-- ---- moves

abbrev pub move_named : List ℕ → Option Move
move_named verb =
    if bytes_eq verb (codes "list") then Some move.list
    else
    (if bytes_eq verb (codes "watch") then Some move.watch
    else
    (if bytes_eq verb (codes "stream") then Some move.stream
    else (if bytes_eq verb (codes "cut") then Some move.cut else (if bytes_eq verb (codes "publish") then Some move.publish else None))))

-- a number of lines, or a bookmark
abbrev pub send_of : List ℕ → Option Move
send_of t = if bytes_eq t (codes "bookmark") then Some move.send_bookmark else option_map move.send (number_of t)

-- a number of bytes, or all
abbrev pub deliver_of : List ℕ → Option Move
deliver_of t = if bytes_eq t (codes "all") then Some move.deliver_all else option_map move.deliver (number_of t)

abbrev pub move_with : List ℕ → List ℕ → Option Move
move_with verb t = if bytes_eq verb (codes "send") then send_of t else (if bytes_eq verb (codes "deliver") then deliver_of t else None)

-- a verb, the plural name of a kind, and for `send` and `deliver` how much
abbrev pub move_of : List (List ℕ) → Option ClusterStep
move_of (verb ∷ k ∷ []) = option_and_then (λ kind. option_map (moves kind) (move_named verb)) (kind_of k)
move_of (verb ∷ k ∷ t ∷ []) = option_and_then (λ kind. option_map (moves kind) (move_with verb t)) (kind_of k)
move_of ws = None

-- ---- steps

abbrev pub step_from : List ℕ → Option (List ℕ × List ℕ) → Option ClusterStep
step_from t None = if bytes_eq t (codes "restart") then Some restart else None
step_from t (Some p) =
    if bytes_eq p.0 (codes "request") then Some (request p.1) else (if bytes_eq p.0 (codes "compact") then option_map compact (revision_of p.1) else move_of (words t))

-- the step that a line asks for, if it has the form of one: `request` with what a server reads, `compact` with a revision,
-- `restart`, or a move
abbrev pub step_of_line : List ℕ → Option ClusterStep
step_of_line t = step_from t (cut t)

-- ---- the first line

-- how many changes of each kind the server's windows have, how many workers there are, and how followers begin
pub record Config : Type 0 where
  pub window : ℕ
  pub workers : ℕ
  pub initial : InitialSync

abbrev pub default_config : Config
default_config = record { window = 1024; workers = 4; initial = sync.List }

-- windows of 1 to 65,536 changes, and 1 to 64 workers
abbrev pub config_within : ℕ → ℕ → InitialSync → Option Config
config_within w n i = if nat_lt 0 w && nat_le w 65536 && nat_lt 0 n && nat_le n 64 then Some (record { window = w; workers = n; initial = i }) else None

-- with lists, or with streams of initial events
abbrev pub initial_sync_of : List ℕ → Option InitialSync
initial_sync_of t = if bytes_eq t (codes "list") then Some sync.List else (if bytes_eq t (codes "stream") then Some sync.Stream else None)

-- what follows a prefix, if the text begins with it
abbrev pub after_prefix : List ℕ → List ℕ → Option (List ℕ)
after_prefix p t = if bytes_eq p (take (length p) t) then Some (drop (length p) t) else None

-- the number that follows a name
abbrev pub number_after : List ℕ → List ℕ → Option ℕ
number_after name t = option_and_then number_of (after_prefix name t)

-- what `initial=` is followed by
abbrev pub initial_said : List ℕ → Option InitialSync
initial_said t = option_and_then initial_sync_of (after_prefix (codes "initial=") t)

abbrev pub config_said : List ℕ → List ℕ → Option InitialSync → Option Config
config_said w n initial =
    option_and_then (λ window. option_and_then (λ workers. option_and_then (config_within window workers) initial) (number_after (codes "workers=") n)) (number_after (codes "window=") w)

-- `config window=W workers=N`, then maybe `initial=list` or `initial=stream`; where it does not say, lists
abbrev pub config_in : List (List ℕ) → Option Config
config_in (c ∷ w ∷ n ∷ []) = if bytes_eq c (codes "config") then config_said w n (Some sync.List) else None
config_in (c ∷ w ∷ n ∷ i ∷ []) = if bytes_eq c (codes "config") then config_said w n (initial_said i) else None
config_in ws = None

abbrev pub config_of_line : List ℕ → Option Config
config_of_line t = config_in (words t)

-- ---- the whole run

-- a line of no form is answered as a request that says nothing is
abbrev pub step_asked : List ℕ → ClusterStep
step_asked t = unwrap_or (step_of_line t) (request [])

abbrev pub outcome_lines : Cluster → List (List ℕ) → List ℕ
outcome_lines c [] = []
outcome_lines c (t ∷ ts) = outcome_text (step c (step_asked t)).outcome ++ outcome_lines (step c (step_asked t)).cluster ts

-- empty lines are skipped
abbrev pub full_lines : List ℕ → List (List ℕ)
full_lines bytes = filter (λ t. not (length t == 0)) (lines_of bytes)

abbrev pub run_from : List ℕ → List (List ℕ) → Option Config → List ℕ
run_from t ts (Some c) = outcome_lines (opened c.window c.initial) ts
run_from t ts None = outcome_lines (opened default_config.window default_config.initial) (t ∷ ts)

-- the first line may be a configuration
abbrev pub simulate_lines : List (List ℕ) → List ℕ
simulate_lines [] = []
simulate_lines (t ∷ ts) = run_from t ts (config_of_line t)

-- all that is written for all that is read
abbrev pub simulate : List ℕ → List ℕ
simulate bytes = simulate_lines (full_lines bytes)
