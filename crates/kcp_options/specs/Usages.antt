-- What the words after the program's name ask to be told of, where they are no command.
use Rattle.std.specs.Prelude.{ℕ, List, [], ◌∷◌, codes, Option, Some, None, ◌||◌, if◌then◌else◌}
use Rattle.std.specs.Str.{bytes_eq}
use Rattle.kcp_options.specs.declared.usage.Usage.{Usage}
use Rattle.kcp_options.specs.declared.usage.Usage.TheVariants as usage

-- a command of this name
abbrev pub usage_of_command : List ℕ → Option Usage
usage_of_command name =
    if bytes_eq name (codes "replay") then Some usage.Replay
    else if bytes_eq name (codes "simulate") then Some usage.Simulate
    else if bytes_eq name (codes "serve") then Some usage.Serve
    else if bytes_eq name (codes "control") then Some usage.Control
    else if bytes_eq name (codes "all") then Some usage.All
    else None

-- no word, `help` or `--help` ask for the program, and `--help` after a name for that command
abbrev pub usage_asked : List (List ℕ) → Option Usage
usage_asked [] = Some usage.Program
usage_asked (word ∷ []) = if bytes_eq word (codes "help") || bytes_eq word (codes "--help") then Some usage.Program else None
usage_asked (name ∷ word ∷ []) = if bytes_eq word (codes "--help") then usage_of_command name else None
usage_asked (name ∷ word ∷ more ∷ rest) = None
