-- What the words after the program's name ask: a command, and its options.
use Rattle.std.specs.Prelude.{ℕ, List, [], ◌∷◌, length, take, drop, codes, Bool, true, false, not, ◌==◌, ◌&&◌, nat_le, Option, Some, None, option_map, if◌then◌else◌}
use Rattle.std.specs.List.{list_all, list_any}
use Rattle.std.specs.Option.{unwrap_or, is_some, option_and_then}
use Rattle.std.specs.Char.{is_ascii_digit}
use Rattle.std.specs.Str.{bytes_eq}
use Rattle.std.specs.Str.Parse.{digits_value}
use Rattle.kcp_options.specs.declared.setting.Setting.{Setting}
use Rattle.kcp_options.specs.declared.setting.Setting.TheVariants.{Port, Window, Threads, Requests, Server, Workers, Turns}
use Rattle.kcp_options.specs.declared.serve_options.ServeOptions.{ServeOptions}
use Rattle.kcp_options.specs.declared.control_options.ControlOptions.{ControlOptions}
use Rattle.kcp_options.specs.declared.all_options.AllOptions.{AllOptions}
use Rattle.kcp_options.specs.declared.command.Subcommand.{Subcommand}
use Rattle.kcp_options.specs.declared.command.Subcommand.TheVariants.{Replay, Simulate, Serve, Control, All}

-- what an option is called, what stands before its number, and the least and the greatest number that it takes
pub record Row : Type 0 where
  pub name : List ℕ
  pub before : List ℕ
  pub least : ℕ
  pub greatest : ℕ

-- the table of all options
abbrev pub row : Setting → Row
row Port = record { name = codes "--port"; before = []; least = 0; greatest = 65535 }
row Window = record { name = codes "--window"; before = []; least = 1; greatest = 65536 }
row Threads = record { name = codes "--threads"; before = []; least = 1; greatest = 128 }
row Requests = record { name = codes "--requests"; before = []; least = 1; greatest = 999999999 }
row Server = record { name = codes "--server"; before = codes "127.0.0.1:"; least = 1; greatest = 65535 }
row Workers = record { name = codes "--workers"; before = []; least = 1; greatest = 64 }
row Turns = record { name = codes "--turns"; before = []; least = 1; greatest = 999999999 }

-- the options that each command takes, and the default of each
abbrev pub serve_settings : List Setting
serve_settings = Port ∷ Window ∷ Threads ∷ Requests ∷ []

abbrev pub serve_defaults : ServeOptions
serve_defaults = record { port = 8080; window = 1024; threads = 16; requests = None }

abbrev pub control_settings : List Setting
control_settings = Server ∷ Workers ∷ Turns ∷ []

abbrev pub default_workers : ℕ
default_workers = 4

abbrev pub all_settings : List Setting
all_settings = Port ∷ Window ∷ Threads ∷ Workers ∷ []

abbrev pub all_defaults : AllOptions
all_defaults = record { port = 8080; window = 1024; threads = 16; workers = default_workers }

-- a number is one to nine decimal digits
abbrev pub is_number : List ℕ → Bool
is_number text = nat_le 1 (length text) && nat_le (length text) 9 && list_all is_ascii_digit text

-- an option takes a number that is neither below its least nor above its greatest
abbrev pub is_in_bounds : Setting → ℕ → Bool
is_in_bounds setting number = nat_le (row setting).least number && nat_le number (row setting).greatest

-- what follows the beginning of a text, if the text begins so
abbrev pub after_prefix : List ℕ → List ℕ → Option (List ℕ)
after_prefix beginning text = if bytes_eq beginning (take (length beginning) text) then Some (drop (length beginning) text) else None

-- the number that digits spell, where it is within the bounds of an option
abbrev pub number_within : Setting → List ℕ → Option ℕ
number_within setting digits =
    if is_number digits && is_in_bounds setting (digits_value 10 digits) then Some (digits_value 10 digits) else None

-- the number that an option takes from a text
abbrev pub taken : Setting → List ℕ → Option ℕ
taken setting text = option_and_then (number_within setting) (after_prefix (row setting).before text)

-- the word after a name, where every other word is a name, from the first on
abbrev pub value_after : List ℕ → List (List ℕ) → Option (List ℕ)
value_after name [] = None
value_after name (word ∷ []) = None
value_after name (word ∷ value ∷ rest) = if bytes_eq word name then Some value else value_after name rest

-- a name and a value are one of these options, with a number that it takes
abbrev pub is_one_of : List Setting → List ℕ → List ℕ → Bool
is_one_of settings name value = list_any (λ setting. bytes_eq name (row setting).name && is_some (taken setting value)) settings

-- a name and a value are one of these options, and the name does not come again
abbrev pub is_option : List Setting → List ℕ → List ℕ → List (List ℕ) → Bool
is_option settings name value rest = is_one_of settings name value && not (is_some (value_after name rest))

-- words are these options, each at most once, where each is a name and the value after it
abbrev pub are_options : List Setting → List (List ℕ) → Bool
are_options settings [] = true
are_options settings (name ∷ []) = false
are_options settings (name ∷ value ∷ rest) = is_option settings name value rest && are_options settings rest

-- the number that words say for an option
abbrev pub said : Setting → List (List ℕ) → Option ℕ
said setting words = option_and_then (taken setting) (value_after (row setting).name words)

-- the options that words give `serve`
abbrev pub serve_options : List (List ℕ) → ServeOptions
serve_options words = record {
  port = unwrap_or (said Port words) serve_defaults.port;
  window = unwrap_or (said Window words) serve_defaults.window;
  threads = unwrap_or (said Threads words) serve_defaults.threads;
  requests = said Requests words;
}

-- the options that words give `control`, which has no default for the server
abbrev pub control_options : List (List ℕ) → Option ControlOptions
control_options words =
    option_map (λ port. record { port = port; workers = unwrap_or (said Workers words) default_workers; turns = said Turns words }) (said Server words)

-- the options that words give `all`
abbrev pub all_options : List (List ℕ) → AllOptions
all_options words = record {
  port = unwrap_or (said Port words) all_defaults.port;
  window = unwrap_or (said Window words) all_defaults.window;
  threads = unwrap_or (said Threads words) all_defaults.threads;
  workers = unwrap_or (said Workers words) all_defaults.workers;
}

-- the command that words ask: `replay` or `simulate` alone, or another with its options; anything else is bad arguments
abbrev pub command : List (List ℕ) → Option Subcommand
command [] = None
command (word ∷ rest) =
    if bytes_eq word (codes "replay") && (length rest == 0) then Some Replay
    else if bytes_eq word (codes "simulate") && (length rest == 0) then Some Simulate
    else if bytes_eq word (codes "serve") && are_options serve_settings rest then Some (Serve (serve_options rest))
    else if bytes_eq word (codes "control") && are_options control_settings rest then option_map Control (control_options rest)
    else if bytes_eq word (codes "all") && are_options all_settings rest then Some (All (all_options rest))
    else None
