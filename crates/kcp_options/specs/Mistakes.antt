-- What is not understood of words that ask no command.
use Rattle.std.specs.Prelude.{ℕ, List, [], ◌∷◌, codes, Bool, not, ◌||◌, Option, Some, None, if◌then◌else◌}
use Rattle.std.specs.List.{list_any}
use Rattle.std.specs.Option.{unwrap_or, is_some, option_or}
use Rattle.std.specs.Str.{bytes_eq}
use Rattle.kcp_options.specs.declared.setting.Setting.{Setting}
use Rattle.kcp_options.specs.declared.usage.Usage.{Usage}
use Rattle.kcp_options.specs.declared.usage.Usage.TheVariants as usage
use Rattle.kcp_options.specs.Options.{row, value_after, is_one_of, serve_settings, control_settings, all_settings}
use Rattle.kcp_options.specs.Usages.{usage_of_command}

-- what one of these options is called
abbrev pub is_name : List Setting → List ℕ → Bool
is_name settings name = list_any (λ setting. bytes_eq name (row setting).name) settings

-- of a name and a value: the name, where it is no option or comes again; or the value, where the option does not take it
abbrev pub strange_of : List Setting → List ℕ → List ℕ → List (List ℕ) → Option (List ℕ)
strange_of settings name value rest =
    if not (is_name settings name) || is_some (value_after name rest) then Some name
    else if is_one_of settings name value then None
    else Some value

-- the first of these words, where each is a name and the value after it; a name without its value is one too
abbrev pub not_understood : List Setting → List (List ℕ) → Option (List ℕ)
not_understood settings [] = None
not_understood settings (name ∷ []) = Some name
not_understood settings (name ∷ value ∷ rest) = option_or (strange_of settings name value rest) (not_understood settings rest)

-- the options that a command takes; the program takes none, nor do `replay` and `simulate`
abbrev pub settings_of : Usage → List Setting
settings_of usage.Program = []
settings_of usage.Replay = []
settings_of usage.Simulate = []
settings_of usage.Serve = serve_settings
settings_of usage.Control = control_settings
settings_of usage.All = all_settings

-- what words are about: the command that the first one names, or else the program
abbrev pub usage_about : List (List ℕ) → Usage
usage_about [] = usage.Program
usage_about (word ∷ rest) = unwrap_or (usage_of_command word) usage.Program

-- what is not understood of a command's words is one of those after its name, and else the first
abbrev pub first_strange : List (List ℕ) → Option (List ℕ)
first_strange [] = None
first_strange (word ∷ rest) = if is_some (usage_of_command word) then not_understood (settings_of (usage_about (word ∷ rest))) rest else Some word
