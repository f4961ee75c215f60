-- Words, and the commands that they ask, computed from the definitions.
use Rattle.std.specs.Prelude.{◌≡◌, ℕ, List, [], ◌∷◌, codes, Option, Some, None}
use Rattle.kcp_options.specs.declared.command.Subcommand.{Subcommand}
use Rattle.kcp_options.specs.declared.command.Subcommand.TheVariants.{Replay, Simulate, Serve, Control, All}
use Rattle.kcp_options.specs.Options.{command}
use Rattle.kcp_options.specs.Mistakes.{first_strange, usage_about}
use Rattle.kcp_options.specs.Usages.{usage_asked}
use Rattle.kcp_options.specs.declared.usage.Usage.TheVariants as usage

-- what `serve` is asked by an option and its value
abbrev pub with_one : List ℕ → List ℕ → Option Subcommand
with_one name value = command (codes "serve" ∷ name ∷ value ∷ [])

-- no word, another word, and a word after `replay` or `simulate` ask nothing; alone each asks a command
abbrev pub CommandsAreNamed : Type 0
CommandsAreNamed =
    (command [] ≡ None)
    × (command (codes "Replay" ∷ []) ≡ None)
    × (command (codes "replay" ∷ codes "serve" ∷ []) ≡ None)
    × (command (codes "replay" ∷ []) ≡ Some Replay)
    × (command (codes "simulate" ∷ codes "--window" ∷ codes "4" ∷ []) ≡ None)
    × (command (codes "simulate" ∷ []) ≡ Some Simulate)

-- `serve` alone has the defaults; options stand in any order
abbrev pub OptionsAreSaid : Type 0
OptionsAreSaid =
    (command (codes "serve" ∷ []) ≡ Some (Serve (record { port = 8080; window = 1024; threads = 16; requests = None })))
    × (command (codes "serve" ∷ codes "--threads" ∷ codes "128" ∷ codes "--port" ∷ codes "0" ∷ [])
    ≡ Some (Serve (record { port = 0; window = 1024; threads = 128; requests = None })))
    × (command (codes "serve" ∷ codes "--requests" ∷ codes "007" ∷ codes "--window" ∷ codes "4" ∷ [])
    ≡ Some (Serve (record { port = 8080; window = 4; threads = 16; requests = Some 7 })))

-- an option that is given twice, one without its value, a value without its option, and one that there is not, are bad arguments
abbrev pub OptionsStandOnce : Type 0
OptionsStandOnce =
    (command (codes "serve" ∷ codes "--port" ∷ codes "1" ∷ codes "--port" ∷ codes "1" ∷ []) ≡ None)
    × (command (codes "serve" ∷ codes "--port" ∷ []) ≡ None)
    × (command (codes "serve" ∷ codes "--port" ∷ codes "1" ∷ codes "--window" ∷ []) ≡ None)
    × (command (codes "serve" ∷ codes "8080" ∷ []) ≡ None)
    × (command (codes "serve" ∷ codes "--port=1" ∷ []) ≡ None)
    × (with_one (codes "--workers") (codes "4") ≡ None)

-- numbers at their bounds and beyond them
abbrev pub NumbersHaveBounds : Type 0
NumbersHaveBounds =
    (with_one (codes "--port") (codes "65535") ≡ Some (Serve (record { port = 65535; window = 1024; threads = 16; requests = None })))
    × (with_one (codes "--port") (codes "65536") ≡ None)
    × (with_one (codes "--window") (codes "0") ≡ None)
    × (with_one (codes "--window") (codes "65536") ≡ Some (Serve (record { port = 8080; window = 65536; threads = 16; requests = None })))
    × (with_one (codes "--window") (codes "65537") ≡ None)
    × (with_one (codes "--threads") (codes "0") ≡ None)
    × (with_one (codes "--threads") (codes "129") ≡ None)
    × (with_one (codes "--requests") (codes "0") ≡ None)
    × (with_one (codes "--requests") (codes "999999999") ≡ Some (Serve (record { port = 8080; window = 1024; threads = 16; requests = Some 999999999 })))

-- ten digits, none, a sign, a blank, and other characters are no number
abbrev pub NumbersAreDigits : Type 0
NumbersAreDigits =
    (with_one (codes "--port") (codes "0000000001") ≡ None)
    × (with_one (codes "--port") [] ≡ None)
    × (with_one (codes "--port") (codes "+1") ≡ None)
    × (with_one (codes "--port") (codes " 1") ≡ None)
    × (with_one (codes "--port") (codes "1a") ≡ None)
    × (with_one (codes "--port") (codes "--window") ≡ None)

-- `control` needs a server, on the loopback address alone and with a port; the rest has defaults
abbrev pub ServersAreNamed : Type 0
ServersAreNamed =
    (command (codes "control" ∷ codes "--server" ∷ codes "127.0.0.1:8080" ∷ []) ≡ Some (Control (record { port = 8080; workers = 4; turns = None })))
    × (command (codes "control" ∷ codes "--turns" ∷ codes "9" ∷ codes "--server" ∷ codes "127.0.0.1:1" ∷ codes "--workers" ∷ codes "64" ∷ [])
    ≡ Some (Control (record { port = 1; workers = 64; turns = Some 9 })))
    × (command (codes "control" ∷ []) ≡ None)
    × (command (codes "control" ∷ codes "--workers" ∷ codes "4" ∷ []) ≡ None)
    × (command (codes "control" ∷ codes "--server" ∷ codes "127.0.0.1" ∷ []) ≡ None)
    × (command (codes "control" ∷ codes "--server" ∷ codes "127.0.0.1:" ∷ []) ≡ None)
    × (command (codes "control" ∷ codes "--server" ∷ codes "127.0.0.1:0" ∷ []) ≡ None)
    × (command (codes "control" ∷ codes "--server" ∷ codes "127.0.0.1:65536" ∷ []) ≡ None)
    × (command (codes "control" ∷ codes "--server" ∷ codes "127.0.0.2:8080" ∷ []) ≡ None)
    × (command (codes "control" ∷ codes "--server" ∷ codes "8080" ∷ []) ≡ None)
    × (command (codes "control" ∷ codes "--server" ∷ codes "127.0.0.1:8080" ∷ codes "--port" ∷ codes "1" ∷ []) ≡ None)

-- `all` serves and has workers, 64 at most
abbrev pub WorkersAreCounted : Type 0
WorkersAreCounted =
    (command (codes "all" ∷ []) ≡ Some (All (record { port = 8080; window = 1024; threads = 16; workers = 4 })))
    × (command (codes "all" ∷ codes "--workers" ∷ codes "64" ∷ codes "--port" ∷ codes "0" ∷ codes "--threads" ∷ codes "2" ∷ codes "--window" ∷ codes "9" ∷ [])
    ≡ Some (All (record { port = 0; window = 9; threads = 2; workers = 64 })))
    × (command (codes "all" ∷ codes "--workers" ∷ codes "65" ∷ []) ≡ None)
    × (command (codes "all" ∷ codes "--workers" ∷ codes "0" ∷ []) ≡ None)
    × (command (codes "all" ∷ codes "--requests" ∷ codes "1" ∷ []) ≡ None)
    × (command (codes "all" ∷ codes "--server" ∷ codes "127.0.0.1:8080" ∷ []) ≡ None)

-- no word, `help` and `--help` ask how the program is used, and `--help` after a command how that is; what asks a command, or anything else, does not
abbrev pub UsagesAreAsked : Type 0
UsagesAreAsked =
    (usage_asked [] ≡ Some usage.Program)
    × (usage_asked (codes "help" ∷ []) ≡ Some usage.Program)
    × (usage_asked (codes "--help" ∷ []) ≡ Some usage.Program)
    × (usage_asked (codes "serve" ∷ codes "--help" ∷ []) ≡ Some usage.Serve)
    × (usage_asked (codes "served" ∷ codes "--help" ∷ []) ≡ None)
    × (usage_asked (codes "serve" ∷ []) ≡ None)
    × (usage_asked (codes "serve" ∷ codes "--port" ∷ codes "--help" ∷ []) ≡ None)

-- the first word that is not understood: the command, an option, one that comes again or lacks its value, a value; none where only the server is missing
abbrev pub MistakesAreNamed : Type 0
MistakesAreNamed =
    (first_strange (codes "serv" ∷ codes "--port" ∷ codes "1" ∷ []) ≡ Some (codes "serv"))
    × (first_strange (codes "replay" ∷ codes "now" ∷ []) ≡ Some (codes "now"))
    × (first_strange (codes "serve" ∷ codes "--window" ∷ codes "4" ∷ codes "--prot" ∷ codes "1" ∷ []) ≡ Some (codes "--prot"))
    × (first_strange (codes "serve" ∷ codes "--port" ∷ codes "1" ∷ codes "--port" ∷ codes "1" ∷ []) ≡ Some (codes "--port"))
    × (first_strange (codes "serve" ∷ codes "--port" ∷ []) ≡ Some (codes "--port"))
    × (first_strange (codes "serve" ∷ codes "--port" ∷ codes "99999" ∷ []) ≡ Some (codes "99999"))
    × (first_strange (codes "control" ∷ codes "--workers" ∷ codes "4" ∷ []) ≡ None)
    × (usage_about (codes "control" ∷ codes "--workers" ∷ codes "4" ∷ []) ≡ usage.Control)
    × (usage_about (codes "serv" ∷ []) ≡ usage.Program)
