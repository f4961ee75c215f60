-- Of cases, the first that commands something.
use Rattle.std.proofs.Common.{◌≡◌, List, [], ◌∷◌, map, length, refl, ap, arith}
use Rattle.spec_client_go.specs.Commands as commands
use Rattle.spec_reconcile.specs.Deployments.{first_of}
use Rattle.reconcile_types.specs.Commands.{command_of}
use Rattle.reconcile_types.specs.declared.commands.Command.{Command}

pub first_case : (cs : List Command) (found later : List commands.Command) → map command_of cs ≡ found → (length cs ≡ 0 → ⊥) → map command_of cs ≡ first_of found later
first_case [] found later is h = absurd (h refl)
first_case (c ∷ cs) found later is h = ap (λ fs. first_of fs later) is

pub later_case : (cs : List Command) (found later : List commands.Command) → map command_of cs ≡ found → length cs ≡ 0 → later ≡ first_of found later
later_case [] found later is h = ap (λ fs. first_of fs later) is
later_case (c ∷ cs) found later is h = absurd (omega (arith, h))
