-- The command that comes next.
use Rattle.std.specs.Prelude.{◌≡◌, Option, Some, None}
use Rattle.spec_client_go.specs.Commands.{Command}
use Rattle.reconcile_types.specs.Commands.{command_of}
use Rattle.reconcile_turn.specs.declared.next_steps.NextStep.{NextStep}
use Rattle.reconcile_turn.specs.declared.next_steps.NextStep.TheVariants.{Look, AskSatisfied, Read, Expect, Issue, Finish}

-- this command is issued, or where there is none the turn ends
abbrev pub IsCommandNext : NextStep → Option Command → Type 0
IsCommandNext (Issue c) x = x ≡ Some (command_of c.now)
IsCommandNext Finish x = x ≡ None
IsCommandNext (Look k) x = ⊥
IsCommandNext AskSatisfied x = ⊥
IsCommandNext (Read k) x = ⊥
IsCommandNext Expect x = ⊥
