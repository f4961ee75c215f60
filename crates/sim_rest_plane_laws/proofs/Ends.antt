-- At rest, what is declared is there.
use Rattle.spec_client_go.specs.declared.controller.Controller.{Controller}
use Rattle.spec_client_go.specs.declared.controller.Controller.TheVariants.{ReplicaSet, Deployment, Collector}
use Rattle.sim_rest_deployment_laws.proofs.FirstCommands.{first_commands_owe}
use Rattle.sim_rest_laws.specs.WholeLaws.{LastPlansAreEmptyOf, NothingIsLeftAtRest}
use Rattle.sim_rest_laws.proofs.Whole.{follows}
use Rattle.sim_rest_plane_laws.specs.RestLaws.{LastPlansAreEmpty}
use Rattle.sim_rest_plane_laws.proofs.CollectorEnds.{collectors_ends}
use Rattle.sim_rest_plane_laws.proofs.FirstCommands.{last_plans_follow}
use Rattle.sim_rest_plane_laws.proofs.PlanesPass.{all_reached, show_lists}
use Rattle.sim_rest_plane_laws.proofs.ReadsLead.{reads_lead}
use Rattle.sim_rest_set_laws.proofs.First.{sets_first}
use Rattle.sim_settled_laws.specs.SettledLaws.{DeletionsAreBlockedAtRest, SetsAreAsDeclaredAtRest, DeploymentsAreRolledOutAtRest, ItemsAreOwnedAtRest}
use Rattle.sim_settled_laws.proofs.Joins.{plans_stay}
use Rattle.sim_settled_laws.proofs.Rest.{deletions_blocked, deployments_rolled_out, items_owned, sets_declared}

pub last_plans_empty : LastPlansAreEmpty
last_plans_empty ReplicaSet = last_plans_follow ReplicaSet sets_first
last_plans_empty Deployment = last_plans_follow Deployment first_commands_owe
last_plans_empty Collector = collectors_ends

pub nothing_left : NothingIsLeftAtRest
nothing_left c = follows all_reached show_lists reads_lead plans_stay c (last_plans_empty c)

pub sets_at_rest : SetsAreAsDeclaredAtRest
sets_at_rest = sets_declared all_reached (nothing_left ReplicaSet)

pub deployments_at_rest : DeploymentsAreRolledOutAtRest
deployments_at_rest = deployments_rolled_out (nothing_left Deployment)

pub items_at_rest : ItemsAreOwnedAtRest
items_at_rest = items_owned (nothing_left Collector)

pub deletions_at_rest : DeletionsAreBlockedAtRest
deletions_at_rest = deletions_blocked (nothing_left Collector)
