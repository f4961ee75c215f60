use Rattle.std.proofs.Common.{map, ap, ◌∙◌}
use Rattle.controller_watches.specs.Watched.{asked_by}
use Rattle.controller_watches.proofs.JointRefused.{refused_of}
use Rattle.controller_runtime.proofs.programs.run_jointly.Goals as goal

pub returns : goal.returns
returns g c =
    refused_of c.args.watches.now c.run_again_and_again.result c.as_slice.result.now (ap (map asked_by) c.as_slice.ensures.value ∙ c.in_ok-followed.ensures) c.run_again_and_again.ensures
