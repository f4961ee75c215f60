use Rattle.controller_runtime.proofs.pausing.RunPauses.rest.Goals as goal

pub returns : goal.returns
returns g c = (c.milliseconds-now.result, c.on_failed-pause.ensures.after)
