-- Sizes as code has them.
use Rattle.spec_sim.specs.StepLines as lines
use Rattle.sim_steps.specs.declared.config.Config.{Config}

abbrev pub config_seen : Config → lines.Config
config_seen c = record { window = c.window; workers = c.workers; initial = c.initial }
