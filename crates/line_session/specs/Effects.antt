-- Effects as code has them.
use Rattle.meta.specs.Writes.{write_of}
use Rattle.line_session.specs.SessionStates as sessions
use Rattle.line_session.specs.declared.effects.Effect.{Effect}
use Rattle.line_session.specs.declared.effects.Effect.TheVariants as code

abbrev pub effect_of : Effect → sessions.Effect
effect_of code.Nothing = sessions.nothing
effect_of (code.Write w) = sessions.write (write_of w)
effect_of (code.Moment m) = sessions.moment m
effect_of (code.Compaction r) = sessions.compaction r
