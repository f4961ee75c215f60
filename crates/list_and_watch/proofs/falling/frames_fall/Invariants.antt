use Rattle.std.proofs.Common.{◌≡◌, drop}
use Rattle.framing.specs.Decoders.{events_of}
use Rattle.list_and_watch.specs.Recognized.{falls}
use Rattle.list_and_watch.proofs.falling.frames_fall.Given as goal

abbrev pub invariant-loop-frame : goal.invariant-loop-frame
invariant-loop-frame l = falls l.last (events_of (drop l.frame-index l.frames)) ≡ falls l.fn.last (events_of l.frames)
