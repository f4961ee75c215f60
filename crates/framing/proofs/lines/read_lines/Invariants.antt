use Rattle.std.proofs.Common.{◌≡◌, ◌≤◌, ◌-◌, length, take, drop}
use Rattle.framing.specs.Lines.{IsPartial}
use Rattle.spec_client_go.specs.ReadFrames.{reading, onto}
use Rattle.framing.specs.Decoders.{events_of}
use Rattle.framing.proofs.lines.read_lines.Given as goal

abbrev pub invariant-loop-at : goal.invariant-loop-at
invariant-loop-at l = record {
  within : l.known ≤ length l.rest;
  partial : IsPartial (take l.known l.rest);
  shorter : length l.rest ≤ length l.bytes;
  end : l.rest ≡ drop (length l.bytes - length l.rest) l.bytes;
  reads : onto (events_of l.frames.items) (reading l.rest) ≡ reading l.bytes;
}

abbrev pub decreases-loop-at : goal.decreases-loop-at
decreases-loop-at l = length l.rest
