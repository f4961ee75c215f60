use Rattle.std.proofs.Common.{map, drop, length, ◌+◌}
use Rattle.control_desk.specs.Desks.{known}
use Rattle.object_keys.specs.WorkKeys.{work_key_of}
use Rattle.manager.proofs.Rest.{added_more, parted, is_piece}
use Rattle.manager.proofs.handling.Handling.add_rest.Goals as goal

pub loop-added-preserved : goal.loop-added-preserved
loop-added-preserved g c =
    let a = c.args in
    let l = c.loop-added in
    let keys = map work_key_of a.keys.now in
    let piece = c.next_piece-piece.result.now in
    let some = c.next_piece-piece.ensures.some in
    let more =
    added_more a.self.now.origin (drop a.added.now keys) (drop l.added keys) (drop (l.added + length piece) keys) (map work_key_of piece) (known a.pass.now) (known l.pass) (known c.observe.new.pass)
    (parted work_key_of a.keys.now piece l.added c.next_piece-piece.ensures.part) (is_piece work_key_of piece some.0 some.1) l.invariant.1 c.in_ok-observe.ensures.step in
    (c.in_ok-observe.ensures.pass, more)
