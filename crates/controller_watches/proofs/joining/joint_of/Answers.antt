use Rattle.std.proofs.Common.{map}
use Rattle.controller_watches.specs.Watched.{asked_by}
use Rattle.controller_watches.specs.Joint.{joint_of}
use Rattle.controller_watches.proofs.JointOf.{found_more, all_made}
use Rattle.controller_watches.proofs.joining.joint_of.Goals as goal

pub loop-kind-preserved : goal.loop-kind-preserved
loop-kind-preserved c =
    found_more c.args.watches.now c.args.kinds.now c.loop-kind.kind-index c.loop-kind-test.true (joint_of c.args.kinds.now c.args.watches.now) c.loop-kind.made.items
    c.push_found.new.made.items c.joint_watch.result c.joint_watch.ensures.kind c.joint_watch.ensures.scope c.in_ok-push_found.ensures c.loop-kind.invariant

pub returns : goal.returns
returns c =
    all_made c.args.watches.now c.args.kinds.now c.loop-kind.kind-index (map asked_by c.loop-kind.made.items) (joint_of c.args.kinds.now c.args.watches.now) c.loop-kind-test.false c.loop-kind.invariant
