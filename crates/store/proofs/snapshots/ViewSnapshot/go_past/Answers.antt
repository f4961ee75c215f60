use Rattle.std.proofs.Common.{◌∙◌}
use Rattle.object_keys.specs.Keys.{key_of}
use Rattle.selector.specs.Views.{view_of}
use Rattle.store.specs.Chunks.{after_key}
use Rattle.store.proofs.Suffixes.{gone_past}
use Rattle.store.proofs.snapshots.ViewSnapshot.go_past.Goals as goal

pub returns : goal.returns
returns c before left d is =
    let s = c.self.inside in
    gone_past (view_of s.view) (after_key s.after) (key_of c.args.key) s.objects c.self.invariant before left d (c.self.view_is ∙ is)
