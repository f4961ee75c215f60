use Rattle.std.proofs.Common.{rules}
use Rattle.store.proofs.AskedKeys.{after-none}
use Rattle.store.proofs.snapshots.ViewSnapshot.of.Goals as goal

pub returns : goal.returns
returns c = search (rules, after-none)
