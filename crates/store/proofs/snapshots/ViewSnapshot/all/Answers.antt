use Rattle.std.proofs.Common.{rules}
use Rattle.store.proofs.PageChunks.{whole}
use Rattle.store.proofs.snapshots.ViewSnapshot.all.Goals as goal

pub returns : goal.returns
returns c = search (rules, whole)
