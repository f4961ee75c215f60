use Rattle.std.proofs.Common.{rules}
use Rattle.store.proofs.AskedKeys.{after-none}
use Rattle.store.proofs.stores.Store.list.Goals as goal

pub returns : goal.returns
returns c = search (rules, after-none)
