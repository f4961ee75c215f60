use Rattle.std.proofs.Common.{sym}
use Rattle.selector.specs.Views.{view_of}
use Rattle.store.proofs.PageChunks.{tells_all}
use Rattle.store.proofs.chunks.remaining.Goals as goal

pub returns-then-not-is_selective : goal.returns-then-not-is_selective
returns-then-not-is_selective c =
    tells_all (view_of c.args.view.now) c.args.range c.len.result (c.requires.all (sym c.if-not-is_selective.ensures)) c.len.ensures
