use Rattle.std.proofs.Common.{◌∙◌}
use Rattle.selector.specs.Views.{view_of}
use Rattle.store.proofs.PageChunks.{passed, after_first, first_shown}
use Rattle.store.proofs.chunks.next_member.Goals as goal

pub loop-key-preserved : goal.loop-key-preserved
loop-key-preserved c =
    record {
      left = passed (view_of c.args.view.now) c.loop-key.range c.take_next.new.self _ c.in-Some.ensures.some c.if-asks_for.ensures ∙ c.loop-key.invariant.left;
      all = λ all. after_first (view_of c.args.view.now) c.loop-key.range c.take_next.new.self _ c.in-Some.ensures.some (c.loop-key.invariant.all all);
    }

pub asks_for-requires : goal.asks_for-requires
asks_for-requires c selects = first_shown (view_of c.args.view.now) c.loop-key.range c.take_next.new.self _ c.in-Some.ensures.some (c.loop-key.invariant.all (c.requires.all selects))
