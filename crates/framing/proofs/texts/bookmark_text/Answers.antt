use Rattle.std.proofs.Common.{subst}
use Rattle.std.specs.Prelude.{string_bytes}
use Rattle.spec_api.specs.Frames.{Frame}
use Rattle.framing.specs.Texts.{IsWithin, ReadsAs}
use Rattle.spec_api.specs.declared.frames.FrameKind.TheVariants.{Bookmark}
use Rattle.framing.proofs.Bookmarks.{IsWithin-bookmark}
use Rattle.framing.proofs.texts.bookmark_text.Goals as goal

pub returns-clause-reads_back : goal.returns-clause-reads_back
returns-clause-reads_back c =
    let reads = subst (λ d. let e : Frame = record { kind = Bookmark; object = d } in IsWithin e → ReadsAs (string_bytes c.in_ok-line.line) e) c.in_ok-object.ensures c.in_ok-line.ensures.reads_back in
    reads (IsWithin-bookmark c.args.kind c.args.closing c.args.revision c.ranges.revision.fits)
