use Rattle.std.specs.Str.{IsUtf8}
use Rattle.std.proofs.Common.{subst, ap, ◌∙◌, refl}
use Rattle.std.specs.Prelude.{string_bytes}
use Rattle.spec_api.specs.Frames.{kind_text}
use Rattle.framing.specs.Texts.{framed_text}
use Rattle.framing.proofs.FrameTexts.{line_is, line_reads}
use Rattle.framing.proofs.texts.object_text.Goals as goal

pub returns-clause-text : goal.returns-clause-text
returns-clause-text c =
    line_is c.args.kind c.args.kind c.args.object.now.value (string_bytes c.in_ok-text.text) (string_bytes c.in_ok-line.line) refl
    (c.in_ok-line.ensures ∙ ap (framed_text (kind_text c.args.kind)) c.as_str.ensures.value) c.in_ok-text.ensures.text

pub returns-clause-reads_back : goal.returns-clause-reads_back
returns-clause-reads_back c =
    line_reads c.args.kind c.args.kind c.args.object.now.value (string_bytes c.in_ok-text.text) (string_bytes c.in_ok-line.line) refl
    (c.in_ok-line.ensures ∙ ap (framed_text (kind_text c.args.kind)) c.as_str.ensures.value) c.in_ok-text.ensures.text
    c.in_ok-text.ensures.order c.in_ok-text.ensures.no_float c.in_ok-text.ensures.reads_back (subst IsUtf8 c.as_str.ensures.value c.as_str.utf8)
