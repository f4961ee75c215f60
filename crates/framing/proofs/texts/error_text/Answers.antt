use Rattle.std.proofs.Common.{ap, ◌∙◌, subst}
use Rattle.std.specs.Prelude.{string_bytes}
use Rattle.serde_json.specs.Written.{has_float}
use Rattle.object_keys.specs.Faults.{refusal_of}
use Rattle.spec_api.specs.Frames.{Frame, frame_text}
use Rattle.spec_api.specs.declared.frames.FrameKind.TheVariants.{Error}
use Rattle.framing.specs.Texts.{IsWithin, ReadsAs}
use Rattle.framing.proofs.Statuses.{status_clean}
use Rattle.framing.proofs.texts.error_text.Goals as goal

pub line_of-requires : goal.line_of-requires
line_of-requires c = ap has_float c.in_ok-status.ensures ∙ status_clean (refusal_of c.args.fault.now)

pub returns-clause-text : goal.returns-clause-text
returns-clause-text c = c.in_ok-line.ensures.text ∙ ap (λ d. let e : Frame = record { kind = Error; object = d } in frame_text e) c.in_ok-status.ensures

pub returns-clause-reads_back : goal.returns-clause-reads_back
returns-clause-reads_back c =
    subst (λ d. let e : Frame = record { kind = Error; object = d } in IsWithin e → ReadsAs (string_bytes c.in_ok-line.line) e) c.in_ok-status.ensures c.in_ok-line.ensures.reads_back
