-- What a line is answered.
use Rattle.std.specs.Prelude.{ℕ, List, Bool, true, false}
use Rattle.line_service.specs.declared.answer.LineAnswer.{LineAnswer}
use Rattle.line_service.specs.declared.answer.LineAnswer.TheVariants.{Reply, Refusal}

abbrev pub text_of : LineAnswer → List ℕ
text_of (Reply text) = text.items
text_of (Refusal text) = text.now

abbrev pub is_refusal : LineAnswer → Bool
is_refusal (Reply text) = false
is_refusal (Refusal text) = true
