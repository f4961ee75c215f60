use Rattle.std.proofs.Common.{◌≡◌, ◌∙◌, ◌++◌, ◌∷◌, [], ap, refl, subst, string_bytes}
use Rattle.controller_simulation.specs.Answers.{came_of}
use Rattle.controller_simulation.specs.Requests.{Comes, after_request}
use Rattle.controller_simulation.proofs.turns.ControllerTurn.ask.Goals as goal

pub returns-clause-asked : goal.returns-clause-asked
returns-clause-asked g c =
    let bytes : c.as_bytes.result.now ≡ string_bytes c.args.line = c.as_bytes.ensures.value ∙ c.as_str.ensures.value in
    record {
      note = record { line = c.args.line; answer = c.in_ok-answer.answer };
      past = c.push_reserved.ensures.items ∙ ap (λ l. l ++ record { line = c.args.line; answer = c.in_ok-answer.answer } ∷ []) c.in_ok-reserve.ensures.items;
      same = (refl, refl, refl);
      asked = refl;
      came = subst (λ b. Comes c.args.fate b c.args.cluster.now (came_of c.in_ok-answer.answer)) bytes c.in_ok-answer.ensures.came;
      after = c.in_ok-answer.ensures.cluster ∙ ap (λ b. after_request c.args.fate b c.args.cluster.now) bytes;
    }
