use Rattle.std.proofs.Common.{rules, ◌≡◌, ap, sym, ◌∙◌, ◌++◌, ◌∷◌, [], append_assoc}
use Rattle.expectations.proofs.Steps.{one_more_text}
use Rattle.expectations.proofs.table.set_of.Goals as goal

pub loop-text-preserved : goal.loop-text-preserved
loop-text-preserved c = record {
  made = one_more_text c.loop-text.set.keys c.insert.new.self.keys c.loop-text.yielded c.in-Some.text c.in_ok-insert.ensures.keys c.loop-text.invariant.made;
  left = let goes : c.loop-text.text-iterator.rest.items ≡ c.in-Some.text ∷ c.next.new.self.rest.items = search (rules, c.in-Some.ensures.steps) in append_assoc c.loop-text.yielded (c.in-Some.text ∷ []) c.next.new.self.rest.items ∙ ap (λ r. c.loop-text.yielded ++ r) (sym goes) ∙ c.loop-text.invariant.left;
}
