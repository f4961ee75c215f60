use Rattle.std.proofs.Common.{◌≡◌, [], ◌∷◌, ◌++◌, Some, string_bytes, sym, ap, ◌∙◌, rules}
use Rattle.std.proofs.lemmas.List.{map-append}
use Rattle.serde_json.specs.View.{view, members_view}
use Rattle.serde_json.specs.Data.{member}
use Rattle.spec_api.specs.declared.selectors.Operator.TheVariants.{In}
use Rattle.spec_api.specs.SelectorValues.{text_in, label_requirements}
use Rattle.spec_api.specs.Selectors.{requiring, label_key, label_value, each_read}
use Rattle.selector.specs.Reading.{onto_read}
use Rattle.selector.specs.Seen.{requirement_of, requirements_of}
use Rattle.selector.proofs.Steps.{one-more}
use Rattle.selector.proofs.requirement_values.label_requirements.Goals as goal

pub loop-key-preserved : goal.loop-key-preserved
loop-key-preserved c =
    let k = c.in-Some.key.now in
    let x = c.in-Some.member.now in
    let v = c.in_ok-read.read in
    let d : members_view c.loop-key.key-iterator ≡ member (string_bytes k) (view x) (members_view c.next.new.self) = ap members_view c.in-Some.ensures.steps in
    let p : c.push.new.self.items ≡ c.loop-key.found.items ++ v ∷ [] = search rules in
    let r : requiring (label_key (string_bytes k)) In (each_read label_value (text_in (Some (view x)) ∷ [])) ≡ Some (requirement_of v) = search rules in
    let h = c.loop-key.invariant ∙ ap (λ z. onto_read (requirements_of c.loop-key.found.items) (label_requirements z)) d in
    let m : requirements_of c.push.new.self.items ≡ requirements_of c.loop-key.found.items ++ requirement_of v ∷ [] = ap requirements_of p ∙ map-append requirement_of c.loop-key.found.items (v ∷ []) in
    one-more (label_requirements (members_view c.args.members.now.entries)) (requirements_of c.loop-key.found.items) (requirement_of v) (requiring (label_key (string_bytes k)) In (each_read label_value (text_in (Some (view x)) ∷ []))) (label_requirements (members_view c.next.new.self)) h r
    ∙ ap (λ z. onto_read z (label_requirements (members_view c.next.new.self))) (sym m)
