use Rattle.std.proofs.Common.{None, map, refl, ap, ◌∙◌}
use Rattle.serde_json.specs.Written.{compact_text}
use Rattle.spec_api.specs.Lists.{page_body}
use Rattle.meta.specs.Members.{member_of}
use Rattle.verbs.proofs.read.list.Goals as goal

pub returns : goal.returns
returns c = λ moment. record {
  code = refl;
  text =
      c.in_ok-text.ensures
      ∙ (λ i. compact_text (page_body c.args.view.now.kind (c.revision.ensures.value i) None (record { items = (ap (map member_of) c.as_slice.ensures.value ∙ c.in_ok-members.ensures) i; next = None })));
  write = refl;
}
