use Rattle.std.proofs.Common.{◌≡◌, ◌∙◌, ◌++◌, ap, codes}
use Rattle.meta.specs.WholeTexts.{named_member, version_member, kind_member}
use Rattle.meta.proofs.whole_texts.after_both.Goals as goal

pub returns : goal.returns
returns c =
    let kind = c.args.kind in
    let first = c.args.first.now in
    let second = c.args.second.now in
    let rest = c.in_ok-rest-4.rest.now in
    let from_kind : c.in_ok-rest-3.rest.now ≡ kind_member kind ++ rest = c.in_ok-rest-4.ensures ∙ ap (λ s. named_member (codes "\"kind\":\"") s ++ rest) c.name.ensures in
    let from_second : c.in_ok-rest-2.rest.now ≡ second ++ (kind_member kind ++ rest) = c.in_ok-rest-3.ensures ∙ ap (λ t. second ++ t) from_kind in
    let from_version : c.in_ok-rest.rest.now ≡ version_member kind ++ (second ++ (kind_member kind ++ rest)) =
    c.in_ok-rest-2.ensures ∙ ap (λ s. named_member (codes "\"apiVersion\":\"") s ++ c.in_ok-rest-2.rest.now) c.api_version.ensures ∙ ap (λ t. version_member kind ++ t) from_second in
    c.in_ok-rest.ensures ∙ ap (λ t. first ++ t) from_version
