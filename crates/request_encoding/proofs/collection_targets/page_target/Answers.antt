use Rattle.std.proofs.Common.{◌≡◌, [], ◌∷◌, IfOk, codes, decimal, string_bytes, subst, ◌∙◌}
use Rattle.request_encoding.specs.Seen.{scope_of}
use Rattle.request_encoding.specs.Targets.{target}
use Rattle.request_encoding.proofs.ScopesAsked.{asks_page, text_given, told}
use Rattle.request_encoding.proofs.collection_targets.page_target.Goals as goal

pub returns-clause-target : goal.returns-clause-target
returns-clause-target c =
    let most : c.as_str.result.now ≡ decimal c.args.limit = c.as_str.ensures.value ∙ c.in_ok-most.ensures.ok in
    let at : c.as_str-2.result.now ≡ decimal c.args.revision = c.as_str-2.ensures.value ∙ c.in_ok-at.ensures.ok in
    subst (λ n. IfOk c.target.result (λ t. string_bytes t ≡ target (scope_of c.args.scope.now) c.args.kind ((codes "limit", n) ∷ (codes "resourceVersion", decimal c.args.revision) ∷ (codes "resourceVersionMatch", codes "Exact") ∷ []))) most
    (subst (λ r. IfOk c.target.result (λ t. string_bytes t ≡ target (scope_of c.args.scope.now) c.args.kind ((codes "limit", c.as_str.result.now) ∷ (codes "resourceVersion", r) ∷ (codes "resourceVersionMatch", codes "Exact") ∷ []))) at c.target.ensures)

pub returns-clause-asks : goal.returns-clause-asks
returns-clause-asks c page =
    let scope = c.args.scope.now in
    told c.target.result _ _ (returns-clause-target c) (asks_page (scope_of scope) c.args.kind scope.understood c.args.limit c.args.revision (text_given scope.selector) page)
