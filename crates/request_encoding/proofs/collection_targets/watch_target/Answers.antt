use Rattle.std.proofs.Common.{◌≡◌, [], ◌∷◌, IfOk, codes, decimal, string_bytes, subst, ◌∙◌}
use Rattle.request_encoding.specs.Seen.{scope_of}
use Rattle.request_encoding.specs.Targets.{target}
use Rattle.request_encoding.proofs.ScopesAsked.{asks_watch, text_given, told}
use Rattle.request_encoding.proofs.collection_targets.watch_target.Goals as goal

pub returns-clause-target : goal.returns-clause-target
returns-clause-target c =
    let digits : c.as_str.result.now ≡ decimal c.args.revision = c.as_str.ensures.value ∙ c.in_ok-after.ensures.ok in
    subst (λ d. IfOk c.target.result (λ t. string_bytes t ≡ target (scope_of c.args.scope.now) c.args.kind ((codes "watch", codes "true") ∷ (codes "allowWatchBookmarks", codes "true") ∷ (codes "resourceVersion", d) ∷ []))) digits c.target.ensures

pub returns-clause-asks : goal.returns-clause-asks
returns-clause-asks c early =
    let scope = c.args.scope.now in
    told c.target.result _ _ (returns-clause-target c) (asks_watch (scope_of scope) c.args.kind scope.understood c.args.revision (text_given scope.selector) early)
