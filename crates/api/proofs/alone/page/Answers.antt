use Rattle.std.proofs.Common.{◌≡◌, Option, Some, None, Bor, option_map, option_copied, refl, ap, ◌∙◌, subst}
use Rattle.pages.specs.Seen.{asked_place}
use Rattle.pages.specs.declared.tokens.Token.{Token}
use Rattle.request_parts.specs.Collected.{list_seen, place_seen}
use Rattle.selector.specs.Views.{view_of}
use Rattle.server.specs.Replies.{Finds}
use Rattle.spec_server.specs.Servers.{list_served}
use Rattle.api.proofs.Owned.{found}
use Rattle.api.proofs.alone.page.Goals as goal

-- the place of a token that is lent
place_lent : (t : Option (Bor Token)) → asked_place t ≡ option_map place_seen (option_copied t)
place_lent None = refl
place_lent (Some t) = refl

pub returns : goal.returns
returns c =
    let v = view_of c.args.view.now in
    let options = list_seen c.args.options.now in
    let same = place_lent c.as_ref-after.result ∙ ap (option_map place_seen) c.as_ref-after.ensures.value in
    let finds = subst (λ place. Finds (list_served c.args.server.now v (record { at = options.at; limit = options.limit; after = place })) c.page-page.result) same c.page-page.ensures in
    found c.args.server.now v options c.opened.result (c.opened.ensures (list_served c.args.server.now v options) finds)
