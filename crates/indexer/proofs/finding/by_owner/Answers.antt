use Rattle.std.proofs.Common.{rules, arith, ◌≡◌, ◌∙◌, ap, length, map}
use Rattle.std.specs.Map.{keys_of}
use Rattle.reconcile_types.specs.Entries.{entry_of}
use Rattle.indexer.specs.Links.{first_link}
use Rattle.indexer.proofs.Bounds.{links_between}
use Rattle.indexer.proofs.LinkWalks.{looked, looked_all, links_lead, keys_in_span}
use Rattle.indexer.proofs.finding.by_owner.Goals as goal

pub returns : goal.returns
returns c =
    let u = c.args.uid.now in
    let es = c.args.objects.now in
    let ls = c.args.links.now in
    let first = c.first_link-first.result in
    let past = c.first_link-past.result in
    let begins = c.first_link-first.ensures ∙ ap first_link c.in_ok-from_str.ensures.ok in
    let ends = c.first_link-past.ensures ∙ ap first_link c.in_ok-text_after.ensures in
    let none : length c.loop-link.link-iterator.rest.items ≡ 0 = omega (arith, c.in-None.ensures.steps) in
    let all : map entry_of c.loop-link.found.items ≡ looked es (keys_of (map (λ e. e.now) c.in_ok-link-items.link-items.items)) =
    looked_all es (map entry_of c.loop-link.found.items) c.loop-link.link-iterator.rest.items c.into_iter-link-iterator.result.rest.items c.in_ok-link-items.link-items.items none (search rules) (search (rules, c.loop-link.invariant)) in
    all ∙ ap (λ l. looked es (keys_of l)) c.in_ok-link-items.ensures.span ∙ ap (looked es) (keys_in_span u first past (links_between u first past begins ends) ls)
    ∙ links_lead first u (ap (λ p. p.0) begins) es (keys_of ls) c.len.ensures.ordered c.between.ensures.ordered c.requires.indexed
