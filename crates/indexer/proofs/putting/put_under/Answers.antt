use Rattle.std.proofs.Common.{rules, ◌≡◌, ◌∙◌, ap, Some, map, true}
use Rattle.std.specs.Cmp.Lexicographic.{pointwise}
use Rattle.std.specs.Map.{keys_of}
use Rattle.spec_api.specs.History.{found}
use Rattle.spec_api.specs.Objects.{Object}
use Rattle.spec_api.proofs.PutLaws.{lookup-insert_entry}
use Rattle.spec_client_go.proofs.WorkKeyOrder.{name_total}
use Rattle.object_keys.specs.Keys.{key_of}
use Rattle.indexer.specs.Links.{link_of, links_at}
use Rattle.reflector.specs.Seen.{members_seen}
use Rattle.indexer.specs.contracts.links.OwnerLinkPartialEq.TheImpl as link_eq
use Rattle.indexer.proofs.LinkSets.{same_lists}
use Rattle.indexer.proofs.LinkIndex.{index_changes, index_stays}
use Rattle.indexer.proofs.putting.put_under.Goals as goal

pub returns-then-eq-clause-indexed : goal.returns-then-eq-clause-indexed
returns-then-eq-clause-indexed c =
    let ls = keys_of c.args.links.now in
    let ms = members_seen c.args.objects.now in
    let n = key_of c.args.key in
    let d = c.args.object.now.value in
    let more = c.in_ok-more.more.items in
    let gone = c.in_ok-gone.gone.items in
    let same : true ≡ pointwise (link_eq.ghosts).eq more gone = search (rules, c.eq.ensures, c.if-eq) in
    index_changes ls ls more gone ms (members_seen c.put_object.new.objects) n (Some d) c.requires.indexed
    (c.in_ok-more.ensures ∙ ap (λ (o : Object). links_at n (Some o.value)) c.object.ensures) c.in_ok-gone.ensures
    (index_stays ls more gone ms n c.requires.indexed c.in_ok-gone.ensures (same_lists more gone same))
    (λ q. ap (found (key_of q.key)) c.in_ok-put_object.ensures.ok ∙ lookup-insert_entry name_total (key_of q.key) n d ms)

pub returns-clause-indexed : goal.returns-clause-indexed
returns-clause-indexed c =
    let ms = members_seen c.args.objects.now in
    let n = key_of c.args.key in
    let d = c.args.object.now.value in
    index_changes (keys_of c.args.links.now) (keys_of c.in_ok-changed.changed) c.in_ok-more.more.items c.as_slice-3.result.now ms (members_seen c.put_object-2.new.objects) n (Some d) c.requires.indexed
    (c.in_ok-more.ensures ∙ ap (λ (o : Object). links_at n (Some o.value)) c.object.ensures) (ap (map link_of) c.as_slice-3.ensures.value ∙ c.in_ok-gone.ensures)
    c.in_ok-changed.ensures
    (λ q. ap (found (key_of q.key)) c.in_ok-put_object-2.ensures.ok ∙ lookup-insert_entry name_total (key_of q.key) n d ms)
