use Rattle.std.proofs.Common.{◌∙◌, ap, Some, map}
use Rattle.std.specs.Map.{keys_of}
use Rattle.spec_api.specs.History.{found}
use Rattle.spec_api.specs.Objects.{Object}
use Rattle.spec_api.proofs.PutLaws.{lookup-insert_entry}
use Rattle.spec_client_go.proofs.WorkKeyOrder.{name_total}
use Rattle.object_keys.specs.Keys.{key_of}
use Rattle.indexer.specs.Links.{link_of, links_at}
use Rattle.reflector.specs.Seen.{members_seen}
use Rattle.indexer.proofs.LinkIndex.{index_changes}
use Rattle.indexer.proofs.putting.put_made.Goals as goal

pub returns-clause-indexed : goal.returns-clause-indexed
returns-clause-indexed c =
    let ms = members_seen c.args.objects.now in
    let n = key_of c.args.key in
    let d = c.args.object.now.value in
    index_changes (keys_of c.args.links.now) (keys_of c.relink.new.links) c.in_ok-more.more.items c.as_slice.result.now ms (members_seen c.put_object.new.objects) n (Some d) c.requires.indexed
    (c.in_ok-more.ensures ∙ ap (λ (o : Object). links_at n (Some o.value)) c.object.ensures) (ap (map link_of) c.as_slice.ensures.value ∙ c.in_ok-gone.ensures)
    c.in_ok-relink.ensures
    (λ q. ap (found (key_of q.key)) c.in_ok-put_object.ensures.ok ∙ lookup-insert_entry name_total (key_of q.key) n d ms)
