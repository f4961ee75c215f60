use Rattle.std.proofs.Common.{rules, ◌≡◌, ◌∙◌, ap, [], None, map, refl, length}
use Rattle.std.specs.Map.{keys_of, lookup}
use Rattle.std.specs.BTreeMap.{is_at}
use Rattle.object_keys.specs.Keys.{key_of}
use Rattle.indexer.specs.Links.{link_of}
use Rattle.reflector.specs.Seen.{members_seen}
use Rattle.indexer.proofs.LinkSets.{no_links}
use Rattle.indexer.proofs.LinkIndex.{index_changes, index_stays, found_removed}
use Rattle.reflector.proofs.SeenMaps.{key_cmp, seen-remove_entry}
use Rattle.indexer.proofs.SeenMaps.{lookup-removed}
use Rattle.indexer.proofs.putting.remove_under.Goals as goal

pub returns-then-is_empty-clause-members : goal.returns-then-is_empty-clause-members
returns-then-is_empty-clause-members c = ap members_seen c.in_ok-remove.ensures.ok ∙ seen-remove_entry c.args.objects.now c.args.key.now

pub returns-then-is_empty-clause-indexed : goal.returns-then-is_empty-clause-indexed
returns-then-is_empty-clause-indexed c =
    let ls = keys_of c.args.links.now in
    let es = c.args.objects.now in
    let fs = c.remove.new.self in
    let gone = c.in_ok-gone.gone.items in
    let n = key_of c.args.key.now in
    let none : length gone ≡ 0 = search rules in
    index_changes ls ls [] gone (members_seen es) (members_seen fs) n None c.requires.indexed refl c.in_ok-gone.ensures
    (index_stays ls [] gone (members_seen es) n c.requires.indexed c.in_ok-gone.ensures (no_links gone none))
    (found_removed es fs c.args.key.now (λ q. ap (λ l. lookup (is_at (key_cmp q)) l) c.in_ok-remove.ensures.ok ∙ lookup-removed c.args.key.now q es c.remove.ensures.ordered))

pub returns-clause-members : goal.returns-clause-members
returns-clause-members c = ap members_seen c.in_ok-remove-2.ensures.ok ∙ seen-remove_entry c.args.objects.now c.args.key.now

pub returns-clause-indexed : goal.returns-clause-indexed
returns-clause-indexed c =
    let es = c.args.objects.now in
    let fs = c.remove-2.new.self in
    index_changes (keys_of c.args.links.now) (keys_of c.in_ok-changed.changed) c.new.result.items c.as_slice.result.now (members_seen es) (members_seen fs) (key_of c.args.key.now) None
    c.requires.indexed (ap (map link_of) c.new.ensures.items) (ap (map link_of) c.as_slice.ensures.value ∙ c.in_ok-gone.ensures) c.in_ok-changed.ensures
    (found_removed es fs c.args.key.now (λ q. ap (λ l. lookup (is_at (key_cmp q)) l) c.in_ok-remove-2.ensures.ok ∙ lookup-removed c.args.key.now q es c.remove-2.ensures.ordered))
