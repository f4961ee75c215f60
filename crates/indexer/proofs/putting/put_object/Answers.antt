use Rattle.std.proofs.Common.{◌∙◌, ap}
use Rattle.std.specs.BTreeMap.{insert_entry}
use Rattle.spec_api.specs.Keys.{key_cmp as name_cmp}
use Rattle.object_keys.specs.Keys.{key_of}
use Rattle.reflector.specs.Seen.{members_seen}
use Rattle.reflector.specs.declared.shared_objects.SharedObject.{SharedObject}
use Rattle.reflector.proofs.SeenMaps.{seen-put_entry}
use Rattle.indexer.proofs.putting.put_object.Goals as goal

pub returns-clause-ok : goal.returns-clause-ok
returns-clause-ok c =
    let es = c.args.objects.now in
    ap members_seen c.in_ok-insert.ensures.ok ∙ seen-put_entry es (c.args.key, c.in_ok-try_copy.field-0)
    ∙ ap (λ (o : SharedObject). insert_entry name_cmp (members_seen es) (key_of c.args.key) o.value) c.in_ok-try_copy.ensures
