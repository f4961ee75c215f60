use Rattle.std.proofs.Common.{arith, length, ◌∙◌, ap, None, refl}
use Rattle.object_keys.specs.Keys.{key_of}
use Rattle.store.specs.Seen.{members_seen}
use Rattle.store.proofs.Indexes.{index_takes}
use Rattle.store.proofs.SeenMaps.{seen-remove_entry, few_removed, length-seen}
use Rattle.store.proofs.objects.take.Goals as goal

pub returns-in_ok-remove-in-None-clause-members : goal.returns-in_ok-remove-in-None-clause-members
returns-in_ok-remove-in-None-clause-members c = rw (c.in_ok-remove-in-None.ensures.ok, c.in-None.is) (seen-remove_entry c.args.objects.now c.args.write.key)

pub returns-in_ok-remove-in-None-clause-indexed : goal.returns-in_ok-remove-in-None-clause-indexed
returns-in_ok-remove-in-None-clause-indexed c =
    index_takes c.args.index.now c.remove-in-None.new.self c.args.objects.now c.remove.new.self c.args.write.key c.args.write.key None None refl refl c.remove-in-None.ensures.updates.0
    (ap members_seen c.in_ok-remove-in-None.ensures.ok ∙ seen-remove_entry c.args.objects.now c.args.write.key) c.remove.ensures.ordered c.requires.indexed

pub returns-in_ok-remove-in-None-clause-len : goal.returns-in_ok-remove-in-None-clause-len
returns-in_ok-remove-in-None-clause-len c =
    let removed = few_removed (key_of c.args.write.key) (members_seen c.args.objects.now) in
    let seen = ap members_seen c.in_ok-remove-in-None.ensures.ok ∙ seen-remove_entry c.args.objects.now c.args.write.key in
    omega (arith, removed, ap length seen, length-seen c.remove.new.self, length-seen c.args.objects.now)
