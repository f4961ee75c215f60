use Rattle.std.proofs.Common.{◌≡◌, IfErr, option_map, rules, subst}
use Rattle.object_keys.specs.Keys.{key_of}
use Rattle.reconciler.specs.Guarded.{Refuses}
use Rattle.mirror_example.specs.Mirrored.{decided, wanted}
use Rattle.mirror_example.proofs.mirror.next.Goals as goal

pub returns-clause-refused : goal.returns-clause-refused
returns-clause-refused c =
    let is : decided (key_of c.args.key.now) (option_map (λ o. o.now.value) c.get.result) (option_map (λ o. o.now.value) c.get-2.result) ≡ wanted (key_of c.args.key.now) c.args.shown.now = search rules in
    subst (λ r. IfErr c.decided.result (Refuses r)) is c.decided.ensures.refused
