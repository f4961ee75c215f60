use Rattle.std.proofs.Common.{rules, ◌≡◌, ◌∷◌, map, ap, sym, ◌∙◌}
use Rattle.object_keys.specs.Keys.{key_of}
use Rattle.spec_client_go.specs.OwedKeys.{with_keys, for_controller}
use Rattle.object_keys.specs.WorkKeys.{work_key_of}
use Rattle.event_handlers.proofs.SeenTasks.{said-insert_key}
use Rattle.event_handlers.proofs.key_lists.add_all.Goals as goal

pub loop-key-preserved : goal.loop-key-preserved
loop-key-preserved c =
    let goes : c.loop-key.key-iterator.rest.items ≡ c.in-Some.key ∷ c.next.new.self.rest.items = search (rules, c.in-Some.ensures.steps) in
    ap (λ ts. with_keys ts (for_controller c.args.controller (map key_of c.next.new.self.rest.items)))
    (ap (map work_key_of) c.in_ok-insert.ensures.keys ∙ said-insert_key c.loop-key.owed.keys (record { controller = c.args.controller; key = c.in-Some.key }))
    ∙ ap (λ ks. with_keys (map work_key_of c.loop-key.owed.keys) (for_controller c.args.controller (map key_of ks))) (sym goes)
    ∙ c.loop-key.invariant
