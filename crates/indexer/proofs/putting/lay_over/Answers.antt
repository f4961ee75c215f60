use denote.Ref.{Bor}
use Rattle.std.proofs.Common.{rules, ◌≡◌, ◌∷◌, ◌∙◌, map}
use Rattle.object_keys.specs.declared.key.Key.{Key}
use Rattle.reflector.specs.declared.shared_objects.SharedObject.{SharedObject}
use Rattle.indexer.proofs.Copies.{one-more}
use Rattle.indexer.proofs.putting.lay_over.Goals as goal

pub loop-entry-preserved : goal.loop-entry-preserved
loop-entry-preserved c =
    let lent = map (λ (e : Bor (Key × SharedObject)). e.now) c.loop-entry.entry-iterator.rest.items in
    let left = map (λ (e : Bor (Key × SharedObject)). e.now) c.next.new.self.rest.items in
    let goes : lent ≡ (c.in-Some.entry.now.0, c.in-Some.entry.now.1) ∷ left = search rules in
    one-more c.loop-entry.made c.insert.new.self left lent c.in-Some.entry.now.0 c.in_ok-try_copy.field-0 c.in-Some.entry.now.1 c.in_ok-try_copy-2.field-0
    c.in_ok-insert.ensures.ok c.in_ok-try_copy.ensures c.in_ok-try_copy-2.ensures goes
    ∙ c.loop-entry.invariant
