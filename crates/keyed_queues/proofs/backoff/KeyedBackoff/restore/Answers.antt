use Rattle.std.proofs.Common.{◌≡◌, refl, ap, ◌∙◌, sym, is_some, true≢false, ℕ, Option, Some, None}
use Rattle.std.specs.FinMap as map_of
use Rattle.std.specs.Option.{IsSome}
use Rattle.keyed_queues.specs.Numbers.{said}
use Rattle.keyed_queues.proofs.Numbers.{found, removed, changed}
use Rattle.keyed_queues.specs.Failures.{restored}
use Rattle.keyed_queues.proofs.backoff.KeyedBackoff.restore.Goals as goal

is_there : (o : Option ℕ) (x : ℕ) → Some x ≡ o → IsSome o
is_there None x e = cc
is_there (Some y) x e = refl

pub returns-in-None : goal.returns-in-None
returns-in-None g c =
    let m = g.met.K.Named in
    let R = g.K.Named.order in
    let say = g.K.Named.says in
    removed R m.ordered m.apart say g.K.Ord.cmp m.alike c.self.inside.failures.entries c.remove.new.self.entries c.args.key.now c.remove.ensures.updates.1 c.remove.ensures.updates.3
    ∙ ap (λ l. map_of.remove (said R say l) (say c.args.key.now)) c.self.view_is
    ∙ ap (λ o. restored (say c.args.key.now) o (said R say c.args.self.now)) (sym c.in-None.is)

pub returns-in-Some-get_mut : goal.returns-in-Some-get_mut
returns-in-Some-get_mut g c =
    let m = g.met.K.Named in
    let R = g.K.Named.order in
    let say = g.K.Named.says in
    let there = (c.get_mut.follows.holds c.in-Some.before).3 (is_there _ _ c.in-Some-get_mut.ensures.value) in
    changed R m.ordered m.apart say g.K.Ord.cmp m.alike c.self.inside.failures.entries (c.get_mut.follows.lender c.in-Some.before).entries c.args.key.now c.in-Some.before there.1 there.3
    ∙ ap (λ l. map_of.insert (said R say l) (say c.args.key.now) c.in-Some.before) c.self.view_is
    ∙ ap (λ o. restored (say c.args.key.now) o (said R say c.args.self.now)) (sym c.in-Some.is)

-- the key has failures
pub returns-in_default : goal.returns-in_default
returns-in_default g c =
    let m = g.met.K.Named in
    let R = g.K.Named.order in
    let say = g.K.Named.says in
    let none = ap (λ l. map_of.get (said R say l) (say c.args.key.now)) (sym c.self.view_is) ∙ found R m.ordered m.apart say g.K.Ord.cmp m.alike c.self.inside.failures.entries c.args.key.now ∙ sym c.in_default.ensures.value in
    absurd (true≢false (sym c.requires ∙ ap is_some none))
