use Rattle.std.proofs.Common.{arith, ℕ, Bool, true, false, not, ◌≡◌, ◌∙◌, cond, is_some, length, ap, Some, option_map, refl, sym}
use Rattle.spec_api.specs.History.{found}
use Rattle.object_keys.specs.Keys.{key_of}
use Rattle.meta.specs.declared.stored.StoredObject.{StoredObject}
use Rattle.store.specs.Seen.{members_seen}
use Rattle.store.proofs.Indexes.{index_takes, index_alike}
use Rattle.store.proofs.SeenMaps.{seen-put_entry, ascending_seen, few_put, length-seen, is_some-map}
use Rattle.store.proofs.objects.put_under.Goals as goal

pub returns-clause-members : goal.returns-clause-members
returns-clause-members c = ap members_seen c.in_ok-insert.ensures.ok ∙ seen-put_entry c.args.objects.now (c.args.key, c.args.object)

pub returns-clause-indexed : goal.returns-clause-indexed
returns-clause-indexed c =
    index_takes c.reserve.new.self c.insert-2.new.self c.args.objects.now c.insert.new.self c.in_ok-copy.copy c.args.key (Some c.in_ok-shared.shared) (Some c.args.object.value)
    c.in_ok-copy.ensures (ap (λ (o : StoredObject). Some o.value) c.in_ok-shared.ensures) c.in_ok-insert-2.ensures.updates.0 (returns-clause-members c) c.in_ok-insert.ensures.ordered
    (index_alike c.args.index.now c.reserve.new.self c.args.objects.now c.args.objects.now c.in_ok-reserve.ensures.entries.2 refl c.requires.indexed)

pub returns-clause-before : goal.returns-clause-before
returns-clause-before c =
    ap (option_map (λ (o : StoredObject). o.value)) (c.in_ok-insert-2.ensures.old ∙ c.in_ok-reserve.ensures.entries.2 c.in_ok-copy.copy) ∙ c.requires.indexed c.in_ok-copy.copy ∙ ap (λ n. found n (members_seen c.args.objects.now)) c.in_ok-copy.ensures

pub returns-clause-len : goal.returns-clause-len
returns-clause-len c =
    let ms = members_seen c.args.objects.now in
    let put = few_put (key_of c.args.key) c.args.object.value ms (ascending_seen c.args.objects.now c.in_ok-insert.ensures.ordered) in
    let same : is_some c.in_ok-insert-2.field-0 ≡ is_some (found (key_of c.args.key) ms) = sym (is_some-map c.in_ok-insert-2.field-0) ∙ ap is_some (returns-clause-before c) in
    omega (arith, put, ap length (returns-clause-members c), length-seen c.insert.new.self, length-seen c.args.objects.now, ap (λ b. cond {A = ℕ} b 0 1) same, turned (is_some c.in_ok-insert-2.field-0))
  where
    turned : (b : Bool) → cond {A = ℕ} (not b) 1 0 ≡ cond b 0 1
    turned true = refl
    turned false = refl
