use Rattle.std.proofs.Common.{ap, ◌∙◌, sym}
use Rattle.std.specs.BTreeMap.{is_at}
use Rattle.std.specs.Map.{lookup}
use Rattle.std.specs.FinMap as map_of
use Rattle.expectations.specs.Seen.{expectation_of, owners_of}
use Rattle.expectations.proofs.Steps.{is_there, owner, table_of, key_cmp, expected_there, expected_new, same_key, on_ok, on_err}
use Rattle.expectations.proofs.table.Table.expect.Goals as goal

pub returns-in-Some-clause-ok : goal.returns-in-Some-clause-ok
returns-in-Some-clause-ok c =
    on_ok c.expect.result
    (λ put.
    let there = (c.get_mut.follows.holds c.expect.new.owners).3 (is_there _ _ c.in-Some.ensures.value) in
    expected_there c.args.key.now c.args.uid.now (expectation_of c.args.expectation) c.self.inside.by_key.entries (c.get_mut.follows.lender c.expect.new.owners).entries c.in-Some.owners.now c.expect.new.owners c.in-Some.ensures.value there.1 there.3
    (put ∙ ap (λ u. map_of.insert (owners_of c.in-Some.owners.now) u (expectation_of c.args.expectation)) c.in_ok-uid.ensures.ok)
    ∙ ap (λ t. map_of.insert t (owner c.args.key.now c.args.uid.now) (expectation_of c.args.expectation)) c.self.view_is)
    c.expect.ensures.ok

pub returns-in-Some-clause-err : goal.returns-in-Some-clause-err
returns-in-Some-clause-err c =
    on_err c.expect.result
    (λ same.
    let there = (c.get_mut.follows.holds c.expect.new.owners).3 (is_there _ _ c.in-Some.ensures.value) in
    same_key c.args.key.now c.self.inside.by_key.entries (c.get_mut.follows.lender c.expect.new.owners).entries c.in-Some.owners.now c.expect.new.owners c.in-Some.ensures.value there.1 there.3 same
    ∙ c.self.view_is)
    c.expect.ensures.err

pub returns-clause-ok : goal.returns-clause-ok
returns-clause-ok c =
    let o = owner c.args.key.now c.args.uid.now in
    let e = expectation_of c.args.expectation in
    let before = c.get_mut.follows.lender-at-none in
    expected_new c.args.key.now c.in_ok-try_copy.field-0 c.args.uid.now e before.entries c.insert.new.self.entries c.new-owners.result c.expect-2.new.owners c.in_ok-try_copy.ensures c.new-owners.ensures.empty
    (c.in_default.ensures.value ∙ ap (λ m. lookup (is_at (key_cmp c.args.key.now)) m.entries) (sym c.get_mut.follows.holds-at-none))
    c.in_ok-insert.ensures.updates.1
    c.in_ok-insert.ensures.updates.3
    (c.in_ok-expect.ensures.ok ∙ ap (λ u. map_of.insert (owners_of c.new-owners.result) u e) c.in_ok-uid.ensures.ok)
    ∙ ap (λ m. map_of.insert (table_of m.entries) o e) c.get_mut.follows.holds-at-none
    ∙ ap (λ t. map_of.insert t o e) c.self.view_is
