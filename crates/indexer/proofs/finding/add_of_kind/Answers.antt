use Rattle.std.proofs.Common.{◌≡◌, ◌++◌, ◌∙◌, ap, map, OnOk}
use Rattle.std.specs.BTreeMap.Range.{range_contains}
use Rattle.std.specs.declared.ops.Bound.TheVariants.{Included, Excluded}
use Rattle.reconcile_types.specs.Entries.{entry_of}
use Rattle.indexer.specs.Links.{first_name}
use Rattle.reflector.specs.Seen.{members_seen}
use Rattle.indexer.proofs.Bounds.{keys_between}
use Rattle.indexer.proofs.Namespaces.{range_seen}
use Rattle.reflector.proofs.SeenMaps.{key_cmp}
use Rattle.std.proofs.Common.{subst}
use Rattle.spec_api.specs.History.{Entries}
use Rattle.indexer.proofs.finding.add_of_kind.Goals as goal

pub returns : goal.returns
returns c =
    let first = c.first_key-first.result in
    let past = c.first_key-past.result in
    let begins = c.first_key-first.ensures ∙ ap (first_name c.args.kind) c.in_ok-from_str.ensures.ok in
    let ends = c.first_key-past.ensures ∙ ap (first_name c.args.kind) c.in_ok-text_after.ensures in
    subst (λ (ms : Entries). OnOk c.append_entries.result (map entry_of c.append_entries.new.found.items ≡ map entry_of c.args.found.now.items ++ ms))
    (ap members_seen c.in_ok-between.ensures.span
    ∙ range_seen c.args.kind c.args.namespace.now (range_contains key_cmp (Included first) (Excluded past)) (keys_between c.args.kind c.args.namespace.now first past begins ends) c.args.objects.now)
    c.append_entries.ensures
