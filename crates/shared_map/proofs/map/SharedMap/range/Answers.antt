use Rattle.std.proofs.Common.{rules, length, ◌<◌, ◌≡◌, ◌∙◌, ◌++◌, ap, sym, subst}
use Rattle.std.specs.declared.ops.Bound.TheVariants.{Included, Excluded, Unbounded}
use Rattle.std.specs.BTreeMap.Range.{entries_between}
use Rattle.shared_map.specs.Parts.{parts, joined}
use Rattle.shared_map.specs.Entries.{end_before}
use Rattle.shared_map.proofs.Cuts.{both}
use Rattle.shared_map.proofs.Cuts as cuts
use Rattle.shared_map.proofs.map.SharedMap.range.Goals as goal

pub returns-in-Some-clause-span : goal.returns-in-Some-clause-span
returns-in-Some-clause-span g c =
    let R = g.K.Ord.cmp in
    let f = c.args.first.now in
    let p = c.in-Some.past.now in
    let L = joined (parts c.self.inside.chunks.items) in
    c.until.ensures ∙ ap (cuts.before R p) (c.from.ensures.cut ∙ ap (λ l. cuts.from R f (joined (parts l))) c.as_slice.ensures.value)
    ∙ both R f p L ∙ ap (λ b. entries_between R (Included f) b L) (ap end_before (sym c.in-Some.is)) ∙ ap (entries_between R (Included f) (end_before c.args.past)) c.self.view_is

pub from-requires-clause-few : goal.from-requires-clause-few
from-requires-clause-few g c =
    let few : c.len.result < 18446744073709551616 = search rules in
    let all : length (joined (parts c.self.inside.chunks.items)) < 18446744073709551616 = subst (λ n. n < 18446744073709551616) (c.len.ensures.len ∙ ap length (sym c.self.view_is)) few in
    subst (λ cs. length (joined (parts cs)) < 18446744073709551616) (sym c.as_slice.ensures.value) all
