use Rattle.std.proofs.Common.{ap, string_bytes}
use Rattle.spec_api.specs.History.{View}
use Rattle.server.proofs.PageItems.{all_left}
use Rattle.server.proofs.list_texts.ListText.of.Goals as goal

pub returns : goal.returns
returns c =
    let p = c.args.page in
    let end = c.in_ok-end.end in
    all_left p.limit end.count p.objects c.into_members.result (string_bytes c.in_ok-before.before) (string_bytes end.closing) c.into_members.ensures c.in_ok-end.ensures.items p.revision
    c.view.result.now.kind (ap (λ (v : View). v.kind) c.view.ensures) c.in_ok-before.ensures c.in_ok-end.ensures.closing
