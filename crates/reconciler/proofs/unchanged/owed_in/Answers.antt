use Rattle.std.proofs.Common.{IfOk, map, ap, ◌∙◌, subst}
use Rattle.spec_client_go.specs.Shifts.{shift_at}
use Rattle.object_keys.specs.Keys.{key_of}
use Rattle.reconciler.specs.Owing.{AreOwed}
use Rattle.reconciler.proofs.Again.{listed_unchanged}
use Rattle.reconciler.proofs.unchanged.owed_in.Goals as goal

pub returns : goal.returns
returns g c =
    let ms = c.args.objects.now.members in
    subst (λ ss. IfOk c.owed_at.result (λ keys. AreOwed (g.C.Reconciler.owes c.args.shown.now) ss keys.items))
    (ap (map (λ e. shift_at ms ms (key_of e.key.now))) c.as_slice.ensures.value ∙ listed_unchanged ms c.in_ok-entries.entries.items c.in_ok-entries.ensures.all) c.owed_at.ensures
