use Rattle.std.proofs.Common.{ap, sym, ◌∙◌, ◌++◌, ◌∷◌, map, subst, append-nil}
use Rattle.spec_client_go.specs.declared.controller.Controller.TheVariants as controller
use Rattle.expectations.specs.Aged.{AreAgedOut, replica_set}
use Rattle.expectations.proofs.AgedTexts.{walked, walked_here, walked_past, walked_are, pushed}
use Rattle.object_keys.specs.WorkKeys.{work_key_of}
use Rattle.expectations.proofs.table.Table.aged_out.Goals as goal

pub loop-key-init : goal.loop-key-init
loop-key-init c =
    let given = c.into_iter-key-iterator.ensures.into_iter_gives in (
      c.self.inside.by_key.entries,
      c.self.view_is,
      given.5,
      ap (λ ks. map work_key_of ks ++ walked c.args.before c.args.now c.into_iter-key-iterator.result) c.new-keys.ensures.items ∙ ap (walked c.args.before c.args.now) given.0,
    )

pub loop-key-preserved-in_ok-push : goal.loop-key-preserved-in_ok-push
loop-key-preserved-in_ok-push c =
    let all = c.loop-key.invariant in
    let rest = walked c.args.before c.args.now c.next.new.self in (
      all.0,
      all.1,
      all.2,
      ap (λ ks. map work_key_of ks ++ rest) c.in_ok-push.ensures.items
          ∙ pushed c.loop-key.keys.items (record { controller = controller.ReplicaSet; key = c.in_ok-try_copy.field-0 }) rest
          ∙ ap (λ n. map work_key_of c.loop-key.keys.items ++ replica_set n ∷ rest) c.in_ok-try_copy.ensures
          ∙ ap (λ ks. map work_key_of c.loop-key.keys.items ++ ks) (sym (walked_here c.args.before c.args.now (c.in-Some.key.now, c.in-Some.owners.now) c.next.new.self (sym c.any_ages_out.ensures ∙ c.if-any_ages_out.true)))
          ∙ ap (λ es. map work_key_of c.loop-key.keys.items ++ walked c.args.before c.args.now es) (sym c.in-Some.ensures.steps)
          ∙ all.3,
    )

pub loop-key-preserved : goal.loop-key-preserved
loop-key-preserved c =
    let all = c.loop-key.invariant in (
      all.0,
      all.1,
      all.2,
      ap (λ ks. map work_key_of c.loop-key.keys.items ++ ks) (sym (walked_past c.args.before c.args.now (c.in-Some.key.now, c.in-Some.owners.now) c.next.new.self (sym c.any_ages_out.ensures ∙ c.if-any_ages_out.false)))
          ∙ ap (λ es. map work_key_of c.loop-key.keys.items ++ walked c.args.before c.args.now es) (sym c.in-Some.ensures.steps)
          ∙ all.3,
    )

pub returns : goal.returns
returns c =
    let all = c.loop-key.invariant in
    let ks = map work_key_of c.loop-key.keys.items in
    subst (λ t. AreAgedOut c.args.before c.args.now t ks) all.1
    (walked_are c.args.before c.args.now all.0 all.2 ks
    (sym (append-nil ks) ∙ ap (λ es. ks ++ walked c.args.before c.args.now es) (sym c.in-None.ensures.steps.0) ∙ all.3))
