use denote.Exit.{no}
use denote.Param.{param}
use denote.Param.Send.{IsSync, sendable, param_send, arg_send}
use Rattle.std.proofs.Common.{◌≡◌, Some, ap, length, ◌++◌, drop, rules, ◌∙◌, sym}
use Rattle.http_event_loop.specs.Counted.{taken_over}
use Rattle.http_event_loop.specs.Rows.{RunsEach}
use Rattle.kcp_commands.proofs.Sent.{looping}
use Rattle.kcp_commands.proofs.Answered.{Ran, all_taken, answered_limit, answered_some, as_many, nobody_yet, on_err}
use Rattle.kcp_commands.proofs.serving_threads.run_loops.Goals as goal

pub run_row-outcome-requires-send-H : goal.run_row-outcome-requires-send-H
run_row-outcome-requires-send-H g c κs within =
    let lent : IsSync (param 0 g.row.R) = search (c, sendable) in
    param_send 1 _ (arg_send _ no _ (looping _ _ _ (param 0 g.row.R) lent (param 2 g.row.L) g.L.Ledger))

pub returns-in_err-announce-clause-err : goal.returns-in_err-announce-clause-err
returns-in_err-announce-clause-err g c = on_err c.from_residual.result (nobody_yet c.args.limit c.args.row.items)

pub returns-in_err-outcome-clause-err : goal.returns-in_err-outcome-clause-err
returns-in_err-outcome-clause-err g c =
    let firsts = c.args.row.items in
    let lasts = c.run_row-outcome.new.row in
    let n = c.count_taken-served.result in
    let ran : RunsEach Ran firsts lasts = search rules in
    let many : c.args.row.len ≡ length firsts = search rules in
    let counted : n ≡ taken_over lasts = c.count_taken-served.ensures.count ∙ ap taken_over (all_taken lasts (drop (length lasts) firsts) c.args.row.len (many ∙ as_many Ran firsts lasts ran)) in
    on_err c.from_residual-in_err-outcome.result (answered_some _ c.args.limit firsts lasts n c.requires.new ran counted c.requires.limit c.count_taken-served.ensures.most)

pub returns-then-eq-clause-ok : goal.returns-then-eq-clause-ok
returns-then-eq-clause-ok g c =
    let firsts = c.args.row.items in
    let lasts = c.run_row-outcome.new.row in
    let n = c.count_taken-served.result in
    let is : c.args.limit ≡ Some n = search rules in
    let ran : RunsEach Ran firsts lasts = search rules in
    let many : c.args.row.len ≡ length firsts = search rules in
    let counted : n ≡ taken_over lasts = c.count_taken-served.ensures.count ∙ ap taken_over (all_taken lasts (drop (length lasts) firsts) c.args.row.len (many ∙ as_many Ran firsts lasts ran)) in
    answered_limit c.args.limit firsts lasts n is c.requires.new ran counted

pub returns-else-eq-clause-err : goal.returns-else-eq-clause-err
returns-else-eq-clause-err g c =
    let firsts = c.args.row.items in
    let lasts = c.run_row-outcome.new.row in
    let n = c.count_taken-served.result in
    let ran : RunsEach Ran firsts lasts = search rules in
    let many : c.args.row.len ≡ length firsts = search rules in
    let counted : n ≡ taken_over lasts = c.count_taken-served.ensures.count ∙ ap taken_over (all_taken lasts (drop (length lasts) firsts) c.args.row.len (many ∙ as_many Ran firsts lasts ran)) in
    answered_some _ c.args.limit firsts lasts n c.requires.new ran counted c.requires.limit c.count_taken-served.ensures.most
