use Rattle.std.proofs.Common.{◌≡◌, [], ◌∷◌, Some, ◌++◌, All, length, map, reverse, ap, sym, subst, ◌∙◌, arith}
use Rattle.std.proofs.lemmas.List.{length-append, length-reverse, nil_from_length}
use Rattle.std.proofs.lemmas.List.Elements.{All-pop, All-push}
use Rattle.desk.specs.Desks.{IsNewAt, known}
use Rattle.desk.specs.Seats.{known_at}
use Rattle.kcp_loopback.specs.Serving.{IsNewOf, seat_of}
use Rattle.kcp_loopback.proofs.Made.{all_reversed, made_more, made_all, made_count, made_in_order, new_of}
use Rattle.kcp_loopback.proofs.answering.Shared.event_loops.Goals as goal

pub loop-pass-preserved : goal.loop-pass-preserved
loop-pass-preserved g c =
    let before = c.loop-pass.invariant in
    let passes = All-pop (IsNewAt c.args.self.now.desk.now) c.loop-pass.passes.items c.pop.new.self.items (Some c.in-Some.pass) c.in-Some.ensures.items before.0 in
    let knows = c.in_ok-event_loop.ensures.known in
    let made = c.in_ok-event_loop.field-0 in
    let is_new = new_of c.args.self.now.desk.now made c.in_ok-event_loop.ensures.desk (ap (λ k. k.seen) knows ∙ passes.1.1) (ap (λ k. k.made) knows ∙ passes.1.2) c.in_ok-event_loop.ensures.turns c.in_ok-event_loop.ensures.asked in
    let all_new = All-push (IsNewOf c.args.self.now.desk.now) c.loop-pass.made.items made before.2 is_new in
    let more = made_more known (λ e. known_at (seat_of e)) c.args.passes.items c.loop-pass.passes.items c.pop.new.self.items c.loop-pass.made.items c.in-Some.pass made c.in-Some.ensures.items knows before.3 in
    let fewer_passes = ap length c.in-Some.ensures.items ∙ length-append c.pop.new.self.items (c.in-Some.pass ∷ []) in
    let fewer_places = ap length c.in-Some-pop.ensures.items ∙ length-append c.pop-in-Some.new.self.items (c.in-Some-pop.place ∷ []) in
    let same = before.1 in (
      passes.0,
      omega (arith, fewer_passes, fewer_places, same),
      subst (All (IsNewOf c.args.self.now.desk.now)) (sym c.in_ok-push.ensures.items) all_new,
      subst (λ es. map known c.args.passes.items ≡ map known c.pop.new.self.items ++ reverse (map (λ e. known_at (seat_of e)) es)) (sym c.in_ok-push.ensures.items) more,
    )

pub returns-clause-new : goal.returns-clause-new
returns-clause-new g c =
    let is_new = IsNewOf c.args.self.now.desk.now in
    subst (All is_new) (sym c.reverse.ensures.items) (all_reversed is_new c.loop-pass.made.items c.loop-pass.invariant.2)

pub returns-clause-count : goal.returns-clause-count
returns-clause-count g c =
    let none = nil_from_length c.loop-pass.passes.items (sym c.loop-pass.passes.ok.0 ∙ c.in_default.ensures.cases.0) in
    let last_first = made_all known (λ e. known_at (seat_of e)) c.args.passes.items c.loop-pass.passes.items c.loop-pass.made.items none c.loop-pass.invariant.3 in
    ap length c.reverse.ensures.items ∙ length-reverse c.loop-pass.made.items ∙ made_count known (λ e. known_at (seat_of e)) c.args.passes.items c.loop-pass.made.items last_first

pub returns-clause-known : goal.returns-clause-known
returns-clause-known g c =
    let none = nil_from_length c.loop-pass.passes.items (sym c.loop-pass.passes.ok.0 ∙ c.in_default.ensures.cases.0) in
    let last_first = made_all known (λ e. known_at (seat_of e)) c.args.passes.items c.loop-pass.passes.items c.loop-pass.made.items none c.loop-pass.invariant.3 in
    ap (map (λ e. known_at (seat_of e))) c.reverse.ensures.items ∙ made_in_order known (λ e. known_at (seat_of e)) c.args.passes.items c.loop-pass.made.items last_first
