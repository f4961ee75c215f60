use Rattle.std.proofs.Common.{◌≡◌, ◌<◌, ◌+◌, ◌-◌, [], ◌++◌, map, take, drop, length, get_or, sym, ap, ◌∙◌, arith, append-nil}
use Rattle.std.proofs.lemmas.List.{take-map, drop-map, drop_all, length-map, get_or-map}
use Rattle.meta.specs.Writes.{write_of}
use Rattle.std.specs.Prelude.{option_map}
use Rattle.object_keys.specs.Keys.{key_of}
use Rattle.spec_api.specs.History as history
use Rattle.spec_api.specs.History.{after_all}
use Rattle.spec_api.specs.Events.{events_after}
use Rattle.selector.specs.Views.{view_of}
use Rattle.revisions.specs.Events.{event_seen}
use Rattle.revisions.specs.Seen.{seen}
use Rattle.revisions.proofs.Histories.{writes-history_of, value-copied}
use Rattle.revisions.proofs.Walks.{short_take, short_drop, changes_of_part, state_after, told}
use Rattle.revisions.proofs.changes.changes_between.Goals as goal

pub loop-place-init : goal.loop-place-init
loop-place-init c =
    let before = c.split_at.result.0.now in
    let writes = c.up_to-writes.result.now in
    let front : before ≡ take (c.args.from - 1) writes = c.split_at.ensures.front ∙ short_take writes (length c.up_to.result.now) (c.args.from - 1) (ap length c.up_to.ensures) in
    let state = c.in_ok-state.ensures in
    record {
      state = state ∙ ap (λ ws. after_all [] (take (c.args.from - 1) ws)) (writes-history_of writes)
          ∙ ap (after_all []) (take-map write_of (c.args.from - 1) writes ∙ ap (map write_of) (sym front) ∙ sym (append-nil (map write_of before)));
      told = ap (λ ws. ws ++ events_after (view_of c.args.view.now) (map write_of before ++ []) (map write_of c.split_at.result.1.now)) (ap (map event_seen) c.new-changes.ensures.items)
          ∙ ap (λ ws. events_after (view_of c.args.view.now) ws (map write_of c.split_at.result.1.now)) (append-nil (map write_of before));
    }

pub loop-place-preserved : goal.loop-place-preserved
loop-place-preserved c =
    let v = view_of c.args.view.now in
    let before = map write_of c.split_at.result.0.now in
    let after = map write_of c.split_at.result.1.now in
    let i = c.loop-place.place in
    let item = c.index-after-place.result in
    let long : length after ≡ length c.split_at.result.1.now = length-map c.split_at.result.1.now write_of in
    let front_long : length before ≡ length c.split_at.result.0.now = length-map c.split_at.result.0.now write_of in
    let within : i < length after = omega (arith, long, c.loop-place-test.true) in
    let is : write_of item ≡ get_or after i (write_of item) = ap write_of c.index-after-place.is ∙ sym (get_or-map write_of c.split_at.result.1.now i item (write_of item) c.loop-place-test.true) in
    record {
      state = state_after v before after i (write_of item) within is (seen c.loop-place.state.entries) (seen c.apply.new.state.entries) c.loop-place.invariant.state c.in_ok-apply.ensures;
      told = sym (told v before after i (write_of item) within is (map event_seen c.loop-place.changes.items) (map event_seen c.push_change.new.changes.items) (length c.split_at.result.0.now + i + 2) (seen c.loop-place.state.entries) _ _
          (omega (arith, front_long)) c.loop-place.invariant.state (c.shown-old.ensures ∙ ap (history.seen v (key_of item.key)) c.found_in.ensures)
          (c.shown-new.ensures ∙ ap (history.seen v (key_of item.key)) (value-copied c.as_ref.result ∙ ap (option_map (λ o. o.value)) c.as_ref.ensures.value)) c.in_ok-push_change.ensures) ∙ c.loop-place.invariant.told;
    }

pub returns : goal.returns
returns c =
    let v = view_of c.args.view.now in
    let all = map write_of c.args.writes.now in
    let m = c.args.from - 1 in
    let n = c.args.to - 1 in
    let ws = c.up_to-writes.result.now in
    let before = c.split_at.result.0.now in
    let after = c.split_at.result.1.now in
    let so_far = map event_seen c.loop-place.changes.items in
    let is : map write_of ws ≡ take n all = ap (map write_of) c.up_to-writes.ensures ∙ sym (take-map write_of n c.args.writes.now) in
    let cut = ap length c.up_to.ensures in
    let front : map write_of before ≡ take m (take n all) =
    ap (map write_of) (c.split_at.ensures.front ∙ short_take ws (length c.up_to.result.now) m cut) ∙ sym (take-map write_of m ws) ∙ ap (take m) is in
    let back : map write_of after ≡ drop m (take n all) =
    ap (map write_of) (c.split_at.ensures.back ∙ short_drop ws (length c.up_to.result.now) m cut) ∙ sym (drop-map write_of m ws) ∙ ap (drop m) is in
    let none : drop c.loop-place.place (map write_of after) ≡ [] = drop_all c.loop-place.place (map write_of after) (omega (arith, length-map after write_of, c.loop-place-test.false)) in
    sym (append-nil so_far)
    ∙ ap (λ us. so_far ++ events_after v (map write_of before ++ take c.loop-place.place (map write_of after)) us) (sym none)
    ∙ c.loop-place.invariant.told
    ∙ ap (λ us. events_after v us (map write_of after)) front ∙ ap (events_after v (take m (take n all))) back
    ∙ changes_of_part v all m n
    ∙ ap (λ us. events_after v (take m us) (drop m (take n us))) (sym (writes-history_of c.args.writes.now))
