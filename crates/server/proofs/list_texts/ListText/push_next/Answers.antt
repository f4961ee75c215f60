use Rattle.std.proofs.Common.{◌≡◌, ◌-◌, ◌++◌, IfSome, IfNone, length, true, arith, sym, ap, ap₂, subst, ◌∙◌, string_bytes}
use Rattle.server.specs.ListTexts.{text_left, items_left, StopsAt}
use Rattle.server.proofs.AddedItems.{piece_fits, piece_long, piece_made, end_made}
use Rattle.server.proofs.list_texts.ListText.push_next.Goals as goal

pub overflow_sub-self-in-Some : goal.overflow_sub-self-in-Some
overflow_sub-self-in-Some c =
    let f = c.self.inside in
    let old = string_bytes c.args.text.now in
    let mid = string_bytes c.push_str.new.self in
    let new = string_bytes c.push_some.new.text in
    let begun : mid ≡ old ++ string_bytes f.before = c.in_ok-push_str.ensures.bytes ∙ ap (λ t. old ++ t) c.as_str.ensures.value in
    let stops = subst (λ o. IfSome o (StopsAt f.objects f.later f.left mid new)) c.in-Some.is c.in_ok-stop.ensures.some in
    let fits = piece_fits f.objects f.later f.left old mid new (string_bytes f.before) (string_bytes f.closing) c.in-Some.stop begun stops in
    omega (arith, fits, c.self.invariant, ap length c.as_str-start.ensures.value, ap length c.as_str-in-Some.ensures.value)

pub invariant_of-self : goal.invariant_of-self
invariant_of-self c =
    let f = c.self.inside in
    let old = string_bytes c.args.text.now in
    let mid = string_bytes c.push_str.new.self in
    let new = string_bytes c.push_some.new.text in
    let stop = c.in-Some.stop in
    let now = c.go_past.new.self in
    let closing = string_bytes f.closing in
    let begun : mid ≡ old ++ string_bytes f.before = c.in_ok-push_str.ensures.bytes ∙ ap (λ t. old ++ t) c.as_str.ensures.value in
    let stops = subst (λ o. IfSome o (StopsAt f.objects f.later f.left mid new)) c.in-Some.is c.in_ok-stop.ensures.some in
    ap₂ (λ x y. f.len - (length x - length y)) c.as_str-in-Some.ensures.value c.as_str-start.ensures.value
    ∙ piece_long f.objects now f.later f.left old mid new (string_bytes f.before) closing stop begun stops c.go_past.ensures f.len c.self.invariant
    ∙ ap (λ b. length (text_left b true stop.left now closing)) (sym c.new.ensures.bytes)

pub returns-in-Some-clause-made : goal.returns-in-Some-clause-made
returns-in-Some-clause-made c =
    let f = c.self.inside in
    let old = string_bytes c.args.text.now in
    let mid = string_bytes c.push_str.new.self in
    let new = string_bytes c.push_some.new.text in
    let stop = c.in-Some.stop in
    let now = c.go_past.new.self in
    let begun : mid ≡ old ++ string_bytes f.before = c.in_ok-push_str.ensures.bytes ∙ ap (λ t. old ++ t) c.as_str.ensures.value in
    let stops = subst (λ o. IfSome o (StopsAt f.objects f.later f.left mid new)) c.in-Some.is c.in_ok-stop.ensures.some in
    ap (λ t. old ++ t) (sym c.self.view_is)
    ∙ piece_made f.objects now f.later f.left old mid new (string_bytes f.before) (string_bytes f.closing) stop begun stops c.go_past.ensures
    ∙ ap (λ b. new ++ text_left b true stop.left now (string_bytes f.closing)) (sym c.new.ensures.bytes)

pub returns-in-Some-clause-some : goal.returns-in-Some-clause-some
returns-in-Some-clause-some c none =
    let f = c.self.inside in
    let mid = string_bytes c.push_str.new.self in
    let new = string_bytes c.push_some.new.text in
    let stops = subst (λ o. IfSome o (StopsAt f.objects f.later f.left mid new)) c.in-Some.is c.in_ok-stop.ensures.some in
    absurd (omega (arith, stops.full, ap length none))

pub returns-in_ok-push_str-in-None-clause-made : goal.returns-in_ok-push_str-in-None-clause-made
returns-in_ok-push_str-in-None-clause-made c =
    let f = c.self.inside in
    let old = string_bytes c.args.text.now in
    let mid = string_bytes c.push_str.new.self in
    let more = string_bytes c.push_some.new.text in
    let new = string_bytes c.push_str-in-None.new.self in
    let begun : mid ≡ old ++ string_bytes f.before = c.in_ok-push_str.ensures.bytes ∙ ap (λ t. old ++ t) c.as_str.ensures.value in
    let items = subst (λ o. IfNone o (more ≡ mid ++ items_left f.later f.left f.objects)) c.in-None.is c.in_ok-stop.ensures.all in
    let end : new ≡ more ++ string_bytes f.closing = c.in_ok-push_str-in-None.ensures.bytes ∙ ap (λ t. more ++ t) c.as_str-in-None.ensures.value in
    ap (λ t. old ++ t) (sym c.self.view_is)
    ∙ end_made old mid more new (string_bytes f.before) (string_bytes f.closing) f.later f.left f.objects begun items end
    ∙ ap (λ t. new ++ t) (sym c.end.ensures)
