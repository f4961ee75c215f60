use Rattle.std.proofs.Common.{rules, ◌≡◌, [], IfOk, sym, subst}
use Rattle.chunked.specs.Reading.{Reaches}
use Rattle.chunked.specs.declared.place.BodyPlace.TheVariants as place
use Rattle.chunked.proofs.reader.ready.Goals as goal

pub returns-in-Line-clause-place : goal.returns-in-Line-clause-place
returns-in-Line-clause-place g c =
    subst (λ h. IfOk c.next_chunk.result (λ p. Reaches h (g.R.Read.remaining c.args.device.now.device) [] p (g.R.Read.remaining c.next_chunk.new.device.device))) (sym c.in-Line.is) c.next_chunk.ensures.place

pub returns-in-Within-eq0-clause-place : goal.returns-in-Within-eq0-clause-place
returns-in-Within-eq0-clause-place g c =
    let here : c.args.here ≡ place.Within 0 = search rules in
    subst (λ h. IfOk c.after_chunk.result (λ p. Reaches h (g.R.Read.remaining c.args.device.now.device) [] p (g.R.Read.remaining c.after_chunk.new.device.device))) (sym here) c.after_chunk.ensures.place
