use Rattle.std.proofs.Common.{◌≡◌, ℕ, List, Bool, true, false, Some, None, if◌then◌else◌, unwrap_or, refl, ap}
use Rattle.spec_line_protocol.specs.Lines.{at, unreadable}
use Rattle.spec_api.specs.Moments.{is_moment}
use Rattle.request_parts.proofs.line.moment.Goals as goal

read : (v : Bool) (t m : List ℕ) → Some m ≡ (if v then Some t else None) → at m ≡ (if v then at t else unreadable)
read true t m e = ap (λ o. at (unwrap_or o m)) e
read false t m e = cc

not_read : (v : Bool) (t : List ℕ) → None ≡ (if v then Some t else None) → unreadable ≡ (if v then at t else unreadable)
not_read true t e = cc
not_read false t e = refl

pub returns-in-Some : goal.returns-in-Some
returns-in-Some c = read (is_moment c.args.rest.now) c.args.rest.now c.in-Some.moment c.in-Some.ensures

pub returns-in-None : goal.returns-in-None
returns-in-None c = not_read (is_moment c.args.rest.now) c.args.rest.now c.in-None.ensures
