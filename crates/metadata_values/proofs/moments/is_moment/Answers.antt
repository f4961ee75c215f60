use Rattle.std.proofs.Common.{◌≡◌, length, true, codes, refl, rules, arith}
use Rattle.spec_api.specs.Moments.{has_form}
use Rattle.metadata_values.proofs.Forms.{digits-at, has_form-length}
use Rattle.metadata_values.proofs.moments.is_moment.Goals as goal

pub number-year-requires-clause-digits : goal.number-year-requires-clause-digits
number-year-requires-clause-digits c =
    let h : has_form (codes "0000-00-00T00:00:00Z") c.args.text.now ≡ true = search rules in
    digits-at 4 0 (codes "0000-00-00T00:00:00Z") c.args.text.now refl h

pub number-month-requires-clause-digits : goal.number-month-requires-clause-digits
number-month-requires-clause-digits c =
    let h : has_form (codes "0000-00-00T00:00:00Z") c.args.text.now ≡ true = search rules in
    digits-at 2 5 (codes "0000-00-00T00:00:00Z") c.args.text.now refl h

pub number-day-requires-clause-digits : goal.number-day-requires-clause-digits
number-day-requires-clause-digits c =
    let h : has_form (codes "0000-00-00T00:00:00Z") c.args.text.now ≡ true = search rules in
    digits-at 2 8 (codes "0000-00-00T00:00:00Z") c.args.text.now refl h

pub number-hour-requires-clause-digits : goal.number-hour-requires-clause-digits
number-hour-requires-clause-digits c =
    let h : has_form (codes "0000-00-00T00:00:00Z") c.args.text.now ≡ true = search rules in
    digits-at 2 11 (codes "0000-00-00T00:00:00Z") c.args.text.now refl h

pub number-minute-requires-clause-digits : goal.number-minute-requires-clause-digits
number-minute-requires-clause-digits c =
    let h : has_form (codes "0000-00-00T00:00:00Z") c.args.text.now ≡ true = search rules in
    digits-at 2 14 (codes "0000-00-00T00:00:00Z") c.args.text.now refl h

pub number-second-requires-clause-digits : goal.number-second-requires-clause-digits
number-second-requires-clause-digits c =
    let h : has_form (codes "0000-00-00T00:00:00Z") c.args.text.now ≡ true = search rules in
    digits-at 2 17 (codes "0000-00-00T00:00:00Z") c.args.text.now refl h

pub slice_bounds-number-end-3 : goal.slice_bounds-number-end-3
slice_bounds-number-end-3 c =
    let h : has_form (codes "0000-00-00T00:00:00Z") c.args.text.now ≡ true = search rules in
    let long : length c.args.text.now ≡ 20 = has_form-length (codes "0000-00-00T00:00:00Z") c.args.text.now h in
    omega (arith, long)

pub slice_bounds-number-end-5 : goal.slice_bounds-number-end-5
slice_bounds-number-end-5 c =
    let h : has_form (codes "0000-00-00T00:00:00Z") c.args.text.now ≡ true = search rules in
    let long : length c.args.text.now ≡ 20 = has_form-length (codes "0000-00-00T00:00:00Z") c.args.text.now h in
    omega (arith, long)

pub slice_bounds-number-end-6 : goal.slice_bounds-number-end-6
slice_bounds-number-end-6 c =
    let h : has_form (codes "0000-00-00T00:00:00Z") c.args.text.now ≡ true = search rules in
    let long : length c.args.text.now ≡ 20 = has_form-length (codes "0000-00-00T00:00:00Z") c.args.text.now h in
    omega (arith, long)
