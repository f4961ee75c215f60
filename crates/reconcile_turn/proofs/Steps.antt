-- The next step of a turn, by how far it is.
use Rattle.std.proofs.Common.{◌≡◌, ◌∙◌, [], Option, Some, None, option_map, unwrap_or, refl, ap}
use Rattle.std.specs.Option.{option_or}
use Rattle.spec_client_go.specs.Commands.{Command}
use Rattle.spec_api.specs.Keys.{Key}
use Rattle.spec_sim.specs.NextSteps.{NextStep, Sighting, next, seeing, read, expect, issue, finish, first, unseen, expecting, issuing}
use Rattle.spec_sim.specs.Turns.{Turn, Expected, asks, expected, all_accepted, left}

abbrev pub step_by : Option Sighting → Option Key → Option Expected → Option Command → NextStep
step_by s k e x = unwrap_or (option_or (option_map seeing s) (option_or (option_map read k) (option_or (option_map expect e) (option_map issue x)))) finish

next_by : (t : Turn) (s : Option Sighting) (k : Option Key) (e : Option Expected) (x : Option Command) → first (unseen t) ≡ s → first (asks t) ≡ k → expecting t.has_expected (expected t) ≡ e
    → issuing (all_accepted t.issues) (left t) ≡ x → next t ≡ step_by s k e x
next_by t s k e x a b c d =
    ap (λ (s : Option Sighting). step_by s (first (asks t)) (expecting t.has_expected (expected t)) (issuing (all_accepted t.issues) (left t))) a
    ∙ ap (λ (k : Option Key). step_by s k (expecting t.has_expected (expected t)) (issuing (all_accepted t.issues) (left t))) b
    ∙ ap (λ (e : Option Expected). step_by s k e (issuing (all_accepted t.issues) (left t))) c
    ∙ ap (λ (x : Option Command). step_by s k e x) d

-- something is to be seen
pub next_seeing : (t : Turn) (s : Sighting) → first (unseen t) ≡ Some s → next t ≡ seeing s
next_seeing t s a = next_by t (Some s) (first (asks t)) (expecting t.has_expected (expected t)) (issuing (all_accepted t.issues) (left t)) a refl refl refl

-- a key is to be read live
pub next_reading : (t : Turn) (k : Key) → unseen t ≡ [] → first (asks t) ≡ Some k → next t ≡ read k
next_reading t k a b = next_by t None (Some k) (expecting t.has_expected (expected t)) (issuing (all_accepted t.issues) (left t)) (ap first a) b refl refl

-- the plan is made
pub next_planned : (t : Turn) (e : Option Expected) (x : Option Command) → unseen t ≡ [] → asks t ≡ [] → expecting t.has_expected (expected t) ≡ e → issuing (all_accepted t.issues) (left t) ≡ x
    → next t ≡ step_by None None e x
next_planned t e x a b c d = next_by t None None e x (ap first a) (ap first b) c d
