-- Two simulations of which one goes along with the other, line by line.
use Rattle.std.proofs.Common.{◌≡◌, ℕ, List, [], ◌∷◌, false, ◌==◌, length, Option, Some, None, refl, arith}
use Rattle.std.proofs.lemmas.Bool.Decides.{nat_tests}
use Rattle.spec_sim.specs.ControlPlanes.{Step}
use Rattle.spec_sim.specs.ControlPlaneStepLines.{step_asked}
use Rattle.spec_sim.specs.StepLines.{Config, default_config, config_of_line}
use Rattle.sim_steps.specs.Lines.{reply, next, FollowsBy}

pub not-empty : (x : ℕ) (t : List ℕ) → (length (x ∷ t) == 0) ≡ false
not-empty x t = grind (arith, nat_tests)

module _ {W C : Type 0} (opened : Config → W) (after : W → Step → W) (told : W → Step → List ℕ) (opened' : Config → C) (after' : C → Step → C) (told' : C → Step → List ℕ)
    (R : W → C → Type 0) (begun : (c : Config) → R (opened c) (opened' c)) (same : (w : W) (p : C) (s : Step) → R w p → told w s ≡ told' p s)
    (goes : (w : W) (p : C) (s : Step) → R w p → R (after w s) (after' p s)) where
  abbrev Goes : Option W → Option C → List ℕ → Type 0
  Goes s c line =
      (reply opened after told s line ≡ reply opened' after' told' c line) × FollowsBy R (next opened after told s line) (next opened' after' told' c line)

  -- a line that is not empty
  full-follows : (s : Option W) (c : Option C) (x : ℕ) (t : List ℕ) → FollowsBy R s c → Goes s c (x ∷ t)
  full-follows None None x t is = by (config_of_line (x ∷ t)) refl
    where
      by : (said : Option Config) → config_of_line (x ∷ t) ≡ said → Goes None None (x ∷ t)
      by (Some c) e = rw (not-empty x t, e) (refl, begun c)
      by None e =
          let w = opened default_config in
          let p = opened' default_config in
          rw (not-empty x t, e) (same w p (step_asked (x ∷ t)) (begun default_config), goes w p (step_asked (x ∷ t)) (begun default_config))
  full-follows (Some w) (Some c) x t is = rw (not-empty x t) (same w c (step_asked (x ∷ t)) is, goes w c (step_asked (x ∷ t)) is)
  full-follows None (Some c) x t is = absurd is
  full-follows (Some w) None x t is = absurd is

  pub follows : (s : Option W) (c : Option C) (line : List ℕ) → FollowsBy R s c → Goes s c line
  follows s c [] is = (refl, is)
  follows s c (x ∷ t) is = full-follows s c x t is
