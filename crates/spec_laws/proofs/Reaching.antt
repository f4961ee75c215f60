-- What is true of everything reached, one step after another.
use Rattle.std.proofs.Common.{◌≡◌, ◌≤◌, ℕ, List, [], ◌∷◌, ◌++◌, Option, Some, None, refl, ap, subst, ◌∙◌, append-nil, ◌⊎◌, inl, inr}
use Rattle.spec_api.specs.History.{History, Entry, Write, write, compaction, present}
use Rattle.spec_api.specs.Verbs.{accept, with_write, write_of}
use Rattle.spec_api.specs.ObjectRequests.{Request}
use Rattle.spec_api.specs.Reached.{CanBeRead, IsTimestamp, IsReached, opened, asks, compacts}
use Rattle.spec_laws.specs.ReachedLaws.{PastsAreReached}

-- a property of histories that a request leaves, and a compaction
module _ (P : History → Type 0) (each : (q : Request) (h : History) (moment : List ℕ) → CanBeRead q → IsTimestamp moment → P h → P (with_write h (write_of (accept q h moment)))) (still : (h : History) (r : ℕ) → r ≤ present h → P h → P (h ++ compaction r ∷ [])) where
  pub by_reached : (h : History) → IsReached h → P [] → P h
  by_reached h opened p = p
  by_reached h (asks g q moment r a t) p = each q g moment a t (by_reached g r p)
  by_reached h (compacts g r before le) p = still g r le (by_reached g before p)

-- ---- what had happened before

last_of : (h more : History) (e : Entry) (g : History) → g ++ e ∷ [] ≡ h ++ more → (more ≡ []) ⊎ ((rest : History) × (g ≡ h ++ rest))
last_of h [] e g is = inl refl
last_of h (x ∷ more) e g is = inr (cut h x more g is)
  where
    tail_of : (a b : Entry) (s t : History) → a ∷ s ≡ b ∷ t → (a ≡ b) × (s ≡ t)
    tail_of a b s t is = (cc, cc)

    none : (e : Entry) (s : History) (f : Entry) → [] ≡ s ++ f ∷ [] → ⊥
    none e [] f is = cc
    none e (x ∷ s) f is = cc

    cut : (h : History) (x : Entry) (more g : History) → g ++ e ∷ [] ≡ h ++ (x ∷ more) → (rest : History) × (g ≡ h ++ rest)
    cut [] x more g is = (g, refl)
    cut (y ∷ h) x more [] is = absurd (short h x more (tail_of e y [] (h ++ (x ∷ more)) is).1)
      where
        short : (h : History) (x : Entry) (more : History) → [] ≡ h ++ (x ∷ more) → ⊥
        short [] x more is = cc
        short (z ∷ h) x more is = cc
    cut (y ∷ h) x more (z ∷ g) is =
        let parts = tail_of z y (g ++ e ∷ []) (h ++ (x ∷ more)) is in
        let rest = cut h x more g parts.1 in
        (rest.0, ap (λ u. u ∷ g) parts.0 ∙ ap (λ s. y ∷ s) rest.1)

abbrev Past : History → Type 0
Past g = (h more : History) → g ≡ h ++ more → IsReached h

pub past : PastsAreReached
past h more r = all (h ++ more) r h more refl
  where
    one : (g : History) (e : Entry) → IsReached (g ++ e ∷ []) → Past g → Past (g ++ e ∷ [])
    one g e here p h more is = by (last_of h more e g is)
      where
        by : (more ≡ []) ⊎ ((rest : History) × (g ≡ h ++ rest)) → IsReached h
        by (inl none) = subst IsReached (is ∙ ap (λ m. h ++ m) none ∙ append-nil h) here
        by (inr rest) = p h rest.0 rest.1

    wrote : (o : Option Write) (g : History) → IsReached (with_write g o) → Past g → Past (with_write g o)
    wrote None g here p = p
    wrote (Some w) g here p = one g (write w) here p

    empty : Past []
    empty [] more is = opened
    empty (x ∷ h) more is = cc

    all : (g : History) → IsReached g → Past g
    all g opened = empty
    all g (asks h q moment r a t) = wrote (write_of (accept q h moment)) h (asks h q moment r a t) (all h r)
    all g (compacts h r before le) = one h (compaction r) (compacts h r before le) (all h before)
