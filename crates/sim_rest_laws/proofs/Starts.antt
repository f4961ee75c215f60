-- Every list of steps has a last restart, or none.
use Rattle.std.proofs.Common.{◌≡◌, ◌⊎◌, inl, inr, ℕ, List, [], ◌∷◌, ◌++◌, refl, sym, ap, ◌∙◌, subst}
use Rattle.spec_api.specs.declared.kinds.Kind.{Kind}
use Rattle.spec_api.specs.declared.kinds.Kind.TheVariants.{ConfigMap, Pod, ReplicaSet, Deployment}
use Rattle.spec_sim.specs.declared.initial_syncs.InitialSync.{InitialSync}
use Rattle.spec_sim.specs.Clusters.{request, compact, moves, restart}
use Rattle.spec_sim.specs.ControlPlanes.{ControlPlane, Step, in_cluster, handle, works, tick, opened, step, run}
use Rattle.sim_worker_laws.specs.OwedLaws.{NoRestart}
use Rattle.sim_worker_laws.proofs.IssuedRuns.{run_one}
use Rattle.sim_rest_laws.specs.ShiftRunLaws.{HasNothing}
use Rattle.sim_rest_laws.specs.StartLaws.{EveryRunHasALastStart}

-- ---- the last restart

record Parts (ss : List Step) : Type 0 where
  before : List Step
  after : List Step
  is : ss ≡ before ++ after
  none : NoRestart after
  begins : (before ≡ []) ⊎ ((z : List Step) × (before ≡ z ++ in_cluster restart ∷ []))

unless_restart : (s : Step) (ss : List Step) → NoRestart ss → (s ≡ in_cluster restart) ⊎ NoRestart (s ∷ ss)
unless_restart (in_cluster (request t)) ss n = inr n
unless_restart (in_cluster (compact r)) ss n = inr n
unless_restart (in_cluster (moves k m)) ss n = inr n
unless_restart (in_cluster restart) ss n = inl refl
unless_restart (handle k) ss n = inr n
unless_restart (works w a) ss n = inr n
unless_restart (tick i) ss n = inr n

parts : (ss : List Step) → Parts ss
parts [] = record { before = []; after = []; is = refl; none = tt; begins = inl refl }
parts (s ∷ ss) = by (parts ss)
  where
    anew : (NoRestart ss) → (s ≡ in_cluster restart) ⊎ NoRestart (s ∷ ss) → Parts (s ∷ ss)
    anew n (inl e) = record { before = s ∷ []; after = ss; is = refl; none = n; begins = inr ([], ap (λ x. x ∷ []) e) }
    anew n (inr m) = record { before = []; after = s ∷ ss; is = refl; none = m; begins = inl refl }

    from : (q : Parts ss) → (q.before ≡ []) ⊎ ((z : List Step) × (q.before ≡ z ++ in_cluster restart ∷ [])) → Parts (s ∷ ss)
    from q (inl e) = let n = subst NoRestart (sym (q.is ∙ ap (λ x. x ++ q.after) e)) q.none in anew n (unless_restart s ss n)
    from q (inr z) = record { before = s ∷ q.before; after = q.after; is = ap (λ x. s ∷ x) q.is; none = q.none; begins = inr (s ∷ z.0, ap (λ x. s ∷ x) z.1) }

    by : Parts ss → Parts (s ∷ ss)
    by q = from q q.begins

-- ---- followers that begin

at_first : (window workers : ℕ) (initial : InitialSync) (k : Kind) → HasNothing k (opened window workers initial)
at_first window workers initial ConfigMap = refl
at_first window workers initial Pod = refl
at_first window workers initial ReplicaSet = refl
at_first window workers initial Deployment = refl

restarted : (p : ControlPlane) (k : Kind) → HasNothing k (step p (in_cluster restart)).plane
restarted p ConfigMap = refl
restarted p Pod = refl
restarted p ReplicaSet = refl
restarted p Deployment = refl

pub last_starts : EveryRunHasALastStart
last_starts window workers initial steps =
    let q = parts steps in
    record { before = q.before; after = q.after; is = q.is; nothing = λ k. by q k q.begins; none = q.none }
  where
    by : (q : Parts steps) (k : Kind) → (q.before ≡ []) ⊎ ((z : List Step) × (q.before ≡ z ++ in_cluster restart ∷ [])) → HasNothing k (run (opened window workers initial) q.before)
    by q k (inl e) = subst (λ x. HasNothing k (run (opened window workers initial) x)) (sym e) (at_first window workers initial k)
    by q k (inr z) =
        subst (λ x. HasNothing k (run (opened window workers initial) x)) (sym z.1)
        (subst (HasNothing k) (sym (run_one (opened window workers initial) z.0 (in_cluster restart))) (restarted (run (opened window workers initial) z.0) k))
