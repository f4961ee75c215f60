-- What was published since the take of a last turn leads to what is there by changes that owed its key nothing.
use Rattle.std.proofs.Common.{◌≡◌, inl, inr, List, [], ◌∷◌, ◌++◌, refl, sym, ap, ◌∙◌, subst, append_assoc}
use Rattle.std.specs.List.{AllByRecursion}
use Rattle.spec_api.specs.declared.kinds.Kind.{Kind}
use Rattle.spec_api.specs.declared.kinds.Kind.TheVariants.{ConfigMap, Pod, ReplicaSet, Deployment}
use Rattle.spec_api.specs.History.{History, present, list, found}
use Rattle.spec_client_go.specs.Shifts.{Shift}
use Rattle.spec_client_go.specs.WorkQueues.{WorkKey}
use Rattle.spec_laws.specs.SentLaws.{whole}
use Rattle.spec_server.specs.Snapshots.{Snapshot}
use Rattle.spec_sim.specs.Clusters.{history, looks}
use Rattle.spec_sim.specs.Followers.{Notification}
use Rattle.spec_sim.specs.ControlPlanes.{ControlPlane, Step, handle, works, opened, run}
use Rattle.spec_sim.specs.Managers as action
use Rattle.spec_sim.specs.Turns.{Sight, looked, satisfied}
use Rattle.sim_worker_laws.specs.IssuedLaws.{IsSeen}
use Rattle.sim_worker_laws.specs.OwedLaws.{IsAmong}
use Rattle.sim_worker_laws.proofs.Lists.{all_map}
use Rattle.sim_rest_laws.specs.ShiftRunLaws.{members, all_published, Lead, shifts}
use Rattle.sim_rest_laws.specs.TurnRunLaws.{ShownSince}
use Rattle.sim_rest_laws.specs.LastTurnLaws.{IsUnowed, IsSettled, at_take, since_take}
use Rattle.sim_rest_laws.specs.StillLaws.{of_kind, present_looks, OwedNothing, IsStill, IsLookOf, ShownIn, LastTurnsAreStill}
use Rattle.sim_rest_laws.proofs.LastTurns.{settled}
use Rattle.sim_rest_laws.proofs.Owns.{published_own}
use Rattle.sim_rest_laws.proofs.ShiftRuns.{run_both}

pub members_are : (k : Kind) (p : ControlPlane) → members k p ≡ of_kind k (looks p.cluster)
members_are ConfigMap p = refl
members_are Pod p = refl
members_are ReplicaSet p = refl
members_are Deployment p = refl

present_are : (k : Kind) (h : History) → list h (whole k) (present h) ≡ of_kind k (present_looks h)
present_are ConfigMap h = refl
present_are Pod h = refl
present_are ReplicaSet h = refl
present_are Deployment h = refl

pub all_from : (P : Shift → Type 0) (ns : List Notification) → ((n : Notification) → IsAmong n ns → P n.shift) → AllByRecursion P (shifts ns)
all_from P [] f = tt
all_from P (n ∷ ns) f = (f n (inl refl), all_from P ns (λ m i. f m (inr i)))

module _ (q : ControlPlane) (steps : List Step) (j : WorkKey) where
  pub unowed : (x y : List Step) (k : Kind) (n : Notification) → steps ≡ x ++ y → IsAmong n (all_published k (run q x) y) → IsUnowed (run q x) y j k n → OwedNothing j (ShownIn q steps) n.shift
  unowed x y k n e i u =
      let z = u.0 in (
        looks (run (run q x) z.before).cluster,
        (
          x ++ z.before,
          handle k ∷ z.after,
          e ∙ ap (λ l. x ++ l) z.is ∙ sym (append_assoc x z.before (handle k ∷ z.after)),
          ap (λ (p : ControlPlane). looks p.cluster) (sym (run_both q x z.before)),
        ),
        u.1,
        published_own k (run q x) y n i,
      )

  pub still : IsSettled q steps j → IsStill j (ShownIn q steps) (present_looks (history (run q steps).cluster))
  still s l key shown =
      let x = shown.0 in
      let y = shown.1 in
      let k = key.kind in
      let ns = all_published k (run q x) y in
      let h = history (run q steps).cluster in
      let from : members k (run q x) ≡ of_kind k l = members_are k (run q x) ∙ ap (of_kind k) (sym shown.3) in (
        shifts ns,
        subst (λ ms. Lead key (found key ms) (shifts ns) (found key (of_kind k (present_looks h)))) from
            (subst (λ ms. Lead key (found key (members k (run q x))) (shifts ns) (found key ms)) (present_are k h) (s.leads x y shown.2 k key)),
        all_from (OwedNothing j (ShownIn q steps)) ns (λ n i. unowed x y k n shown.2 i (s.unowed x y shown.2 k n i)),
      )

  -- a look that was published in a beginning of these steps
  look_of : (during rest : List Step) → steps ≡ during ++ rest → (s : Sight) → IsSeen (ShownSince q during) s → IsSeen (IsLookOf (ShownIn q steps)) s
  look_of during rest e (looked k s) x = (
    looks (run q x.0).cluster,
    (x.0, x.1 ++ rest, e ∙ ap (λ l. l ++ rest) x.2 ∙ append_assoc x.0 x.1 rest, refl),
    ap (λ (z : Snapshot). z.members) x.3 ∙ members_are k (run q x.0),
  )
  look_of during rest e (satisfied b) x = tt

pub are_still : LastTurnsAreStill
are_still window workers initial before between steps j t once rest z =
    let p = run (opened window workers initial) before in
    let b = run p between in
    let q = at_take b steps j t z in
    let since = since_take b steps j t z in
    let at_end : run q since ≡ run b steps = sym (ap (run b) z.is ∙ run_both b z.before (works z.worker action.take ∷ since)) in (
      subst (λ (x : ControlPlane). IsStill j (ShownIn q since) (present_looks (history x.cluster))) at_end (still q since j (settled window workers initial before between steps j t once rest z)),
      all_map (IsSeen (ShownSince q z.during)) (IsSeen (IsLookOf (ShownIn q since))) (look_of q since j z.during (works z.worker action.finish ∷ z.after) refl) t.sights z.since.looks,
    )
