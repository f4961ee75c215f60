use Rattle.std.proofs.Common.{◌≡◌, ◌-◌, ◌∙◌, codes, ap}
use Rattle.spec_reconcile.specs.Deployments.{asked_by, sets, sum_of}
use Rattle.deployment.specs.Sets.{rollout_seen}
use Rattle.deployment.proofs.statuses.summary_of.Goals as goal

pub returns : goal.returns
returns c =
    let seen = rollout_seen c.args.rollout.now in
    let all = c.requires.all in
    let available : c.sum_of-available.result ≡ sum_of (codes "availableReplicas") (sets seen) = c.sum_of-available.ensures.sum ∙ ap (sum_of (codes "availableReplicas")) all in
    let replicas : c.sum_of.result ≡ sum_of (codes "replicas") (sets seen) = c.sum_of.ensures.sum ∙ ap (sum_of (codes "replicas")) all in
    let ready : c.sum_of-2.result ≡ sum_of (codes "readyReplicas") (sets seen) = c.sum_of-2.ensures.sum ∙ ap (sum_of (codes "readyReplicas")) all in
    let unavailable : c.saturating_sub.result ≡ asked_by (sets seen) - sum_of (codes "availableReplicas") (sets seen) =
    c.saturating_sub.ensures ∙ ap (λ n. n - c.sum_of-available.result) (c.requires.asked ∙ ap asked_by all) ∙ ap (λ n. asked_by (sets seen) - n) available in
    λ i. record {
      replicas = replicas i;
      ready = ready i;
      available = available i;
      updated = c.updated_pods.ensures i;
      unavailable = unavailable i;
      generation = c.generation.ensures i;
    }
