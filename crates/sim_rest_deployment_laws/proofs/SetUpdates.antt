-- An update by which a Deployment gives one of its ReplicaSets another number of pods, or another revision, owes its key.
use Rattle.std.proofs.Common.{◌≡◌, ◌<◌, ◌^◌, ◌==◌, ◌&&◌, ◌++◌, ℕ, List, true, false, not, nat_lt, codes, is_some, Some, Ok, ap, subst, arith}
use Rattle.serde_json.specs.Data.{Data}
use Rattle.serde_json.specs.Find.{get}
use Rattle.spec_api.specs.declared.kinds.Kind.{Kind}
use Rattle.spec_api.specs.declared.kinds.Kind.TheVariants.{ReplicaSet}
use Rattle.spec_api.specs.History.{History, state}
use Rattle.spec_api.specs.Keys.{Key}
use Rattle.spec_api.specs.Metadata.{version}
use Rattle.spec_api.specs.ObjectRequests.{update_object}
use Rattle.spec_api.specs.Reached.{IsReached}
use Rattle.spec_api.specs.Reading.{reading}
use Rattle.spec_api.specs.Replacements.{in_place, says_the_same}
use Rattle.spec_api.specs.Values.{members_of}
use Rattle.spec_api.specs.Verbs.{accept, object_in}
use Rattle.spec_client_go.specs.Informers.{Looks}
use Rattle.spec_client_go.specs.WorkQueues.{WorkKey}
use Rattle.spec_laws.proofs.Reaching.{past}
use Rattle.spec_laws.proofs.Versions.{tells}
use Rattle.spec_laws.proofs.WholeObjects.{AreWhole, whole_read}
use Rattle.spec_reconcile.specs.Counts.{replicas}
use Rattle.spec_reconcile.specs.Deployments.{with_replicas}
use Rattle.spec_reconcile.specs.Revisions.{revision, raised}
use Rattle.spec_sim.specs.Managers.{answer_of}
use Rattle.spec_sim.specs.Turns.{is_accepted}
use Rattle.sim_rest_command_laws.specs.CommandLaws.{WasUnowed, EachChangeOwes}
use Rattle.sim_rest_command_laws.proofs.Collecting.{done_owes}
use Rattle.sim_rest_command_laws.proofs.Reports.{metadata_there}
use Rattle.sim_rest_command_laws.proofs.Updates.{held, same_in_place, update_done}
use Rattle.sim_rest_deployment_laws.proofs.ParsedSets.{renewed_parsed}
use Rattle.sim_rest_deployment_laws.proofs.ReadSets.{names_version, puts_another}

module _ (h g more : History) (moment : List ℕ) (x : Key) (d : Data) (s n due : ℕ) (begins : h ≡ g ++ more) (reached : IsReached h) (at : state h s x ≡ Some d) (of_set : x.kind ≡ ReplicaSet)
    (low : n < 2 ^ 63) (few : due < 10 ^ 18) (another : ((replicas d == n) && not (nat_lt (revision d) due)) ≡ false) where
  abbrev body : Data
  body = with_replicas n (raised due d)

  has_metadata : is_some (get (codes "metadata") d) ≡ true
  has_metadata = let two = tells h s x d reached at in metadata_there d (ap is_some two.1)

  reads : reading x.kind d ≡ Ok d
  reads = (held h s x d reached at).1.kept.reads

  whole : AreWhole ReplicaSet (members_of d)
  whole = whole_read ReplicaSet d d (subst (λ (k : Kind). reading k d ≡ Ok d) of_set reads)

  names : (o : Data) → object_in x.kind body ≡ Ok o → version o ≡ version d
  names o is = names_version d n due whole has_metadata o (subst (λ (k : Kind). object_in k body ≡ Ok o) of_set is)

  other : (o : Data) → object_in x.kind body ≡ Ok o → says_the_same d (in_place x.kind d o) ≡ true → ⊥
  other o is says =
      let parsed = (held h s x d reached at).1.parsed in
      let less : n < 2 ^ 64 = omega (arith, low) in
      let fewer : due < 2 ^ 64 = omega (arith, few) in
      let one : d ≡ in_place x.kind d o = same_in_place x.kind d body o reads parsed (renewed_parsed n due d less fewer parsed) is says in
      puts_another d n due whole has_metadata o (subst (λ (k : Kind). object_in k body ≡ Ok o) of_set is) low few another (subst (λ (k : Kind). d ≡ in_place k d o) of_set one)

  pub set_updates : (j : WorkKey) (Shown : Looks → Type 0) → EachChangeOwes j x d → is_accepted (answer_of (accept (update_object x body) g moment)) ≡ true
      → WasUnowed j Shown h g (accept (update_object x body) g moment) → ⊥
  set_updates j Shown owes ok unowed =
      let done = update_done h g more moment x d body s begins reached at names other ok in
      done_owes j Shown h g (update_object x body) moment x d done.1.0 (past g more (subst IsReached begins reached)) owes done.0 done.1.1 done.1.2 unowed
