-- A delete of what was not being deleted when it was looked at, and each change of which owes the key, owes it.
use Rattle.std.proofs.Common.{◌≡◌, ◌+◌, ◌==◌, ◌&&◌, ℕ, List, Bool, true, false, cond, Option, Some, None, Ok, Err, refl, sym, ap, ◌∙◌, subst}
use mathlib.Core.Bool.{true≢false}
use Rattle.serde_json.specs.Data.{Data}
use Rattle.serde_json.specs.Events.{items_len}
use Rattle.spec_api.specs.declared.refusals.Mismatch.TheVariants as mismatch
use Rattle.spec_api.specs.Checks.{finalizers}
use Rattle.spec_api.specs.DeleteOptions.{Options}
use Rattle.spec_api.specs.Deletion.{Fate, remove, mark, keep, fate, being_deleted, leaves, left_by, removal_of, kept_code, decided}
use Rattle.spec_api.specs.History.{History, Write, present, state}
use Rattle.spec_api.specs.Keys.{Key}
use Rattle.spec_api.specs.Metadata.{uid, version, metadata_of, at_revision, is_being_deleted, differs}
use Rattle.spec_api.specs.ObjectRequests.{Request, delete_object}
use Rattle.spec_api.specs.Reached.{IsReached}
use Rattle.spec_api.specs.Refusals.{Refusal, storage_full}
use Rattle.spec_api.specs.Verbs.{Outcome, refused, stored, removed, accept, write_of, is_past_greatest, by_decision, or_not_found}
use Rattle.spec_laws.proofs.Guards.{guard}
use Rattle.spec_laws.proofs.Reaching.{past}
use Rattle.spec_laws.proofs.VerbLaws.{found-state}
use Rattle.spec_client_go.specs.Informers.{Looks}
use Rattle.spec_client_go.specs.WorkQueues.{WorkKey}
use Rattle.spec_sim.specs.Managers.{answer_of}
use Rattle.spec_sim.specs.Turns.{is_accepted}
use Rattle.sim_rest_laws.specs.StillLaws.{ShownIn}
use Rattle.sim_rest_command_laws.specs.CommandLaws.{Unowed, WasUnowed, EachChangeOwes, DeletesOwe}
use Rattle.sim_rest_command_laws.proofs.Leads.{still, is_newer}

-- where it is accepted, it writes under this key
abbrev pub Writes : Key → Outcome → Type 0
Writes x o = is_accepted (answer_of o) ≡ true → (w : Write) × (write_of o ≡ Some w) × (w.key ≡ x)

pub refuses : (x : Key) (f : Refusal) → Writes x (refused f)
refuses x f e = absurd (true≢false (sym e))

pub stores : (x : Key) (code : ℕ) (d : Data) → Writes x (stored code x d)
stores x code d e = (record { key = x; put = Some d }, refl, refl)

pub removes : (x : Key) (d : Data) → Writes x (removed x d)
removes x d e = (record { key = x; put = None }, refl, refl)

module _ (x : Key) (code : ℕ) (d : Data) (r : ℕ) where
  of_fate : (none known : Bool) (m : Data) → known ≡ false → Writes x (by_decision x code d r (Ok (cond none remove (cond known keep (mark m)))))
  of_fate true known m e = guard (Writes x) (refuses x) (is_past_greatest (r + 1)) storage_full (removed x (removal_of x.kind x (r + 1) d)) (λ _. removes x (removal_of x.kind x (r + 1) d))
  of_fate false true m e = absurd (true≢false e)
  of_fate false false m e =
      guard (Writes x) (refuses x) (is_past_greatest (r + 1)) storage_full (stored code x (at_revision (r + 1) (metadata_of m) m)) (λ _. stores x code (at_revision (r + 1) (metadata_of m) m))

  of_decided : (a b : Bool) (f : Fate) → Writes x (by_decision x code d r (Ok f)) → Writes x (by_decision x code d r (cond a (Err mismatch.Uid) (cond b (Err mismatch.ResourceVersion) (Ok f))))
  of_decided true b f writes e = absurd (true≢false (sym e))
  of_decided false true f writes e = absurd (true≢false (sym e))
  of_decided false false f writes e = writes e

pub delete_writes : (x : Key) (o : Options) (g : History) (moment : List ℕ) (d : Data) → state g (present g) x ≡ Some d → is_being_deleted d ≡ false → Writes x (accept (delete_object x o) g moment)
delete_writes x o g moment d at live =
    let r = present g in
    let code = kept_code o.policy in
    let known = leaves o.policy (finalizers d) in
    let m = being_deleted x.kind moment (left_by o.policy (finalizers d)) d in
    subst (λ (f : Option Data). Writes x (or_not_found x (λ old. by_decision x code old r (decided x.kind o moment old)) f)) (sym (found-state g x ∙ at))
    (of_decided x code d r (differs o.uid (uid d)) (differs o.version (version d)) (fate x.kind o.policy moment d)
    (of_fate x code d r (items_len (left_by o.policy (finalizers d)) == 0) (is_being_deleted d && known) m (ap (λ b. b && known) live)))

-- what is there, as it was looked at: what is written in its place owes the key by what was there
pub written_owes : (j : WorkKey) (Shown : Looks → Type 0) (h g : History) (r : Request) (moment : List ℕ) (x : Key) (d : Data) → IsReached g → EachChangeOwes j x d → state g (present g) x ≡ Some d
    → Writes x (accept r g moment) → is_accepted (answer_of (accept r g moment)) ≡ true → WasUnowed j Shown h g (accept r g moment) → ⊥
written_owes j Shown h g r moment x d reached owes at writes ok unowed =
    let z = writes ok in
    let w = z.0 in
    let u : Unowed j Shown x (state g (present g) x) w.put = subst (λ (k : Key). Unowed j Shown k (state g (present g) k) w.put) z.2 (unowed w z.1).0 in
    let put : w.put ≡ Some d = still j Shown x d w.put owes (subst (λ (o : Option Data). Unowed j Shown x o w.put) at u) in is_newer g r moment w (present g) x d reached at z.1 put

pub deletes : DeletesOwe
deletes h g more moment j x o d q since begins reached owes unowed live ok wrote =
    let Shown = ShownIn q since in
    let at = still j Shown x d (state g (present g) x) owes unowed in
    written_owes j Shown h g (delete_object x o) moment x d (past g more (subst IsReached begins reached)) owes at (delete_writes x o g moment d at live) ok wrote
