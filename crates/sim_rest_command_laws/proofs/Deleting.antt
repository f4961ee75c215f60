-- A delete of the object of a turn of the collector owes its key.
use Rattle.std.proofs.Common.{◌≡◌, ◌⊎◌, inl, inr, ◌≤◌, ◌+◌, ◌==◌, ◌&&◌, ℕ, List, Bool, true, false, cond, codes, is_some, IfSome, Option, Some, None, Ok, Err, refl, sym, ap, ◌∙◌, subst, arith}
use mathlib.Core.Bool.{true≢false}
use Rattle.serde_json.specs.Data.{Data}
use Rattle.serde_json.specs.Events.{items_len}
use Rattle.spec_api.specs.declared.refusals.Mismatch.TheVariants as mismatch
use Rattle.spec_api.specs.Checks.{finalizers}
use Rattle.spec_api.specs.DeleteOptions.{Options}
use Rattle.spec_api.specs.Deletion.{remove, mark, keep, fate, being_deleted, leaves, left_by, removal_of, kept_code, decided}
use Rattle.spec_api.specs.History.{History, Write, present, state, found, entries_at}
use Rattle.spec_api.specs.Keys.{Key}
use Rattle.spec_api.specs.Metadata.{uid, version, metadata_of, metadata_text, at_revision, is_being_deleted, differs}
use Rattle.spec_api.specs.ObjectRequests.{delete_object}
use Rattle.spec_api.specs.Refusals.{Refusal, storage_full}
use Rattle.spec_api.specs.Verbs.{Outcome, refused, stored, removed, accept, write_of, is_past_greatest, by_decision}
use Rattle.spec_laws.proofs.Guards.{guard, there}
use Rattle.spec_laws.proofs.Traced.{traced, stand}
use Rattle.spec_laws.proofs.VerbLaws.{found-state, same}
use Rattle.spec_client_go.specs.declared.controller.Controller.{Controller}
use Rattle.spec_sim.specs.Managers.{answer_of}
use Rattle.spec_sim.specs.Turns.{is_accepted}
use Rattle.sim_worker_laws.proofs.Growing.{state_stands, present_grows}
use Rattle.sim_rest_laws.specs.OwedObjectLaws.{LooksAfter}
use Rattle.sim_rest_command_laws.specs.CommandLaws.{CollectorsDeletesOwe}
use Rattle.sim_rest_command_laws.proofs.Leads.{own_writes}

module _ (g : History) (moment : List ℕ) (x : Key) (o : Options) where
  -- it is being deleted already, and has the uid that is named, if one is
  pub record Marked : Type 0 where
    pub existing : Data
    pub there : state g (present g) x ≡ Some existing
    pub going : is_being_deleted existing ≡ true
    pub same : differs o.uid (uid existing) ≡ false

  abbrev Writes : Outcome → Type 0
  Writes u = (w : Write) × (write_of u ≡ Some w) × (w.key ≡ x)

  abbrev Either : Outcome → Type 0
  Either u = is_accepted (answer_of u) ≡ true → Writes u ⊎ Marked

  refuses : (f : Refusal) → Either (refused f)
  refuses f e = absurd (true≢false (sym e))

  module _ (existing : Data) (at : state g (present g) x ≡ Some existing) (uids : differs o.uid (uid existing) ≡ false) where
    abbrev r : ℕ
    r = present g

    abbrev code : ℕ
    code = kept_code o.policy

    of_fate : (none going known : Bool) (m : Data) → is_being_deleted existing ≡ going → Either (by_decision x code existing r (Ok (cond none remove (cond (going && known) keep (mark m)))))
    of_fate true going known m is = guard Either refuses (is_past_greatest (r + 1)) storage_full (removed x (removal_of x.kind x (r + 1) existing)) (λ _ e. inl (record { key = x; put = None }, refl, refl))
    of_fate false true true m is = λ e. inr (record { existing = existing; there = at; going = is; same = uids })
    of_fate false true false m is =
        guard Either refuses (is_past_greatest (r + 1)) storage_full (stored code x (at_revision (r + 1) (metadata_of m) m)) (λ _ e. inl (record { key = x; put = Some (at_revision (r + 1) (metadata_of m) m) }, refl, refl))
    of_fate false false known m is =
        guard Either refuses (is_past_greatest (r + 1)) storage_full (stored code x (at_revision (r + 1) (metadata_of m) m)) (λ _ e. inl (record { key = x; put = Some (at_revision (r + 1) (metadata_of m) m) }, refl, refl))

  of_decided : (existing : Data) → state g (present g) x ≡ Some existing → (a b : Bool) → differs o.uid (uid existing) ≡ a
      → Either (by_decision x (kept_code o.policy) existing (present g) (cond a (Err mismatch.Uid) (cond b (Err mismatch.ResourceVersion) (Ok (fate x.kind o.policy moment existing)))))
  of_decided existing at true b is = λ e. absurd (true≢false (sym e))
  of_decided existing at false true is = λ e. absurd (true≢false (sym e))
  of_decided existing at false false is =
      let left = left_by o.policy (finalizers existing) in
      of_fate existing at is (items_len left == 0) (is_being_deleted existing) (leaves o.policy (finalizers existing)) (being_deleted x.kind moment left existing) refl

  pub either : Either (accept (delete_object x o) g moment)
  either =
      there Either refuses x (λ old. by_decision x (kept_code o.policy) old (present g) (decided x.kind o moment old)) (found x (entries_at g (present g)))
      (λ existing is. of_decided existing (sym (found-state g x) ∙ is) (differs o.uid (uid existing)) (differs o.version (version existing)) refl)

stays : (a b : Option (List ℕ)) → IfSome a (λ t. b ≡ Some t) → is_some a ≡ true → is_some b ≡ true
stays None b keeps is = cc
stays (Some t) b keeps is = ap is_some keeps

pub collectors_delete : CollectorsDeletesOwe
collectors_delete h g more moment j o d q since begins reached of_collector at live names ok unowed = by (either g moment j.key o ok)
  where
    after : LooksAfter j.controller j.key.kind
    after = subst (λ (c : Controller). LooksAfter c j.key.kind) (sym of_collector) tt

    by : Writes g moment j.key o (accept (delete_object j.key o) g moment) ⊎ Marked g moment j.key o → ⊥
    by (inl z) = own_writes h g more moment j (delete_object j.key o) d q since z.0 begins reached after at unowed z.1 z.2
    by (inr m) =
        let in_h : state h (present g) j.key ≡ Some m.existing = ap (λ (l : History). state l (present g) j.key) begins ∙ state_stands g more (present g) j.key (omega arith) ∙ m.there in
        let le : present g ≤ present h = let grows = present_grows g more in omega (arith, grows, ap present begins) in
        let two = traced h (present h) j.key d reached (omega arith) at in
        let uids : uid m.existing ≡ uid d = same _ (uid m.existing) (ap (λ v. differs v (uid m.existing)) (sym (names ∙ two.2)) ∙ m.same) ∙ sym two.2 in
        let stood = stand h (present g) (present g) (present h) j.key m.existing d reached (omega arith) le (omega arith) in_h at uids in
        let one : m.existing ≡ stood.0 = some (sym in_h ∙ stood.1) in
        let gone : is_being_deleted d ≡ true = stays (metadata_text (codes "deletionTimestamp") stood.0) (metadata_text (codes "deletionTimestamp") d) stood.3 (ap is_being_deleted (sym one) ∙ m.going) in
        true≢false (sym gone ∙ live)
      where
        some : {a b : Data} → Some a ≡ Some b → a ≡ b
        some e = cc
