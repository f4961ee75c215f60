-- Each ReplicaSet that is stored matches its template, and keeps its selector.
use Rattle.std.proofs.Common.{◌≡◌, ◌+◌, ℕ, List, [], ◌∷◌, Bool, true, codes, IfSome, Option, Some, None, option_and_then, sym, ap, ◌∙◌, subst}
use Rattle.std.proofs.lemmas.Slice.Eq.{bytes_eq-Decides}
use Rattle.std.specs.Result.{result_ok}
use Rattle.serde_json.specs.Data.{Data}
use Rattle.serde_json.specs.Find.{get}
use Rattle.spec_api.proofs.Truths.{both_true}
use Rattle.spec_api.specs.declared.kinds.Kind.{Kind}
use Rattle.spec_api.specs.declared.kinds.Kind.TheVariants.{ConfigMap, Pod, ReplicaSet, Deployment}
use Rattle.spec_api.specs.Checks.{finalizers, checks, checks_of, adds_no_finalizer, is_selector_kept, is_selected, is_template_valid, in_spec, text_or_empty}
use Rattle.spec_api.specs.Deletion.{left_by, being_deleted}
use Rattle.spec_api.specs.History.{History, Write, write, writes, present, state, last_of, found, entries_at}
use Rattle.spec_api.specs.Keys.{Key}
use Rattle.spec_api.specs.Metadata.{metadata_of, at_revision}
use Rattle.spec_api.specs.NewObjects.{created, with_first_status}
use Rattle.spec_api.specs.ObjectRequests.{Request}
use Rattle.spec_api.specs.Reached.{IsReached}
use Rattle.spec_api.specs.Replacements.{in_place, updated, with_status_in}
use Rattle.spec_api.specs.Selectors.{Requirement}
use Rattle.spec_api.specs.SelectorValues.{is_some_and, selector_of_value}
use Rattle.spec_api.specs.Verbs.{accept, new_name, with_write, write_of}
use Rattle.spec_laws.specs.HistoryLaws.{OfStored}
use Rattle.spec_laws.specs.LifecycleLaws.{OfReplaced}
use Rattle.spec_laws.proofs.Cases.{of_accept}
use Rattle.spec_laws.proofs.CheckLaws.{AllMet, all_met}
use Rattle.spec_laws.proofs.Compacted.{same_writes}
use Rattle.spec_laws.proofs.EachWrite.{AllPut, put_write, there_put}
use Rattle.spec_laws.proofs.Reaching.{by_reached}
use Rattle.spec_laws.proofs.VerbLaws.{found-state, none_from, of_held, of_none}
use Rattle.sim_overshoot_laws.specs.KeptPods.{Along}
use Rattle.sim_overshoot_laws.specs.SetLaws.{SetsMatchTheirTemplates}
use Rattle.sim_overshoot_laws.proofs.Births.{writes-append}
use Rattle.sim_overshoot_laws.proofs.Finishing.{along_last, now_is}
use Rattle.sim_overshoot_laws.proofs.StoredParts.{spec, spec-created, spec-updated, spec-restated, spec-marked}

-- ---- a template that the selector matches

abbrev Valid : Key → Data → Type 0
Valid k d = k.kind ≡ ReplicaSet → is_template_valid d ≡ true

abbrev valid_in : Option Data → Bool
valid_in s =
    is_some_and (λ (rs : List Requirement). is_some_and (is_selected rs) (option_and_then (get (codes "template")) s))
    (option_and_then (λ v. result_ok (selector_of_value v)) (option_and_then (get (codes "selector")) s))

same_valid : (d was : Data) → spec d ≡ spec was → is_template_valid was ≡ true → is_template_valid d ≡ true
same_valid d was is valid = ap valid_in is ∙ valid

-- what the checks of a set say
of_kind : (k : Kind) (kept : Bool) (d : Data) → k ≡ ReplicaSet → AllMet (checks_of k kept d) → (kept ≡ true) × (is_template_valid d ≡ true)
of_kind ConfigMap kept d is m = cc
of_kind Pod kept d is m = cc
of_kind Deployment kept d is m = cc
of_kind ReplicaSet kept d is m = ((both_true _ kept m.1.0).1, m.1.1.0)

module _ (h : History) (moment : List ℕ) where
  there : (k : Key) (d : Data) → found k (entries_at h (present h)) ≡ Some d → state h (present h) k ≡ Some d
  there k d at = sym (found-state h k) ∙ at

  valid_by : AllPut Valid (writes h) → (q : Request) → OfStored (accept q h moment) Valid
  valid_by valids q =
      let r = present h in
      of_accept (λ u. OfStored u Valid) (λ f. tt) (λ code body. tt) q h moment
      (λ kind ns d o read valid fits free room is.
      let k = new_name kind ns o (entries_at h r) r in
      let first = with_first_status kind o in
      same_valid (created kind (r + 1) ns k.name moment o) first (spec-created kind (r + 1) ns k.name moment o)
      (of_kind kind true first is (all_met (checks kind k.name r true true first) valid).1.1.1.1.1).1)
      (λ k o existing at valid fits low is.
      let d = in_place k.kind existing o in
      same_valid (updated k.kind (r + 1) existing d) d (spec-updated k.kind (r + 1) existing d)
      (of_kind k.kind (is_selector_kept existing d) d is (all_met (checks k.kind k.name r (adds_no_finalizer existing d) (is_selector_kept existing d) d) valid).1.1.1.1.1).1)
      (λ k o existing at free low. tt)
      (λ k o existing at fits low is.
      let d = with_status_in k.kind existing o in
      same_valid (at_revision (r + 1) (metadata_of d) d) existing (spec-restated k.kind (r + 1) existing o) (there_put Valid h r k existing valids (there k existing at) is))
      (λ k o existing at low is.
      let left = left_by o.policy (finalizers existing) in
      let d = being_deleted k.kind moment left existing in
      same_valid (at_revision (r + 1) (metadata_of d) d) existing (spec-marked k.kind (r + 1) moment left existing) (there_put Valid h r k existing valids (there k existing at) is))
      (λ k o existing at none low. tt)

pub sets_match_their_templates : SetsMatchTheirTemplates
sets_match_their_templates h r k d reached is at =
    there_put Valid h r k d (by_reached (λ h. AllPut Valid (writes h)) (λ q h moment a t all. put_write Valid h (write_of (accept q h moment)) (valid_by h moment all q) all) (same_writes (AllPut Valid)) h reached tt) at is

-- ---- a selector that stays

abbrev pub selector_text : Data → List ℕ
selector_text d = text_or_empty (in_spec (codes "selector") d)

-- whatever stands in the place of a set has its selector
abbrev pub KeepsSelector : Key → Option Data → Option Data → Type 0
KeepsSelector k old put = k.kind ≡ ReplicaSet → IfSome put (λ new. IfSome old (λ was. selector_text was ≡ selector_text new))

same_text : (d was : Data) → spec d ≡ spec was → selector_text was ≡ selector_text d
same_text d was is = ap (λ s. text_or_empty (option_and_then (get (codes "selector")) s)) (sym is)

kept_by : (q : Request) (h : History) (moment : List ℕ) → OfReplaced h (accept q h moment) (λ k was new. k.kind ≡ ReplicaSet → selector_text was ≡ selector_text new)
kept_by q h moment =
    let r = present h in
    of_accept (λ u. OfReplaced h u (λ k was new. k.kind ≡ ReplicaSet → selector_text was ≡ selector_text new)) (λ f. tt) (λ code body. tt) q h moment
    (λ kind ns d o read valid fits free room.
    let k = new_name kind ns o (entries_at h r) r in
    of_none (λ was. k.kind ≡ ReplicaSet → selector_text was ≡ selector_text (created kind (r + 1) ns k.name moment o)) (state h r k) (sym (found-state h k) ∙ none_from (found k (entries_at h r)) free))
    (λ k o existing at valid fits low.
    let d = in_place k.kind existing o in
    let kept = is_selector_kept existing d in
    of_held (λ was. k.kind ≡ ReplicaSet → selector_text was ≡ selector_text (updated k.kind (r + 1) existing d)) (state h r k) existing (sym (found-state h k) ∙ at)
    (λ is.
    (bytes_eq-Decides (selector_text existing) (selector_text d)).0 (of_kind k.kind kept d is (all_met (checks k.kind k.name r (adds_no_finalizer existing d) kept d) valid).1.1.1.1.1).0
    ∙ same_text (updated k.kind (r + 1) existing d) d (spec-updated k.kind (r + 1) existing d)))
    (λ k o existing at free low. tt)
    (λ k o existing at fits low.
    let d = with_status_in k.kind existing o in
    of_held (λ was. k.kind ≡ ReplicaSet → selector_text was ≡ selector_text (at_revision (r + 1) (metadata_of d) d)) (state h r k) existing (sym (found-state h k) ∙ at)
    (λ is. same_text (at_revision (r + 1) (metadata_of d) d) existing (spec-restated k.kind (r + 1) existing o)))
    (λ k o existing at low.
    let left = left_by o.policy (finalizers existing) in
    let d = being_deleted k.kind moment left existing in
    of_held (λ was. k.kind ≡ ReplicaSet → selector_text was ≡ selector_text (at_revision (r + 1) (metadata_of d) d)) (state h r k) existing (sym (found-state h k) ∙ at)
    (λ is. same_text (at_revision (r + 1) (metadata_of d) d) existing (spec-marked k.kind (r + 1) moment left existing)))
    (λ k o existing at none low. tt)

keeps : (k : Key) (old put : Option Data) → IfSome put (λ new. IfSome old (λ was. k.kind ≡ ReplicaSet → selector_text was ≡ selector_text new)) → KeepsSelector k old put
keeps k old None e is = tt
keeps k None (Some new) e is = tt
keeps k (Some was) (Some new) e is = e is

kept_write : (h : History) (x : Option Write) → IfSome x (λ w. IfSome w.put (λ new. IfSome (state h (present h) w.key) (λ was. w.key.kind ≡ ReplicaSet → selector_text was ≡ selector_text new)))
    → Along KeepsSelector [] (writes h) → Along KeepsSelector [] (writes (with_write h x))
kept_write h None s all = all
kept_write h (Some w) s all =
    subst (Along KeepsSelector []) (sym (writes-append h (write w ∷ [])))
    (along_last KeepsSelector [] (writes h) w all (keeps w.key (last_of None w.key (writes h)) w.put (subst (λ old. IfSome w.put (λ new. IfSome old (λ was. w.key.kind ≡ ReplicaSet → selector_text was ≡ selector_text new))) (now_is h w.key) s)))

pub selectors_kept : (h : History) → IsReached h → Along KeepsSelector [] (writes h)
selectors_kept h reached =
    by_reached (λ h. Along KeepsSelector [] (writes h)) (λ q h moment a t all. kept_write h (write_of (accept q h moment)) (kept_by q h moment) all) (same_writes (Along KeepsSelector [])) h reached tt
