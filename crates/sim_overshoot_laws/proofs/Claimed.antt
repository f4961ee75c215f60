-- Which writes claim pods for a set: none but those of the ReplicaSet controller, and these claim what stood there since it was looked at.
use Rattle.std.proofs.Common.{◌≡◌, ◌≤◌, ◌⊎◌, inl, inr, ◌+◌, ◌-◌, ◌&&◌, ℕ, List, [], ◌∷◌, ◌++◌, length, take, drop, Bool, true, false, cond, not, IfSome, Option, Some, None, refl, sym, ap, ◌∙◌, subst, append-nil, append_assoc, arith}
use Rattle.std.proofs.lemmas.List.{take-append-le, drop-append-le, take-append-drop, drop_all, length-append}
use Rattle.serde_json.specs.Data.{Data}
use Rattle.spec_api.proofs.Truths.{both_true}
use Rattle.spec_api.specs.declared.kinds.Kind.TheVariants.{Pod}
use Rattle.spec_api.specs.History.{History, Entries, Write, write, writes, present, last_of, state, after_all, found, viewed, list, unfiltered, seen}
use Rattle.spec_api.specs.Keys.{Key}
use Rattle.spec_api.specs.Metadata.{uid}
use Rattle.spec_api.specs.Reached.{IsReached}
use Rattle.spec_api.specs.SelectorValues.{is_some_and}
use Rattle.spec_api.specs.Verbs.{accept, write_of}
use Rattle.spec_laws.proofs.Past.{writes-append}
use Rattle.spec_laws.proofs.Traced.{stand}
use Rattle.spec_client_go.specs.Commands.{Command, create, update, update_status, delete, request_of}
use Rattle.spec_client_go.specs.Expectations.{Owner}
use Rattle.spec_client_go.specs.OwnerReferences.{is_text}
use Rattle.spec_reconcile.specs.PodClaims.{have_one_uid}
use Rattle.spec_sim.specs.PodObservations.{is_same_pod}
use Rattle.spec_sim.specs.Turns.{is_pod}
use Rattle.sim_overshoot_laws.specs.Overshoot.{each_of_pods, keeps_claims, have_same_labels}
use Rattle.sim_overshoot_laws.specs.Reserves.{is_controlled, born_after, born}
use Rattle.sim_overshoot_laws.specs.ShowLaws.{IsClaimed}
use Rattle.sim_overshoot_laws.proofs.Asking.{just, one_write}
use Rattle.sim_overshoot_laws.proofs.Births.{le_or}
use Rattle.sim_overshoot_laws.proofs.Bounding.{lists_show}
use Rattle.sim_overshoot_laws.proofs.Finishing.{now_is}
use Rattle.sim_overshoot_laws.proofs.KeptPods.{same_uid, in_pods}
use Rattle.sim_overshoot_laws.proofs.KeptReferences.{references_kept}
use Rattle.sim_overshoot_laws.proofs.LookedPods.{IsStanding}
use Rattle.sim_overshoot_laws.proofs.PodWrites.{Edits}
use Rattle.sim_overshoot_laws.proofs.TurnWrites.{edits_replace}

-- ---- what is claimed

abbrev pub pods_after : List Write → Entries
pods_after ws = viewed (unfiltered Pod None) (after_all [] ws)

module _ (o : Owner) where
  -- a write that puts a pod, where this stood there and that was listed
  abbrev pub Claim : Option Data → Option Data → Write → Type 0
  Claim listed prev w = (d : Data) → w.put ≡ Some d → w.key.kind ≡ Pod → IsClaimed o listed prev d

  abbrev pub Claims : Entries → List Write → List Write → Type 0
  Claims old before [] = Unit {0}
  Claims old before (w ∷ ws) = Claim (found w.key old) (last_of None w.key before) w × Claims old (before ++ w ∷ []) ws

  -- each of these writes after a revision, by the list of each revision from there on
  abbrev pub ClaimsIn : List Write → ℕ → Type 0
  ClaimsIn ws at = (r : ℕ) → at ≤ r → r ≤ length ws + 1 → Claims (pods_after (take (r - 1) ws)) (take (r - 1) ws) (drop (r - 1) ws)

  -- after the last of them there is none
  pub none_since : (ws : List Write) (at : ℕ) → length ws + 1 ≤ at → ClaimsIn ws at
  none_since ws at far r low high = subst (λ z. Claims (pods_after (take (r - 1) ws)) (take (r - 1) ws) z) (sym (drop_all (r - 1) ws (less (length ws) at r far low))) tt
    where
      less : (n a r : ℕ) → n + 1 ≤ a → a ≤ r → n ≤ r - 1
      less n a r e f = omega arith

  pub claims_later : (ws : List Write) (a b : ℕ) → a ≤ b → ClaimsIn ws a → ClaimsIn ws b
  claims_later ws a b le is r low high = is r (on a b r le low) high
    where
      on : (a b r : ℕ) → a ≤ b → b ≤ r → a ≤ r
      on a b r e f = omega arith

  -- ---- one more write

  claims_last : (old : Entries) (before ws : List Write) (w : Write) → Claims old before ws → Claim (found w.key old) (last_of None w.key (before ++ ws)) w → Claims old before (ws ++ w ∷ [])
  claims_last old before [] w is last = (subst (λ z. Claim (found w.key old) (last_of None w.key z) w) (append-nil before) last, tt)
  claims_last old before (v ∷ ws) w is last =
      (is.0, claims_last old (before ++ v ∷ []) ws w is.1 (subst (λ z. Claim (found w.key old) (last_of None w.key z) w) (sym (append_assoc before (v ∷ []) ws)) last))

  pub claims_one : (ws : List Write) (w : Write) (at : ℕ) → ((r : ℕ) → at ≤ r → r ≤ length ws + 1 → Claim (found w.key (pods_after (take (r - 1) ws))) (last_of None w.key ws) w) → ClaimsIn ws at → ClaimsIn (ws ++ w ∷ []) at
  claims_one ws w at last is r low high = by (le_or r (length ws + 1))
    where
      within : (n r : ℕ) → r ≤ n + 1 → r - 1 ≤ n
      within n r e = omega arith

      beyond : (n r : ℕ) → n + 1 + 1 ≤ r → n + 1 ≤ r - 1
      beyond n r e = omega arith

      by : (r ≤ length ws + 1) ⊎ (length ws + 1 + 1 ≤ r) → Claims (pods_after (take (r - 1) (ws ++ w ∷ []))) (take (r - 1) (ws ++ w ∷ [])) (drop (r - 1) (ws ++ w ∷ []))
      by (inl le) =
          let firsts : take (r - 1) (ws ++ w ∷ []) ≡ take (r - 1) ws = take-append-le (r - 1) ws (w ∷ []) (within (length ws) r le) in
          let lasts : drop (r - 1) (ws ++ w ∷ []) ≡ drop (r - 1) ws ++ w ∷ [] = drop-append-le (r - 1) ws (w ∷ []) (within (length ws) r le) in
          let more : Claims (pods_after (take (r - 1) ws)) (take (r - 1) ws) (drop (r - 1) ws ++ w ∷ []) =
          claims_last (pods_after (take (r - 1) ws)) (take (r - 1) ws) (drop (r - 1) ws) w (is r low le) (subst (λ z. Claim (found w.key (pods_after (take (r - 1) ws))) (last_of None w.key z) w) (sym (take-append-drop (r - 1) ws)) (last r low le)) in
          subst (λ z. Claims (pods_after z) z (drop (r - 1) (ws ++ w ∷ []))) (sym firsts) (subst (λ z. Claims (pods_after (take (r - 1) ws)) (take (r - 1) ws) z) (sym lasts) more)
      by (inr far) =
          subst (λ z. Claims (pods_after (take (r - 1) (ws ++ w ∷ []))) (take (r - 1) (ws ++ w ∷ [])) z)
          (sym (drop_all (r - 1) (ws ++ w ∷ []) (subst (λ n. n ≤ r - 1) (sym (length-append ws (w ∷ []))) (beyond (length ws) r far)))) tt

  -- ---- who had the reference keeps it

  abbrev Was : Option Data → Data → Data → Type 0
  Was listed old d = (is_same_pod d listed ≡ true) ⊎ ((is_controlled o d ≡ false) ⊎ ((e : Data) × (Some old ≡ Some e) × (is_controlled o e ≡ true) × (is_same_pod e listed ≡ false)))

  stood : (listed : Option Data) (old d : Data) → have_one_uid d old ≡ true → is_controlled o old ≡ true → Was listed old d
  stood None old d same ctl = inr (inr (old, refl, ctl, refl))
  stood (Some x) old d same ctl = by (have_one_uid old x) refl
    where
      by : (b : Bool) → have_one_uid old x ≡ b → Was (Some x) old d
      by true is = inl (ap (is_some_and (λ t. is_text t (uid x))) (same_uid (uid d) (uid old) same) ∙ is)
      by false is = inr (inr (old, refl, ctl, is))

  by_same : (listed prev : Option Data) (d : Data) → IfSome prev (λ old. is_controlled o d ≡ is_controlled o old) → IsClaimed o listed prev d
  by_same listed None d is same = cc
  by_same listed (Some old) d is same = by (is_controlled o old) refl
    where
      by : (b : Bool) → is_controlled o old ≡ b → Was listed old d
      by true ctl = stood listed old d same ctl
      by false free = inr (inl (is ∙ free))

  -- ---- writes of others

  by_claims : (listed prev : Option Data) (d : Data) → keeps_claims o prev (Some d) ≡ true → IsClaimed o listed prev d
  by_claims listed None d e same = cc
  by_claims listed (Some old) d e same = by (is_controlled o old) refl
    where
      free : (a b c : Bool) (x : Bool) → a ≡ true → b ≡ false → cond (a && b) x (not c) ≡ true → c ≡ false
      free true true c x p q r = cc
      free true false true x p q r = cc
      free true false false x p q r = refl
      free false b c x p q r = cc

      by : (b : Bool) → is_controlled o old ≡ b → Was listed old d
      by true ctl = stood listed old d same ctl
      by false unclaimed = inr (inl (free (have_one_uid d old) (is_controlled o old) (is_controlled o d) (is_controlled o d && have_same_labels old d) same unclaimed e))

  abbrev Keeps : History → Write → Bool
  Keeps h w = cond (is_pod w.key.kind) (keeps_claims o (state h (present h) w.key) w.put) true

  by_other : (h : History) (w : Write) (listed : Option Data) → Keeps h w ≡ true → Claim listed (last_of None w.key (writes h)) w
  by_other h w listed e d put pod =
      by_claims listed (last_of None w.key (writes h)) d
      (ap (λ x. keeps_claims o x (Some d)) (sym (now_is h w.key)) ∙ ap (keeps_claims o (state h (present h) w.key)) (sym put)
      ∙ sym (ap (λ k. cond (is_pod k) (keeps_claims o (state h (present h) w.key) w.put) true) pod) ∙ e)

  -- writes that leave the claims of the set's pods
  pub claims_many : (at : ℕ) (h : History) (new : List Write) → each_of_pods (keeps_claims o) h new ≡ true → ClaimsIn (writes h) at → ClaimsIn (writes h ++ new) at
  claims_many at h [] e is = subst (λ ws. ClaimsIn ws at) (sym (append-nil (writes h))) is
  claims_many at h (w ∷ new) e is =
      let h1 = h ++ write w ∷ [] in
      let parts = both_true (Keeps h w) (each_of_pods (keeps_claims o) h1 new) e in
      let same : writes h1 ≡ writes h ++ w ∷ [] = writes-append h (write w ∷ []) in
      let one : ClaimsIn (writes h ++ w ∷ []) at = claims_one (writes h) w at (λ r low high. by_other h w _ parts.0) is in
      subst (λ ws. ClaimsIn ws at) (ap (λ ws. ws ++ new) same ∙ append_assoc (writes h) (w ∷ []) new) (claims_many at h1 new parts.1 (subst (λ ws. ClaimsIn ws at) (sym same) one))

  abbrev pub born_in : ℕ → List Write → ℕ
  born_in r ws = born_after o (take (r - 1) ws) (drop (r - 1) ws)

  pub born_many : (r : ℕ) (h : History) (new : List Write) → each_of_pods (keeps_claims o) h new ≡ true → born_in r (writes h) ≡ 0 → born_in r (writes h ++ new) ≡ 0
  born_many r h [] e is = subst (λ ws. born_in r ws ≡ 0) (sym (append-nil (writes h))) is
  born_many r h (w ∷ new) e is =
      let h1 = h ++ write w ∷ [] in
      let parts = both_true (Keeps h w) (each_of_pods (keeps_claims o) h1 new) e in
      let same : writes h1 ≡ writes h ++ w ∷ [] = writes-append h (write w ∷ []) in
      let leaves : each_of_pods (keeps_claims o) h (drop (length (writes h)) (writes h1)) ≡ true = ap (each_of_pods (keeps_claims o) h) (just o h w) ∙ ap (λ b. b && true) parts.0 in
      let one : born o h1 r ≡ 0 = none (born o h1 r) (born o h r) (one_write o r h w leaves) is in
      subst (λ ws. born_in r ws ≡ 0) (ap (λ ws. ws ++ new) same ∙ append_assoc (writes h) (w ∷ []) new) (born_many r h1 new parts.1 one)
    where
      none : (a b : ℕ) → a ≤ b → b ≡ 0 → a ≡ 0
      none a b e f = omega arith

-- ---- what a list shows

pub listed_is : (h : History) (r : ℕ) (k : Key) → k.kind ≡ Pod → found k (list h (unfiltered Pod None) r) ≡ state h r k
listed_is h r k pod = lists_show h (unfiltered Pod None) r k ∙ shown (state h r k)
  where
    shown : (x : Option Data) → seen (unfiltered Pod None) k x ≡ x
    shown None = refl
    shown (Some d) = ap (λ b. cond b (Some d) None) (in_pods k d ∙ ap is_pod pod)

-- ---- a command of the ReplicaSet controller

module _ (o : Owner) (h : History) (moment : List ℕ) (at : ℕ) (reached : IsReached h) where
  abbrev pub IsClaim : Write → Type 0
  IsClaim w = (r : ℕ) → at ≤ r → r ≤ present h → Claim o (found w.key (list h (unfiltered Pod None) r)) (state h (present h) w.key) w

  -- what is replaced stood there
  standing : (w : Write) (k : Key) (e : Data) (q : ℕ) → q ≤ at → state h q k ≡ Some e → w.key ≡ k → state h (present h) w.key ≡ Some e → IsClaim w
  standing w k e q low then is now r since high d put pod same =
      let was = stand h q r (present h) w.key e e reached (le q at r low since) high (still (present h)) (ap (state h q) is ∙ then) now refl in
      let one : have_one_uid d e ≡ true = ap (is_same_pod d) (sym now) ∙ same in
      inl (ap (is_same_pod d) (listed_is h r w.key pod ∙ was.1) ∙ ap (λ u. is_some_and (λ t. is_text t u) (uid d)) was.2 ∙ one)
    where
      still : (n : ℕ) → n ≤ n
      still n = omega arith

      le : (a b c : ℕ) → a ≤ b → b ≤ c → a ≤ c
      le a b c e f = omega arith

  edited : (x : Option Write) (k : Key) (e : Data) (q : ℕ) → q ≤ at → state h q k ≡ Some e → IfSome x (λ w. (w.key ≡ k) × (state h (present h) w.key ≡ Some e)) → IfSome x IsClaim
  edited None k e q low then is = tt
  edited (Some w) k e q low then is = standing w k e q low then is.0 is.1

  unedited : (x : Option Write) → IfSome x (λ w. IfSome w.put (λ new. IfSome (state h (present h) w.key) (λ existing. is_controlled o new ≡ is_controlled o existing))) → IfSome x IsClaim
  unedited None is = tt
  unedited (Some w) is = λ r since high d put pod. by_same o _ (state h (present h) w.key) d (subst (λ p. IfSome p (λ new. IfSome (state h (present h) w.key) (λ existing. is_controlled o new ≡ is_controlled o existing))) put is)

  pub commands_claim : (before : Option (List ℕ)) (x : Command) → Edits (IsStanding h at) x → IfSome (write_of (accept (request_of before x) h moment)) IsClaim
  commands_claim before (create k ns d) e = unedited _ (references_kept o h moment (request_of before (create k ns d)) refl)
  commands_claim before (update k d) e =
      let stands = e.1 in
      edited (write_of (accept (request_of before (update k d)) h moment)) k e.0 stands.1 stands.2 stands.3
      (subst (λ y. IfSome (write_of (accept (request_of before (update k y)) h moment)) (λ w. (w.key ≡ k) × (state h (present h) w.key ≡ Some e.0))) (sym e.3)
      (edits_replace h moment stands.1 k e.0 e.2 reached stands.0 stands.3))
  commands_claim before (update_status k d) e = unedited _ (references_kept o h moment (request_of before (update_status k d)) refl)
  commands_claim before (delete k u v p) e = unedited _ (references_kept o h moment (request_of before (delete k u v p)) refl)
