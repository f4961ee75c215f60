-- The commands of the Deployment controller can be asked.
use Rattle.std.proofs.Common.{◌≡◌, ◌<◌, ◌≤◌, ◌+◌, ◌-◌, ◌^◌, ◌==◌, ◌&&◌, ℕ, List, [], ◌∷◌, ◌++◌, length, map, min, Bool, true, false, not, cond, Option, Some, None, IfSome, nat_lt, nat_le, codes, decimal, bytes_eq, option_and_then, refl, arith, rules}
use Rattle.std.proofs.Math.Nat.{min-le_left}
use Rattle.std.proofs.lemmas.Bool.{ltb-true, ltb-false}
use Rattle.std.proofs.lemmas.Bool.Decides.{nat_tests}
use Rattle.std.proofs.lemmas.Str.{IsUtf8-from_ascii, IsUtf8-append, IsAscii-take}
use Rattle.std.proofs.lemmas.Str.Ascii.{IsAscii-nil, IsAscii-cons}
use Rattle.std.proofs.lemmas.Str.Parse.{digits_value_short, numerals_by_value}
use Rattle.std.specs.Char.{digit_value}
use Rattle.std.specs.List.{list_all, list_any, find}
use Rattle.std.specs.Str.{IsUtf8, IsAscii}
use Rattle.std.specs.Str.Parse.{AllDigits, digits_value}
use Rattle.hex.proofs.HexLemmas.{IsAscii-encode_with}
use Rattle.hex.specs.Hex.{encode_lower, lower_digits}
use Rattle.sha2.specs.Sha256.{sha256}
use Rattle.serde_json.specs.Data.{Data, string, array, object, no_items, item, Members, no_members, put}
use Rattle.serde_json.specs.Find.{get}
use Rattle.serde_json.specs.Written.{compact_text}
use Rattle.spec_api.specs.Checks.{in_spec}
use Rattle.spec_api.specs.Defaults.{unsigned_value, is_rolling_update}
use Rattle.spec_api.specs.History.{Entries, found}
use Rattle.spec_api.specs.Keys.{Key, is_namespace, is_subdomain}
use Rattle.spec_api.specs.Metadata.{metadata, metadata_of, labels_of}
use Rattle.spec_api.specs.Moments.{is_digit}
use Rattle.spec_api.specs.Reached.{IsParsed}
use Rattle.spec_api.specs.Replacements.{says_the_same}
use Rattle.spec_api.specs.SelectorValues.{is_some_and, text_in}
use Rattle.spec_api.specs.Values.{inner_of}
use Rattle.spec_api.proofs.Truths.{both_true}
use Rattle.spec_client_go.specs.Commands.{Command, update, update_status}
use Rattle.spec_client_go.specs.Hands.{Hand}
use Rattle.spec_client_go.specs.Informers.{Looks, of_namespace}
use Rattle.spec_laws.proofs.NameBytes.{name_text}
use Rattle.spec_laws.proofs.Parsed.{Both, joined, inside, Both-set, inner}
use Rattle.spec_laws.proofs.Parsed as parsed
use Rattle.spec_laws.proofs.ParsedEdits.{inner_edits}
use Rattle.spec_laws.proofs.ParsedObjects.{meta, with_meta}
use Rattle.spec_reconcile.specs.Counts.{count_in_spec, count_in_status, replicas}
use Rattle.spec_reconcile.specs.Deployments.{Rollout, age_cmp, asked_by, clean_up, count_collision, counted, delete_set, due, first_of, forget, go_on, has_its_template, has_running_pods, hash_of, is_going_on, is_managed_by, is_name_taken, is_complete, make, managed, pace_of, plan_for, plan_of, recreate, renew, renew_whole, report, roll, roll_with, rollout, scale, scale_each, sets_of, summary, tally, with_replicas, with_summary, without_first}
use Rattle.spec_reconcile.specs.MetadataEdits.{controller_reference}
use Rattle.spec_reconcile.specs.NewPods.{template}
use Rattle.spec_reconcile.specs.Revisions.{revision_annotation, is_revision, revision_said, revision, greatest, greatest_revision, annotated, with_revision, raised}
use Rattle.spec_reconcile.specs.Rollouts.{asked, growth, most, resized, shrunk}
use Rattle.spec_reconcile.specs.Statuses.{status, with_status}
use Rattle.spec_reconcile.specs.Templates.{collision_digits, template_hash, hash_label, selector, with_hash, labelled, selecting, set_name, new_set_metadata, new_set_spec}
use Rattle.spec_laws.specs.AskedLaws.{IsStoredAs, AreStored, IsOfServer, CanBeAsked, AllCanBeAsked}
use Rattle.spec_laws.specs.DeploymentLaws.{Bounded}
use Rattle.spec_laws.proofs.AskedEdits.{in_meta, in_spec_parsed, ascii, decimal_utf8, reference_parsed, template_parsed, replicas_low, status_both, status_parsed}
use Rattle.spec_laws.proofs.AskedReplicaSets.{found_all, either}
use Rattle.spec_laws.proofs.DeploymentPlans.{all_kept, all_ordered}
use Rattle.spec_laws.proofs.Permuted.{all_joined}
use Rattle.spec_laws.proofs.RolloutNumbers.{only_shrink}

abbrev IsAt : Key × Data → Type 0
IsAt m = IsStoredAs m.0 m.1

-- ---- texts

-- a digit's value
digit_small : (x : ℕ) → is_digit x ≡ true → digit_value x < 10
digit_small x h =
    let b = both_true (nat_le 48 x) (nat_le x 57) h in
    let l : nat_le 48 x ≡ true = b.0 in
    let m : nat_le x 57 ≡ true = b.1 in
    grind (arith, nat_tests)

all_digits : (t : List ℕ) → list_all is_digit t ≡ true → AllDigits 10 t
all_digits [] h = tt
all_digits (x ∷ t) h = let b = both_true (is_digit x) (list_all is_digit t) h in (digit_small x b.0, all_digits t b.1)

last_two : (a b c : Bool) → (a && b && c) ≡ true → (b ≡ true) × (c ≡ true)
last_two true true true e = (refl, refl)
last_two true true false e = cc
last_two true false c e = cc
last_two false b c e = cc

at_most : (n m : ℕ) → nat_le n m ≡ true → n ≤ m
at_most n m e = grind (arith, nat_tests)

said_low : (t : List ℕ) → revision_said t < 10 ^ 18
said_low t = by (is_revision t) refl
  where
    by : (b : Bool) → is_revision t ≡ b → cond b (digits_value 10 t) 0 < 10 ^ 18
    by true e =
        let two = last_two (nat_lt 0 (length t)) (nat_le (length t) 18) (list_all is_digit t) e in
        digits_value_short (numerals_by_value (AllDigits 10) (search rules)) t 18 (all_digits t two.1) (at_most (length t) 18 two.0)
    by false e = omega arith

greatest_low : (ss : Entries) → greatest (map (λ (s : Key × Data). revision s.1) ss) < 10 ^ 18
greatest_low [] = omega arith
greatest_low (s ∷ ss) =
    let one : revision s.1 < 10 ^ 18 = said_low (text_in (option_and_then (get revision_annotation) (metadata (codes "annotations") s.1))) in
    let rest = greatest_low ss in omega arith

ascii_by_test : (t : List ℕ) → list_all (λ b. nat_lt b 128) t ≡ true → IsAscii t
ascii_by_test [] e = IsAscii-nil
ascii_by_test (x ∷ t) e = let b = both_true (nat_lt x 128) (list_all (λ b. nat_lt b 128) t) e in IsAscii-cons x t (ltb-true x 128 b.0) (ascii_by_test t b.1)

digits_ascii : IsAscii lower_digits
digits_ascii = ascii_by_test lower_digits refl

hash_utf8 : (t : Data) (n : ℕ) → IsUtf8 (template_hash t n)
hash_utf8 t n =
    let digest = sha256 (compact_text t ++ collision_digits n) in
    IsUtf8-from_ascii (template_hash t n) (IsAscii-take (encode_lower digest) 10 (IsAscii-encode_with lower_digits digest digits_ascii))

named_utf8 : (name hash : List ℕ) → IsUtf8 name → IsUtf8 hash → IsUtf8 (set_name name hash)
named_utf8 name hash n h = IsUtf8-append (name ++ codes "-") hash (IsUtf8-append name (codes "-") n (ascii (codes "-") refl)) h

-- ---- sets scaled

annotated_both : (n : ℕ) (ms : Members) → n < 2 ^ 64 → Both ms → Both (annotated n ms)
annotated_both n ms low b = Both-set revision_annotation refl (string (decimal n)) ms (decimal_utf8 n low) b

raised_parsed : (n : ℕ) (d : Data) → n < 2 ^ 64 → IsParsed d → IsParsed (raised n d)
raised_parsed n d low p = by (nat_lt (revision d) n)
  where
    by : (b : Bool) → IsParsed (cond b (with_revision n d) d)
    by true =
        let ms = inner_of (metadata (codes "annotations") d) in
        let notes = annotated n ms in
        let both : Both notes = annotated_both n ms low (inner (metadata (codes "annotations") d) (in_meta (codes "annotations") d p)) in
        with_meta (put (codes "annotations") (object notes) (metadata_of d)) d (Both-set (codes "annotations") refl (object notes) (metadata_of d) (joined notes both) (meta d p)) p
    by false = p

scaled_parsed : (n : ℕ) (d : Data) → n < 2 ^ 64 → IsParsed d → IsParsed (with_replicas n d)
scaled_parsed n d low p = inner_edits d (unsigned_value n) (codes "spec") (codes "replicas") (ascii (codes "spec") refl) (ascii (codes "replicas") refl) p low

scale_asked : (s : Key × Data) (n : ℕ) → n ≤ replicas s.1 → IsAt s → AllCanBeAsked (scale s n)
scale_asked s n le is =
    let low : n < 2 ^ 64 = let all = replicas_low s.1 is.0 in omega arith in either (replicas s.1 == n) [] (update s.0 (with_replicas n s.1) ∷ []) tt (scaled_parsed n s.1 low is.0, tt)

scales_asked : (ss : Entries) (ns : List ℕ) → AreStored ss → Bounded ns (asked (map tally ss)) → AllCanBeAsked (scale_each ss ns)
scales_asked [] ns a b = tt
scales_asked (s ∷ ss) [] a b = tt
scales_asked (s ∷ ss) (n ∷ ns) a b = all_joined CanBeAsked (scale s n) (scale_each ss ns) (scale_asked s n b.0 a.0) (scales_asked ss ns a.1 b.1)

zeros : (ss : Entries) → Bounded (map (λ (s : Key × Data). 0) ss) (asked (map tally ss))
zeros [] = tt
zeros (s ∷ ss) = (omega arith, zeros ss)

renew_asked : (s : Key × Data) (n revision_due : ℕ) → n < 2 ^ 64 → revision_due < 2 ^ 64 → IsAt s → AllCanBeAsked (renew s n revision_due)
renew_asked s n revision_due low few is =
    either ((replicas s.1 == n) && not (nat_lt (revision s.1) revision_due)) [] (update s.0 (with_replicas n (raised revision_due s.1)) ∷ []) tt
    (scaled_parsed n (raised revision_due s.1) low (raised_parsed revision_due s.1 few is.0), tt)

deletes_asked : (ss : Entries) → AllCanBeAsked (map delete_set ss)
deletes_asked [] = tt
deletes_asked (s ∷ ss) = (tt, deletes_asked ss)

first_asked : (xs ys : List Command) → AllCanBeAsked xs → AllCanBeAsked ys → AllCanBeAsked (first_of xs ys)
first_asked [] ys a b = b
first_asked (x ∷ xs) ys a b = a

resized_low : (w m all n : ℕ) (b : Bool) → nat_lt w n ≡ b → cond b w (n + min (m - all) (w - n)) ≤ w
resized_low w m all n true e = omega arith
resized_low w m all n false e = let le = ltb-false w n e in omega arith

-- ---- the set that is made

module _ (k : Key) (d : Data) (valid : is_subdomain k.name ≡ true) (p : IsParsed d) (hash : List ℕ) (u : IsUtf8 hash) where
  labels_both : (ms : Members) → Both ms → Both (with_hash hash ms)
  labels_both ms b = Both-set hash_label refl (string hash) ms u b

  template_labels : (t : Data) → IsParsed t → Both (with_hash hash (labels_of t))
  template_labels t tp = labels_both (labels_of t) (inner (metadata (codes "labels") t) (in_meta (codes "labels") t tp))

  labelled_parsed : (t : Data) → IsParsed t → IsParsed (labelled hash t)
  labelled_parsed t tp =
      let ms = with_hash hash (labels_of t) in
      with_meta (put (codes "labels") (object ms) (metadata_of t)) t (Both-set (codes "labels") refl (object ms) (metadata_of t) (joined ms (template_labels t tp)) (meta t tp)) tp

  selecting_both : (ms : Members) → Both ms → Both (selecting hash ms)
  selecting_both ms b =
      let o = get (codes "matchLabels") (object ms) in
      let at = parsed.found (codes "matchLabels") (object ms) (joined ms b) in
      let ls = with_hash hash (inner_of o) in
      Both-set (codes "matchLabels") refl (object ls) ms (joined ls (labels_both (inner_of o) (inner o at))) b

  spec_both : (ms : Members) (t : Data) (n : ℕ) → Both ms → IsParsed t → n < 2 ^ 64 → Both (new_set_spec ms hash t n)
  spec_both ms t n b tp low =
      let a = put (codes "replicas") (unsigned_value n) no_members in
      let from_a : Both a = Both-set (codes "replicas") refl (unsigned_value n) no_members low (tt, tt) in
      let s = selecting hash ms in
      let c = put (codes "selector") (object s) a in
      let from_c : Both c = Both-set (codes "selector") refl (object s) a (joined s (selecting_both ms b)) from_a in
      Both-set (codes "template") refl (labelled hash t) c (labelled_parsed t tp) from_c

  metadata_both : (t : Data) (n : ℕ) → IsParsed t → n < 2 ^ 64 → Both (new_set_metadata (set_name k.name hash) (controller_reference k d) hash t (annotated n no_members))
  metadata_both t n tp low =
      let notes = annotated n no_members in
      let from_notes : Both notes = annotated_both n no_members low (tt, tt) in
      let a = put (codes "annotations") (object notes) no_members in
      let from_a : Both a = Both-set (codes "annotations") refl (object notes) no_members (joined notes from_notes) (tt, tt) in
      let ls = with_hash hash (labels_of t) in
      let b = put (codes "labels") (object ls) a in
      let from_b : Both b = Both-set (codes "labels") refl (object ls) a (joined ls (template_labels t tp)) from_a in
      let c = put (codes "name") (string (set_name k.name hash)) b in
      let from_c : Both c = Both-set (codes "name") refl (string (set_name k.name hash)) b (named_utf8 k.name hash (name_text k.name valid) u) from_b in
      Both-set (codes "ownerReferences") refl (array (item (controller_reference k d) no_items)) c (reference_parsed k d valid p, tt) from_c

object_parsed : (spec meta : Members) → Both spec → Both meta → IsParsed (object (put (codes "spec") (object spec) (put (codes "metadata") (object meta) no_members)))
object_parsed spec meta b c =
    let root = put (codes "metadata") (object meta) no_members in
    let from_root : Both root = Both-set (codes "metadata") refl (object meta) no_members (joined meta c) (tt, tt) in
    joined (put (codes "spec") (object spec) root) (Both-set (codes "spec") refl (object spec) root (joined spec b) from_root)

module _ (r : Rollout) (valid : is_subdomain r.key.name ≡ true) (space : is_namespace r.key.namespace ≡ true) (p : IsParsed r.deployment) where
  due_low : due r < 2 ^ 64
  due_low = let g = greatest_low r.old in let least = min-le_left (greatest (map (λ (s : Key × Data). revision s.1) r.old) + 1) greatest_revision in omega arith

  made_asked : (n : ℕ) → n < 2 ^ 64 → AllCanBeAsked (make r n)
  made_asked n low =
      let d = r.deployment in
      let t = template d in
      let h = hash_of d in
      let u = hash_utf8 t (count_in_status (codes "collisionCount") d) in
      let tp = template_parsed d p in (
        (
          space,
          object_parsed (new_set_spec (selector d) h t n) (new_set_metadata (set_name r.key.name h) (controller_reference r.key d) h t (annotated (due r) no_members))
              (spec_both r.key d valid p h u (selector d) t n (inner (in_spec (codes "selector") d) (in_spec_parsed (codes "selector") d p)) tp low) (metadata_both r.key d valid p h u t (due r) tp due_low),
        ),
        tt,
      )

  -- ---- the status

  summary_both : Both (with_summary (summary r) (status r.deployment))
  summary_both =
      let c = summary r in
      let low : (n : ℕ) → min n (2 ^ 64 - 1) < 2 ^ 64 = λ n. omega arith in
      let a = put (codes "observedGeneration") (counted c.generation) (status r.deployment) in
      let from_a : Both a = Both-set (codes "observedGeneration") refl (counted c.generation) (status r.deployment) (low c.generation) (status_both r.deployment p) in
      let b = put (codes "unavailableReplicas") (counted c.unavailable) a in
      let from_b : Both b = Both-set (codes "unavailableReplicas") refl (counted c.unavailable) a (low c.unavailable) from_a in
      let d = put (codes "updatedReplicas") (counted c.updated) b in
      let from_d : Both d = Both-set (codes "updatedReplicas") refl (counted c.updated) b (low c.updated) from_b in
      let e = put (codes "availableReplicas") (counted c.available) d in
      let from_e : Both e = Both-set (codes "availableReplicas") refl (counted c.available) d (low c.available) from_d in
      let f = put (codes "readyReplicas") (counted c.ready) e in
      let from_f : Both f = Both-set (codes "readyReplicas") refl (counted c.ready) e (low c.ready) from_e in
      Both-set (codes "replicas") refl (counted c.replicas) f (low c.replicas) from_f

  report_asked : AllCanBeAsked (report r)
  report_asked =
      let new = with_summary (summary r) (status r.deployment) in
      either (says_the_same (object (status r.deployment)) (object new)) [] (update_status r.key (with_status new r.deployment) ∷ []) tt (status_parsed new r.deployment summary_both p, tt)

  collision_asked : (n : ℕ) → AllCanBeAsked (count_collision r n)
  collision_asked n = by (nat_lt n 2147483647) refl
    where
      by : (b : Bool) → nat_lt n 2147483647 ≡ b
          → AllCanBeAsked (cond b (update_status r.key (with_status (put (codes "collisionCount") (unsigned_value (n + 1)) (status r.deployment)) r.deployment) ∷ []) [])
      by true e =
          let low : n + 1 < 2 ^ 64 = let lt = ltb-true n 2147483647 e in omega arith in (
            status_parsed (put (codes "collisionCount") (unsigned_value (n + 1)) (status r.deployment)) r.deployment
                (Both-set (codes "collisionCount") refl (unsigned_value (n + 1)) (status r.deployment) low (status_both r.deployment p)) p,
            tt,
          )
      by false e = tt

  -- ---- the plan

  module _ (news : IfSome r.new IsAt) (olds : AreStored r.old) where
    wanted_low : replicas r.deployment < 2 ^ 63
    wanted_low = replicas_low r.deployment p

    clean_asked : AllCanBeAsked (clean_up r)
    clean_asked = either (is_complete (replicas r.deployment) (summary r)) (forget (count_in_spec (codes "revisionHistoryLimit") r.deployment) r.old) [] (deletes_asked _) tt

    rolled_asked : (o : Option (Key × Data)) → IfSome o IsAt → AllCanBeAsked (roll_with r (pace_of r.deployment) o)
    rolled_asked None is =
        let low : growth (pace_of r.deployment) (asked_by r.old) 0 < 2 ^ 64 = let w = wanted_low in omega arith in made_asked (growth (pace_of r.deployment) (asked_by r.old) 0) low
    rolled_asked (Some new) is =
        let pace = pace_of r.deployment in
        let n = resized pace (asked_by (new ∷ r.old)) (replicas new.1) in
        let le : n ≤ replicas r.deployment = resized_low (replicas r.deployment) (most pace) (asked_by (new ∷ r.old)) (replicas new.1) (nat_lt (replicas r.deployment) (replicas new.1)) refl in
        let low : n < 2 ^ 64 = let w = wanted_low in omega arith in
        let ns = shrunk pace (tally new) (map tally r.old) in
        first_asked (renew new n (due r)) (first_of (scale_each r.old ns) (clean_up r)) (renew_asked new n (due r) low due_low is)
        (first_asked (scale_each r.old ns) (clean_up r) (scales_asked r.old ns olds (only_shrink pace (tally new) (map tally r.old))) clean_asked)

    whole_asked : (o : Option (Key × Data)) → IfSome o IsAt → AllCanBeAsked (renew_whole r o)
    whole_asked None is = let low : replicas r.deployment < 2 ^ 64 = let w = wanted_low in omega arith in made_asked (replicas r.deployment) low
    whole_asked (Some new) is = let low : replicas r.deployment < 2 ^ 64 = let w = wanted_low in omega arith in renew_asked new (replicas r.deployment) (due r) low due_low is

    recreated_asked : (pods : Entries) → AllCanBeAsked (recreate r pods)
    recreated_asked pods =
        let ns = map (λ (s : Key × Data). 0) r.old in
        let runs = list_any (has_running_pods r.key.namespace pods) r.old in
        let later = first_of (renew_whole r r.new) (clean_up r) in
        first_asked (scale_each r.old ns) (cond runs [] later) (scales_asked r.old ns olds (zeros r.old))
        (either runs [] later tt (first_asked (renew_whole r r.new) (clean_up r) (whole_asked r.new news) clean_asked))

    going_asked : (pods : Entries) → AllCanBeAsked (go_on r pods)
    going_asked pods = either (is_some_and is_rolling_update (in_spec (codes "strategy") r.deployment)) (roll r) (recreate r pods) (rolled_asked r.new news) (recreated_asked pods)

    pub rollout_asked : (l : Looks) → AllCanBeAsked (plan_for r l)
    rollout_asked l =
        let n = count_in_status (codes "collisionCount") r.deployment in
        let taken = is_name_taken r l.replica_sets in
        either (not (is_going_on r.deployment)) (report r) (cond taken (count_collision r n) (go_on r l.pods ++ report r)) report_asked
        (either taken (count_collision r n) (go_on r l.pods ++ report r) (collision_asked n) (all_joined CanBeAsked (go_on r l.pods) (report r) (going_asked l.pods) report_asked))

-- ---- its sets

all_found : (t : Key × Data → Bool) (ss : Entries) → AreStored ss → IfSome (find t ss) IsAt
all_found t [] a = tt
all_found t (s ∷ ss) a = by (t s) (all_found t ss a.1)
  where
    by : (b : Bool) → IfSome (find t ss) IsAt → IfSome (cond b (Some s) (find t ss)) IsAt
    by true rest = a.0
    by false rest = rest

all_but_first : (t : Key × Data → Bool) (ss : Entries) → AreStored ss → AreStored (without_first t ss)
all_but_first t [] a = tt
all_but_first t (s ∷ ss) a = by (t s) (all_but_first t ss a.1)
  where
    by : (b : Bool) → AreStored (without_first t ss) → AreStored (cond b ss (s ∷ without_first t ss))
    by true rest = a.1
    by false rest = (a.0, rest)

pub deployments_asked : (h : Hand) → IsOfServer h → AllCanBeAsked (plan_of h.key h.looks (found h.key h.looks.deployments))
deployments_asked h is = by (found h.key h.looks.deployments) (found_all IsStoredAs h.key h.looks.deployments is.deployments)
  where
    by : (o : Option Data) → IfSome o (IsStoredAs h.key) → AllCanBeAsked (plan_of h.key h.looks o)
    by None a = tt
    by (Some d) a =
        let sets : AreStored (sets_of h.key d h.looks.replica_sets) =
        all_ordered IsAt age_cmp (managed h.key.namespace d h.looks.replica_sets)
        (all_kept IsAt (λ (m : Key × Data). is_managed_by d m.1) (of_namespace h.key.namespace h.looks.replica_sets) (all_kept IsAt (λ (m : Key × Data). bytes_eq m.0.namespace h.key.namespace) h.looks.replica_sets is.replica_sets)) in
        rollout_asked (rollout h.key d h.looks.replica_sets) a.2 a.1 a.0 (all_found (has_its_template d) (sets_of h.key d h.looks.replica_sets) sets)
        (all_but_first (has_its_template d) (sets_of h.key d h.looks.replica_sets) sets) h.looks
