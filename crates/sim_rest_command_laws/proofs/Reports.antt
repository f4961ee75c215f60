-- An update of the status that says another one owes the key of what it is of.
use Rattle.std.proofs.Common.{◌≡◌, ◌⊎◌, inl, inr, ◌+◌, ◌&&◌, ◌||◌, ◌++◌, ℕ, List, Bool, true, false, not, cond, codes, decimal, is_some, IfSome, Option, Some, None, option_and_then, Result, Ok, Err, Ordering, Less, Equal, Greater, nat_cmp, refl, sym, ap, ◌∙◌, subst}
use mathlib.Core.Bool.{true≢false}
use Rattle.std.proofs.lemmas.Slice.Eq.{bytes_eq-Decides}
use Rattle.std.specs.Cmp.Lexicographic.{slice_cmp}
use Rattle.std.specs.Ordering.{match_ordering}
use Rattle.serde_json.specs.Data.{Num, Data, null, boolean, number, string, array, object, Members, no_members, member, put}
use Rattle.serde_json.specs.Find.{get, get_member, as_str}
use Rattle.serde_json.specs.Written.{compact_text}
use Rattle.serde_json.proofs.Views.{get_member-put, get_member-put_other}
use Rattle.spec_api.proofs.FirstStatus.{get-members_of}
use Rattle.spec_api.proofs.JsonMembers.{apart}
use Rattle.spec_api.proofs.VerbSteps.{restate, status_put}
use Rattle.spec_api.specs.declared.kinds.Kind.{Kind}
use Rattle.spec_api.specs.declared.kinds.Kind.TheVariants.{ConfigMap, Pod, ReplicaSet, Deployment}
use Rattle.spec_api.specs.declared.refusals.Part.{Part}
use Rattle.spec_api.specs.declared.refusals.Part.TheVariants as part
use Rattle.spec_api.specs.declared.refusals.Mismatch.TheVariants as mismatch
use Rattle.spec_api.specs.declared.refusals.Field.TheVariants as field
use Rattle.spec_api.specs.declared.schemas.Property.{Property}
use Rattle.spec_api.specs.declared.schemas.Schema.{Schema}
use Rattle.spec_api.specs.declared.schemas.Schema.TheVariants.{Root}
use Rattle.spec_api.specs.declared.schemas.Shape.{Shape}
use Rattle.spec_api.specs.declared.schemas.Shape.TheVariants.{Object as ObjectOf}
use Rattle.spec_api.specs.Checks.{is_status_valid}
use Rattle.spec_api.specs.History.{History, Write, present, state, found, entries_at}
use Rattle.spec_api.specs.Keys.{Key}
use Rattle.spec_api.specs.Kinds.{api_version, kind_text, has_status}
use Rattle.spec_api.specs.Metadata.{metadata_of, at_revision, uid, version, differs}
use Rattle.spec_api.specs.NewObjects as new_objects
use Rattle.spec_api.specs.ObjectRequests.{update_status}
use Rattle.spec_api.specs.Reached.{IsParsed, IsReached}
use Rattle.spec_api.specs.Reading.{reading, filled, fits, is_body, is_absent, schema_of, tidied, empty, with_spec}
use Rattle.spec_api.specs.Refusals.{Refusal, bad_request, conflict, invalid, not_found, storage_full, too_large}
use Rattle.spec_api.specs.Replacements.{says_the_same, status_in, with_status_in}
use Rattle.spec_api.specs.Schemas.{property_at}
use Rattle.spec_api.specs.Values.{members_of, inner_of, with_default}
use Rattle.spec_api.specs.Verbs.{Outcome, refused, shown, stored, accept, write_of, names_path, replace_status, is_too_large, is_past_greatest, put_in_place}
use Rattle.spec_laws.proofs.Guards.{guard, there, either}
use Rattle.spec_laws.proofs.NeatMembers.{Neat, Neat-get, Neat-tidy}
use Rattle.spec_laws.proofs.Parsed.{parsed_reading}
use Rattle.spec_laws.proofs.ParsedObjects.{restated}
use Rattle.spec_laws.proofs.ReadAgain.{IsTidy, MembersTidy, opened, same_name, tidied_members-MembersTidy}
use Rattle.spec_laws.proofs.VerbLaws.{same}
use Rattle.spec_laws.proofs.Versions.{tells}
use Rattle.spec_laws.proofs.WholeObjects.{AreWhole, reads_whole, whole_read, whole_with_said}
use Rattle.spec_reconcile.specs.Statuses.{status, with_status}
use Rattle.spec_sim.specs.Managers.{answer_of}
use Rattle.spec_sim.specs.Turns.{is_accepted}
use Rattle.spec_client_go.specs.WorkQueues.{WorkKey}
use Rattle.spec_sim.specs.ControlPlanes.{ControlPlane, Step}
use Rattle.sim_rest_laws.specs.OwedObjectLaws.{LooksAfter}
use Rattle.sim_rest_laws.specs.StillLaws.{ShownIn}
use Rattle.sim_rest_command_laws.specs.CommandLaws.{Unowed, WasUnowed, IsCounted, as_it_was, counts, ReportsOwe}
use Rattle.sim_rest_command_laws.proofs.Leads.{before, own_coming, own_writes}
use Rattle.sim_rest_command_laws.proofs.UnderNames.{default_other, metadata_filled}
use Rattle.sim_rest_command_laws.proofs.Updates.{held, plain, one_text, is_there}

-- ---- tidy members, with one put among them

pub tidy_put : (p : Schema) (k : List ℕ) (d : Data) (ms : Members) → is_absent (property_at p k) d ≡ false → IsTidy (property_at p k).shape d → MembersTidy p ms → MembersTidy p (put k d ms)
tidy_put p k d no_members a t m = (a, t, tt)
tidy_put p k d (member l e ms) a t m = by (slice_cmp nat_cmp k l) refl (tidy_put p k d ms a t m.2)
  where
    by : (o : Ordering) → slice_cmp nat_cmp k l ≡ o → MembersTidy p (put k d ms) → MembersTidy p (match_ordering o (member k d (member l e ms)) (member l d ms) (member l e (put k d ms)))
    by Less is later = (a, t, m)
    by Equal is later = let name = same_name k l is in (subst (λ n. is_absent (property_at p n) d ≡ false) name a, subst (λ n. IsTidy (property_at p n).shape d) name t, m.2)
    by Greater is later = (m.0, m.1, later)

number_there : (m : Property) (n : Num) → is_absent m (number n) ≡ false
number_there m n = by m.drops_empty
  where
    by : (b : Bool) → (false || (b && false)) ≡ false
    by true = refl
    by false = refl

counted_tidy : (p : Schema) (was ms : Members) → IsCounted was ms → MembersTidy p was → MembersTidy p ms
counted_tidy p was _ as_it_was t = t
counted_tidy p was _ (counts q n ms c) t = tidy_put p q (number n) ms (number_there (property_at p q) n) tt (counted_tidy p was ms c t)

-- ---- the status

status_name : List ℕ
status_name = codes "status"

abbrev status_schema : Kind → Schema
status_schema k = schema_of (property_at (Root k) (codes "status")).shape

-- the members of what is tidy are tidy
pub inner_tidy : (s : Shape) (o : Option Data) → IfSome o (IsTidy s) → MembersTidy (schema_of s) (inner_of o)
inner_tidy s None t = tt
inner_tidy s (Some null) t = tt
inner_tidy s (Some (boolean b)) t = tt
inner_tidy s (Some (number n)) t = tt
inner_tidy s (Some (string text)) t = tt
inner_tidy s (Some (array ds)) t = tt
inner_tidy s (Some (object ms)) t = t

tidy_found : (k : Kind) (ms : Members) (o : Option Data) → get_member (codes "status") ms ≡ o → Neat 99 (Root k) ms → IfSome o (IsTidy (property_at (Root k) (codes "status")).shape)
tidy_found k ms None is n = tt
tidy_found k ms (Some d) is n = (Neat-get 99 (Root k) (codes "status") ms d is n).2

status_tidy : (k : Kind) (d : Data) → AreWhole k (members_of d) → MembersTidy (status_schema k) (status d)
status_tidy k d w = inner_tidy (property_at (Root k) (codes "status")).shape (get (codes "status") d) (tidy_found k (members_of d) (get (codes "status") d) (sym (get-members_of (codes "status") d)) w.neat)

-- a body with such a status is tidy
body_tidy : (k : Kind) (ms rest : Members) → (k ≡ ReplicaSet) ⊎ (k ≡ Deployment) → MembersTidy (status_schema k) ms → MembersTidy (Root k) rest → MembersTidy (Root k) (put (codes "status") (object ms) rest)
body_tidy ConfigMap ms rest (inl e) s t = cc
body_tidy ConfigMap ms rest (inr e) s t = cc
body_tidy Pod ms rest (inl e) s t = cc
body_tidy Pod ms rest (inr e) s t = cc
body_tidy ReplicaSet ms rest e s t = tidy_put (Root ReplicaSet) (codes "status") (object ms) rest refl s t
body_tidy Deployment ms rest e s t = tidy_put (Root Deployment) (codes "status") (object ms) rest refl s t

-- ---- what is read of it

spec_other : (k : Kind) (d : Data) → get (codes "status") (with_spec k d) ≡ get (codes "status") d
spec_other ConfigMap d = refl
spec_other Pod d = default_other (codes "status") (codes "spec") empty d refl
spec_other ReplicaSet d = refl
spec_other Deployment d = refl

status_filled : (k : Kind) (d : Data) → get (codes "status") (filled k d) ≡ get (codes "status") d
status_filled k d =
    let one = with_default (codes "metadata") empty d in
    let two = with_spec k one in
    let three = with_default (codes "kind") (string (kind_text k)) two in
    default_other (codes "status") (codes "apiVersion") (string (api_version k)) three refl
    ∙ default_other (codes "status") (codes "kind") (string (kind_text k)) two refl ∙ spec_other k one ∙ default_other (codes "status") (codes "metadata") empty d refl

module _ (k : Kind) (d : Data) (ms : Members) (of_kind : (k ≡ ReplicaSet) ⊎ (k ≡ Deployment)) (reads : reading k d ≡ Ok d) (counted : IsCounted (status d) ms) (o : Data) (read : reading k (with_status ms d) ≡ Ok o) where
  abbrev all : Members
  all = put (codes "status") (object ms) (members_of d)

  whole : AreWhole k (members_of d)
  whole = whole_read k d d reads

  is_filled : filled k (object all) ≡ o
  is_filled =
      let root = ObjectOf (Root k) in
      let parts = opened (is_body (object all)) (fits root (object all)) (filled k (tidied root (object all))) o read in
      let tidy = body_tidy k ms (members_of d) of_kind (counted_tidy (status_schema k) (status d) ms counted (status_tidy k d whole)) (Neat-tidy 99 (Root k) (members_of d) whole.neat) in
      ap (λ xs. filled k (object xs)) (sym (tidied_members-MembersTidy (Root k) all tidy)) ∙ parts.2

  pub status_said : get (codes "status") o ≡ Some (object ms)
  status_said = ap (get (codes "status")) (sym is_filled) ∙ status_filled k (object all) ∙ get_member-put (codes "status") (object ms) (members_of d)

  pub version_said : is_some (get (codes "metadata") d) ≡ true → version o ≡ version d
  version_said has =
      let kept : get_member (codes "metadata") all ≡ get (codes "metadata") d = get_member-put_other (codes "metadata") (codes "status") (object ms) (members_of d) (apart (codes "metadata") (codes "status") refl) ∙ sym (get-members_of (codes "metadata") d) in
      let same_meta : get (codes "metadata") o ≡ get (codes "metadata") d = ap (get (codes "metadata")) (sym is_filled) ∙ metadata_filled k (object all) (ap is_some kept ∙ has) ∙ kept in
      ap (λ m. option_and_then as_str (get_member (codes "resourceVersion") (inner_of m))) same_meta

with_status_get : (k : Kind) (d o : Data) (ms : Members) → get (codes "status") o ≡ Some (object ms) → get (codes "status") (with_status_in k d o) ≡ Some (object ms)
with_status_get k d o ms said =
    ap (λ s. get (codes "status") (object (new_objects.with_status (status_in k s) (members_of d)))) said ∙ get_member-put (codes "status") (object ms) (members_of d)

-- ---- the update

-- what says a version has metadata
pub metadata_there : (d : Data) → is_some (version d) ≡ true → is_some (get (codes "metadata") d) ≡ true
metadata_there d = by (get (codes "metadata") d)
  where
    by : (m : Option Data) → is_some (option_and_then as_str (get_member (codes "resourceVersion") (inner_of m))) ≡ true → is_some m ≡ true
    by None e = cc
    by (Some v) e = refl

module _ (h g more : History) (moment : List ℕ) (x : Key) (d : Data) (ms : Members) (begins : h ≡ g ++ more) (reached : IsReached h) (at : state h (present h) x ≡ Some d) (of_kind : (x.kind ≡ ReplicaSet) ⊎ (x.kind ≡ Deployment))
    (counted : IsCounted (status d) ms) (parsed : IsParsed (with_status ms d)) (another : status d ≡ ms → ⊥) where
  abbrev body : Data
  body = with_status ms d

  abbrev r : ℕ
  r = present g

  abbrev Writes : Outcome → Type 0
  Writes u = is_accepted (answer_of u) ≡ true → (w : Write) × (write_of u ≡ Some w) × (w.key ≡ x)

  refuse : (f : Refusal) → Writes (refused f)
  refuse f e = absurd (true≢false (sym e))

  has_metadata : is_some (get (codes "metadata") d) ≡ true
  has_metadata = let two = tells h (present h) x d reached at in metadata_there d (ap is_some two.1)

  reads_itself : reading x.kind d ≡ Ok d
  reads_itself = (held h (present h) x d reached at).1.kept.reads

  other : (o : Data) → reading x.kind body ≡ Ok o → says_the_same d (with_status_in x.kind d o) ≡ true → ⊥
  other o read says =
      let p = (held h (present h) x d reached at).1.parsed in
      let e = with_status_in x.kind d o in
      let whole_e : AreWhole x.kind (members_of e) = whole_with_said x.kind d o (whole_read x.kind d d reads_itself) (whole_read x.kind body o read) in
      let one : d ≡ e =
      one_text d e (plain x.kind d reads_itself p) (plain x.kind e (reads_whole x.kind (members_of e) whole_e) (restated x.kind d o p (parsed_reading x.kind body o read parsed)))
      ((bytes_eq-Decides (compact_text d) (compact_text e)).0 says) in
      let is : get (codes "status") d ≡ Some (object ms) = ap (get (codes "status")) one ∙ with_status_get x.kind d o ms (status_said x.kind d ms of_kind reads_itself counted o read) in
      another (ap inner_of is)

  puts : (new : Data) → Writes (put_in_place x new r)
  puts new =
      guard Writes refuse (is_too_large new) too_large _
      (λ _. guard Writes refuse (is_past_greatest (r + 1)) storage_full (stored 200 x new) (λ _ e. (record { key = x; put = Some new }, refl, refl)))

  replaces : (o existing : Data) → reading x.kind body ≡ Ok o → found x (entries_at g (present g)) ≡ Some existing → Writes (replace_status x o r existing)
  replaces o existing read is =
      let e = with_status_in x.kind existing o in
      let new = at_revision (r + 1) (metadata_of e) e in
      guard Writes refuse (differs (uid o) (uid existing)) (conflict x mismatch.Uid) _
      (λ _. guard Writes refuse (differs (version o) (version existing)) (conflict x mismatch.Modified) (restate x existing e r)
      (λ equal.
      let two = tells h (present h) x d reached at in
      let names = version_said x.kind d ms of_kind reads_itself counted o read has_metadata in
      let one_version : version existing ≡ version d = same (decimal two.0) (version existing) (ap (λ v. differs v (version existing)) (sym two.1 ∙ sym names) ∙ equal) ∙ sym two.1 in
      let one = is_there h g more moment x d body (present h) begins reached at existing is one_version in
      guard Writes refuse (not (is_status_valid x.kind e)) (invalid x field.Status) (cond (says_the_same existing e) (shown existing) (put_in_place x new r))
      (λ _. either Writes (says_the_same existing e) (shown existing) (put_in_place x new r)
      (λ says. absurd (other o read (subst (λ z. says_the_same z (with_status_in x.kind z o) ≡ true) one says))) (λ _. puts new))))

  by_read : (q : Result Data Part) → reading x.kind body ≡ q → Writes (status_put x q (entries_at g (present g)) r)
  by_read (Err p) is = refuse (bad_request p)
  by_read (Ok o) is =
      guard Writes refuse (not (names_path x o)) (bad_request part.Object) _
      (λ _. there Writes refuse x (replace_status x o r) (found x (entries_at g (present g))) (λ existing at_g. replaces o existing is at_g))

  pub status_writes : Writes (accept (update_status x body) g moment)
  status_writes = guard Writes refuse (not (has_status x.kind)) (not_found x) (status_put x (reading x.kind body) (entries_at g (present g)) r) (λ _. by_read (reading x.kind body) refl)

-- an accepted update of the status that says another one owes the key
pub reports_another : (h g more : History) (moment : List ℕ) (j : WorkKey) (d now : Data) (ms : Members) (q : ControlPlane) (since : List Step)
    → h ≡ g ++ more → IsReached h → LooksAfter j.controller j.key.kind → (j.key.kind ≡ ReplicaSet) ⊎ (j.key.kind ≡ Deployment) → state h (present h) j.key ≡ Some now
    → Unowed j (ShownIn q since) j.key (Some d) (state h (present h) j.key) → IsCounted (status d) ms → IsParsed (with_status ms d) → (status d ≡ ms → ⊥)
    → is_accepted (answer_of (accept (update_status j.key (with_status ms d)) g moment)) ≡ true → WasUnowed j (ShownIn q since) h g (accept (update_status j.key (with_status ms d)) g moment) → ⊥
reports_another h g more moment j d now ms q since begins reached after of_kind at lead counted parsed another ok unowed =
    let Shown = ShownIn q since in
    let is : Some d ≡ Some now = before j Shown j.key (Some d) now (own_coming j h now reached after at) (subst (λ (o : Option Data). Unowed j Shown j.key (Some d) o) at lead) in
    let z = status_writes h g more moment j.key d ms begins reached (at ∙ sym is) of_kind counted parsed another ok in
    own_writes h g more moment j (update_status j.key (with_status ms d)) now q since z.0 begins reached after at unowed z.1 z.2

pub reports : ReportsOwe
reports h g more moment j d now ms q since begins reached after of_kind at lead counted parsed another ok unowed =
    reports_another h g more moment j d now ms q since begins reached after of_kind at lead counted parsed (λ same_status. true≢false (sym (says same_status) ∙ another)) ok unowed
  where
    says : status d ≡ ms → says_the_same (object (status d)) (object ms) ≡ true
    says same_status = (bytes_eq-Decides (compact_text (object (status d))) (compact_text (object ms))).1 (ap (λ (m : Members). compact_text (object m)) same_status)
