-- An accepted update of what was looked at finds it, and writes, if what it says is not what is there.
use Rattle.std.proofs.Common.{◌≡◌, ◌≤◌, ◌<◌, ◌+◌, ◌^◌, ◌==◌, ◌++◌, ℕ, List, [], ◌∷◌, length, true, false, not, cond, codes, bytes_eq, decimal, IfSome, Option, Some, None, Result, Ok, Err, refl, sym, ap, ◌∙◌, subst, arith}
use mathlib.Core.Bool.{true≢false}
use Rattle.std.proofs.lemmas.Bool.Decides.{nat_tests}
use Rattle.std.proofs.lemmas.Fmt.{decimal_nonempty}
use Rattle.std.proofs.lemmas.Slice.Eq.{bytes_eq-Decides}
use Rattle.serde_json.specs.Data.{Data, object, Items, Members, depth}
use Rattle.serde_json.specs.Events.{items_len}
use Rattle.serde_json.specs.Find.{get_member}
use Rattle.serde_json.specs.Read.{read}
use Rattle.serde_json.specs.Written.{compact_text, has_float}
use Rattle.serde_json.proofs.Views.{get_member-put_other}
use Rattle.spec_api.proofs.JsonMembers.{apart, get_member-without_other, metadata_of-with}
use Rattle.spec_api.proofs.NoFloatsRead.{has_float-is_body}
use Rattle.spec_api.proofs.VerbSteps.{replace_with, replace_changed, update_read, with_defaults}
use Rattle.spec_api.specs.declared.kinds.Kind.{Kind}
use Rattle.spec_api.specs.declared.refusals.Part.{Part}
use Rattle.spec_api.specs.declared.refusals.Part.TheVariants as part
use Rattle.spec_api.specs.declared.refusals.Mismatch.TheVariants as mismatch
use Rattle.spec_api.specs.Checks.{update_fault}
use Rattle.spec_api.specs.Defaults.{defaulted}
use Rattle.spec_api.specs.History.{History, Write, present, state, found, entries_at, up_to}
use Rattle.spec_api.specs.Keys.{Key}
use Rattle.spec_api.specs.Metadata.{metadata, metadata_of, uid, version, differs}
use Rattle.spec_api.specs.ObjectRequests.{update_object}
use Rattle.spec_api.specs.Reached.{IsParsed, IsReached}
use Rattle.spec_api.specs.Reading.{reading}
use Rattle.spec_api.specs.Refusals.{Refusal, bad_request, conflict, storage_full, too_large}
use Rattle.spec_api.specs.Replacements.{as_stored, keeping, unchanged_metadata, unchanged_members, in_place, updated, is_finalized, says_the_same}
use Rattle.spec_api.specs.SelectorValues.{items_in}
use Rattle.spec_api.specs.Values.{members_of}
use Rattle.spec_api.specs.Verbs.{Outcome, refused, shown, stored, removed, accept, write_of, object_in, names_path, replace, is_too_large, is_past_greatest, put_in_place, take_out}
use Rattle.spec_laws.specs.IdentityLaws.{Each}
use Rattle.spec_laws.proofs.Guards.{guard, guard_field, there, either}
use Rattle.spec_laws.proofs.Limited.{limited}
use Rattle.spec_laws.proofs.Parsed.{parsed_said}
use Rattle.spec_laws.proofs.ParsedObjects.{meta, placed}
use Rattle.spec_laws.proofs.ReadBack.{read_back}
use Rattle.spec_laws.proofs.SentChanges.{read_body, nests}
use Rattle.spec_laws.proofs.SentObjects.{IsHeld}
use Rattle.spec_laws.proofs.Stored.{last_held, all_stored, AreStored-up_to}
use Rattle.spec_laws.proofs.VerbLaws.{found-state, same, metadata_of-defaulted, version-defaulted}
use Rattle.spec_laws.proofs.Versions.{tells, names_one}
use Rattle.spec_laws.proofs.WholeObjects.{AreWhole, reads_whole, whole_in_place, whole_read, whole_said}
use Rattle.spec_reconcile.specs.MetadataEdits.{with_list}
use Rattle.spec_sim.specs.Managers.{answer_of}
use Rattle.spec_sim.specs.Turns.{is_accepted}
use Rattle.sim_worker_laws.proofs.Growing.{state_stands}
use Rattle.sim_rest_command_laws.proofs.ListEdits.{version_read, count_read}

-- ---- what was there

pub held : (h : History) (s : ℕ) (x : Key) (d : Data) → IsReached h → state h s x ≡ Some d → IsHeld x d
held h s x d reached at = subst (λ (o : Option Data). IfSome o (IsHeld x)) at (last_held x 2 (up_to s h) None tt (AreStored-up_to h s (all_stored h reached)))

-- ---- one text, one object

abbrev Plain : Data → Type 0
Plain d = IsParsed d × (has_float d ≡ false) × (depth d ≤ 100)

pub plain : (k : Kind) (d : Data) → reading k d ≡ Ok d → IsParsed d → Plain d
plain k d reads p = let body = read_body k d d reads in (p, has_float-is_body d body, nests d body)

pub one_text : (d e : Data) → Plain d → Plain e → compact_text d ≡ compact_text e → d ≡ e
one_text d e p q is = some (sym (read_back d p.0 p.1 (deep (depth d) p.2)) ∙ ap read is ∙ read_back e q.0 q.1 (deep (depth e) q.2))
  where
    deep : (n : ℕ) → n ≤ 100 → n ≤ 127
    deep n le = omega (arith, le)

    some : Some d ≡ Some e → d ≡ e
    some is = cc

-- an update that says the same is of the same
pub same_in_place : (k : Kind) (d body o : Data) → reading k d ≡ Ok d → IsParsed d → IsParsed body → object_in k body ≡ Ok o → says_the_same d (in_place k d o) ≡ true → d ≡ in_place k d o
same_in_place k d body o reads p q said says =
    let e = in_place k d o in
    let whole : AreWhole k (members_of e) = whole_in_place k d o (whole_read k d d reads) (whole_said k body o said) in
    one_text d e (plain k d reads p) (plain k e (reads_whole k (members_of e) whole) (placed k d o p (parsed_said k body o said q)))
    ((bytes_eq-Decides (compact_text d) (compact_text e)).0 says)

-- ---- what an update leaves to the body
held_other : (n q : List ℕ) (o : Option Data) (ms : Members) → bytes_eq n q ≡ false → get_member n (as_stored q o ms) ≡ get_member n ms
held_other n q None ms other = get_member-without_other n q ms other
held_other n q (Some e) ms other = get_member-put_other n q e ms (apart n q other)

pub kept_other : (n : List ℕ) (qs : List (List ℕ)) (existing ms : Members) → Each (λ q. bytes_eq n q ≡ false) qs → get_member n (keeping qs existing ms) ≡ get_member n ms
kept_other n [] existing ms e = refl
kept_other n (q ∷ qs) existing ms e = kept_other n qs existing (as_stored q (get_member q existing) ms) e.1 ∙ held_other n q (get_member q existing) ms e.0

pub placed_other : (n : List ℕ) (k : Kind) (existing o : Data) → Each (λ q. bytes_eq n q ≡ false) unchanged_metadata → metadata n (in_place k existing o) ≡ metadata n o
placed_other n k existing o others =
    let said = keeping unchanged_metadata (metadata_of existing) (metadata_of o) in
    ap (get_member n) (metadata_of-with said (object (keeping (unchanged_members k) (members_of existing) (members_of o)))) ∙ kept_other n unchanged_metadata (metadata_of existing) (metadata_of o) others

-- what is said before defaults
pub record Said (k : Kind) (body o : Data) : Type 0 where
  pub first : Data
  pub reads : reading k body ≡ Ok first
  pub is : o ≡ defaulted k first

said_as : (k : Kind) (body o : Data) (r : Result Data Part) → reading k body ≡ r → with_defaults k r ≡ Ok o → Said k body o
said_as k body o (Err p) is h = cc
said_as k body o (Ok e) is h = let one : o ≡ defaulted k e = cc in record { first = e; reads = is; is = one }

pub said : (k : Kind) (body o : Data) → object_in k body ≡ Ok o → Said k body o
said k body o h = said_as k body o (reading k body) refl h

-- ---- an update

module _ (h g more : History) (moment : List ℕ) (x : Key) (d body : Data) (s : ℕ) (begins : h ≡ g ++ more) (reached : IsReached h) (at : state h s x ≡ Some d) where
  abbrev pub Done : Outcome → Type 0
  Done u = is_accepted (answer_of u) ≡ true → (state g (present g) x ≡ Some d) × ((w : Write) × (write_of u ≡ Some w) × (w.key ≡ x))

  refuse : (f : Refusal) → Done (refused f)
  refuse f e = absurd (true≢false (sym e))

  -- what is there at the version that was looked at is what was looked at
  pub is_there : (existing : Data) → found x (entries_at g (present g)) ≡ Some existing → version existing ≡ version d → existing ≡ d
  is_there existing is same_version =
      let in_g : state g (present g) x ≡ Some existing = sym (found-state g x) ∙ is in
      let in_h : state h (present g) x ≡ Some existing = ap (λ (l : History). state l (present g) x) begins ∙ state_stands g more (present g) x (omega arith) ∙ in_g in
      (names_one h (present g) s x x existing d reached in_h at same_version).1

  module _ (names : (o : Data) → object_in x.kind body ≡ Ok o → version o ≡ version d) (other : (o : Data) → object_in x.kind body ≡ Ok o → says_the_same d (in_place x.kind d o) ≡ true → ⊥) where
    abbrev r : ℕ
    r = present g

    takes : (new : Data) → state g (present g) x ≡ Some d → Done (take_out x new r)
    takes new there = guard Done refuse (is_past_greatest (r + 1)) storage_full (removed x new) (λ _ e. (there, (record { key = x; put = None }, refl, refl)))

    puts : (new : Data) → state g (present g) x ≡ Some d → Done (put_in_place x new r)
    puts new there =
        guard Done refuse (is_too_large new) too_large _
        (λ _. guard Done refuse (is_past_greatest (r + 1)) storage_full (stored 200 x new) (λ _ e. (there, (record { key = x; put = Some new }, refl, refl))))

    changes : (o existing : Data) → object_in x.kind body ≡ Ok o → existing ≡ d → state g (present g) x ≡ Some d → Done (replace_changed x existing (in_place x.kind existing o) r)
    changes o existing said_is is there =
        let e = in_place x.kind existing o in
        let new = updated x.kind (r + 1) existing e in
        either Done (says_the_same existing e) (shown existing) (cond (is_finalized existing new) (take_out x new r) (put_in_place x new r))
        (λ says. absurd (other o said_is (subst (λ z. says_the_same z (in_place x.kind z o) ≡ true) is says)))
        (λ _. either Done (is_finalized existing new) (take_out x new r) (put_in_place x new r) (λ _. takes new there) (λ _. puts new there))

    named_is : (o existing : Data) → object_in x.kind body ≡ Ok o → differs (version o) (version existing) ≡ false → version existing ≡ version d
    named_is o existing said_is equal =
        let two = tells h s x d reached at in same (decimal two.0) (version existing) (ap (λ v. differs v (version existing)) (sym two.1 ∙ sym (names o said_is)) ∙ equal) ∙ sym two.1

    replaces : (o existing : Data) → object_in x.kind body ≡ Ok o → found x (entries_at g (present g)) ≡ Some existing → Done (replace x o r existing)
    replaces o existing said_is is =
        let e = in_place x.kind existing o in
        guard Done refuse (differs (uid o) (uid existing)) (conflict x mismatch.Uid) _
        (λ _. guard Done refuse (differs (version o) (version existing)) (conflict x mismatch.Modified) (replace_with x existing e r)
        (λ equal.
        let one = is_there existing is (named_is o existing said_is equal) in
        let there : state g (present g) x ≡ Some d = sym (found-state g x) ∙ is ∙ ap (λ z. Some z) one in
        guard_field Done refuse x (update_fault x.kind x.name r existing e) (replace_changed x existing e r) (λ _. changes o existing said_is one there)))

    by_read : (q : Result Data Part) → object_in x.kind body ≡ q → Done (update_read x q (entries_at g (present g)) r)
    by_read (Err p) is = refuse (bad_request p)
    by_read (Ok o) is =
        guard Done refuse (not (names_path x o)) (bad_request part.Object) _
        (λ _. there Done refuse x (replace x o r) (found x (entries_at g (present g))) (λ existing at_g. replaces o existing is at_g))

    pub update_done : Done (accept (update_object x body) g moment)
    update_done = by_read (object_in x.kind body) refl

-- ---- an update with a shorter list in the metadata

pub not_zero : (n : ℕ) → 0 < n → (n == 0) ≡ false
not_zero n e = grind (arith, nat_tests)

-- the lists that a body says
pub record IsList (q : List ℕ) : Type 0 where
  pub others : Each (λ n. bytes_eq q n ≡ false) unchanged_metadata
  pub version : bytes_eq (codes "resourceVersion") q ≡ false

pub references_are : IsList (codes "ownerReferences")
references_are = record { others = (refl, (refl, (refl, (refl, (refl, (refl, tt)))))); version = refl }

pub finalizers_are : IsList (codes "finalizers")
finalizers_are = record { others = (refl, (refl, (refl, (refl, (refl, (refl, tt)))))); version = refl }

module _ (h g more : History) (moment : List ℕ) (x : Key) (d : Data) (s : ℕ) (begins : h ≡ g ++ more) (reached : IsReached h) (at : state h s x ≡ Some d)
    (q : List ℕ) (list : IsList q) (items : Items) (parsed : IsParsed (with_list q items d)) where
  abbrev edited : Data
  edited = with_list q items d

  pub list_names : (o : Data) → object_in x.kind edited ≡ Ok o → version o ≡ version d
  list_names o is =
      let z = said x.kind edited o is in
      let two = tells h s x d reached at in
      let n = two.0 in
      let small : n < 2 ^ 64 = let few : present h ≤ 9007199254740991 = (limited h reached).1 in let low : n ≤ present h = two.3.1 in omega (arith, few, low) in
      ap version z.is ∙ version-defaulted x.kind z.first
      ∙ version_read x.kind q items d z.first z.reads (decimal n) list.version (not_zero (length (decimal n)) (decimal_nonempty n small)) two.1 ∙ sym two.1

  fewer_other : items_len items < items_len (items_in (metadata q d)) → (o : Data) → object_in x.kind edited ≡ Ok o → says_the_same d (in_place x.kind d o) ≡ true → ⊥
  fewer_other less o is says =
      let held_d = held h s x d reached at in
      let z = said x.kind edited o is in
      let one : d ≡ in_place x.kind d o = same_in_place x.kind d edited o held_d.1.kept.reads held_d.1.parsed parsed is says in
      let same_list : metadata q d ≡ metadata q z.first =
      ap (metadata q) one ∙ placed_other q x.kind d o list.others ∙ ap (metadata q) z.is ∙ ap (get_member q) (metadata_of-defaulted x.kind z.first) in
      by (metadata q d) less
      (subst (λ (v : Option Data). IfSome v (λ v. items_len (items_in (Some v)) ≡ items_len items)) (sym same_list) (count_read x.kind q items d z.first z.reads (meta d held_d.1.parsed).0))
    where
      by : (v : Option Data) → items_len items < items_len (items_in v) → IfSome v (λ v. items_len (items_in (Some v)) ≡ items_len items) → ⊥
      by None less is = omega (arith, less)
      by (Some v) less is = omega (arith, less, is)

  pub fewer_done : items_len items < items_len (items_in (metadata q d)) → Done h g more moment x d edited s begins reached at (accept (update_object x edited) g moment)
  fewer_done less = update_done h g more moment x d edited s begins reached at list_names (fewer_other less)
