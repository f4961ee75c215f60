-- The number of pods and the revision that an update of a ReplicaSet puts in its place.
use Rattle.std.proofs.Common.{◌≡◌, ◌<◌, ◌^◌, ◌+◌, ◌%◌, ◌==◌, ◌&&◌, ◌++◌, ℕ, List, [], ◌∷◌, length, Bool, true, false, cond, not, codes, decimal, nat_lt, nat_le, is_some, Option, Some, option_and_then, Ok, refl, sym, ap, ◌∙◌, arith}
use mathlib.Core.Bool.{true≢false}
use Rattle.std.specs.List.{list_all}
use Rattle.std.specs.Str.Parse.{digits_value}
use Rattle.std.proofs.lemmas.Bool.{lt-ltb, le-leb, ltb-true, eq-eqb}
use Rattle.std.proofs.lemmas.Fmt.{decimal_is_IsNumeral, decimal_nonempty, decimal_by_steps, length-decimal-le}
use Rattle.serde_json.specs.Data.{Data, string, object, Members, put}
use Rattle.serde_json.specs.Find.{get, get_member, as_str}
use Rattle.serde_json.proofs.Views.{get_member-put, get_member-put_other}
use Rattle.spec_api.proofs.FirstStatus.{get-members_of}
use Rattle.spec_api.proofs.JsonMembers.{apart, metadata_of-with}
use Rattle.spec_api.specs.declared.kinds.Kind.TheVariants.{ReplicaSet}
use Rattle.spec_api.specs.Defaults.{defaulted, unsigned_value}
use Rattle.spec_api.specs.Metadata.{metadata, metadata_of, version}
use Rattle.spec_api.specs.Moments.{is_digit}
use Rattle.spec_api.specs.Reading.{reading}
use Rattle.spec_api.specs.Replacements.{keeping, in_place, unchanged_metadata, unchanged_members}
use Rattle.spec_api.specs.SelectorValues.{text_in}
use Rattle.spec_api.specs.Values.{members_of, inner_of}
use Rattle.spec_api.specs.Verbs.{object_in}
use Rattle.spec_laws.proofs.VerbLaws.{metadata_of-defaulted}
use Rattle.spec_laws.proofs.WholeObjects.{AreWhole}
use Rattle.spec_reconcile.specs.Counts.{count, replicas}
use Rattle.spec_reconcile.specs.Deployments.{with_replicas}
use Rattle.spec_reconcile.specs.Revisions.{revision_annotation, revision_said, revision, annotated, with_revision, raised}
use Rattle.reconcile_locality_laws.proofs.PlainTexts.{counted}
use Rattle.sim_rest_command_laws.proofs.Updates.{said, kept_other, placed_other}
use Rattle.sim_rest_deployment_laws.proofs.EditedSets.{Raised, is_raised, spec, spec_defaulted, spec_read, metadata_read}

-- ---- a revision is read as it was put

digit : (n : ℕ) → n < 10 → is_digit (48 + n) ≡ true
digit n h = let a : nat_le 48 (48 + n) ≡ true = grind arith in let b : nat_le (48 + n) 57 ≡ true = grind arith in rw (a, b) refl

both : (a b c : Bool) → (a && b) ≡ true → (b ≡ true → c ≡ true) → (a && c) ≡ true
both true b c h f = f h
both false b c h f = h

pushed : (ds : List ℕ) (x : ℕ) → list_all is_digit ds ≡ true → is_digit x ≡ true → list_all is_digit (ds ++ x ∷ []) ≡ true
pushed [] x h d = rw d refl
pushed (y ∷ ds) x h d = both (is_digit y) (list_all is_digit ds) (list_all is_digit (ds ++ x ∷ [])) h (λ k. pushed ds x k d)

all_digits : (n : ℕ) → n < 2 ^ 64 → list_all is_digit (decimal n) ≡ true
all_digits = decimal_by_steps (λ n ds. list_all is_digit ds ≡ true) (λ n h. pushed [] (48 + n) refl (digit n h)) (λ n ds h k. pushed ds (48 + n % 10) k (digit (n % 10) (omega arith)))

said_again : (n : ℕ) → n < 10 ^ 18 → revision_said (decimal n) ≡ n
said_again n low =
    let small : n < 2 ^ 64 = omega (arith, low) in
    let some : nat_lt 0 (length (decimal n)) ≡ true = lt-ltb 0 (length (decimal n)) (decimal_nonempty n small) in
    let short : nat_le (length (decimal n)) 18 ≡ true = le-leb (length (decimal n)) 18 (length-decimal-le 18 n (omega arith) low small) in
    ap (λ b. cond b (digits_value 10 (decimal n)) 0) (three (nat_lt 0 (length (decimal n))) (nat_le (length (decimal n)) 18) (list_all is_digit (decimal n)) some short (all_digits n small)) ∙ (decimal_is_IsNumeral n small).1
  where
    three : (a b c : Bool) → a ≡ true → b ≡ true → c ≡ true → (a && b && c) ≡ true
    three a b c p q r = rw (p, q, r) refl

-- a set with a revision has it
pub revision_put : (due : ℕ) (d : Data) → due < 10 ^ 18 → revision (with_revision due d) ≡ due
revision_put due d low =
    let annotations = inner_of (metadata (codes "annotations") d) in
    let notes = annotated due annotations in
    let meta = put (codes "annotations") (object notes) (metadata_of d) in
    let at : metadata (codes "annotations") (with_revision due d) ≡ Some (object notes) = ap (get_member (codes "annotations")) (metadata_of-with meta d) ∙ get_member-put (codes "annotations") (object notes) (metadata_of d) in
    ap (λ (o : Option Data). revision_said (text_in (option_and_then (get revision_annotation) o))) at
    ∙ ap (λ (o : Option Data). revision_said (text_in o)) (get_member-put revision_annotation (string (decimal due)) annotations) ∙ said_again due low

-- ---- an update of a set puts what it says

module _ (d : Data) (n due : ℕ) (whole : AreWhole ReplicaSet (members_of d)) (there : is_some (get (codes "metadata") d) ≡ true) (o : Data) (is : object_in ReplicaSet (with_replicas n (raised due d)) ≡ Ok o) where
  abbrev e : Data
  e = raised due d

  abbrev first : Data
  first = (said ReplicaSet (with_replicas n e) o is).first

  read : reading ReplicaSet (with_replicas n e) ≡ Ok first
  read = (said ReplicaSet (with_replicas n e) o is).reads

  whole_is : o ≡ defaulted ReplicaSet first
  whole_is = (said ReplicaSet (with_replicas n e) o is).is

  raised_is : Raised d whole there e
  raised_is = is_raised d whole there due

  abbrev put_spec : Members
  put_spec = spec d e n whole there raised_is

  metadata_is : metadata_of o ≡ metadata_of e
  metadata_is = ap metadata_of whole_is ∙ metadata_of-defaulted ReplicaSet first ∙ metadata_read d e n whole there raised_is first read

  pub names_version : version o ≡ version d
  names_version = ap (λ (ms : Members). option_and_then as_str (get_member (codes "resourceVersion") ms)) metadata_is ∙ raised_is.version

  spec_is : get (codes "spec") (in_place ReplicaSet d o) ≡ Some (object put_spec)
  spec_is =
      let kept = keeping (unchanged_members ReplicaSet) (members_of d) (members_of o) in
      let placed : get (codes "spec") (in_place ReplicaSet d o) ≡ get (codes "spec") o =
      get_member-put_other (codes "spec") (codes "metadata") (object (keeping unchanged_metadata (metadata_of d) (metadata_of o))) kept (apart (codes "spec") (codes "metadata") refl)
      ∙ kept_other (codes "spec") (unchanged_members ReplicaSet) (members_of d) (members_of o) (refl, tt) ∙ sym (get-members_of (codes "spec") o) in
      placed ∙ ap (get (codes "spec")) whole_is
      ∙ spec_defaulted first put_spec (spec_read d e n whole there raised_is first read) (ap is_some (get_member-put (codes "replicas") (unsigned_value n) (inner_of (get (codes "spec") e))))

  pub replicas_placed : n < 2 ^ 63 → replicas (in_place ReplicaSet d o) ≡ n
  replicas_placed low =
      ap (λ (s : Option Data). count (option_and_then (get (codes "replicas")) s)) spec_is
      ∙ ap count (get_member-put (codes "replicas") (unsigned_value n) (inner_of (get (codes "spec") e))) ∙ counted n low

  pub revision_placed : due < 10 ^ 18 → nat_lt (revision d) due ≡ true → revision (in_place ReplicaSet d o) ≡ due
  revision_placed low below =
      let annotations = codes "annotations" in
      let placed : metadata annotations (in_place ReplicaSet d o) ≡ metadata annotations e =
      placed_other annotations ReplicaSet d o (refl, (refl, (refl, (refl, (refl, (refl, tt)))))) ∙ ap (get_member annotations) metadata_is in
      ap (λ (v : Option Data). revision_said (text_in (option_and_then (get revision_annotation) v))) placed
      ∙ ap (λ (b : Bool). revision (cond b (with_revision due d) d)) below ∙ revision_put due d low

  -- so it does not put what was there
  pub puts_another : n < 2 ^ 63 → due < 10 ^ 18 → ((replicas d == n) && not (nat_lt (revision d) due)) ≡ false → d ≡ in_place ReplicaSet d o → ⊥
  puts_another low few another same = by (replicas d == n) refl (nat_lt (revision d) due) refl another
    where
      by : (a : Bool) → (replicas d == n) ≡ a → (b : Bool) → nat_lt (revision d) due ≡ b → (a && not b) ≡ false → ⊥
      by false is b below other = true≢false (sym (eq-eqb (replicas d) n (ap replicas same ∙ replicas_placed low)) ∙ is)
      by true is true below other =
          let less = ltb-true (revision d) due below in
          let equal : revision d ≡ due = ap revision same ∙ revision_placed few below in
          omega (arith, less, equal)
      by true is false below other = true≢false other
