-- Objects as they are stored: what is true of each.
use Rattle.std.proofs.Common.{◌≡◌, ◌≤◌, ◌<◌, ◌+◌, ◌||◌, ℕ, List, [], ◌∷◌, length, Bool, true, false, cond, codes, decimal, is_some, option_map, unwrap_or, Option, Some, None, refl, sym, ap, ap₂, ◌∙◌, arith}
use Rattle.std.proofs.lemmas.Bool.{ne_eqb}
use Rattle.std.proofs.lemmas.Fmt.{decimal_nonempty}
use Rattle.std.specs.List.{list_all}
use Rattle.serde_json.specs.Data.{Data, string, object, Members, put}
use Rattle.serde_json.specs.Written.{compact_text}
use Rattle.spec_api.proofs.Truths.{both_true}
use Rattle.spec_api.specs.declared.kinds.Kind.{Kind}
use Rattle.spec_api.specs.declared.refusals.Field.{Field}
use Rattle.spec_api.specs.declared.refusals.Field.TheVariants as field
use Rattle.spec_api.specs.declared.refusals.Mismatch.TheVariants as mismatch
use Rattle.spec_api.specs.declared.schemas.Schema.TheVariants.{Metadata}
use Rattle.spec_api.specs.Checks.{create_fault, generate_name, generates, is_generating_byte, is_name_valid, is_generate_name_valid, passes_if_there}
use Rattle.spec_api.specs.Defaults.{unsigned_value}
use Rattle.spec_api.specs.GeneratedNames.{name_from}
use Rattle.spec_api.specs.Kinds.{has_generation}
use Rattle.spec_api.specs.Keys.{Key, is_subdomain}
use Rattle.spec_api.specs.History as history
use Rattle.spec_laws.specs.HistoryLaws.{OfStored}
use Rattle.spec_api.specs.Metadata.{differs, metadata_of, with_metadata, name, uid, version, at_revision}
use Rattle.spec_api.specs.NewObjects.{new_metadata, with_first_status}
use Rattle.spec_api.specs.Refusals.{Refusal, conflict, too_large, storage_full}
use Rattle.spec_laws.specs.SentLaws.{IsKept}
use Rattle.spec_api.specs.Uids.{uid_text, cluster_word}
use Rattle.spec_api.specs.Values.{members_of, without}
use Rattle.spec_api.specs.Verbs.{Outcome, refused, refuse_field, stored, new_name, is_free, put_in_place, if_same, is_too_large, is_past_greatest}
use Rattle.spec_laws.proofs.Guards.{guard, guard_field}
use Rattle.spec_laws.proofs.SetMetadata.{at_most, version-at_revision, text-at_revision}
use Rattle.spec_api.proofs.JsonMembers.{text_in, metadata_of-with}
use Rattle.spec_laws.proofs.DeletionTimestamps.{HasRoom, room_written}
use Rattle.spec_laws.proofs.NeatMembers.{Neat, Neat-put, Neat-without, IsFilled, One, one_text}
use Rattle.spec_api.specs.Reached.{IsParsed}
use Rattle.spec_laws.proofs.Parsed.{Both}
use Rattle.spec_laws.proofs.ParsedObjects.{at}
use Rattle.spec_laws.proofs.TextLengths.{put_twice}
use Rattle.spec_api.proofs.FirstStatus.{metadata_of-first}
use Rattle.spec_laws.proofs.WholeObjects.{AreWhole, reads_whole, whole_at, whole_read}

-- an object as it is stored, and what the next write of it goes by
pub record IsStored (k : Key) (r : ℕ) (d : Data) : Type 0 where
  pub kept : IsKept k r d
  pub low : r ≤ 9007199254740991
  pub stands : at_revision r (metadata_of d) d ≡ d
  pub fits : length (compact_text d) ≤ 1574400
  pub room : HasRoom d
  pub parsed : IsParsed d

-- an object under this name
abbrev pub IsHeld : Key → Data → Type 0
IsHeld k d = (s : ℕ) × IsStored k s d

-- ---- at a revision

pub filled_long : (t : List ℕ) → 0 < length t → IsFilled t
filled_long t h = ne_eqb (length t) 0 (λ e. absurd (omega arith))

pub filled_decimal : (r : ℕ) → r ≤ 9007199254740991 → IsFilled (decimal r)
filled_decimal r h = filled_long (decimal r) (decimal_nonempty r (omega arith))

stands_at : (r : ℕ) (meta : Members) (o : Data) → at_revision r (metadata_of (at_revision r meta o)) (at_revision r meta o) ≡ at_revision r meta o
stands_at r meta o =
    let set = put (codes "resourceVersion") (string (decimal r)) meta in
    ap (λ m. at_revision r m (at_revision r meta o)) (metadata_of-with set o)
    ∙ ap (λ m. with_metadata m (at_revision r meta o)) (put_twice (codes "resourceVersion") (string (decimal r)) (string (decimal r)) meta)
    ∙ ap object (put_twice (codes "metadata") (object set) (object set) (members_of o))

-- metadata that says an object's name, its namespace and a uid
pub record Says (k : Key) (meta : Members) : Type 0 where
  pub name : text_in (codes "name") meta ≡ Some k.name
  pub namespace : text_in (codes "namespace") meta ≡ Some k.namespace
  pub uid : is_some (text_in (codes "uid") meta) ≡ true

-- whole members with such metadata, at a revision, are stored as they should be, where they have room
pub stored_in : (k : Key) (r : ℕ) (meta : Members) (d : Data) → AreWhole k.kind (members_of d) → Neat 98 Metadata meta → IsParsed d → Both meta → Says k meta → r ≤ 9007199254740991
    → length (compact_text (at_revision r meta d)) ≤ 1574400 → HasRoom (at_revision r meta d) → IsStored k r (at_revision r meta d)
stored_in k r meta d w m p a says low fits room =
    let new = at_revision r meta d in
    let made : AreWhole k.kind (members_of new) = whole_at k.kind r meta d (filled_decimal r low) m w in
    record {
      kept = record {
        reads = reads_whole k.kind (members_of new) made;
        name = text-at_revision (codes "name") r meta d refl ∙ says.name;
        namespace = text-at_revision (codes "namespace") r meta d refl ∙ says.namespace;
        uid = ap is_some (text-at_revision (codes "uid") r meta d refl) ∙ says.uid;
        version = version-at_revision r meta d;
      };
      low = low;
      stands = stands_at r meta d;
      fits = fits;
      room = room;
      parsed = at r meta d (omega (arith, low)) a p;
    }

pub stored_at : (k : Key) (r : ℕ) (meta : Members) (d : Data) → AreWhole k.kind (members_of d) → Neat 98 Metadata meta → IsParsed d → Both meta → Says k meta → r ≤ 9007199254740991
    → is_too_large (at_revision r meta d) ≡ false → IsStored k r (at_revision r meta d)
stored_at k r meta d w m p a says low fits =
    let short : length (compact_text (at_revision r meta d)) ≤ 1572864 = at_most 1572864 (length (compact_text (at_revision r meta d))) fits in
    stored_in k r meta d w m p a says low (omega arith) (room_written r meta d a.0 short)

pub whole_stored : (k : Key) (s : ℕ) (existing : Data) → IsStored k s existing → AreWhole k.kind (members_of existing)
whole_stored k s existing was = whole_read k.kind existing existing was.kept.reads

-- ---- the metadata of a new object

filled_name : (t : List ℕ) → is_subdomain t ≡ true → IsFilled t
filled_name [] h = cc
filled_name (b ∷ bs) h = filled_long (b ∷ bs) (omega arith)

-- what is named is valid where the name that is given is, and where none is the one that is made
valid_name : (test : List ℕ → Bool) (o g : Option (List ℕ)) (r : ℕ) (d : Data) → generate_name d ≡ g → unwrap_or (option_map is_subdomain o) (is_some (generate_name d)) ≡ true → (is_some o || passes_if_there (generates (name_from test o g r)) g) ≡ true
    → is_subdomain (name_from test o g r) ≡ true
valid_name test (Some n) g r d is named made = named
valid_name test None (Some given) r d is named made = (both_true (list_all is_generating_byte given) (is_subdomain (name_from test None (Some given) r)) made).1
valid_name test None None r d is named made = let no : false ≡ true = sym (ap is_some is) ∙ named in cc

met : (b : Bool) (f : Field) (rest : Option Field) → cond b rest (Some f) ≡ None → (b ≡ true) × (rest ≡ None)
met true f rest h = (refl, h)
met false f rest h = cc

pub created_valid : (kind : Kind) (ns : List ℕ) (o : Data) (ms : history.Entries) (r now : ℕ) → create_fault kind (new_name kind ns o ms r).name now (with_first_status kind o) ≡ None → is_subdomain (new_name kind ns o ms r).name ≡ true
created_valid kind ns o ms r now none =
    let made = (new_name kind ns o ms r).name in
    let d = with_first_status kind o in
    let first = met (is_name_valid d) field.Name _ none in
    let second = met (is_generate_name_valid made d) field.GenerateName _ first.1 in
    let named : name o ≡ name d = ap (text_in (codes "name")) (sym (metadata_of-first kind o)) in
    let given : generate_name o ≡ generate_name d = ap (text_in (codes "generateName")) (sym (metadata_of-first kind o)) in
    valid_name (is_free kind ns ms) (name o) (generate_name o) (r + 1) d (sym given) (ap (λ n. unwrap_or (option_map is_subdomain n) (is_some (generate_name d))) named ∙ first.0)
    (ap₂ (λ n g. is_some n || passes_if_there (generates made) g) named given ∙ second.0)

pub filled_new : (kind : Kind) (ns : List ℕ) (o : Data) (ms : history.Entries) (r now : ℕ) → create_fault kind (new_name kind ns o ms r).name now (with_first_status kind o) ≡ None → IsFilled (new_name kind ns o ms r).name
filled_new kind ns o ms r now none = filled_name (new_name kind ns o ms r).name (created_valid kind ns o ms r now none)

one_name : (t : List ℕ) → IsFilled t → One 98 Metadata (codes "name") (string t)
one_name t h = (refl, h, tt, omega arith, refl)

one_generation : (n : ℕ) → One 98 Metadata (codes "generation") (unsigned_value n)
one_generation n = (refl, refl, tt, omega arith, refl)

pub neat_generation : (b : Bool) (n : ℕ) (meta : Members) → Neat 98 Metadata meta → Neat 98 Metadata (cond b (put (codes "generation") (unsigned_value n) meta) meta)
neat_generation true n meta m = Neat-put 98 Metadata (codes "generation") (unsigned_value n) meta (one_generation n) m
neat_generation false n meta m = m

filled_uid : (r : ℕ) → IsFilled (uid_text cluster_word r)
filled_uid r = refl

pub neat_new : (k : Kind) (r : ℕ) (ns named moment : List ℕ) (meta : Members) → IsFilled ns → IsFilled named → IsFilled moment → Neat 98 Metadata meta
    → Neat 98 Metadata (new_metadata k r ns named moment meta)
neat_new k r ns named moment meta space full now m =
    Neat-put 98 Metadata (codes "uid") (string (uid_text cluster_word r)) _ (one_text (uid_text cluster_word r) (filled_uid r)).2
    (Neat-put 98 Metadata (codes "creationTimestamp") (string moment) _ (one_text moment now).1
    (Neat-put 98 Metadata (codes "namespace") (string ns) _ (one_text ns space).0
    (Neat-put 98 Metadata (codes "name") (string named) _ (one_name named full)
    (neat_generation (has_generation k) 1 (without (codes "deletionTimestamp") meta) (Neat-without 98 Metadata (codes "deletionTimestamp") meta m)))))

-- ---- what is true of every outcome

abbrev pub Stores : ℕ → Outcome → Type 0
Stores r o = OfStored o (λ k d. IsStored k r d)

pub low_after : (r : ℕ) → is_past_greatest r ≡ false → r ≤ 9007199254740991
low_after r h = at_most 9007199254740991 r h

module _ (r : ℕ) where
  pub behind : (b : Bool) (f : Refusal) (o : Outcome) → (b ≡ false → Stores r o) → Stores r (cond b (refused f) o)
  behind b f o next = guard (Stores r) (λ f. tt) b f o next

  pub behind_field : (k : Key) (f : Option Field) (o : Outcome) → (f ≡ None → Stores r o) → Stores r (refuse_field k f o)
  behind_field k f o next = guard_field (Stores r) (λ f. tt) k f o next

  pub by_if_same : (k : Key) (o existing : Data) (next : Outcome) → Stores r next → Stores r (if_same k o existing next)
  by_if_same k o existing next each =
      behind (differs (uid o) (uid existing)) (conflict k mismatch.Uid) _ (λ _. behind (differs (version o) (version existing)) (conflict k mismatch.Modified) next (λ _. each))

pub by_put : (k : Key) (d : Data) (r : ℕ) → (is_too_large d ≡ false → r + 1 ≤ 9007199254740991 → IsStored k (r + 1) d) → Stores (r + 1) (put_in_place k d r)
by_put k d r each =
    behind (r + 1) (is_too_large d) too_large _
    (λ fits. behind (r + 1) (is_past_greatest (r + 1)) storage_full (stored 200 k d) (λ room. each fits (low_after (r + 1) room)))
