-- What the changes of a watch show, in all that is reached.
use Rattle.std.proofs.Common.{◌≡◌, ◌≤◌, ◌+◌, ◌-◌, ◌==◌, ◌&&◌, ℕ, List, [], ◌∷◌, ◌++◌, length, drop, Bool, true, false, cond, not, nat_le, codes, decimal, is_some, bytes_eq, option_and_then, IsSome, IfSome, unwrap_or, Option, Some, None, Ok, refl, sym, ap, ◌∙◌, subst, arith, length-append}
use Rattle.std.proofs.lemmas.Bool.{leb-true}
use Rattle.std.proofs.lemmas.List.{length-take}
use Rattle.std.specs.List.{AllByRecursion}
use Rattle.serde_json.specs.Data.{Data, null, boolean, number, string, array, object, put, depth}
use Rattle.serde_json.specs.Find.{as_object}
use Rattle.serde_json.specs.Written.{compact_text, has_float}
use Rattle.spec_api.proofs.Truths.{both_true}
use Rattle.spec_api.specs.declared.kinds.Kind.{Kind}
use Rattle.spec_api.specs.declared.schemas.Shape.TheVariants.{Object}
use Rattle.spec_api.specs.declared.schemas.Schema.TheVariants.{Root}
use Rattle.spec_api.specs.Kinds.{rank}
use Rattle.spec_api.specs.Events.{Event, event_of, events_after, gone_at}
use Rattle.spec_api.specs.History.{Write, writes, present, up_to, last_of, in_view, seen}
use Rattle.spec_api.specs.Metadata.{at_revision, metadata_of, metadata_text, name, namespace, uid}
use Rattle.spec_api.specs.Keys.{Key}
use Rattle.spec_api.specs.Reading.{reading, is_body, fits, tidied, filled}
use Rattle.spec_client_go.specs.Reflectors.{shown, shown_read, has_identity, revision, name_in}
use Rattle.spec_api.specs.Revisions.{revision_of}
use Rattle.spec_laws.specs.SentLaws.{IsKept, IsTold, IsShort, ChangesAreTold, whole}
use Rattle.spec_api.specs.Values.{members_of}
use Rattle.spec_laws.proofs.SetMetadata.{version-at_revision}
use Rattle.spec_api.proofs.KindOrder.{rank_tells}
use Rattle.spec_api.proofs.JsonMembers.{text_in-put_other, metadata_text-with}
use Rattle.spec_laws.proofs.Limited.{limited}
use Rattle.spec_laws.proofs.AppliedEvents.{up_to-split}
use Rattle.spec_laws.proofs.ReadAgain.{opened}
use Rattle.spec_api.proofs.RevisionTexts.{revision_is}
use Rattle.spec_laws.proofs.SentObjects.{IsStored, IsHeld, filled_decimal, whole_stored}
use Rattle.spec_laws.proofs.Stored.{AreStored, AreStored-split, AreStored-up_to, last_held, all_stored}
use Rattle.spec_laws.proofs.TextLengths.{fits_at}
use Rattle.spec_laws.proofs.WholeObjects.{neat_metadata, reads_whole, whole_at}

-- ---- an object that is gone

gone_text : (q : List ℕ) (r : ℕ) (d : Data) → bytes_eq q (codes "resourceVersion") ≡ false → metadata_text q (gone_at r d) ≡ metadata_text q d
gone_text q r d other =
    metadata_text-with q (put (codes "resourceVersion") (string (decimal r)) (metadata_of d)) d ∙ text_in-put_other q (codes "resourceVersion") (string (decimal r)) (metadata_of d) other

gone_kept : (k : Key) (s r : ℕ) (d : Data) → IsStored k s d → r ≤ 9007199254740991 → IsKept k r (gone_at r d)
gone_kept k s r d was low =
    let w = whole_stored k s d was in
    record {
      reads = reads_whole k.kind (members_of (gone_at r d)) (whole_at k.kind r (metadata_of d) d (filled_decimal r low) (neat_metadata k.kind d w) w);
      name = gone_text (codes "name") r d refl ∙ was.kept.name;
      namespace = gone_text (codes "namespace") r d refl ∙ was.kept.namespace;
      uid = ap is_some (gone_text (codes "uid") r d refl) ∙ was.kept.uid;
      version = version-at_revision r (metadata_of d) d;
    }

gone_fits : (k : Key) (s r : ℕ) (d : Data) → IsStored k s d → r ≤ 9007199254740991 → length (compact_text (gone_at r d)) ≤ 1574912
gone_fits k s r d was low =
    let at : length (compact_text (at_revision s (metadata_of d) d)) ≤ 1574400 = subst (λ x. length (compact_text x) ≤ 1574400) (sym was.stands) was.fits in
    omega (arith, fits_at 1574400 r s (metadata_of d) d at low)

-- ---- what is shown

identified : (a b c : Option (List ℕ)) → is_some a ≡ true → is_some b ≡ true → is_some c ≡ true → (is_some a && is_some b && is_some c) ≡ true
identified a b c p q r = rw (p, q, r) refl

shown_ok : (k : Kind) (d : Data) (r : ℕ) → has_identity d ≡ true → revision d ≡ Some r → shown_read k (Ok d) ≡ Some (record { object = record { kind = k; value = d }; revision = r })
shown_ok k d r h is = rw (h, is) refl

pub shown_is : (k : Kind) (n : Key) (r : ℕ) (d : Data) → k ≡ n.kind → IsKept n r d → r ≤ 9007199254740991 → shown k d ≡ Some (record { object = record { kind = k; value = d }; revision = r })
shown_is k n r d same kept low =
    let read : reading k d ≡ Ok d = ap (λ x. reading x d) same ∙ kept.reads in
    ap (shown_read k) read
    ∙ shown_ok k d r (identified (name d) (namespace d) (uid d) (ap is_some kept.name) (ap is_some kept.namespace) kept.uid) (ap (option_and_then revision_of) kept.version ∙ revision_is r (omega arith))

pub name_is : (k : Kind) (n : Key) (r : ℕ) (d : Data) → k ≡ n.kind → IsKept n r d → name_in (record { kind = k; value = d }) ≡ n
name_is k n r d same kept =
    let space : unwrap_or (namespace d) [] ≡ n.namespace = ap (λ o. unwrap_or o []) kept.namespace in
    let called : unwrap_or (name d) [] ≡ n.name = ap (λ o. unwrap_or o []) kept.name in
    λ i. record { kind = same i; namespace = space i; name = called i }

is_object : (d : Data) → is_body d ≡ true → IsSome (as_object d)
is_object (object ms) h = refl
is_object null h = cc
is_object (boolean b) h = cc
is_object (number n) h = cc
is_object (string s) h = cc
is_object (array ds) h = cc

pub read_body : (k : Kind) (d e : Data) → reading k d ≡ Ok e → is_body d ≡ true
read_body k d e h = (opened (is_body d) (fits (Object (Root k)) d) (filled k (tidied (Object (Root k)) d)) e h).0

pub nests : (d : Data) → is_body d ≡ true → depth d ≤ 100
nests d h = leb-true (depth d) 100 (both_true (is_some (as_object d) && not (has_float d)) (nat_le (depth d) 100) h).1

abbrev Tells : Kind → Event → Type 0
Tells k c = IsTold k c × IsShort c

tells : (k : Kind) (c : Event) → k ≡ c.key.kind → IsKept c.key c.revision c.object → c.revision ≤ 9007199254740991 → length (compact_text c.object) ≤ 1574912 → Tells k c
tells k c same kept low fits =
    let body = read_body c.key.kind c.object c.object kept.reads in (
      record { shows = shown_is k c.key c.revision c.object same kept low; names = name_is k c.key c.revision c.object same kept },
      record { is_object = is_object c.object body; nests = nests c.object body; fits = fits },
    )

-- ---- the change of a write

pub same_kind : (a b : Kind) → ((rank a == rank b) && true && true && true) ≡ true → a ≡ b
same_kind a b h = rank_tells a b (same_rank (rank a) (rank b) h)
  where
    same_rank : (m n : ℕ) → ((m == n) && true && true && true) ≡ true → m ≡ n
    same_rank m n h = grind arith

seen_cond : (k : Kind) (n : Key) (P : Data → Type 0) (d : Data) (b : Bool) → in_view (whole k) n d ≡ b → P d → IfSome (cond b (Some d) None) (λ x. (k ≡ n.kind) × P x)
seen_cond k n P d true is p = (same_kind k n.kind is, p)
seen_cond k n P d false is p = tt

seen_of : (k : Kind) (n : Key) (P : Data → Type 0) (o : Option Data) → IfSome o P → IfSome (seen (whole k) n o) (λ x. (k ≡ n.kind) × P x)
seen_of k n P None p = tt
seen_of k n P (Some d) p = seen_cond k n P d (in_view (whole k) n d) refl p

all_told : (k : Kind) (r : ℕ) (n : Key) (old new : Option Data) (more : List Event) → r ≤ 9007199254740991 → IfSome old (λ x. (k ≡ n.kind) × IsHeld n x) → IfSome new (λ x. (k ≡ n.kind) × IsStored n r x)
    → AllByRecursion (Tells k) more → AllByRecursion (Tells k) (event_of r n old new ++ more)
all_told k r n None None more low was is later = later
all_told k r n None (Some d) more low was is later = (tells k _ is.0 is.1.kept low (let f : length (compact_text d) ≤ 1574400 = is.1.fits in omega arith), later)
all_told k r n (Some e) (Some d) more low was is later = (tells k _ is.0 is.1.kept low (let f : length (compact_text d) ≤ 1574400 = is.1.fits in omega arith), later)
all_told k r n (Some e) None more low was is later = (tells k _ was.0 (gone_kept n was.1.0 r e was.1.1 low) low (gone_fits n was.1.0 r e was.1.1 low), later)

stored_joined : (r : ℕ) (us ws : List Write) → AreStored r us → AreStored (r + length us) ws → AreStored r (us ++ ws)
stored_joined r [] ws a b = subst (λ n. AreStored n ws) (omega arith) b
stored_joined r (u ∷ us) ws a b = (a.0, stored_joined (r + 1) us ws a.1 (subst (λ n. AreStored n ws) (omega arith) b))

after_told : (k : Kind) (before ws : List Write) → AreStored 2 before → AreStored (length before + 2) ws → length before + length ws + 1 ≤ 9007199254740991
    → AllByRecursion (Tells k) (events_after (whole k) before ws)
after_told k before [] a b low = tt
after_told k before (w ∷ ws) a b low =
    let r = length before + 2 in
    let long : length (before ++ w ∷ []) ≡ length before + 1 = length-append before (w ∷ []) in
    let place : 2 + length before ≡ length before + 2 = omega arith in
    let further : length before + 2 + 1 ≡ length (before ++ w ∷ []) + 2 = omega (arith, long) in
    let here : AreStored (2 + length before) (w ∷ []) = subst (λ n. AreStored n (w ∷ [])) (sym place) (b.0, tt) in
    all_told k r w.key (seen (whole k) w.key (last_of None w.key before)) (seen (whole k) w.key w.put) (events_after (whole k) (before ++ w ∷ []) ws) (omega (arith, low))
    (seen_of k w.key (IsHeld w.key) (last_of None w.key before) (last_held w.key 2 before None tt a)) (seen_of k w.key (IsStored w.key r) w.put b.0)
    (after_told k (before ++ w ∷ []) ws (stored_joined 2 before (w ∷ []) a here) (subst (λ n. AreStored n ws) further b.1) (omega (arith, long, low)))

both : (k : Kind) (cs : List Event) → AllByRecursion (Tells k) cs → AllByRecursion (IsTold k) cs × AllByRecursion IsShort cs
both k [] a = (tt, tt)
both k (c ∷ cs) a = let more = both k cs a.1 in ((a.0.0, more.0), (a.0.1, more.1))

pub changes_told : ChangesAreTold
changes_told h k a b reached le =
    let ws = drop (a - 1) (up_to b h) in
    let few : present h ≤ 9007199254740991 = (limited h reached).1 in
    let split : up_to a h ++ ws ≡ up_to b h = up_to-split h a b le in
    let parts = AreStored-split 2 (up_to a h) ws (subst (AreStored 2) (sym split) (AreStored-up_to h b (all_stored h reached))) in
    let place : 2 + length (up_to a h) ≡ length (up_to a h) + 2 = omega arith in
    let long : length (up_to a h) + length ws ≡ length (up_to b h) = sym (length-append (up_to a h) ws) ∙ ap length split in
    let short = length-take (b - 1) (writes h) in
    both k _ (after_told k (up_to a h) ws parts.0 (subst (λ n. AreStored n ws) place parts.1) (omega (arith, long, short, few)))
