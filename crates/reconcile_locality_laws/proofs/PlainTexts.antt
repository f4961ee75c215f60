-- Parts of stored objects that have one text are one, and what that says of a status.
use Rattle.std.proofs.Common.{◌≡◌, ◌≤◌, ◌<◌, ◌^◌, ◌+◌, ◌&&◌, ℕ, pos, suc, max, List, [], ◌∷◌, true, false, codes, nat_le, not, is_some, unwrap_or, IfSome, Option, Some, None, option_and_then, Ok, Ordering, Less, Equal, Greater, nat_cmp, refl, sym, ap, ◌∙◌, arith, if◌then◌else◌}
use Rattle.json.proofs.Printed.Utf8.{are_ascii}
use Rattle.std.proofs.lemmas.Bool.{leb-true, lt-ltb}
use Rattle.std.proofs.lemmas.Slice.Eq.{bytes_eq-Decides}
use Rattle.std.specs.Cmp.Lexicographic.{slice_cmp}
use Rattle.std.specs.Ordering.{match_ordering}
use Rattle.serde_json.specs.Data.{Data, null, boolean, number, string, array, object, Members, no_members, member, depth, members_depth, put}
use Rattle.serde_json.specs.Find.{get, get_member, as_object}
use Rattle.serde_json.specs.Read.{read}
use Rattle.serde_json.specs.Written.{compact_text, has_float, members_have_float}
use Rattle.serde_json.proofs.Views.{get_member-put, get_member-put_other}
use Rattle.spec_api.proofs.JsonMembers.{apart}
use Rattle.spec_api.proofs.NoFloatsRead.{has_float-is_body, members_have_float-put}
use Rattle.spec_api.proofs.Truths.{both_true, both_false}
use Rattle.spec_api.specs.declared.schemas.Shape.TheVariants.{Object}
use Rattle.spec_api.specs.declared.schemas.Schema.TheVariants.{Root}
use Rattle.spec_api.specs.Defaults.{unsigned_value}
use Rattle.spec_api.specs.History.{History, Write, writes, state}
use Rattle.spec_api.specs.Keys.{Key}
use Rattle.spec_api.specs.Reached.{IsParsed, IsReached}
use Rattle.spec_api.specs.Reading.{reading, filled, fits, is_body, tidied}
use Rattle.spec_api.specs.Replacements.{generation, says_the_same}
use Rattle.spec_api.specs.Values.{inner_of, members_of}
use Rattle.spec_reconcile.specs.Counts.{count, count_in_status, not_below_0}
use Rattle.spec_reconcile.specs.ReplicaSets.{with_counts}
use Rattle.spec_reconcile.specs.Statuses.{status}
use Rattle.spec_laws.specs.SentLaws.{IsKept, AreKept}
use Rattle.spec_laws.proofs.AskedEdits.{generation_low}
use Rattle.spec_laws.proofs.EachWrite.{AllPut, there_put}
use Rattle.spec_laws.proofs.Parsed.{Both, Both-set, found, inside, joined}
use Rattle.spec_laws.proofs.ParsedEdits.{stored_parsed}
use Rattle.spec_laws.proofs.ReadAgain.{opened}
use Rattle.spec_laws.proofs.ReadBack.{read_back}
use Rattle.spec_laws.proofs.Stored.{all_are_kept}

-- ---- what is stored reads as itself

abbrev Reads : Key → Data → Type 0
Reads k d = reading k.kind d ≡ Ok d

read_put : (k : Key) (r : ℕ) (put : Option Data) → IfSome put (IsKept k r) → IfSome put (Reads k)
read_put k r None is = tt
read_put k r (Some d) is = is.reads

all_read : (r : ℕ) (ws : List Write) → AreKept r ws → AllPut Reads ws
all_read r [] is = tt
all_read r (w ∷ ws) is = (read_put w.key r w.put is.0, all_read (r + 1) ws is.1)

pub stored_reads : (h : History) (r : ℕ) (k : Key) (d : Data) → IsReached h → state h r k ≡ Some d → reading k.kind d ≡ Ok d
stored_reads h r k d reached at = there_put Reads h r k d (all_read 2 (writes h) (all_are_kept h reached)) at

-- ---- what is read back of its text

abbrev Small : Data → Type 0
Small d = (has_float d ≡ false) × (depth d ≤ 100)

abbrev pub Plain : Data → Type 0
Plain d = IsParsed d × Small d

pub one_text : (d e : Data) → Plain d → Plain e → compact_text d ≡ compact_text e → d ≡ e
one_text d e p q is = some (sym (read_back d p.0 p.1.0 (deep (depth d) p.1.1)) ∙ ap read is ∙ read_back e q.0 q.1.0 (deep (depth e) q.1.1))
  where
    deep : (n : ℕ) → n ≤ 100 → n ≤ 127
    deep n le = omega (arith, le)

    some : Some d ≡ Some e → d ≡ e
    some h = cc

members_small : (n : ℕ) (q : List ℕ) (ms : Members) → members_have_float ms ≡ false → members_depth ms ≤ n → IfSome (get_member q ms) (λ v. (has_float v ≡ false) × (depth v ≤ n))
members_small n q no_members f le = tt
members_small n q (member l e ms) f le =
    let parts = both_false (has_float e) (members_have_float ms) f in
    at (slice_cmp nat_cmp q l) (parts.0, first (depth e) (members_depth ms) n le) (members_small n q ms parts.1 (rest (depth e) (members_depth ms) n le))
  where
    first : (a b n : ℕ) → max a b ≤ n → a ≤ n
    first a b n le = omega (arith, le)

    rest : (a b n : ℕ) → max a b ≤ n → b ≤ n
    rest a b n le = omega (arith, le)

    at : (o : Ordering) → (has_float e ≡ false) × (depth e ≤ n) → IfSome (get_member q ms) (λ v. (has_float v ≡ false) × (depth v ≤ n))
        → IfSome (match_ordering o (get_member q ms) (Some e) (get_member q ms)) (λ v. (has_float v ≡ false) × (depth v ≤ n))
    at Less here later = later
    at Equal here later = here
    at Greater here later = later

small : (q : List ℕ) (d : Data) → Small d → IfSome (get q d) Small
small q null s = tt
small q (boolean b) s = tt
small q (number n) s = tt
small q (string t) s = tt
small q (array ds) s = tt
small q (object ms) s = members_small 100 q ms s.0 (less (members_depth ms) s.1)
  where
    less : (n : ℕ) → suc n ≤ 100 → n ≤ 100
    less n le = omega (arith, le)

both : (o : Option Data) → IfSome o IsParsed → IfSome o Small → IfSome o Plain
both None p s = tt
both (Some d) p s = (p, s)

pub plain_get : (q : List ℕ) (d : Data) → Plain d → IfSome (get q d) Plain
plain_get q d p = both (get q d) (found q d p.0) (small q d p.1)

pub plain_inner : (o : Option Data) → IfSome o Plain → Plain (object (inner_of o))
plain_inner None p = (tt, (refl, omega arith))
plain_inner (Some null) p = (tt, (refl, omega arith))
plain_inner (Some (boolean b)) p = (tt, (refl, omega arith))
plain_inner (Some (number n)) p = (tt, (refl, omega arith))
plain_inner (Some (string t)) p = (tt, (refl, omega arith))
plain_inner (Some (array ds)) p = (tt, (refl, omega arith))
plain_inner (Some (object ms)) p = p

-- ---- what is stored

pub stored_plain : (h : History) (r : ℕ) (k : Key) (d : Data) → IsReached h → state h r k ≡ Some d → Plain d
stored_plain h r k d reached at =
    let root = Object (Root k.kind) in
    let body = (opened (is_body d) (fits root d) (filled k.kind (tidied root d)) d (stored_reads h r k d reached at)).0 in
    (stored_parsed h r k d reached at, (has_float-is_body d body, leb-true (depth d) 100 (both_true (is_some (as_object d) && not (has_float d)) (nat_le (depth d) 100) body).1))

-- ---- members that are put

deeper : (n : ℕ) (k : List ℕ) (d : Data) (ms : Members) → depth d ≤ n → members_depth ms ≤ n → members_depth (put k d ms) ≤ n
deeper n k d no_members p q = omega arith
deeper n k d (member l e ms) p q =
    let here : depth e ≤ n = omega arith in
    let rest : members_depth ms ≤ n = omega arith in
    let later = deeper n k d ms p rest in
    at (slice_cmp nat_cmp k l) here rest later
  where
    at : (o : Ordering) → depth e ≤ n → members_depth ms ≤ n → members_depth (put k d ms) ≤ n → members_depth (match_ordering o (member k d (member l e ms)) (member l d ms) (member l e (put k d ms))) ≤ n
    at Less here rest later = omega arith
    at Equal here rest later = omega arith
    at Greater here rest later = omega arith

-- members in order, with no float and not too deep
abbrev IsPlain : Members → Type 0
IsPlain ms = Both ms × (members_have_float ms ≡ false) × (members_depth ms ≤ 99)

with_number : (k : List ℕ) → are_ascii k ≡ true → (n : ℕ) → n < 2 ^ 64 → (ms : Members) → IsPlain ms → IsPlain (put k (unsigned_value n) ms)
with_number k ascii n low ms p =
    (Both-set k ascii (unsigned_value n) ms low p.0, members_have_float-put k (unsigned_value n) ms refl p.1, deeper 99 k (unsigned_value n) ms (omega arith) p.2)

plain_status : (d : Data) → Plain d → IsPlain (status d)
plain_status d p =
    let inner = plain_inner (get (codes "status") d) (plain_get (codes "status") d p) in
    (inside (object (status d)) inner.0, inner.1.0, less (members_depth (status d)) inner.1.1)
  where
    less : (n : ℕ) → suc n ≤ 100 → n ≤ 99
    less n le = omega (arith, le)

plain_object : (ms : Members) → IsPlain ms → Plain (object ms)
plain_object ms p = (joined ms p.0, (p.1, more (members_depth ms) p.2))
  where
    more : (n : ℕ) → n ≤ 99 → suc n ≤ 100
    more n le = omega (arith, le)

-- ---- counts

pub counted : (n : ℕ) → n < 2 ^ 63 → count (Some (unsigned_value n)) ≡ n
counted n h = ap (λ b. not_below_0 (unwrap_or (if b then Some (pos n) else None) (pos 0))) (lt-ltb n (2 ^ 63) h)

pub in_inner : (q : List ℕ) (o : Option Data) → option_and_then (get q) o ≡ get_member q (inner_of o)
in_inner q None = refl
in_inner q (Some null) = refl
in_inner q (Some (boolean b)) = refl
in_inner q (Some (number n)) = refl
in_inner q (Some (string s)) = refl
in_inner q (Some (array ds)) = refl
in_inner q (Some (object ms)) = refl

pub counted_in : (q : List ℕ) (d : Data) (ms : Members) (n : ℕ) → status d ≡ ms → get_member q ms ≡ Some (unsigned_value n) → n < 2 ^ 63 → count_in_status q d ≡ n
counted_in q d ms n is has low = ap count (in_inner q (get (codes "status") d) ∙ ap (get_member q) is ∙ has) ∙ counted n low

inner_same : (ms ns : Members) → object ms ≡ object ns → ms ≡ ns
inner_same ms ns h = ap members_of h

module _ (d : Data) (p : Plain d) (n ready : ℕ) (low : n < 2 ^ 63) (few : ready < 2 ^ 63) (same : says_the_same (object (status d)) (object (with_counts n ready (generation d) (status d))) ≡ true) where
  abbrev observed : Members
  observed = put (codes "observedGeneration") (unsigned_value (generation d)) (status d)

  abbrev available : Members
  available = put (codes "availableReplicas") (unsigned_value ready) observed

  abbrev are_ready : Members
  are_ready = put (codes "readyReplicas") (unsigned_value ready) available

  plain_counts : IsPlain (with_counts n ready (generation d) (status d))
  plain_counts =
      let less : n < 2 ^ 64 = omega arith in
      let fewer : ready < 2 ^ 64 = omega arith in
      with_number (codes "replicas") refl n less are_ready
      (with_number (codes "readyReplicas") refl ready fewer available
      (with_number (codes "availableReplicas") refl ready fewer observed (with_number (codes "observedGeneration") refl (generation d) (generation_low d p.0) (status d) (plain_status d p))))

  is_counted : status d ≡ with_counts n ready (generation d) (status d)
  is_counted =
      inner_same (status d) (with_counts n ready (generation d) (status d))
      (one_text (object (status d)) (object (with_counts n ready (generation d) (status d))) (plain_object (status d) (plain_status d p)) (plain_object (with_counts n ready (generation d) (status d)) plain_counts)
      ((bytes_eq-Decides (compact_text (object (status d))) (compact_text (object (with_counts n ready (generation d) (status d))))).0 same))

  pub replicas_counted : count_in_status (codes "replicas") d ≡ n
  replicas_counted = counted_in (codes "replicas") d (put (codes "replicas") (unsigned_value n) are_ready) n is_counted (get_member-put (codes "replicas") (unsigned_value n) are_ready) low

  pub ready_counted : count_in_status (codes "readyReplicas") d ≡ ready
  ready_counted =
      counted_in (codes "readyReplicas") d (put (codes "replicas") (unsigned_value n) are_ready) ready is_counted
      (get_member-put_other (codes "readyReplicas") (codes "replicas") (unsigned_value n) are_ready (apart (codes "readyReplicas") (codes "replicas") refl) ∙ get_member-put (codes "readyReplicas") (unsigned_value ready) available) few

  pub available_counted : count_in_status (codes "availableReplicas") d ≡ ready
  available_counted =
      counted_in (codes "availableReplicas") d (put (codes "replicas") (unsigned_value n) are_ready) ready is_counted
      (get_member-put_other (codes "availableReplicas") (codes "replicas") (unsigned_value n) are_ready (apart (codes "availableReplicas") (codes "replicas") refl)
      ∙ get_member-put_other (codes "availableReplicas") (codes "readyReplicas") (unsigned_value ready) available (apart (codes "availableReplicas") (codes "readyReplicas") refl)
      ∙ get_member-put (codes "availableReplicas") (unsigned_value ready) observed)
      few
