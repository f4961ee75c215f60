-- What refuses a watch that has begun is written so that it is read back.
use Rattle.std.proofs.Common.{◌≡◌, ◌≤◌, ◌<◌, ◌+◌, ◌-◌, ◌^◌, ℕ, zero, suc, List, [], ◌∷◌, ◌++◌, length, take, nat_lt, Bool, true, false, cond, codes, decimal, Ok, Err, refl, ap, subst, arith, length-append}
use Rattle.std.specs.List.{AllByRecursion}
use Rattle.std.specs.Result.{result_map_both}
use Rattle.std.specs.Str.{IsUtf8}
use Rattle.std.proofs.lemmas.Bool.{ltb-true}
use Rattle.std.proofs.lemmas.Fmt.{IsAscii-decimal, length-decimal-le}
use Rattle.std.proofs.lemmas.Str.{IsUtf8-append, IsUtf8-from_ascii}
use Rattle.json.specs.Print.{quoted}
use Rattle.json.proofs.Printed.Utf8.{IsUtf8-are_ascii}
use Rattle.serde_json.specs.Data.{Data, number, unsigned, string, object, no_members, member}
use Rattle.serde_json.specs.Written.{compact_text}
use Rattle.spec_api.specs.declared.kinds.Kind.{Kind}
use Rattle.spec_api.specs.declared.frames.FrameKind.TheVariants.{Error}
use Rattle.spec_api.specs.Events.{events}
use Rattle.spec_api.specs.Frames.{error_frame}
use Rattle.spec_api.specs.History.{History, Write, write, compaction, writes, present}
use Rattle.spec_api.specs.Reached.{IsParsed, IsReached}
use Rattle.spec_api.specs.Refusals.{Refusal, expired, too_new, message, status_body}
use Rattle.spec_api.specs.Versions.{watched, watched_from}
use Rattle.spec_api.specs.Windows.{Change, changes_after, changes_of, last_revision, compacted, floor, is_of}
use Rattle.spec_api.proofs.EscapedTexts.{length-quoted}
use Rattle.spec_api.proofs.OnLiterals.{on_literals}
use Rattle.framing.specs.Texts.{IsWithin}
use Rattle.framing.proofs.FrameTexts.{frame_bytes}
use Rattle.spec_laws.specs.Happening.{Follows}
use Rattle.spec_laws.specs.SentLaws.{whole}
use Rattle.spec_laws.proofs.Limited.{limited, happens}
use Rattle.reflector.proofs.Served.{length-framed}
use Rattle.sim_cluster_laws.specs.FollowerLaws.{IsRefusalRead}
use Rattle.sim_cluster_laws.proofs.FramesRead.{frame_back}

-- ---- how high the floor is

compacted_low : (h : History) (now : ℕ) → Follows now h → compacted h ≤ length (writes h) + now
compacted_low [] now is = omega arith
compacted_low (write w ∷ h) now is = let rest = compacted_low h (now + 1) is in omega (arith, rest)
compacted_low (compaction r ∷ h) now is = let first = is.0 in let rest = compacted_low h now is.1 in omega (arith, first, rest)

abbrev AreUpTo : ℕ → List Change → Type 0
AreUpTo b ks = AllByRecursion (λ (c : Change). c.revision ≤ b) ks

one_up_to : (b : ℕ) (here : Bool) (c : Change) (more : List Change) → c.revision ≤ b → AreUpTo b more → AreUpTo b (cond here (c ∷ []) [] ++ more)
one_up_to b true c more le up = (le, up)
one_up_to b false c more le up = up

changes_up_to : (k : Kind) (before ws : List Write) (b : ℕ) → length before + length ws + 1 ≤ b → AreUpTo b (changes_after k before ws)
changes_up_to k before [] b le = tt
changes_up_to k before (w ∷ ws) b le =
    let long : length (before ++ w ∷ []) ≡ length before + 1 = length-append before (w ∷ []) in
    one_up_to b (is_of k w.key) _ (changes_after k (before ++ w ∷ []) ws) (omega (arith, le)) (changes_up_to k (before ++ w ∷ []) ws b (omega (arith, long, le)))

last_up_to : (n b r : ℕ) (ks : List Change) → r ≤ b → AreUpTo b ks → last_revision r (take n ks) ≤ b
last_up_to zero b r ks le up = le
last_up_to (suc n) b r [] le up = le
last_up_to (suc n) b r (c ∷ ks) le up = last_up_to n b c.revision ks up.0 up.1

pub floor_low : (k : Kind) (size : ℕ) (h : History) → IsReached h → floor k size h ≤ present h
floor_low k size h reached =
    let ks = changes_of k h in
    let first = last_up_to (length ks - size) (present h) 1 ks (omega arith) (changes_up_to k [] (writes h) (present h) (omega arith)) in
    let second = compacted_low h 1 (happens h reached) in omega (arith, first, second)

-- ---- a refusal of what has expired

abbrev status_with : List ℕ → Data
status_with m =
    object
    (member (codes "apiVersion") (string (codes "v1"))
    (member (codes "code") (number (unsigned 410))
    (member (codes "kind") (string (codes "Status"))
    (member (codes "message") (string m)
    (member (codes "metadata") (object no_members) (member (codes "reason") (string (codes "Expired")) (member (codes "status") (string (codes "Failure")) no_members)))))))

text_is : (m : List ℕ)
    → compact_text (status_with m) ≡ codes "{\"apiVersion\":\"v1\",\"code\":410,\"kind\":\"Status\",\"message\":" ++ (quoted m ++ codes ",\"metadata\":{},\"reason\":\"Expired\",\"status\":\"Failure\"}")
unfolding on_literals
text_is m = refl

status_parsed : (m : List ℕ) → IsUtf8 m → IsParsed (status_with m)
status_parsed m u = (
  (refl, (refl, (refl, (refl, (refl, (refl, tt)))))),
  IsUtf8-are_ascii (codes "v1") refl,
  (
    (refl, (refl, (refl, (refl, (refl, tt))))),
    omega arith,
    (
      (refl, (refl, (refl, (refl, tt)))),
      IsUtf8-are_ascii (codes "Status") refl,
      (
        (refl, (refl, (refl, tt))),
        u,
        (
          (refl, (refl, tt)),
          tt,
          ((refl, tt), IsUtf8-are_ascii (codes "Expired") refl, (tt, IsUtf8-are_ascii (codes "Failure") refl, tt, IsUtf8-are_ascii (codes "status") refl), IsUtf8-are_ascii (codes "reason") refl),
          IsUtf8-are_ascii (codes "metadata") refl,
        ),
        IsUtf8-are_ascii (codes "message") refl,
      ),
      IsUtf8-are_ascii (codes "kind") refl,
    ),
    IsUtf8-are_ascii (codes "code") refl,
  ),
  IsUtf8-are_ascii (codes "apiVersion") refl,
)

said : (a b : ℕ) → a < 2 ^ 64 → b < 2 ^ 64 → IsUtf8 (message (expired a b)) × (length (message (expired a b)) ≤ 100)
said a b p q =
    let first = length-decimal-le 20 a (omega arith) (omega arith) p in
    let second = length-decimal-le 20 b (omega arith) (omega arith) q in
    let last = decimal b ++ codes ")" in
    let rest = decimal a ++ (codes " (" ++ last) in (
      IsUtf8-append (codes "too old resource version: ") rest (IsUtf8-are_ascii (codes "too old resource version: ") refl)
          (IsUtf8-append (decimal a) (codes " (" ++ last) (IsUtf8-from_ascii (decimal a) (IsAscii-decimal a p))
          (IsUtf8-append (codes " (") last (IsUtf8-are_ascii (codes " (") refl) (IsUtf8-append (decimal b) (codes ")") (IsUtf8-from_ascii (decimal b) (IsAscii-decimal b q)) (IsUtf8-are_ascii (codes ")") refl)))),
      omega (arith, first, second, length-append (decimal a) (codes " (" ++ last), length-append (decimal b) (codes ")")),
    )

within_limits : (a b : ℕ) → length (message (expired a b)) ≤ 100 → IsWithin (error_frame (expired a b))
within_limits a b short =
    let m = message (expired a b) in
    let text = compact_text (status_with m) in
    let tail = codes ",\"metadata\":{},\"reason\":\"Expired\",\"status\":\"Failure\"}" in
    record {
      is_object = refl;
      nests = omega arith;
      fits = omega (arith, ap length (frame_bytes Error (status_body (expired a b))), length-framed Error text, ap length (text_is m), length-append (quoted m) tail, length-quoted m, short);
    }

expiry_read : (a b : ℕ) → a ≤ 9007199254740991 → b ≤ 9007199254740991 → IsRefusalRead (expired a b)
expiry_read a b p q =
    let says = said a b (omega (arith, p)) (omega (arith, q)) in frame_back Error (status_with (message (expired a b))) (status_parsed (message (expired a b)) says.0) refl (within_limits a b says.1)

-- ---- what refuses a watch

refused_at : {X Y : Type 0} (b c : Bool) (floor now a : ℕ) (g : X → Y) (x : X) (e : Refusal) → nat_lt now a ≡ c → a ≤ now
    → result_map_both g (λ f. f) (cond b (Err (expired a floor)) (cond c (Err (too_new a now)) (Ok x))) ≡ Err e → expired a floor ≡ e
refused_at true c floor now a g x e past le is = cc
refused_at false true floor now a g x e past le is = let above : now < a = ltb-true now a past in absurd (omega (arith, above, le))
refused_at false false floor now a g x e past le is = cc

-- a watch that stands no higher than what has happened is refused only as expired, and that is read back
pub refusal_back : (size : ℕ) (h : History) (k : Kind) (a n : ℕ) (e : Refusal) → IsReached h → a ≤ present h → watched_from size h (whole k) a n ≡ Err e → IsRefusalRead e
refusal_back size h k a n e reached le is =
    let least = floor_low k size h reached in
    let few : present h ≤ 9007199254740991 = (limited h reached).1 in
    subst IsRefusalRead (refused_at (nat_lt a (floor k size h)) (nat_lt (present h) a) (floor k size h) (present h) a (watched (present h) a n) (take (n + 1) (events h (whole k) a (present h))) e refl le is)
    (expiry_read a (floor k size h) (omega (arith, le, few)) (omega (arith, least, few)))
