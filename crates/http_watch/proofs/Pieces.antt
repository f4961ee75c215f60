-- What a watch begins with, made and written in pieces.
use Rattle.std.proofs.Common.{◌≡◌, ◌<◌, ◌||◌, nat_lt, ℕ, List, [], ◌∷◌, ◌++◌, length, Bool, true, false, Option, Some, None, is_some, IfSome, IfNone, Result, Ok, Err, refl, sym, ap, subst, ◌∙◌, arith, append_assoc, append-nil, length-append}
use Rattle.std.specs.Fmt.{digits}
use Rattle.std.proofs.KnownBytes.{Appends-trans}
use Rattle.std.proofs.lemmas.Bool.{lt-ltb, ltb-false}
use Rattle.std.specs.Io.KnownBytes.{Appends}
use Rattle.serde_json.specs.Data.{Data}
use Rattle.spec_api.specs.declared.kinds.Kind.{Kind}
use Rattle.spec_api.specs.declared.frames.FrameKind.TheVariants.{Added}
use Rattle.spec_api.specs.Frames.{frame_text}
use Rattle.spec_api.specs.History.{Entries}
use Rattle.spec_api.specs.Keys.{Key}
use Rattle.spec_api.specs.Streams.{frame_of, initial_end}
use Rattle.spec_api.specs.WatchReplies.{closing_lines}
use Rattle.chunked.specs.Bodies.{chunk_text, crlf}
use Rattle.chunked.specs.Devices.{AppendsBeginning, device_of, has_failed}
use Rattle.chunked.specs.declared.watched.Watched as device
use Rattle.spec_http.specs.Replies.{frames_text}
use Rattle.store.specs.Snapshots.{LeavesAfter}
use Rattle.http_watch.specs.declared.fault.Cut.TheVariants as cut
use Rattle.http_watch.specs.declared.fault.Cut.{Cut}
use Rattle.meta.specs.Members.{member_of}
use Rattle.meta.specs.declared.lent_members.Member.{Member}
use Rattle.http_watch.specs.FirstFrames.{first_frames, member_frames, StopsAt}
use Rattle.http_watch.specs.Looked.{Writes}
use Rattle.http_watch.specs.Served.{WritesInParts}
use Rattle.http_watch.proofs.Going.{appends_none, begun_then}

-- ---- what is left to be made

ended_some : (a b y : List ℕ) → 0 < length ((a ++ (b ++ 13 ∷ 10 ∷ [])) ++ y)
ended_some a b y = omega (arith, length-append (a ++ (b ++ 13 ∷ 10 ∷ [])) y, length-append a (b ++ 13 ∷ 10 ∷ []), length-append b (13 ∷ 10 ∷ []))

-- a chunk, and what follows it
chunk_some : (x y : List ℕ) → 0 < length (chunk_text x ++ y)
chunk_some x y = ended_some (digits 16 false (length x) ++ crlf) x y

-- nothing is left where there is no first byte
pub empty_of : (xs : List ℕ) → nat_lt 0 (length xs) ≡ false → xs ≡ []
empty_of [] e = refl
empty_of (x ∷ xs) e = absurd (omega (arith, ltb-false 0 (length (x ∷ xs)) e))

is_positive : (n : ℕ) → 0 < n → true ≡ nat_lt 0 n
is_positive n some = sym (lt-ltb 0 n some)

-- frames are left where members are
member_some : (k : Kind) (closing : Bool) (r : ℕ) (m : Key × Data) (ms : Entries) → 0 < length (first_frames k closing r (m ∷ ms))
member_some k closing r m ms =
    let first = frame_text (record { kind = Added; object = m.1 }) in
    let more = member_frames ms in
    let last = frames_text k (closing_lines closing r) in
    let some : 0 < length (chunk_text first ++ more) = chunk_some first more in
    omega (arith, some, length-append (chunk_text first ++ more) last)

-- else where the bookmark is
end_some : (k : Kind) (closing : Bool) (r : ℕ) → closing ≡ nat_lt 0 (length (first_frames k closing r []))
end_some k true r =
    let last = frame_text (frame_of k (initial_end r)) in
    is_positive (length (chunk_text last ++ [])) (chunk_some last [])
end_some k false r = refl

-- members make a frame each, and so does the bookmark
pub any_left : (k : Kind) (closing : Bool) (r : ℕ) (ms : Entries) → (nat_lt 0 (length ms) || closing) ≡ nat_lt 0 (length (first_frames k closing r ms))
any_left k closing r [] = end_some k closing r
any_left k closing r (m ∷ ms) =
    ap (λ b. b || closing) (sym (is_positive (length (m ∷ ms)) (omega arith))) ∙ is_positive (length (first_frames k closing r (m ∷ ms))) (member_some k closing r m ms)

-- after some frames more
pub some_made : (k : Kind) (closing : Bool) (r : ℕ) (all left : Entries) (old new : List ℕ) → new ++ member_frames left ≡ old ++ member_frames all
    → old ++ first_frames k closing r all ≡ new ++ first_frames k closing r left
some_made k closing r all left old new is =
    let last = frames_text k (closing_lines closing r) in
    sym (append_assoc old (member_frames all) last) ∙ ap (λ t. t ++ last) (sym is) ∙ append_assoc new (member_frames left) last

-- after the last of them
pub all_made : (k : Kind) (closing : Bool) (r : ℕ) (all : Entries) (old mid new : List ℕ) → mid ≡ old ++ member_frames all → new ≡ mid ++ frames_text k (closing_lines closing r)
    → old ++ first_frames k closing r all ≡ new ++ []
all_made k closing r all old mid new is end =
    let last = frames_text k (closing_lines closing r) in
    sym (append_assoc old (member_frames all) last) ∙ ap (λ t. t ++ last) (sym is) ∙ sym end ∙ sym (append-nil new)

-- ---- where a piece ends

module _ (all now : Entries) (old new : List ℕ) (key : Key) (s : StopsAt all old new key) (past : LeavesAfter key all now) where
  left_now : now ≡ s.left
  left_now = past s.before s.left s.object s.split

  pub still_more : (more : Bool) → more ≡ nat_lt 0 (length all) → more ≡ nat_lt 0 (length now)
  still_more more is =
      let some : 0 < length all = omega (arith, ap length s.split, length-append s.before ((key, s.object) ∷ s.left)) in
      let left : 0 < length now = subst (λ ms. 0 < length ms) (sym left_now) s.more in
      is ∙ sym (is_positive (length all) some) ∙ is_positive (length now) left

  pub piece_made : (k : Kind) (closing : Bool) (r : ℕ) → old ++ first_frames k closing r all ≡ new ++ first_frames k closing r now
  piece_made k closing r = some_made k closing r all s.left old new s.frames ∙ ap (λ ms. new ++ first_frames k closing r ms) (sym left_now)

  pub piece_some : new ≡ [] → ⊥
  piece_some none = omega (arith, s.full, ap length none)

-- ---- what is made of members that are taken one after another

-- a member that was taken, and those that are left
abbrev pub with_next : Option Member → Entries → Entries
with_next None ms = []
with_next (Some m) ms = member_of m ∷ ms

pub next_taken : (next : Option Member) (old new : Entries) → IfSome next (λ m. old ≡ member_of m ∷ new) → IfNone next (old ≡ []) → with_next next new ≡ old
next_taken None old new some none = sym none
next_taken (Some m) old new some none = sym some

pub next_some : (next : Option Member) (ms : Entries) → is_some next ≡ true → 0 < length (with_next next ms)
next_some None ms none = cc
next_some (Some m) ms some = omega arith

-- the frames of some of the members were added to a text, and these are left
pub record ArePushed (all left : Entries) (old new : List ℕ) : Type 0 where
  pub before : Entries
  pub split : before ++ left ≡ all
  pub frames : new ++ member_frames left ≡ old ++ member_frames all

pub none_pushed : (all left : Entries) (old : List ℕ) → left ≡ all → ArePushed all left old old
none_pushed all left old is = record { before = []; split = is; frames = ap (λ ms. old ++ member_frames ms) is }

pub one_pushed : (all more left : Entries) (m : Key × Data) (old mid new : List ℕ) → ArePushed all (m ∷ more) old mid → new ≡ mid ++ chunk_text (frame_text (record { kind = Added; object = m.1 })) → left ≡ more
    → ArePushed all left old new
one_pushed all more left m old mid new h is same =
    let frame = chunk_text (frame_text (record { kind = Added; object = m.1 })) in
    record {
      before = h.before ++ m ∷ [];
      split = append_assoc h.before (m ∷ []) left ∙ ap (λ ms. h.before ++ m ∷ ms) same ∙ h.split;
      frames = ap (λ t. t ++ member_frames left) is ∙ append_assoc mid frame (member_frames left) ∙ ap (λ ms. mid ++ (frame ++ member_frames ms)) same ∙ h.frames;
    }

pub stops_at : (all more left : Entries) (m : Key × Data) (k : Key) (old mid new : List ℕ) → ArePushed all (m ∷ more) old mid → new ≡ mid ++ chunk_text (frame_text (record { kind = Added; object = m.1 })) → left ≡ more
    → k ≡ m.0 → 0 < length left → 0 < length new → StopsAt all old new k
stops_at all more left m k old mid new h is same named some full =
    record {
      before = h.before;
      object = m.1;
      left = more;
      split = sym h.split ∙ ap (λ n. h.before ++ (n, m.1) ∷ more) (sym named);
      frames = ap (λ ms. new ++ member_frames ms) (sym same) ∙ (one_pushed all more left m old mid new h is same).frames;
      more = subst (λ ms. 0 < length ms) same some;
      full = full;
    }

pub all_pushed : (all left : Entries) (old new : List ℕ) → ArePushed all left old new → left ≡ [] → new ≡ old ++ member_frames all
all_pushed all left old new h none = sym (append-nil new) ∙ ap (λ ms. new ++ member_frames ms) (sym none) ∙ h.frames

-- ---- what is written

module _ {D : Type 0} (contents : D → Option (List ℕ)) where
  -- some of a text was written, and this is left of it
  pub record IsPartWritten (before now : device.Watched D) (text left : List ℕ) : Type 0 where
    pub put : List ℕ
    pub written : Appends (contents (device_of before)) (contents (device_of now)) put
    pub whole : put ++ left ≡ text
    pub sound : has_failed now ≡ false

  pub part_none : (w : device.Watched D) (text : List ℕ) → has_failed w ≡ false → IsPartWritten w w text text
  part_none w text sound = record { put = []; written = appends_none (contents (device_of w)); whole = refl; sound = sound }

  pub part_on : {X : Type 0} (before now after : device.Watched D) (text left piece more : List ℕ) (u : X) → IsPartWritten before now text left → left ≡ piece ++ more
      → Writes piece contents now after (Ok u) → IsPartWritten before after text more
  part_on before now after text left piece more u h is x = record {
    put = h.put ++ piece;
    written = Appends-trans _ _ _ h.put piece h.written x.1;
    whole = append_assoc h.put piece more ∙ ap (λ t. h.put ++ t) (sym is) ∙ h.whole;
    sound = x.0;
  }

  pub part_all : (before now : device.Watched D) (text left : List ℕ) (u : Unit {0}) → IsPartWritten before now text left → left ≡ [] → WritesInParts text contents before now (Ok u)
  part_all before now text left u h is =
      let all : h.put ≡ text = sym (append-nil h.put) ∙ ap (λ t. h.put ++ t) (sym is) ∙ h.whole in
      (h.sound, subst (Appends (contents (device_of before)) (contents (device_of now))) all h.written)

  pub part_left : (before now : device.Watched D) (text left : List ℕ) → IsPartWritten before now text left → WritesInParts text contents before now (Err cut.NoMemory)
  part_left before now text left h = (h.sound, (h.put, left, h.written, h.whole))

  -- a beginning of a text is one of more
  begun_more : (before after : device.Watched D) (text more : List ℕ) → AppendsBeginning (contents (device_of before)) (contents (device_of after)) text
      → AppendsBeginning (contents (device_of before)) (contents (device_of after)) (text ++ more)
  begun_more before after text more a = (a.0, a.1 ++ more, a.2, sym (append_assoc a.0 a.1 more) ∙ ap (λ t. t ++ more) a.3)

  pub part_failed : (X : Type 0) (before now after : device.Watched D) (text left piece more : List ℕ) → IsPartWritten before now text left → left ≡ piece ++ more
      → Writes {X = X} piece contents now after (Err cut.Device) → WritesInParts text contents before after (Err cut.Device)
  part_failed X before now after text left piece more h is x =
      let whole : h.put ++ (piece ++ more) ≡ text = ap (λ t. h.put ++ t) (sym is) ∙ h.whole in
      (x.0, subst (AppendsBeginning (contents (device_of before)) (contents (device_of after))) whole (begun_then _ _ _ h.put (piece ++ more) h.written (begun_more now after piece more x.1)))

  -- what was made of an opening, and then the rest
  pub opening_written : {X : Type 0} (before mid after : device.Watched D) (text rest : List ℕ) (u : X) (r : Result (Unit {0}) Cut) → Writes text contents before mid (Ok u)
      → WritesInParts rest contents mid after r → WritesInParts (text ++ rest) contents before after r
  opening_written before mid after text rest u (Ok t) a b = (b.0, Appends-trans _ _ _ text rest a.1 b.1)
  opening_written before mid after text rest u (Err c) a b = (b.0, begun_then _ _ _ text rest a.1 b.1)

  pub opening_failed : (X : Type 0) (before after : device.Watched D) (text rest : List ℕ) → Writes {X = X} text contents before after (Err cut.Device)
      → WritesInParts (text ++ rest) contents before after (Err cut.Device)
  opening_failed X before after text rest a = (a.0, begun_more before after text rest a.1)
