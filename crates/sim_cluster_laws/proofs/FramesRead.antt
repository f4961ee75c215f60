-- The frames that a server writes are read back: of events and bookmarks of what is reached, and of its refusals.
use Rattle.std.proofs.Common.{◌≡◌, ◌≤◌, ◌<◌, ◌+◌, ◌-◌, ◌^◌, ℕ, List, [], ◌∷◌, ◌++◌, length, drop, map, Bool, true, false, cond, codes, decimal, IfSome, IsSome, Option, Some, None, Result, Ok, Err, refl, sym, ap, ◌∙◌, subst, arith, append_assoc, length-append}
use Rattle.std.specs.List.{AllByRecursion}
use Rattle.std.specs.Str.{IsUtf8}
use Rattle.std.proofs.lemmas.Fmt.{IsAscii-decimal}
use Rattle.std.proofs.lemmas.List.{length-take}
use Rattle.std.proofs.lemmas.Str.{IsUtf8-from_ascii}
use Rattle.json.proofs.Printed.Utf8.{IsUtf8-are_ascii}
use Rattle.serde_json.specs.Data.{Data, null, boolean, number, string, array, object}
use Rattle.serde_json.specs.Find.{as_object}
use Rattle.serde_json.specs.Written.{compact_text, has_float}
use Rattle.spec_api.specs.declared.kinds.Kind.{Kind}
use Rattle.spec_api.specs.declared.frames.FrameKind.{FrameKind}
use Rattle.spec_api.specs.declared.frames.FrameKind.TheVariants.{Added, Modified, Deleted, Bookmark, Error}
use Rattle.spec_api.specs.declared.refusals.Part.{Part}
use Rattle.spec_api.specs.Events.{Event, event_of, events, events_after}
use Rattle.spec_api.specs.Frames.{Frame, frame_data, frame_text, kind_text, frame_kind, bookmark_data}
use Rattle.spec_api.specs.History.{History, View, Write, writes, present, up_to, last_of, seen, in_view}
use Rattle.spec_api.specs.Keys.{Key}
use Rattle.spec_api.specs.Kinds as kinds
use Rattle.spec_api.specs.Kinds.{api_version}
use Rattle.spec_api.specs.Metadata.{metadata_of}
use Rattle.spec_api.specs.Reached.{IsParsed, IsReached}
use Rattle.spec_api.specs.Reading.{reading}
use Rattle.spec_api.specs.Streams.{event, bookmark}
use Rattle.spec_api.proofs.NoFloatsRead.{has_float-is_body}
use Rattle.spec_client_go.specs.ReadFrames as frames
use Rattle.spec_client_go.specs.ReadFrames.{frame_in, line_read, next, longest_frame}
use Rattle.spec_client_go.specs.Reflectors.{Shown, shown_read}
use Rattle.spec_laws.specs.SentLaws.{whole, IsTold, IsShort}
use Rattle.spec_laws.proofs.AppliedEvents.{up_to-split}
use Rattle.spec_laws.proofs.EachWrite.{AllPut, last_put, put_first}
use Rattle.spec_laws.proofs.Limited.{limited}
use Rattle.spec_laws.proofs.Parsed.{version_ascii, kind_ascii}
use Rattle.spec_laws.proofs.ParsedEdits.{IsParsedAt, all_put}
use Rattle.spec_laws.proofs.ParsedObjects as parsed
use Rattle.spec_laws.proofs.ReadBack.{read_back}
use Rattle.spec_laws.proofs.SentChanges.{changes_told, read_body}
use Rattle.spec_laws.proofs.WrittenTexts.{text_written}
use Rattle.framing.specs.Texts.{IsWithin, ReadsAs}
use Rattle.framing.proofs.Bookmarks.{IsWithin-bookmark}
use Rattle.framing.proofs.Newlines.{IsPartial-from_flat, flat-compact_text}
use Rattle.framing.proofs.OneLine.{line_read_is}
use Rattle.framing.proofs.Reading.{reading-line}
use Rattle.reflector.specs.Laws.{IsReadBack}
use Rattle.reflector.proofs.Served.{within}

-- ---- one frame

kind_ascii_text : (kind : FrameKind) → IsUtf8 (kind_text kind)
kind_ascii_text Added = IsUtf8-are_ascii (codes "ADDED") refl
kind_ascii_text Modified = IsUtf8-are_ascii (codes "MODIFIED") refl
kind_ascii_text Deleted = IsUtf8-are_ascii (codes "DELETED") refl
kind_ascii_text Bookmark = IsUtf8-are_ascii (codes "BOOKMARK") refl
kind_ascii_text Error = IsUtf8-are_ascii (codes "ERROR") refl

frame_parsed : (kind : FrameKind) (d : Data) → IsParsed d → IsParsed (frame_data (record { kind = kind; object = d }))
frame_parsed kind d p = ((refl, tt), p, (tt, kind_ascii_text kind, tt, IsUtf8-are_ascii (codes "type") refl), IsUtf8-are_ascii (codes "object") refl)

frame_clean : (kind : FrameKind) (d : Data) → has_float d ≡ false → has_float (frame_data (record { kind = kind; object = d })) ≡ false
frame_clean kind d clean = rw clean refl

frame_is : (kind : FrameKind) (d : Data) → IsSome (as_object d) → Some (record { kind = kind; object = d }) ≡ frame_in (frame_data (record { kind = kind; object = d }))
frame_is Added (object ms) h = refl
frame_is Modified (object ms) h = refl
frame_is Deleted (object ms) h = refl
frame_is Bookmark (object ms) h = refl
frame_is Error (object ms) h = refl
frame_is kind null h = cc
frame_is kind (boolean b) h = cc
frame_is kind (number n) h = cc
frame_is kind (string s) h = cc
frame_is kind (array ds) h = cc

-- a frame that fits in a line is read back, where its object is as a parser gives it and has no float
pub frame_back : (kind : FrameKind) (d : Data) → IsParsed d → has_float d ≡ false → (let e : Frame = record { kind = kind; object = d } in IsWithin e → ReadsAs (frame_text e) e)
frame_back kind d p clean fits more =
    let e : Frame = record { kind = kind; object = d } in
    let line = compact_text (frame_data e) in
    let whole_parsed = frame_parsed kind d p in
    let short : length line < longest_frame = omega (arith, fits.fits, length-append line (10 ∷ [])) in
    let says : Ok e ≡ line_read line =
    line_read_is line (frame_data e) (Some e) short (text_written (frame_data e) whole_parsed) (read_back (frame_data e) whole_parsed (frame_clean kind d clean) fits.nests) (frame_is kind d fits.is_object) in
    ap frames.reading (append_assoc line (10 ∷ []) more) ∙ reading-line line more (IsPartial-from_flat line (flat-compact_text (frame_data e))) ∙ ap (λ o. next o (frames.reading more)) (sym says)

-- ---- events

abbrev pub AreParsedEvents : List Event → Type 0
AreParsedEvents cs = AllByRecursion (λ (c : Event). IsParsed c.object) cs

seen_if : (b : Bool) (d : Data) → IsParsed d → IfSome (cond b (Some d) None) IsParsed
seen_if true d p = p
seen_if false d p = tt

seen_parsed : (v : View) (n : Key) (o : Option Data) → IfSome o IsParsed → IfSome (seen v n o) IsParsed
seen_parsed v n None p = tt
seen_parsed v n (Some d) p = seen_if (in_view v n d) d p

event_parsed : (r : ℕ) (n : Key) (old new : Option Data) (more : List Event) → r < 2 ^ 64 → IfSome old IsParsed → IfSome new IsParsed → AreParsedEvents more → AreParsedEvents (event_of r n old new ++ more)
event_parsed r n None None more low was is later = later
event_parsed r n None (Some d) more low was is later = (is, later)
event_parsed r n (Some e) (Some d) more low was is later = (is, later)
event_parsed r n (Some e) None more low was is later = (parsed.at r (metadata_of e) e low (parsed.meta e was) was, later)

put_joined : (us ws : List Write) → AllPut IsParsedAt us → AllPut IsParsedAt ws → AllPut IsParsedAt (us ++ ws)
put_joined [] ws a b = b
put_joined (u ∷ us) ws a b = (a.0, put_joined us ws a.1 b)

put_later : (us ws : List Write) → AllPut IsParsedAt (us ++ ws) → AllPut IsParsedAt ws
put_later [] ws a = a
put_later (u ∷ us) ws a = put_later us ws a.1

after_parsed : (v : View) (before ws : List Write) → AllPut IsParsedAt before → AllPut IsParsedAt ws → length before + length ws + 1 ≤ 9007199254740991 → AreParsedEvents (events_after v before ws)
after_parsed v before [] a b low = tt
after_parsed v before (w ∷ ws) a b low =
    let long : length (before ++ w ∷ []) ≡ length before + 1 = length-append before (w ∷ []) in
    event_parsed (length before + 2) w.key (seen v w.key (last_of None w.key before)) (seen v w.key w.put) (events_after v (before ++ w ∷ []) ws) (omega (arith, low))
    (seen_parsed v w.key (last_of None w.key before) (last_put IsParsedAt w.key before None tt a)) (seen_parsed v w.key w.put b.0)
    (after_parsed v (before ++ w ∷ []) ws (put_joined before (w ∷ []) a (b.0, tt)) b.1 (omega (arith, long, low)))

pub events_parsed : (h : History) (v : View) (a b : ℕ) → IsReached h → a ≤ b → AreParsedEvents (events h v a b)
events_parsed h v a b reached le =
    let ws = drop (a - 1) (up_to b h) in
    let few : present h ≤ 9007199254740991 = (limited h reached).1 in
    let all = all_put h reached in
    let split : up_to a h ++ ws ≡ up_to b h = up_to-split h a b le in
    let long : length (up_to a h) + length ws ≡ length (up_to b h) = sym (length-append (up_to a h) ws) ∙ ap length split in
    let short = length-take (b - 1) (writes h) in
    after_parsed v (up_to a h) ws (put_first IsParsedAt (a - 1) (writes h) all)
    (put_later (up_to a h) ws (subst (AllPut IsParsedAt) (sym split) (put_first IsParsedAt (b - 1) (writes h) all))) (omega (arith, long, short, few))

pub clean_at : (k : Kind) (d : Data) (o : Result Data Part) (s : Shown) → reading k d ≡ o → shown_read k o ≡ Some s → has_float d ≡ false
clean_at k d (Err p) s is shows = cc
clean_at k d (Ok e) s is shows = has_float-is_body d (read_body k d e is)

all_back : (k : Kind) (cs : List Event) → AreParsedEvents cs → AllByRecursion (IsTold k) cs → AllByRecursion IsShort cs → AllByRecursion (IsReadBack k) (map event cs)
all_back k [] p told short = tt
all_back k (c ∷ cs) p told short =
    (frame_back (frame_kind c.kind) c.object p.0 (clean_at k c.object (reading k c.object) _ refl told.0.shows) (within c short.0), all_back k cs p.1 told.1 short.1)

pub events_back : (h : History) (k : Kind) (a b : ℕ) → IsReached h → a ≤ b → AllByRecursion (IsReadBack k) (map event (events h (whole k) a b))
events_back h k a b reached le =
    let told = changes_told h k a b reached le in all_back k (events h (whole k) a b) (events_parsed h (whole k) a b reached le) told.0 told.1

-- ---- bookmarks

pub bookmark_parsed : (k : Kind) (r : ℕ) → r < 2 ^ 64 → IsParsed (bookmark_data k false r)
bookmark_parsed k r low = (
  (refl, (refl, tt)),
  IsUtf8-are_ascii (api_version k) (version_ascii k),
  ((refl, tt), IsUtf8-are_ascii (kinds.kind_text k) (kind_ascii k), (tt, (tt, IsUtf8-from_ascii (decimal r) (IsAscii-decimal r low), tt, IsUtf8-are_ascii (codes "resourceVersion") refl), tt, IsUtf8-are_ascii (codes "metadata") refl), IsUtf8-are_ascii (codes "kind") refl),
  IsUtf8-are_ascii (codes "apiVersion") refl,
)

pub bookmark_back : (k : Kind) (r : ℕ) → r ≤ 9007199254740991 → IsReadBack k (bookmark r)
bookmark_back k r low =
    let small : r < 2 ^ 64 = omega (arith, low) in frame_back Bookmark (bookmark_data k false r) (bookmark_parsed k r small) refl (IsWithin-bookmark k false r small)
