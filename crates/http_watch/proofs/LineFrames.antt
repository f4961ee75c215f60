-- Frames of lines, by their parts.
use Rattle.std.proofs.Common.{◌≡◌, ℕ, Bool, List, [], ◌∷◌, ◌++◌, map, Option, Some, None, Result, Ok, Err, OnOk, false, refl, sym, ap, subst, ◌∙◌, append_assoc, append-nil}
use Rattle.spec_api.specs.declared.kinds.Kind.{Kind}
use Rattle.spec_api.specs.declared.frames.FrameKind.TheVariants.{Added}
use Rattle.spec_api.specs.Events.{Event}
use Rattle.spec_api.specs.Frames.{frame_text, bookmark_frame}
use Rattle.spec_api.specs.History.{Entries}
use Rattle.spec_api.specs.Streams.{Line, event, frame_of, added_lines}
use Rattle.spec_api.specs.WatchReplies.{opening_lines, closing_lines}
use Rattle.chunked.specs.Bodies.{chunk_text}
use Rattle.spec_http.specs.Replies.{frames_text}
use Rattle.http_response.specs.Frames.{change_frames, object_frames}
use Rattle.revisions.specs.Watches.{last_bookmark}
use Rattle.http_watch.specs.FirstFrames.{first_frames, member_frames}

pub frames-append : (k : Kind) (ls ms : List Line) → frames_text k (ls ++ ms) ≡ frames_text k ls ++ frames_text k ms
frames-append k [] ms = refl
frames-append k (l ∷ ls) ms = ap (λ t. chunk_text (frame_text (frame_of k l)) ++ t) (frames-append k ls ms) ∙ sym (append_assoc (chunk_text (frame_text (frame_of k l))) (frames_text k ls) (frames_text k ms))

pub frames-of_changes : (k : Kind) (cs : List Event) → frames_text k (map event cs) ≡ change_frames cs
frames-of_changes k [] = refl
frames-of_changes k (c ∷ cs) = ap (λ t. chunk_text (frame_text (frame_of k (event c))) ++ t) (frames-of_changes k cs)

pub frames-of_members : (k : Kind) (ms : Entries) → frames_text k (added_lines ms) ≡ object_frames (map (λ m. m.1) ms)
frames-of_members k [] = refl
frames-of_members k (m ∷ ms) = ap (λ t. chunk_text (frame_text (record { kind = Added; object = m.1 })) ++ t) (frames-of_members k ms)

-- what is there, and then the bookmark that closes it, or none
pub frames-of_opening : (k : Kind) (bookmarks : Bool) (r : ℕ) (ms : Entries) → frames_text k (opening_lines bookmarks r ms) ≡ object_frames (map (λ m. m.1) ms) ++ frames_text k (closing_lines bookmarks r)
frames-of_opening k bookmarks r ms = frames-append k (added_lines ms) (closing_lines bookmarks r) ∙ ap (λ t. t ++ frames_text k (closing_lines bookmarks r)) (frames-of_members k ms)

-- the text of a head, of what is there, and of the bookmark that closes it
pub opening_is : (k : Kind) (bookmarks : Bool) (r : ℕ) (ms : Entries) (head text : List ℕ) → text ≡ head ++ first_frames k bookmarks r ms → text ≡ head ++ frames_text k (opening_lines bookmarks r ms)
opening_is k bookmarks r ms head text is = is ∙ ap (λ t. head ++ t) (sym (frames-of_opening k bookmarks r ms))

-- that of a head, and of what is there
pub listing_is : (k : Kind) (r : ℕ) (ms : Entries) (head text : List ℕ) → text ≡ head ++ first_frames k false r ms → text ≡ head ++ frames_text k (added_lines ms)
listing_is k r ms head text is = is ∙ ap (λ t. head ++ t) (append-nil (member_frames ms) ∙ sym (frames-of_members k ms))

-- a text of which nothing is left to be made
pub made_is : (text rest whole : List ℕ) → text ≡ whole → rest ≡ [] → text ++ rest ≡ whole
made_is text rest whole is none = ap (λ t. text ++ t) none ∙ append-nil text ∙ is

-- changes, and then a bookmark or none
pub frames-of_look : (k : Kind) (cs : List Event) (b : Option ℕ) → frames_text k (map event cs ++ last_bookmark b) ≡ change_frames cs ++ frames_text k (last_bookmark b)
frames-of_look k cs b = frames-append k (map event cs) (last_bookmark b) ∙ ap (λ t. t ++ frames_text k (last_bookmark b)) (frames-of_changes k cs)

-- the text after the frames of a look, with no bookmark
pub look_none : (k : Kind) (old new : List ℕ) (cs : List Event) (b : Option ℕ) → new ≡ old ++ change_frames cs → b ≡ None → new ≡ old ++ frames_text k (map event cs ++ last_bookmark b)
look_none k old new cs None p e = p ∙ ap (λ t. old ++ t) (sym (frames-of_look k cs None ∙ append-nil (change_frames cs)))
look_none k old new cs (Some r) p e = cc

with_bookmark : (k : Kind) (old mid new : List ℕ) (cs : List Event) (r : ℕ) → mid ≡ old ++ change_frames cs → new ≡ mid ++ chunk_text (frame_text (bookmark_frame k false r))
    → new ≡ old ++ frames_text k (map event cs ++ last_bookmark (Some r))
with_bookmark k old mid new cs r p q =
    let last = chunk_text (frame_text (bookmark_frame k false r)) in
    q ∙ ap (λ t. t ++ last) p ∙ append_assoc old (change_frames cs) last ∙ ap (λ t. old ++ t) (sym (frames-of_look k cs (Some r) ∙ ap (λ t. change_frames cs ++ t) (append-nil last)))

-- and with one
pub look_some : {X E : Type 0} (k : Kind) (old mid new : List ℕ) (cs : List Event) (b : Option ℕ) (r : ℕ) (result : Result X E) → mid ≡ old ++ change_frames cs
    → OnOk result (new ≡ mid ++ chunk_text (frame_text (bookmark_frame k false r))) → b ≡ Some r → OnOk result (new ≡ old ++ frames_text k (map event cs ++ last_bookmark b))
look_some k old mid new cs b r (Ok u) p q e = subst (λ b. new ≡ old ++ frames_text k (map event cs ++ last_bookmark b)) (sym e) (with_bookmark k old mid new cs r p q)
look_some k old mid new cs b r (Err x) p q e = tt
