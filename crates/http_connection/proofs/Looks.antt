-- One look more of a watch.
use Rattle.std.proofs.Common.{◌≡◌, ◌≤◌, ◌<◌, ℕ, List, [], ◌∷◌, ◌++◌, Bool, Ok, Err, refl, sym, ap, ◌∙◌, append_assoc}
use Rattle.spec_api.specs.declared.kinds.Kind.{Kind}
use Rattle.spec_api.specs.Frames.{frame_text, error_frame}
use Rattle.spec_api.specs.History.{View}
use Rattle.spec_api.specs.Refusals.{Refusal}
use Rattle.spec_api.specs.Versions.{Watched}
use Rattle.spec_api.specs.WatchReplies.{told_lines}
use Rattle.chunked.specs.Bodies.{chunk_text}
use Rattle.spec_http.specs.Replies.{frames_text}
use Rattle.http_watch.specs.Watches.{Look, Ends, most_events, most_idle, stands_after, idle_after, look_frames}
use Rattle.http_connection.specs.Deeds.{Glance, looks_of}
use Rattle.http_connection.specs.Watches.{AreLooks, Lasts, revision_after, idles_after}

module _ {S : Type 0} (watches : S → View → ℕ → ℕ → Look → S → Type 0) (v : View) where
  pub looks_more : (at : ℕ) (gs : List (Glance S)) (g : Glance S) → AreLooks watches v at gs → watches g.before v (revision_after at (looks_of gs)) most_events g.look g.after
      → AreLooks watches v at (gs ++ g ∷ [])
  looks_more at [] g made one = (one, tt)
  looks_more at (x ∷ gs) g made one = (made.0, looks_more (stands_after at x.look) gs g made.1 one)

pub looks_of_more : {S : Type 0} → (gs : List (Glance S)) (g : Glance S) → looks_of (gs ++ g ∷ []) ≡ looks_of gs ++ g.look ∷ []
looks_of_more [] g = refl
looks_of_more (x ∷ gs) g = ap (λ t. x.look ∷ t) (looks_of_more gs g)

pub frames_more : (k : Kind) (b : Bool) (at : ℕ) (looks : List Look) (w : Look) → look_frames k b at (looks ++ w ∷ []) ≡ look_frames k b at looks ++ look_frames k b (revision_after at looks) (w ∷ [])
frames_more k b at [] w = refl
frames_more k b at (Ok x ∷ looks) w =
    let first = frames_text k (told_lines b at x) in
    ap (λ t. first ++ t) (frames_more k b x.stands looks w) ∙ sym (append_assoc first (look_frames k b x.stands looks) (look_frames k b (revision_after x.stands looks) (w ∷ [])))
frames_more k b at (Err f ∷ looks) w =
    let first = chunk_text (frame_text (error_frame f)) in
    ap (λ t. first ++ t) (frames_more k b at looks w) ∙ sym (append_assoc first (look_frames k b at looks) (look_frames k b (revision_after at looks) (w ∷ [])))

pub lasts_more : (b : Bool) (at idle : ℕ) (looks : List Look) (w : Watched) → Lasts b at idle looks → idles_after b at idle looks < most_idle → Lasts b at idle (looks ++ Ok w ∷ [])
lasts_more b at idle [] w lasts short = (short, tt)
lasts_more b at idle (Ok x ∷ looks) w lasts short = (lasts.0, lasts_more b x.stands (idle_after idle (told_lines b at x)) looks w lasts.1 short)
lasts_more b at idle (Err f ∷ looks) w lasts short = absurd lasts

pub ends_refused : (b : Bool) (at idle : ℕ) (looks : List Look) (f : Refusal) → Lasts b at idle looks → idles_after b at idle looks < most_idle → Ends b at idle (looks ++ Err f ∷ [])
ends_refused b at idle [] f lasts short = (short, refl)
ends_refused b at idle (Ok x ∷ looks) f lasts short = (lasts.0, ends_refused b x.stands (idle_after idle (told_lines b at x)) looks f lasts.1 short)
ends_refused b at idle (Err g ∷ looks) f lasts short = absurd lasts

pub ends_idle : (b : Bool) (at idle : ℕ) (looks : List Look) → Lasts b at idle looks → most_idle ≤ idles_after b at idle looks → Ends b at idle looks
ends_idle b at idle [] lasts over = over
ends_idle b at idle (Ok x ∷ looks) lasts over = (lasts.0, ends_idle b x.stands (idle_after idle (told_lines b at x)) looks lasts.1 over)
ends_idle b at idle (Err f ∷ looks) lasts over = absurd lasts

pub revision_more : (at : ℕ) (looks : List Look) (w : Watched) → revision_after at (looks ++ Ok w ∷ []) ≡ w.stands
revision_more at [] w = refl
revision_more at (x ∷ looks) w = revision_more (stands_after at x) looks w

pub idles_more : (b : Bool) (at idle : ℕ) (looks : List Look) (w : Watched)
    → idles_after b at idle (looks ++ Ok w ∷ []) ≡ idle_after (idles_after b at idle looks) (told_lines b (revision_after at looks) w)
idles_more b at idle [] w = refl
idles_more b at idle (Ok x ∷ looks) w = idles_more b x.stands (idle_after idle (told_lines b at x)) looks w
idles_more b at idle (Err f ∷ looks) w = idles_more b at idle looks w
