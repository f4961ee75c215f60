-- What a look adds to a watch.
use Rattle.std.proofs.Common.{◌≡◌, ◌<◌, ℕ, [], ◌∷◌, ◌++◌, Some, None, Ok, Err, inr, refl, subst}
use Rattle.spec_api.specs.History.{View}
use Rattle.spec_api.specs.WatchReplies.{told_lines}
use Rattle.chunked.specs.Bodies.{last_chunk}
use Rattle.selector.specs.Views.{view_of}
use Rattle.http_watch.specs.Looked.{IsLook, StandsAt}
use Rattle.http_watch.specs.Watches.{Look, most_idle, idle_after, look_frames}
use Rattle.http_watch.specs.declared.looked.Looked.{Looked}
use Rattle.http_watch.specs.declared.standing.WatchStanding.{WatchStanding}
use Rattle.api.specs.declared.served.Served.TheVariants as served
use Rattle.http_connection.specs.declared.phase.ConnectionPhase.{ConnectionPhase}
use Rattle.http_connection.specs.declared.phase.ConnectionPhase.TheVariants as phase
use Rattle.http_connection.specs.declared.watching.Watching.{Watching}
use Rattle.http_connection.specs.Looking.{Adds, Shows, LooksFrom}

module _ {S : Type 0} (E : Type 0) (watches : S → View → ℕ → ℕ → Look → S → Type 0) (w : Watching) (at : WatchStanding) (s t : S) (short : at.idle < most_idle) where
  -- a look after which the watch goes on
  pub shows_more : (l : Looked) (next : WatchStanding) (result : ConnectionPhase) → IsLook {E = E} watches (view_of w.view) w.bookmarks at s t (Ok l) → l.next ≡ Some next
      → Adds w l.text.items (Some next) result → LooksFrom watches w s t (Some at) result
  shows_more l next result (look, given, frames, stood) is adds =
      inr (short, (look, given, shows look frames (subst (λ n. StandsAt w.bookmarks at look (Ok n)) is stood)))
    where
      shows : (look : Look) → l.text.items ≡ look_frames (view_of w.view).kind w.bookmarks at.revision (look ∷ []) → StandsAt w.bookmarks at look (Ok (Some next)) → Shows w at look result
      shows (Ok x) frames stood = (next, stood, subst (λ m. Adds w m (Some next) result) frames adds)
      shows (Err f) frames stood = absurd stood

  -- one that ends it
  pub shows_end : (l : Looked) (result : ConnectionPhase) → IsLook {E = E} watches (view_of w.view) w.bookmarks at s t (Ok l) → l.next ≡ None
      → Adds w (l.text.items ++ last_chunk) None result → LooksFrom watches w s t (Some at) result
  shows_end l result (look, given, frames, stood) is adds =
      inr (short, (look, given, shows look frames (subst (λ n. StandsAt w.bookmarks at look (Ok n)) is stood)))
    where
      shows : (look : Look) → l.text.items ≡ look_frames (view_of w.view).kind w.bookmarks at.revision (look ∷ []) → StandsAt w.bookmarks at look (Ok None) → Shows w at look result
      shows (Ok x) frames stood = absurd stood
      shows (Err f) frames stood = subst (λ m. Adds w (m ++ last_chunk) None result) frames adds

  -- one for whose frames there is no memory
  pub shows_nothing : (e : E) → IsLook {E = E} watches (view_of w.view) w.bookmarks at s t (Err e) → LooksFrom watches w s t (Some at) (phase.Closing served.Asked)
  shows_nothing e (look, given) = inr (short, (look, given, shows look))
    where
      shows : (look : Look) → Shows w at look (phase.Closing served.Asked)
      shows (Ok x) =
          let next : WatchStanding = record { revision = x.stands; idle = idle_after at.idle (told_lines w.bookmarks at.revision x) } in
          (next, (refl, refl), refl)
      shows (Err f) = refl
