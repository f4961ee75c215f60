-- A watch after a look.
use Rattle.std.proofs.Common.{◌≡◌, ◌≤◌, ◌<◌, ℕ, List, [], ◌∷◌, ◌++◌, Bool, Option, Some, None, Result, Ok, Err, inl, inr, refl, sym, ap, subst, ◌∙◌, append_assoc}
use Rattle.spec_api.specs.ListQueries.{ListOptions}
use Rattle.spec_api.specs.History.{View}
use Rattle.spec_api.specs.ObjectRequests.{Request}
use Rattle.spec_api.specs.Refusals.{Refusal}
use Rattle.spec_api.specs.Verbs.{Outcome}
use Rattle.spec_api.specs.Versions.{Listed, Watched}
use Rattle.spec_api.specs.WatchReplies.{told_lines}
use Rattle.chunked.specs.Bodies.{last_chunk}
use Rattle.selector.specs.Views.{view_of}
use Rattle.http_watch.specs.Looked.{StandsAt}
use Rattle.http_watch.specs.Watches.{Look, Opening, most_events, most_idle, idle_after, look_frames, ended_frames, opening_text}
use Rattle.http_watch.specs.declared.standing.WatchStanding.{WatchStanding}
use Rattle.http_connection.specs.declared.phase.ConnectionPhase.{ConnectionPhase}
use Rattle.http_connection.specs.declared.phase.ConnectionPhase.TheVariants as phase
use Rattle.http_connection.specs.declared.watching.Watching.{Watching}
use Rattle.http_connection.specs.Deeds as deeds
use Rattle.http_connection.specs.Deeds.{Deed, Glance, looks_of, with_look, IsLookedOn}
use Rattle.http_connection.specs.Watches.{StandsAfter, revision_after, idles_after, text_by_then, unwritten}
use Rattle.http_connection.specs.Phases.{IsWatch, Stands}
use Rattle.http_connection.specs.Arriving.{MayStand}
use Rattle.http_connection.specs.Looking.{Adds, Shows, LooksFrom, EndsFrom}
use Rattle.http_connection.proofs.Looks.{looks_more, looks_of_more, frames_more, lasts_more, ends_refused, ends_idle, revision_more, idles_more}
use Rattle.http_connection.proofs.Standing.{watch_closes}

module _ {S : Type 0} (calls : S → Request → List ℕ → Outcome → S → Type 0) (lists : S → View → ListOptions → Outcome → S → Type 0)
    (begins : S → View → Option ℕ → Result Listed Refusal → S → Type 0) (watches : S → View → ℕ → ℕ → Look → S → Type 0) where
  abbrev AtWatch : List ℕ → Deed S → View → Bool → Option WatchStanding → List ℕ → Type 0
  AtWatch = IsWatch calls lists begins watches

  -- the text of a watch, and the frames of one look more
  one_more : (v : View) (b : Bool) (opening text more : List ℕ) (at : ℕ) (r : ℕ) (looks : List Look) (w : Look) → text ≡ opening ++ look_frames v.kind b at looks
      → more ≡ look_frames v.kind b r (w ∷ []) → r ≡ revision_after at looks → text ++ more ≡ opening ++ look_frames v.kind b at (looks ++ w ∷ [])
  one_more v b opening text more at r looks w is frames revision =
      let some = look_frames v.kind b at looks in
      ap (λ t. t ++ more) is ∙ append_assoc opening some more
      ∙ ap (λ t. opening ++ (some ++ t)) (frames ∙ ap (λ x. look_frames v.kind b x (w ∷ [])) revision)
      ∙ ap (λ t. opening ++ t) (sym (frames_more v.kind b at looks w))

  -- where a watch stands, and its text, by its looks and one more
  by_looks : (v : View) (b : Bool) (o : Opening) (gs : List (Glance S)) (g : Glance S) (at : Option WatchStanding) (text : List ℕ)
      → StandsAfter b o (looks_of gs ++ g.look ∷ []) at × (text ≡ text_by_then v.kind b o (looks_of gs ++ g.look ∷ []) at)
      → StandsAfter b o (looks_of (gs ++ g ∷ [])) at × (text ≡ text_by_then v.kind b o (looks_of (gs ++ g ∷ [])) at)
  by_looks v b o gs g at text is = subst (λ looks. StandsAfter b o looks at × (text ≡ text_by_then v.kind b o looks at)) (sym (looks_of_more gs g)) is

  module _ (s t : S) where
    -- after a look that was given something
    goes_on : (read text more : List ℕ) (d : Deed S) (v : View) (b : Bool) (at next : WatchStanding) (w : Watched) → AtWatch read d v b (Some at) text → at.idle < most_idle
        → watches s v at.revision most_events (Ok w) t → more ≡ look_frames v.kind b at.revision (Ok w ∷ []) → StandsAt b at (Ok w) (Ok (Some next))
        → AtWatch read (with_look d (record { before = s; look = Ok w; after = t })) v b (Some next) (text ++ more)
    goes_on read text more deeds.nothing v b at next w watch short given frames stands = absurd watch
    goes_on read text more (deeds.refused x) v b at next w watch short given frames stands = absurd watch
    goes_on read text more (deeds.answered moment x y z) v b at next w watch short given frames stands = absurd watch
    goes_on read text more (deeds.watched x y o gs) v b at next w (options, asks, marks, (opens, made), ((lasts, revision, idle), is)) short given frames stands =
        let looks = looks_of gs in
        let g : Glance S = record { before = s; look = Ok w; after = t } in
        let here = subst (λ r. watches s v r most_events (Ok w) t) revision given in
        let now : next.idle ≡ idles_after b o.stands o.idle (looks ++ Ok w ∷ []) =
        stands.1 ∙ ap (λ i. idle_after i (told_lines b at.revision w)) idle ∙ ap (λ r. idle_after (idles_after b o.stands o.idle looks) (told_lines b r w)) revision
        ∙ sym (idles_more b o.stands o.idle looks w) in (
          options,
          asks,
          marks,
          (opens, looks_more watches v o.stands gs g made here),
          by_looks v b o gs g (Some next) (text ++ more) (
            (lasts_more b o.stands o.idle looks w lasts (subst (λ i. i < most_idle) idle short), stands.0 ∙ sym (revision_more o.stands looks w), now),
            one_more v b (opening_text v.kind o) text more o.stands at.revision looks (Ok w) is frames revision,
          ),
        )

    -- after one that was refused
    is_over : (read text more : List ℕ) (d : Deed S) (v : View) (b : Bool) (at : WatchStanding) (f : Refusal) → AtWatch read d v b (Some at) text → at.idle < most_idle
        → watches s v at.revision most_events (Err f) t → more ≡ look_frames v.kind b at.revision (Err f ∷ [])
        → AtWatch read (with_look d (record { before = s; look = Err f; after = t })) v b None (text ++ (more ++ last_chunk))
    is_over read text more deeds.nothing v b at f watch short given frames = absurd watch
    is_over read text more (deeds.refused x) v b at f watch short given frames = absurd watch
    is_over read text more (deeds.answered moment x y z) v b at f watch short given frames = absurd watch
    is_over read text more (deeds.watched x y o gs) v b at f (options, asks, marks, (opens, made), ((lasts, revision, idle), is)) short given frames =
        let looks = looks_of gs in
        let g : Glance S = record { before = s; look = Err f; after = t } in
        let here = subst (λ r. watches s v r most_events (Err f) t) revision given in
        let whole = one_more v b (opening_text v.kind o) text more o.stands at.revision looks (Err f) is frames revision in (
          options,
          asks,
          marks,
          (opens, looks_more watches v o.stands gs g made here),
          by_looks v b o gs g None (text ++ (more ++ last_chunk)) (
            inl (ends_refused b o.stands o.idle looks f lasts (subst (λ i. i < most_idle) idle short)),
            sym (append_assoc text more last_chunk) ∙ ap (λ x. x ++ last_chunk) whole ∙ append_assoc (opening_text v.kind o) (look_frames v.kind b o.stands (looks ++ Err f ∷ [])) last_chunk,
          ),
        )

  -- after as many looks in a row without a line as end it
  idles_out : (read text : List ℕ) (d : Deed S) (v : View) (b : Bool) (at : WatchStanding) → AtWatch read d v b (Some at) text → most_idle ≤ at.idle
      → AtWatch read d v b None (text ++ last_chunk)
  idles_out read text deeds.nothing v b at watch over = absurd watch
  idles_out read text (deeds.refused x) v b at watch over = absurd watch
  idles_out read text (deeds.answered moment x y z) v b at watch over = absurd watch
  idles_out read text (deeds.watched x y o gs) v b at (options, asks, marks, given, ((lasts, revision, idle), is)) over = (
    options,
    asks,
    marks,
    given,
    (
      inl (ends_idle b o.stands o.idle (looks_of gs) lasts (subst (λ i. most_idle ≤ i) idle over)),
      ap (λ x. x ++ last_chunk) is ∙ append_assoc (opening_text v.kind o) (look_frames v.kind b o.stands (looks_of gs)) last_chunk,
    ),
  )

  -- once who holds it has ended it
  is_ended : (read text : List ℕ) (d : Deed S) (v : View) (b : Bool) (at : WatchStanding) → AtWatch read d v b (Some at) text
      → AtWatch read d v b None (text ++ last_chunk)
  is_ended read text deeds.nothing v b at watch = absurd watch
  is_ended read text (deeds.refused x) v b at watch = absurd watch
  is_ended read text (deeds.answered moment x y z) v b at watch = absurd watch
  is_ended read text (deeds.watched x y o gs) v b at (options, asks, marks, given, ((lasts, revision, idle), is)) = (
    options,
    asks,
    marks,
    given,
    (inr lasts, ap (λ x. x ++ last_chunk) is ∙ append_assoc (opening_text v.kind o) (look_frames v.kind b o.stands (looks_of gs)) last_chunk),
  )

  -- ---- where its connection stands then

  adds_stand : (w : Watching) (more : List ℕ) (at : Option WatchStanding) (result : ConnectionPhase) (read written : List ℕ) (d : Deed S)
      → AtWatch read d (view_of w.view) w.bookmarks at ((written ++ unwritten w) ++ more) → Adds w more at result
      → Stands calls lists begins watches result read written d
  adds_stand w more at (phase.Watching u) read written d watch ((view, bookmarks, at_once), is, out, bounded) =
      let all : written ++ unwritten u ≡ (written ++ unwritten w) ++ more = ap (λ t. written ++ t) out ∙ sym (append_assoc written (unwritten w) more) in
      let now = subst (λ x. AtWatch read d (view_of x) u.bookmarks u.at (written ++ unwritten u)) (sym view)
      (subst (λ b. AtWatch read d (view_of w.view) b u.at (written ++ unwritten u)) (sym bookmarks)
      (subst (λ a. AtWatch read d (view_of w.view) w.bookmarks a (written ++ unwritten u)) (sym is)
      (subst (AtWatch read d (view_of w.view) w.bookmarks at) (sym all) watch))) in
      (now, bounded)
  adds_stand w more at (phase.Closing s) read written d watch by =
      watch_closes calls lists begins watches read written (unwritten w ++ more) ((written ++ unwritten w) ++ more) d (view_of w.view) w.bookmarks at s watch
      (sym (append_assoc written (unwritten w) more))
  adds_stand w more at (phase.Reading a) read written d watch never = absurd never
  adds_stand w more at (phase.Asked a) read written d watch never = absurd never
  adds_stand w more at phase.Answering read written d watch never = absurd never
  adds_stand w more at (phase.Replying r) read written d watch never = absurd never
  adds_stand w more at (phase.Listing l) read written d watch never = absurd never

  module _ (w : Watching) (s t : S) (result : ConnectionPhase) (read written : List ℕ) (d : Deed S) (stands : Stands calls lists begins watches (phase.Watching w) read written d) where
    abbrev After : Type 0
    After = (e : Deed S) × IsLookedOn d s t e × Stands calls lists begins watches result read written e

    before : (at : WatchStanding) → w.at ≡ Some at → AtWatch read d (view_of w.view) w.bookmarks (Some at) (written ++ unwritten w)
    before at here = subst (λ a. AtWatch read d (view_of w.view) w.bookmarks a (written ++ unwritten w)) here stands.0

    shows_stand : (at : WatchStanding) → w.at ≡ Some at → at.idle < most_idle → (look : Look) → watches s (view_of w.view) at.revision most_events look t → Shows w at look result → After
    shows_stand at here short (Ok x) given (next, stood, adds) =
        let frames = look_frames (view_of w.view).kind w.bookmarks at.revision (Ok x ∷ []) in
        let e = with_look d (record { before = s; look = Ok x; after = t }) in (
          e,
          inr (Ok x, refl),
          adds_stand w frames (Some next) result read written e
              (goes_on s t read (written ++ unwritten w) frames d (view_of w.view) w.bookmarks at next x (before at here) short given refl stood) adds,
        )
    shows_stand at here short (Err f) given adds =
        let frames = look_frames (view_of w.view).kind w.bookmarks at.revision (Err f ∷ []) in
        let e = with_look d (record { before = s; look = Err f; after = t }) in (
          e,
          inr (Err f, refl),
          adds_stand w (frames ++ last_chunk) None result read written e
              (is_over s t read (written ++ unwritten w) frames d (view_of w.view) w.bookmarks at f (before at here) short given refl) adds,
        )

    -- where the connection of a watch stands once it was given a look
    pub look_stands : (at : Option WatchStanding) → w.at ≡ at → LooksFrom watches w s t at result → After
    look_stands None here (same, is) = (d, inl (refl, same), subst (λ p. Stands calls lists begins watches p read written d) (sym is) stands)
    look_stands (Some at) here (inl (over, same, adds)) =
        (d, inl (refl, same), adds_stand w last_chunk None result read written d (idles_out read (written ++ unwritten w) d (view_of w.view) w.bookmarks at (before at here) over) adds)
    look_stands (Some at) here (inr (short, (look, given, shows))) = shows_stand at here short look given shows

  -- and once it was ended
  pub end_stands : (w : Watching) (result : ConnectionPhase) (read written : List ℕ) (d : Deed S) → Stands calls lists begins watches (phase.Watching w) read written d → (at : Option WatchStanding) → w.at ≡ at
      → EndsFrom w at result → Stands calls lists begins watches result read written d
  end_stands w result read written d stands None here is = subst (λ p. Stands calls lists begins watches p read written d) (sym is) stands
  end_stands w result read written d stands (Some at) here adds =
      let before = subst (λ a. AtWatch read d (view_of w.view) w.bookmarks a (written ++ unwritten w)) here stands.0 in
      adds_stand w last_chunk None result read written d (is_ended read (written ++ unwritten w) d (view_of w.view) w.bookmarks at before) adds

-- ---- what may stand

pub adds_led : (w : Watching) (more : List ℕ) (at : Option WatchStanding) (p : ConnectionPhase) → Adds w more at p → MayStand p
adds_led w more at (phase.Watching u) adds = ∣ tt ∣₁
adds_led w more at (phase.Closing s) adds = ∣ tt ∣₁
adds_led w more at (phase.Reading a) never = absurd never
adds_led w more at (phase.Asked a) never = absurd never
adds_led w more at phase.Answering never = absurd never
adds_led w more at (phase.Replying r) never = absurd never
adds_led w more at (phase.Listing l) never = absurd never

shows_led : (w : Watching) (at : WatchStanding) (look : Look) (p : ConnectionPhase) → Shows w at look p → MayStand p
shows_led w at (Ok x) p (next, stood, adds) = adds_led w (look_frames (view_of w.view).kind w.bookmarks at.revision (Ok x ∷ [])) (Some next) p adds
shows_led w at (Err f) p adds = adds_led w (ended_frames (view_of w.view).kind w.bookmarks at.revision (Err f ∷ [])) None p adds

pub looks_led : {S : Type 0} (watches : S → View → ℕ → ℕ → Look → S → Type 0) (w : Watching) (s t : S) (at : Option WatchStanding) (p : ConnectionPhase) → LooksFrom watches w s t at p → MayStand p
looks_led watches w s t None p (same, is) = subst MayStand (sym is) ∣ tt ∣₁
looks_led watches w s t (Some at) p (inl (over, same, adds)) = adds_led w last_chunk None p adds
looks_led watches w s t (Some at) p (inr (short, (look, given, shows))) = shows_led w at look p shows

pub ends_led : (w : Watching) (at : Option WatchStanding) (p : ConnectionPhase) → EndsFrom w at p → MayStand p
ends_led w None p is = subst MayStand (sym is) ∣ tt ∣₁
ends_led w (Some at) p adds = adds_led w last_chunk None p adds
