-- Where a connection stands after a step.
use Rattle.std.proofs.Common.{◌≡◌, ◌⊎◌, ◌≤◌, ℕ, List, [], ◌++◌, take, drop, Bool, true, Option, Some, None, Result, Ok, inl, inr, refl, sym, ap, subst, ◌∙◌, append_assoc, append-nil, length, length-append, nat_lt, arith}
use Rattle.std.proofs.Math.Seq.{take_all}
use Rattle.std.proofs.lemmas.List.{take-append-drop}
use Rattle.std.proofs.KnownBytes.{Consumes-nil, Appends-nil}
use Rattle.std.specs.Io.KnownBytes.{Appends}
use Rattle.spec_api.specs.ListQueries.{ListOptions}
use Rattle.spec_api.specs.History.{View}
use Rattle.spec_api.specs.ObjectRequests.{Request}
use Rattle.spec_api.specs.Refusals.{Refusal}
use Rattle.spec_api.specs.Targets as targets
use Rattle.spec_api.specs.Verbs.{Outcome}
use Rattle.spec_api.specs.Versions.{Listed}
use Rattle.spec_http.specs.Connections.{Asks}
use Rattle.selector.specs.Views.{view_of}
use Rattle.http_watch.specs.Opened.{opening_of}
use Rattle.http_watch.specs.Watches.{Look, Opens, opening_text}
use Rattle.http_watch.specs.declared.standing.WatchStanding.{WatchStanding}
use Rattle.api.specs.Responding.{text_of, Replies, RepliesList, OpensWatch, Responds}
use Rattle.api.specs.declared.response.OpenWatch.{OpenWatch}
use Rattle.api.specs.declared.response.Response.{Response}
use Rattle.api.specs.declared.response.Response.TheVariants as response
use Rattle.api.specs.declared.served.Served.{Served}
use Rattle.api.specs.declared.served.Served.TheVariants as served
use Rattle.http_connection.specs.declared.arriving.Arriving.{Arriving}
use Rattle.http_connection.specs.declared.phase.ConnectionPhase.{ConnectionPhase}
use Rattle.http_connection.specs.declared.phase.ConnectionPhase.TheVariants as phase
use Rattle.http_connection.specs.declared.listing.Listing.{Listing}
use Rattle.http_connection.specs.declared.replying.Replying.{Replying}
use Rattle.http_connection.specs.declared.watching.Watching.{Watching}
use Rattle.http_connection.specs.Arriving.{IsArriving, Arrives, MayStand, ReadsOn}
use Rattle.http_connection.specs.Deeds as deeds
use Rattle.http_connection.specs.Deeds.{Deed, IsDone, IsKept}
use Rattle.http_connection.specs.Lists.{list_left, ListsOn}
use Rattle.http_connection.specs.Phases.{IfOver, IsServedBy, IsReply, IsWatch, IsToBeWritten, IsWhole, MayClose, Stands, Turns}
use Rattle.http_connection.specs.Sending.{IsBegun, RepliesOn, WatchCloses, WatchesOn}
use Rattle.http_connection.specs.Watches.{unwritten, IsBounded}

not_asked : (s : Served) → s ≡ served.NotAsked → s ≡ served.Asked → ⊥
not_asked s a b = cc

module _ {S : Type 0} (calls : S → Request → List ℕ → Outcome → S → Type 0) (lists : S → View → ListOptions → Outcome → S → Type 0)
    (begins : S → View → Option ℕ → Result Listed Refusal → S → Type 0) (watches : S → View → ℕ → ℕ → Look → S → Type 0) where
  abbrev AtPhase : ConnectionPhase → List ℕ → List ℕ → Deed S → Type 0
  AtPhase = Stands calls lists begins watches

  -- ---- requests

  -- what was read, and nothing written
  pub arrives_stand : (no_more : Bool) (read : List ℕ) (p : ConnectionPhase) → Arrives no_more read p → (e : Deed S) × IsKept deeds.nothing e × AtPhase p read [] e
  arrives_stand no_more read (phase.Reading a) is = (deeds.nothing, inl refl, (is, refl, refl))
  arrives_stand no_more read (phase.Asked a) is = (deeds.nothing, inl refl, (is, refl, refl))
  arrives_stand no_more read phase.Answering is = absurd is
  arrives_stand no_more read (phase.Replying r) (refuses, none, not) =
      let text = text_of r.text in
      (deeds.refused text, inr (refl, (text, refl)), ((refl, refuses), ap (λ n. take n text) (sym none), λ asked. absurd (not_asked r.served not asked)))
  arrives_stand no_more read (phase.Listing l) is = absurd is
  arrives_stand no_more read (phase.Watching w) is = absurd is
  arrives_stand no_more read (phase.Closing s) is = (deeds.nothing, inl refl, (([], [], inl (refl, refl), refl), λ asked. absurd (not_asked s is.0 asked)))

  -- a reply to what was asked
  reply_stands : (a : targets.Asked) (moment : List ℕ) (s t : S) (read : List ℕ) (r : Replying) → Asks read (Some (Ok a)) → Replies calls lists begins watches moment s t (Ok a) (text_of r.text)
      → r.taken ≡ 0 → (e : Deed S) × IsDone moment s t e × AtPhase (phase.Replying r) read [] e
  reply_stands a moment s t read r asks replies none =
      let text = text_of r.text in
      (deeds.answered moment s t text, inl (text, refl), ((refl, (a, asks, replies)), ap (λ n. take n text) (sym none), λ asked. (a, asks)))

  -- a list that is made as it is written
  list_stands : (a : targets.Asked) (moment : List ℕ) (s t : S) (read bytes : List ℕ) (l : Listing) → Asks read (Some (Ok a)) → RepliesList calls lists begins watches moment s t (Ok a) bytes
      → l.out.items ≡ [] → l.taken ≡ 0 → l.rest ≡ bytes → (e : Deed S) × IsDone moment s t e × AtPhase (phase.Listing l) read [] e
  list_stands (targets.request q) moment s t read bytes l asks replies nothing none rest = absurd replies
  list_stands (targets.list v options) moment s t read bytes l asks replies nothing none rest =
      let whole : list_left l ≡ bytes = ap (λ n. drop n l.out.items ++ l.rest) none ∙ ap (λ t. t ++ l.rest) nothing ∙ rest in
      (deeds.answered moment s t bytes, inl (bytes, refl), ((whole, (targets.list v options, asks, replies)), λ asked. (targets.list v options, asks)))
  list_stands (targets.watch v options) moment s t read bytes l asks replies nothing none rest = absurd replies

  -- a watch that has opened
  opens_stand : (a : targets.Asked) (moment : List ℕ) (s t : S) (read : List ℕ) (w : OpenWatch) (u : Watching) → Asks read (Some (Ok a)) → OpensWatch calls lists begins watches moment s t (Ok a) w
      → u.view ≡ w.view → u.bookmarks ≡ w.bookmarks → u.at ≡ Some w.opened.at → u.out.items ≡ w.opened.text.items → u.taken ≡ 0 → u.rest ≡ w.opened.rest → u.later.items ≡ [] → u.at_once ≡ length u.out.items
      → (e : Deed S) × IsDone moment s t e × AtPhase (phase.Watching u) read [] e
  opens_stand (targets.request q) moment s t read w u asks opens view marks at out none same_rest nothing size = absurd opens
  opens_stand (targets.list v options) moment s t read w u asks opens view marks at out none same_rest nothing size = absurd opens
  opens_stand (targets.watch v options) moment s t read w u asks (view, bookmarks, (o, opens, stands, idle, text)) same_view same_bookmarks same_at same_out none same_rest nothing size =
      let seen : v ≡ view_of u.view = sym view ∙ ap view_of (sym same_view) in
      let marks : options.bookmarks ≡ u.bookmarks = sym bookmarks ∙ sym same_bookmarks in
      let given = subst (λ x. Opens begins watches x u.bookmarks s options.start (Ok o) t) seen (subst (λ b. Opens begins watches v b s options.start (Ok o) t) marks opens) in
      let first : drop u.taken u.out.items ≡ u.out.items = ap (λ n. drop n u.out.items) none in
      let rest : u.rest ++ u.later.items ≡ w.opened.rest = ap (λ t. u.rest ++ t) nothing ∙ append-nil u.rest ∙ same_rest in
      let whole : unwritten u ≡ opening_of w.opened =
      ap (λ t. t ++ (u.rest ++ u.later.items)) (first ∙ same_out) ∙ ap (λ t. w.opened.text.items ++ t) rest in
      let out : unwritten u ≡ opening_text (view_of u.view).kind o ++ [] =
      whole ∙ text ∙ ap (λ x. opening_text x.kind o) seen ∙ sym (append-nil (opening_text (view_of u.view).kind o)) in
      let deed : Deed S = deeds.watched s t o [] in
      let watch = subst (λ at. IsWatch calls lists begins watches read deed (view_of u.view) u.bookmarks at (unwritten u)) (sym same_at)
      (options, subst (λ x. Asks read (Some (Ok (targets.watch x options)))) seen asks, sym marks, (given, tt), ((tt, stands, idle), out)) in
      let bounded : IsBounded u = omega (arith, ap length first, size, ap length nothing, length-append (drop u.taken u.out.items) u.later.items) in
      (deed, inr (o, refl), (watch, bounded))

  -- what is to be written for what was asked
  pub answer_stands : (a : targets.Asked) (moment : List ℕ) (s t : S) (read : List ℕ) (x : Response) (p : ConnectionPhase) → Asks read (Some (Ok a)) → Responds calls lists begins watches moment s t (Some (Ok a)) x
      → IsToBeWritten x p → (e : Deed S) × IsDone moment s t e × AtPhase p read [] e
  answer_stands a moment s t read response.Nothing p asks responds is = absurd responds
  answer_stands a moment s t read (response.Reply x) p asks responds (r, is, text, none, came) =
      subst (λ q. (e : Deed S) × IsDone moment s t e × AtPhase q read [] e) (sym is)
      (reply_stands a moment s t read r asks (subst (λ y. Replies calls lists begins watches moment s t (Ok a) (text_of y)) (sym text) responds) none)
  answer_stands a moment s t read (response.List x) p asks responds (l, is, nothing, none, rest) =
      subst (λ q. (e : Deed S) × IsDone moment s t e × AtPhase q read [] e) (sym is) (list_stands a moment s t read x l asks responds nothing none rest)
  answer_stands a moment s t read (response.Watch x) p asks responds (w, is, view, bookmarks, at, out, none, rest, nothing, size) =
      subst (λ q. (e : Deed S) × IsDone moment s t e × AtPhase q read [] e) (sym is)
      (opens_stand a moment s t read x w asks responds view bookmarks at (ap (λ v. v.items) out) none rest nothing size)

  -- ---- what is written

  -- some more was written of what a connection is to be written, which then stands here; and this is why it is closed, if it is
  abbrev Goes : Option (List ℕ) → Option (List ℕ) → ConnectionPhase → List ℕ → List ℕ → Deed S → (List ℕ → Type 0) → Type 0
  Goes before after q read written d closes = (put : List ℕ) × Appends before after put × AtPhase q read (written ++ put) d × IfOver q (closes (written ++ put))

  abbrev Closes : Bool → List ℕ → Deed S → List ℕ → Type 0
  Closes no_room read d written = (no_room ≡ true) ⊎ IsWhole calls lists begins watches read d written

  pub replies_stand : (no_room : Bool) (before after : Option (List ℕ)) (r : Replying) (result : ConnectionPhase) (read written : List ℕ) (d : Deed S) → RepliesOn no_room before after r result
      → AtPhase (phase.Replying r) read written d → Goes before after result read written d (Closes no_room read d)
  replies_stand no_room before after r (phase.Replying q) read written d (n, (put, appends, is), (same, to, by)) (reply, so_far, came) =
      let text = text_of r.text in (
        put,
        appends,
        (
          subst (IsReply calls lists begins watches read d) (sym same) reply,
          ap (λ t. t ++ put) so_far ∙ is ∙ ap (λ m. take m text) (sym to) ∙ ap (take q.taken) (sym same),
          subst (IsServedBy read) (sym by) came,
        ),
        tt,
      )
  replies_stand no_room before after r (phase.Closing s) read written d (n, (put, appends, is), (by, why)) (reply, so_far, came) =
      let text = text_of r.text in
      let all : written ++ put ≡ take n text = ap (λ t. t ++ put) so_far ∙ is in (
        put,
        appends,
        ((text, drop n text, inr (inl reply), ap (λ t. t ++ drop n text) all ∙ take-append-drop n text), subst (IsServedBy read) (sym by) came),
        reason all why,
      )
    where
      reason : written ++ put ≡ take n (text_of r.text) → (no_room ≡ true) ⊎ (length (text_of r.text) ≤ n) → Closes no_room read d (written ++ put)
      reason all (inl stopped) = inl stopped
      reason all (inr far) = inr (inl (subst (IsReply calls lists begins watches read d) (sym (all ∙ take_all n (text_of r.text) far)) reply))
  replies_stand no_room before after r (phase.Reading a) read written d (n, sent, never) stands = absurd never
  replies_stand no_room before after r (phase.Asked a) read written d (n, sent, never) stands = absurd never
  replies_stand no_room before after r phase.Answering read written d (n, sent, never) stands = absurd never
  replies_stand no_room before after r (phase.Listing l) read written d (n, sent, never) stands = absurd never
  replies_stand no_room before after r (phase.Watching w) read written d (n, sent, never) stands = absurd never

  -- a watch asks what its bytes ask
  watch_served : (read text : List ℕ) (d : Deed S) (v : View) (bookmarks : Bool) (at : Option WatchStanding) (s : Served) → IsWatch calls lists begins watches read d v bookmarks at text → IsServedBy read s
  watch_served read text deeds.nothing v bookmarks at s watch = absurd watch
  watch_served read text (deeds.refused x) v bookmarks at s watch = absurd watch
  watch_served read text (deeds.answered moment before after x) v bookmarks at s watch = absurd watch
  watch_served read text (deeds.watched before after o gs) v bookmarks at s watch = λ asked. (targets.watch v watch.0, watch.1)

  -- a watch that is left
  pub watch_closes : (read written left text : List ℕ) (d : Deed S) (v : View) (bookmarks : Bool) (at : Option WatchStanding) (s : Served) → IsWatch calls lists begins watches read d v bookmarks at text
      → written ++ left ≡ text → AtPhase (phase.Closing s) read written d
  watch_closes read written left text d v bookmarks at s watch is = ((text, left, inr (inr (v, bookmarks, at, watch)), is), watch_served read text d v bookmarks at s watch)

  abbrev ClosesWatch : Bool → Watching → List ℕ → Deed S → List ℕ → Type 0
  ClosesWatch no_room w read d written = (no_room ≡ true) ⊎ IsWhole calls lists begins watches read d written ⊎ (nat_lt 0 (length w.rest) ≡ true)

  pub watches_stand : (no_room : Bool) (before after : Option (List ℕ)) (w : Watching) (result : ConnectionPhase) (read written : List ℕ) (d : Deed S) → WatchesOn no_room before after w result
      → AtPhase (phase.Watching w) read written d → Goes before after result read written d (ClosesWatch no_room w read d)
  watches_stand no_room before after w (phase.Watching u) read written d h (stands, bounded) =
      let all : (written ++ h.put) ++ unwritten u ≡ written ++ unwritten w = append_assoc written h.put (unwritten u) ∙ ap (λ t. written ++ t) h.rest in
      (h.put, h.appends, (moved w u ((written ++ h.put) ++ unwritten u) (written ++ unwritten w) h.same.0 h.same.1 h.at all stands, h.bounded bounded), tt)
    where
      moved : (w u : Watching) (new old : List ℕ) → u.view ≡ w.view → u.bookmarks ≡ w.bookmarks → u.at ≡ w.at → new ≡ old
          → IsWatch calls lists begins watches read d (view_of w.view) w.bookmarks w.at old → IsWatch calls lists begins watches read d (view_of u.view) u.bookmarks u.at new
      moved w u new old view bookmarks at same watch =
          subst (λ x. IsWatch calls lists begins watches read d (view_of x) u.bookmarks u.at new) (sym view)
          (subst (λ b. IsWatch calls lists begins watches read d (view_of w.view) b u.at new) (sym bookmarks)
          (subst (λ a. IsWatch calls lists begins watches read d (view_of w.view) w.bookmarks a new) (sym at)
          (subst (IsWatch calls lists begins watches read d (view_of w.view) w.bookmarks w.at) (sym same) watch)))
  watches_stand no_room before after w (phase.Closing s) read written d (by, why) (stands, bounded) = left why
    where
      -- some of what is to be written was
      begun : IsBegun before after w → ((text : List ℕ) → ClosesWatch no_room w read d text) → Goes before after (phase.Closing s) read written d (ClosesWatch no_room w read d)
      begun (put, left, appends, is) closes =
          let all : (written ++ put) ++ left ≡ written ++ unwritten w = append_assoc written put left ∙ ap (λ t. written ++ t) is in
          (put, appends, watch_closes read (written ++ put) left (written ++ unwritten w) d (view_of w.view) w.bookmarks w.at s stands all, closes (written ++ put))

      left : WatchCloses no_room before after w → Goes before after (phase.Closing s) read written d (ClosesWatch no_room w read d)
      left (inl (stopped, some)) = begun some (λ text. inl stopped)
      left (inr (inl (over, all))) =
          let text = written ++ unwritten w in
          let whole = subst (λ a. IsWatch calls lists begins watches read d (view_of w.view) w.bookmarks a text) over stands in
          (unwritten w, all, watch_closes read text [] text d (view_of w.view) w.bookmarks w.at s stands (append-nil text), inr (inl (inr (view_of w.view, w.bookmarks, whole))))
      left (inr (inr (still, some))) = begun some (λ text. inr (inr still))
  watches_stand no_room before after w (phase.Reading a) read written d never stands = absurd never
  watches_stand no_room before after w (phase.Asked a) read written d never stands = absurd never
  watches_stand no_room before after w phase.Answering read written d never stands = absurd never
  watches_stand no_room before after w (phase.Replying r) read written d never stands = absurd never
  watches_stand no_room before after w (phase.Listing l) read written d never stands = absurd never

  pub lists_stand : (no_room : Bool) (before after : Option (List ℕ)) (l : Listing) (result : ConnectionPhase) (read written : List ℕ) (d : Deed S) → ListsOn no_room before after l result
      → AtPhase (phase.Listing l) read written d → Goes before after result read written d (Closes no_room read d)
  lists_stand no_room before after l (phase.Listing m) read written d (put, appends, is) (reply, came) =
      let all : written ++ list_left l ≡ (written ++ put) ++ list_left m = ap (λ t. written ++ t) (sym is) ∙ sym (append_assoc written put (list_left m)) in
      (put, appends, (subst (IsReply calls lists begins watches read d) all reply, came), tt)
  lists_stand no_room before after l (phase.Closing s) read written d (by, inl (put, appends, is)) (reply, came) =
      let all : (written ++ put) ++ [] ≡ written ++ list_left l = append_assoc written put [] ∙ ap (λ t. written ++ t) is in
      let whole = subst (IsReply calls lists begins watches read d) (sym all ∙ append-nil (written ++ put)) reply in
      (put, appends, ((written ++ list_left l, [], inr (inl reply), all), subst (IsServedBy read) (sym by) came), inr (inl whole))
  lists_stand no_room before after l (phase.Closing s) read written d (by, inr (stopped, (left, (put, appends, is)))) (reply, came) =
      let all : (written ++ put) ++ left ≡ written ++ list_left l = append_assoc written put left ∙ ap (λ t. written ++ t) is in
      (put, appends, ((written ++ list_left l, left, inr (inl reply), all), subst (IsServedBy read) (sym by) came), inl stopped)
  lists_stand no_room before after l (phase.Reading a) read written d never stands = absurd never
  lists_stand no_room before after l (phase.Asked a) read written d never stands = absurd never
  lists_stand no_room before after l phase.Answering read written d never stands = absurd never
  lists_stand no_room before after l (phase.Replying r) read written d never stands = absurd never
  lists_stand no_room before after l (phase.Watching w) read written d never stands = absurd never

  -- ---- turns

  -- what says nothing of a phase that goes on, says nothing of more
  if_over : (q : ConnectionPhase) (P Q : Type 0) → (P → Q) → IfOver q P → IfOver q Q
  if_over (phase.Reading a) P Q more is = tt
  if_over (phase.Asked a) P Q more is = tt
  if_over phase.Answering P Q more is = tt
  if_over (phase.Replying r) P Q more is = tt
  if_over (phase.Listing l) P Q more is = tt
  if_over (phase.Watching w) P Q more is = tt
  if_over (phase.Closing s) P Q more is = more is

  -- nothing is read
  pub nothing_read : (no_more no_room : Bool) (unread held holds : Option (List ℕ)) (before after : ConnectionPhase)
      → ((read written : List ℕ) (d : Deed S) → AtPhase before read written d → Goes held holds after read written d (MayClose calls lists begins watches no_more no_room before read d))
      → Turns calls lists begins watches no_more no_room unread unread held holds before after
  nothing_read no_more no_room unread held holds before after goes read written d stands =
      let w = goes read written d stands in
      let same : read ≡ read ++ [] = sym (append-nil read) in (
        [],
        w.0,
        d,
        inl refl,
        Consumes-nil unread,
        w.1,
        subst (λ r. AtPhase after r (written ++ w.0) d) same w.2,
        subst (λ r. IfOver after (MayClose calls lists begins watches no_more no_room before r d (written ++ w.0))) same w.3,
      )

  -- nothing happens
  pub nothing_done : (no_more no_room : Bool) (unread held : Option (List ℕ)) (p : ConnectionPhase)
      → ((read written : List ℕ) (d : Deed S) → IfOver p (MayClose calls lists begins watches no_more no_room p read d written)) → Turns calls lists begins watches no_more no_room unread unread held held p p
  nothing_done no_more no_room unread held p closes =
      nothing_read no_more no_room unread held held p p (λ read written d stands. ([], Appends-nil held, subst (λ t. AtPhase p read t d) (sym (append-nil written)) stands, closes read (written ++ []) d))

  -- half a request, or a refusal, is closed for a reason
  abbrev Ends : Bool → Bool → ConnectionPhase → List ℕ → List ℕ → Deed S → Type 0
  Ends no_more no_room p read put e = IfOver p (((no_more ≡ true) × Asks read None × (e ≡ deeds.nothing)) ⊎ ((text : List ℕ) × (e ≡ deeds.refused text) × Closes no_room read e put))

  -- a request is read, and what comes of it is written as far as it goes
  pub request_read : (no_more no_room : Bool) (unread left held holds : Option (List ℕ)) (a : Arriving) (mid after : ConnectionPhase) → ((read : List ℕ) → IsArriving a read → ReadsOn no_more unread left read mid)
      → ((read : List ℕ) → Arrives no_more read mid → (put : List ℕ) × (e : Deed S) × IsKept deeds.nothing e × Appends held holds put × AtPhase after read put e × Ends no_more no_room after read put e)
      → Turns calls lists begins watches no_more no_room unread left held holds (phase.Reading a) after
  request_read no_more no_room unread left held holds a mid after reads writes read written d (arriving, none, nothing) =
      let r = reads read arriving in
      let w = writes (read ++ r.0) r.2 in
      let all : w.0 ≡ written ++ w.0 = ap (λ x. x ++ w.0) (sym none) in (
        r.0,
        w.0,
        w.1,
        subst (λ x. IsKept x w.1) (sym nothing) w.2,
        r.1,
        w.3,
        subst (λ x. AtPhase after (read ++ r.0) x w.1) all w.4,
        subst (λ x. Ends no_more no_room after (read ++ r.0) x w.1) all w.5,
      )

  -- what comes of it is a reply that refuses it
  pub refuses : (no_more no_room : Bool) (held holds : Option (List ℕ)) (r : Replying) (result : ConnectionPhase) (read : List ℕ) → RepliesOn no_room held holds r result → Arrives no_more read (phase.Replying r)
      → (put : List ℕ) × (e : Deed S) × IsKept deeds.nothing e × Appends held holds put × AtPhase result read put e × Ends no_more no_room result read put e
  refuses no_more no_room held holds r result read replies is =
      let e : Deed S = deeds.refused (text_of r.text) in
      let stands : AtPhase (phase.Replying r) read [] e =
      ((refl, is.0), ap (λ n. take n (text_of r.text)) (sym is.1), λ asked. absurd (not_asked r.served is.2 asked)) in
      let w = replies_stand no_room held holds r result read [] e replies stands in
      (w.0, e, inr (refl, (text_of r.text, refl)), w.1, w.2, if_over result (Closes no_room read e w.0) _ (λ why. inr (text_of r.text, refl, why)) w.3)

  -- it is no refusal
  pub no_reply : (no_more no_room : Bool) (held : Option (List ℕ)) (p : ConnectionPhase) (read : List ℕ) → Arrives no_more read p
      → (put : List ℕ) × (e : Deed S) × IsKept deeds.nothing e × Appends held held put × AtPhase p read put e × Ends no_more no_room p read put e
  unfolding arrives_stand
  no_reply no_more no_room held p read is =
      let w = arrives_stand no_more read p is in
      ([], w.0, w.1, Appends-nil held, w.2, closes p is)
    where
      closes : (p : ConnectionPhase) (is : Arrives no_more read p) → Ends no_more no_room p read [] (arrives_stand no_more read p is).0
      closes (phase.Reading a) is = tt
      closes (phase.Asked a) is = tt
      closes phase.Answering is = tt
      closes (phase.Replying r) is = tt
      closes (phase.Listing l) is = tt
      closes (phase.Watching w) is = tt
      closes (phase.Closing s) is = inl (is.1, is.2, refl)

  -- ---- what may stand

  pub written_led : (x : Response) (p : ConnectionPhase) → IsToBeWritten x p → MayStand p
  written_led response.Nothing p is = subst MayStand (sym is) ∣ tt ∣₁
  written_led (response.Reply x) p (r, is, text, none, came) = subst MayStand (sym is) ∣ tt ∣₁
  written_led (response.List x) p (l, is, nothing, none, rest) = subst MayStand (sym is) ∣ tt ∣₁
  written_led (response.Watch x) p (w, is, view, bookmarks, at, out, none, rest, nothing, size) = subst MayStand (sym is) ∣ tt ∣₁
