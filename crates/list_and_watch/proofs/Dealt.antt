-- What a follower asks of a server, and what it makes of the answers, as steps.
use Rattle.std.proofs.Common.{◌≡◌, inl, inr, ℕ, Bool, true, false, List, Option, Some, None, option_map, option_and_then, is_some, IsSome, refl, sym, ap, ◌∙◌, subst}
use Rattle.spec_api.specs.declared.kinds.Kind.{Kind}
use Rattle.spec_server.specs.Snapshots.{Snapshot}
use Rattle.spec_client_go.specs.Reflectors.{asks, list_of}
use Rattle.spec_client_go.specs.Shifts.{Shift}
use Rattle.spec_client_go.specs.declared.reflectors.Ask.TheVariants as ask_for
use Rattle.http_client.specs.Waits.{milliseconds_asked}
use Rattle.http_client.specs.declared.answer.Answer.{Answer}
use Rattle.http_client.specs.declared.more.More.{More}
use Rattle.reflector.specs.declared.faults.ListFault.TheVariants as fault
use Rattle.api_client.specs.Exchanges.{Exchange, list, first, watch, stream, read, understood, not_understood, piece_in}
use Rattle.api_client.specs.declared.opened.Opened.{Opened}
use Rattle.list_and_watch.specs.Answered.{body_in, listed_in, after_opened, after_stream_opened, IsPieceTaken, RefusesAnswer}
use Rattle.list_and_watch.specs.Exchanged.{Dealings, idle, left_for, watching, closed, noted, note_of, note_of_list, note_of_first, note_of_piece, is_answered, after_exchange, dealings_after, dealings_at, after_piece, after_recognized, recognized_by, at_opened, at_piece, MayAsk, Notes, IsNoted, Says, IsFound, unasked, asked}
use Rattle.list_and_watch.specs.Followers.{Follower, after_list, after_cut}
use Rattle.list_and_watch.specs.Gone.{Deals, GoesOn, MovesOn}
use Rattle.list_and_watch.specs.Told.{Told, exchange, cut, tell}
use Rattle.list_and_watch.specs.declared.causes.Cause.{Cause}
use Rattle.list_and_watch.specs.declared.onward.Onward.{Onward}
use Rattle.list_and_watch.specs.declared.recognizing.Recognized.{Recognized}
use Rattle.list_and_watch.specs.declared.tries.Piece.{Piece}
use Rattle.list_and_watch.specs.declared.tries.Piece.TheVariants as piece
use Rattle.list_and_watch.proofs.Joined.{goes, still}

-- a body that is a list was understood
body_understood : (k : Kind) (o : Option (List ℕ)) → IsSome (option_and_then (list_of k) o) → option_map (note_of (is_some (option_and_then (list_of k) o))) o ≡ Some understood
body_understood k None some = cc
body_understood k (Some body) some = ap (λ b. Some (note_of b body)) some

list_understood : (k : Kind) (a : Answer) → IsSome (listed_in k a) → note_of_list k a ≡ Some understood
list_understood k a some = body_understood k (body_in a) some

not_list : (k : Kind) (a : Answer) → listed_in k a ≡ None → note_of_list k a ≡ option_map (note_of false) (body_in a)
not_list k a none = ap (λ o. option_map (note_of (is_some o)) (body_in a)) none

nothing_due : (d : Dealings) → d.due ≡ None → noted d ≡ d
nothing_due d none = sym (λ i. record { is_open = d.is_open; milliseconds = d.milliseconds; due = none i })

module _ {S A : Type 0} (takes refuses : S → List Shift → Snapshot → Cause → S → Type 0) (answers : S → Onward → S → Type 0) (hears : S → S → Type 0) (exchanges : A → Exchange → A → Type 0) (k : Kind) where
  state : Option (List Shift) → Cause → Follower → Dealings → Told
  state owed cause f d = record { follower = f; owed = owed; cause = cause; dealings = d }

  pub moves_both : (f g h : Follower) (d e i : Dealings) (a b c : S × A) → MovesOn (Deals takes refuses answers hears exchanges k) f d a g e b → MovesOn (Deals takes refuses answers hears exchanges k) g e b h i c → MovesOn (Deals takes refuses answers hears exchanges k) f d a h i c
  moves_both f g h d e i a b c one two owed cause n at start so = two owed cause n at start (one owed cause n at start so)

  -- ---- one step

  exchanges_one : (e : Exchange) (memory : Bool) (f g : Follower) (d i : Dealings) (b : S) (p q : A) → g ≡ after_exchange e memory f → i ≡ dealings_after e memory f d → MayAsk k f d e
      → exchanges p e q → MovesOn (Deals takes refuses answers hears exchanges k) f d (b, p) g i (b, q)
  exchanges_one e memory f g d i b p q is stands may now owed cause =
      goes (Deals takes refuses answers hears exchanges k) (exchange e memory) (record { follower = f; owed = owed; cause = cause; dealings = d }) (record { follower = g; owed = owed; cause = cause; dealings = i }) (b, p) (b, q)
      (sym (λ j. record { follower = is j; owed = owed; cause = cause; dealings = stands j })) (tt, refl, (may, now))

  pub cuts : (f g : Follower) (d : Dealings) (b : S × A) → g ≡ after_cut f → MovesOn (Deals takes refuses answers hears exchanges k) f d b g (closed d) b
  cuts f g d b is owed cause =
      goes (Deals takes refuses answers hears exchanges k) cut (record { follower = f; owed = owed; cause = cause; dealings = d }) (record { follower = g; owed = owed; cause = cause; dealings = closed d }) b b
      (sym (λ j. record { follower = is j; owed = owed; cause = cause; dealings = closed d })) (tt, refl, refl)

  pub hears_of : (f : Follower) (d : Dealings) (b c : S) (p : A) → hears b c → MovesOn (Deals takes refuses answers hears exchanges k) f d (b, p) f (noted d) (c, p)
  hears_of f d b c p heard owed cause =
      goes (Deals takes refuses answers hears exchanges k) tell (record { follower = f; owed = owed; cause = cause; dealings = d }) (record { follower = f; owed = owed; cause = cause; dealings = noted d }) (b, p) (c, p) refl
      (tt, heard, refl)

  stays_put : (f g : Follower) (d i : Dealings) (b : S) (p q : A) → g ≡ f → i ≡ d → q ≡ p → MovesOn (Deals takes refuses answers hears exchanges k) f d (b, p) g i (b, q)
  stays_put f g d i b p q same stands quiet owed cause =
      let t : Told = record { follower = f; owed = owed; cause = cause; dealings = d } in
      let u : Told = record { follower = g; owed = owed; cause = cause; dealings = i } in
      let here : u ≡ t = (λ j. record { follower = same j; owed = owed; cause = cause; dealings = stands j }) in
      subst (λ x. GoesOn (Deals takes refuses answers hears exchanges k) t (b, p) u (b, x)) (sym quiet) (still (Deals takes refuses answers hears exchanges k) t u (b, p) here)

  -- ---- notes

  note_one : (u : Bool) (bytes : List ℕ) (f : Follower) (d : Dealings) (b : S) (p q : A) → d.due ≡ Some (note_of u bytes) → exchanges p (note_of u bytes) q → MovesOn (Deals takes refuses answers hears exchanges k) f d (b, p) f (noted d) (b, q)
  note_one true bytes f d b p q due now = exchanges_one understood true f f d (noted d) b p q refl refl due now
  note_one false bytes f d b p q due now = exchanges_one (not_understood bytes) true f f d (noted d) b p q refl refl due now

  notes_body : (u : Bool) (body : Option (List ℕ)) (f : Follower) (d : Dealings) (b : S) (p q : A) → d.due ≡ option_map (note_of u) body → Notes exchanges (option_map (note_of u) body) p q
      → MovesOn (Deals takes refuses answers hears exchanges k) f d (b, p) f (noted d) (b, q)
  notes_body u None f d b p q due quiet = stays_put f f d (noted d) b p q refl (nothing_due d due) quiet
  notes_body u (Some bytes) f d b p q due now = note_one u bytes f d b p q due now

  notes_piece : (s : Piece) (bytes : List ℕ) (f : Follower) (d : Dealings) (b : S) (p q : A) → d.due ≡ note_of_piece s bytes → Notes exchanges (note_of_piece s bytes) p q
      → MovesOn (Deals takes refuses answers hears exchanges k) f d (b, p) f (noted d) (b, q)
  notes_piece piece.GoesOn bytes f d b p q due now = note_one true bytes f d b p q due now
  notes_piece piece.Expired bytes f d b p q due quiet = stays_put f f d (noted d) b p q refl (nothing_due d due) quiet
  notes_piece piece.Unreadable bytes f d b p q due now = note_one false bytes f d b p q due now
  notes_piece piece.Dropped bytes f d b p q due quiet = stays_put f f d (noted d) b p q refl (nothing_due d due) quiet

  -- ---- lists

  -- one was answered and taken in
  pub takes_list : (a : Answer) (f g : Follower) (b : S) (p m q : A) → asks f.reflector ≡ ask_for.List → exchanges p (list k a) m → IsSome (listed_in f.reflector.kind a)
      → g ≡ after_list (listed_in f.reflector.kind a) f → exchanges m understood q → MovesOn (Deals takes refuses answers hears exchanges k) f idle (b, p) g (left_for (milliseconds_asked a)) (b, q)
  takes_list a f g b p m q may came some is told =
      let due : Dealings = record { is_open = false; milliseconds = milliseconds_asked a; due = note_of_list f.reflector.kind a } in
      moves_both f g g idle due (left_for (milliseconds_asked a)) (b, p) (b, m) (b, q)
      (exchanges_one (list k a) true f g idle due b p m is refl (refl, refl, may) came)
      (exchanges_one understood true g g due (left_for (milliseconds_asked a)) b m q refl refl (list_understood f.reflector.kind a some) told)

  -- none was answered
  pub takes_no_list : (a : Answer) (f g : Follower) (b : S) (p m q : A) → asks f.reflector ≡ ask_for.List → exchanges p (list k a) m → listed_in f.reflector.kind a ≡ None → g ≡ f
      → Notes exchanges (option_map not_understood (body_in a)) m q → MovesOn (Deals takes refuses answers hears exchanges k) f idle (b, p) g (left_for (milliseconds_asked a)) (b, q)
  takes_no_list a f g b p m q may came none is told =
      let due : Dealings = record { is_open = false; milliseconds = milliseconds_asked a; due = note_of_list f.reflector.kind a } in
      moves_both f g g idle due (left_for (milliseconds_asked a)) (b, p) (b, m) (b, q)
      (exchanges_one (list k a) true f g idle due b p m (is ∙ ap (λ o. after_list o f) (sym none)) refl (refl, refl, may) came)
      (notes_body false (body_in a) g due b m q (not_list f.reflector.kind a none) told)

  -- there was no memory
  pub drops_list : (a : Answer) (f g : Follower) (b : S) (p q : A) → asks f.reflector ≡ ask_for.List → exchanges p (list k a) q → g ≡ f
      → MovesOn (Deals takes refuses answers hears exchanges k) f idle (b, p) g (left_for (milliseconds_asked a)) (b, q)
  drops_list a f g b p q may came is = exchanges_one (list k a) false f g idle (left_for (milliseconds_asked a)) b p q is refl (refl, refl, may) came

  -- ---- first objects

  said_moves : (a : Answer) (said : Recognized) (f : Follower) (b : S) (p m q : A) → exchanges p (first k f.informer.published.revision a) m
      → Says exchanges k f.informer.published m a said q → MovesOn (Deals takes refuses answers hears exchanges k) f idle (b, p) (after_recognized said f) (left_for (milliseconds_asked a)) (b, q)
  said_moves a said f b p m q came (inl (is, told)) =
      let r = f.informer.published.revision in
      let due : Dealings = record { is_open = false; milliseconds = milliseconds_asked a; due = note_of_first (recognized_by k r a f) a } in
      let g = after_recognized said f in
      moves_both f g g idle due (left_for (milliseconds_asked a)) (b, p) (b, m) (b, q)
      (exchanges_one (first k r a) true f g idle due b p m (ap (λ s. after_recognized s f) is) refl (refl, refl, refl) came)
      (notes_body (is_answered said) (body_in a) g due b m q (ap (λ s. note_of_first s a) (sym is)) told)
  said_moves a said f b p m q came (inr (is, quiet)) =
      let r = f.informer.published.revision in
      exchanges_one (first k r a) false f (after_recognized said f) idle (left_for (milliseconds_asked a)) b p q (ap (λ s. after_recognized s f) is) refl (refl, refl, refl)
      (subst (λ x. exchanges p (first k r a) x) (sym quiet) came)

  pub found_moves : (said : Recognized) (n : ℕ) (f g : Follower) (b : S) (p q : A) → IsFound exchanges k f.informer.published p said n q → g ≡ after_recognized said f
      → MovesOn (Deals takes refuses answers hears exchanges k) f idle (b, p) g (left_for n) (b, q)
  found_moves said n f g b p q (unasked none same zero quiet) is =
      stays_put f g idle (left_for n) b p q (is ∙ ap (λ s. after_recognized s f) same) (ap left_for zero) quiet
  found_moves said n f g b p q (asked a m came says wait) is =
      subst (λ (x : Follower). MovesOn (Deals takes refuses answers hears exchanges k) f idle (b, p) x (left_for n) (b, q)) (sym is)
      (subst (λ w. MovesOn (Deals takes refuses answers hears exchanges k) f idle (b, p) (after_recognized said f) (left_for w) (b, q)) (sym wait) (said_moves a said f b p m q came says))

  -- ---- watches

  pub opens : (r : ℕ) (o : Opened) (f g : Follower) (b : S) (p q : A) → asks f.reflector ≡ ask_for.Watch r → exchanges p (watch k r o) q → g ≡ after_opened o f
      → MovesOn (Deals takes refuses answers hears exchanges k) f idle (b, p) g (at_opened o) (b, q)
  opens r o f g b p q may came is = exchanges_one (watch k r o) true f g idle (at_opened o) b p q is refl (refl, refl, may) came

  pub opens_stream : (o : Opened) (f g : Follower) (b : S) (p q : A) → asks f.reflector ≡ ask_for.Stream → exchanges p (stream k o) q → g ≡ after_stream_opened o f
      → MovesOn (Deals takes refuses answers hears exchanges k) f idle (b, p) g (at_opened o) (b, q)
  opens_stream o f g b p q may came is = exchanges_one (stream k o) true f g idle (at_opened o) b p q is refl (refl, refl, may) came

  -- no bytes come
  pub reads_none : (m : More) (buffer : List ℕ) (f : Follower) (b : S) (p q : A) → piece_in m buffer ≡ None → exchanges p (read m buffer) q → MovesOn (Deals takes refuses answers hears exchanges k) f watching (b, p) f idle (b, q)
  reads_none m buffer f b p q none came =
      exchanges_one (read m buffer) true f f watching idle b p q (ap (λ o. after_piece o f) (sym none)) (ap (λ o. dealings_at o f) (sym none)) refl came

  takes_bytes : (m : More) (buffer bytes : List ℕ) (f g : Follower) (s : Piece) (b : S) (p q : A) → piece_in m buffer ≡ Some bytes → exchanges p (read m buffer) q → IsPieceTaken bytes f g s
      → MovesOn (Deals takes refuses answers hears exchanges k) f watching (b, p) g (at_piece s (note_of_piece s bytes)) (b, q)
  takes_bytes m buffer bytes f g s b p q some came (inl (is, of)) =
      exchanges_one (read m buffer) true f g watching (at_piece s (note_of_piece s bytes)) b p q (is ∙ ap (λ o. after_piece o f) (sym some))
      (ap (λ x. at_piece x (note_of_piece x bytes)) of ∙ ap (λ o. dealings_at o f) (sym some)) refl came
  takes_bytes m buffer bytes f g s b p q some came (inr (is, of)) =
      exchanges_one (read m buffer) false f g watching (at_piece s (note_of_piece s bytes)) b p q is (ap (λ x. at_piece x (note_of_piece x bytes)) of) refl came

  notes_it : (bytes : List ℕ) (f : Follower) (s : Piece) (b c : S) (p q : A) → IsNoted exchanges hears (note_of_piece s bytes) (b, p) (c, q)
      → MovesOn (Deals takes refuses answers hears exchanges k) f (at_piece s (note_of_piece s bytes)) (b, p) f (at_piece s None) (c, q)
  notes_it bytes f s b c p q (inl (heard, quiet)) =
      subst (λ x. MovesOn (Deals takes refuses answers hears exchanges k) f (at_piece s (note_of_piece s bytes)) (b, p) f (at_piece s None) (c, x)) (sym quiet) (hears_of f (at_piece s (note_of_piece s bytes)) b c p heard)
  notes_it bytes f s b c p q (inr (quiet, told)) =
      subst (λ x. MovesOn (Deals takes refuses answers hears exchanges k) f (at_piece s (note_of_piece s bytes)) (b, p) f (at_piece s None) (x, q)) (sym quiet)
      (notes_piece s bytes f (at_piece s (note_of_piece s bytes)) b p q refl told)

  -- bytes came, and the server or the sink was told of them
  pub reads_bytes : (m : More) (buffer bytes : List ℕ) (f g : Follower) (s : Piece) (b c : S) (p i q : A) → piece_in m buffer ≡ Some bytes → exchanges p (read m buffer) i
      → IsPieceTaken bytes f g s → IsNoted exchanges hears (note_of_piece s bytes) (b, i) (c, q) → MovesOn (Deals takes refuses answers hears exchanges k) f watching (b, p) g (at_piece s None) (c, q)
  reads_bytes m buffer bytes f g s b c p i q some came taken told =
      moves_both f g g watching (at_piece s (note_of_piece s bytes)) (at_piece s None) (b, p) (b, i) (c, q)
      (takes_bytes m buffer bytes f g s b p i some came taken) (notes_it bytes g s b c i q told)

-- where no list was answered, there is none
pub unreadable_is_none : (k : Kind) (a : Answer) → RefusesAnswer k a fault.Unreadable → listed_in k a ≡ None
unreadable_is_none k a (inl is) = cc
unreadable_is_none k a (inr is) = is.1
