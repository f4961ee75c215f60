-- What is asked at a seat.
use Rattle.std.proofs.Common.{◌≡◌, ◌⊎◌, inl, inr, ℕ, List, refl, sym, ap, subst, true, false}
use Rattle.std.specs.Prelude.{Option, Some, None, IfSome, Result, Ok, Err, is_some}
use Rattle.baton.specs.Marks.{entries}
use Rattle.baton.specs.declared.views.Known.{Known}
use Rattle.spec_api.specs.ListQueries.{ListOptions}
use Rattle.spec_api.specs.History.{Entry, Write, View}
use Rattle.spec_api.specs.Lists.{list_outcome}
use Rattle.spec_api.specs.ObjectRequests.{Request}
use Rattle.spec_api.specs.Refusals.{Refusal, no_memory}
use Rattle.spec_api.specs.Verbs.{Outcome, answered, refused, accept, write_of}
use Rattle.spec_api.specs.Versions as versions
use Rattle.spec_api.specs.declared.kinds.Kind.{Kind}
use Rattle.spec_api.specs.Versions.{watched_from}
use Rattle.server.specs.Replies as replies
use Rattle.object_keys.specs.Faults.{refusal_of}
use Rattle.object_keys.specs.declared.fault.Fault.{Fault}
use Rattle.reply.specs.declared.reply.Reply.{Reply}
use Rattle.revisions.specs.Watches.{watched_of}
use Rattle.revisions.specs.declared.watched.WatchedEvents.{WatchedEvents}
use Rattle.spec_server.specs.Servers.{Server, opened_server}
use Rattle.api.specs.Told.{Tells, TellsText}
use Rattle.watch_cache.specs.Served.{Serves}
use Rattle.http_watch.specs.Given.{Gives, GivesBegun}
use Rattle.http_watch.specs.declared.begun.Begun.{Begun}
use Rattle.desk.specs.Histories.{written}
use Rattle.desk.specs.Asked.{CallsAt, ListsAt, WatchesAt, BeginsAt, Hears}
use Rattle.desk.specs.Steps.{Step}
use Rattle.desk.specs.Told.{once_ok, Answers, IsThere}
use Rattle.desk.specs.declared.served.ServedReply.{ServedReply}
use Rattle.request_parts.specs.Requests.{kind_named}
use Rattle.desk.proofs.Named.{WritesOnly, writes_only}
use Rattle.desk.proofs.Stepping.{restated}

-- with what else is so of the seat
module _ (may_ask : Request → Type 0) (Also : Type 0) (also : Also) where
  -- ---- requests

  abbrev Asked : Known Server Entry → Request → List ℕ → Result ServedReply Fault → Known Server Entry → Type 0
  Asked v q moment r w = Step may_ask v (λ h. once_ok r (written (write_of (accept q h moment)))) (λ h. Answers (accept q h moment) r) w

  pub called : {L : Type 0} (hears : Kind → L → L → Type 0) (v w : Known Server Entry) (q : Request) (moment : List ℕ) (s : ServedReply) (l m : L) → Asked v q moment (Ok s) w → (s.wrote ≡ true → hears (kind_named q) l m) → (s.wrote ≡ false → m ≡ l)
      → Tells (λ o. CallsAt may_ask v q moment o w × Hears hears (write_of o) l m × Also) (Ok s.reply)
  called hears v w q moment s l m step heard quiet = by (accept q (entries step.history) moment) refl step.says
    where
      hears_so : (o : Option Write) → IfSome o (λ x. x.key.kind ≡ kind_named q) → s.wrote ≡ is_some o → Hears hears o l m
      hears_so None only is = quiet is
      hears_so (Some x) only is = subst (λ k. hears k l m) (sym only) (heard is)

      by : (o : Outcome) → accept q (entries step.history) moment ≡ o → Answers o (Ok s) → Tells (λ o. CallsAt may_ask v q moment o w × Hears hears (write_of o) l m × Also) (Ok s.reply)
      by (answered a) is says = (a, says.0, (restated may_ask v w _ (λ h. written a.write) _ _ step (ap (λ o. written (write_of o)) (sym is)) (inl (sym is)), hears_so a.write (subst (WritesOnly (kind_named q)) is (writes_only q _ _ moment)) says.1, also))
      by (refused f) is says = absurd says.0

  refused_by : (o : Outcome) (e : Fault) → replies.Replies o (Err e) → (refused (refusal_of e) ≡ o) ⊎ (refused (refusal_of e) ≡ refused no_memory)
  refused_by (answered a) e (inl none) = inr (ap (λ z. refused (refusal_of z)) none)
  refused_by (answered a) e (inr is) = inl (sym is)
  refused_by (refused f) e (inl none) = inr (ap (λ z. refused (refusal_of z)) none)
  refused_by (refused f) e (inr is) = inl (sym is)

  pub call_refused : (v w : Known Server Entry) (q : Request) (moment : List ℕ) (e : Fault) → Asked v q moment (Err e) w → CallsAt may_ask v q moment (refused (refusal_of e)) w
  call_refused v w q moment e step = restated may_ask v w _ _ _ _ step refl (refused_by (accept q (entries step.history) moment) e step.says)

  -- ---- lists

  abbrev Listed : ℕ → Known Server Entry → View → ListOptions → Result Reply Fault → Known Server Entry → Type 0
  Listed size v view options r w = Step may_ask v (λ h. None) (λ h. replies.Lists (list_outcome size h view options) r) w

  pub listed : (size : ℕ) (v w : Known Server Entry) (view : View) (options : ListOptions) (r : Result Reply Fault) → v.opening ≡ Some (opened_server size) → Listed size v view options r w
      → Tells (λ o. ListsAt may_ask v view options o w × Also) r
  listed size v w view options (Ok r) opened step = by (list_outcome size (entries step.history) view options) refl step.says
    where
      by : (o : Outcome) → list_outcome size (entries step.history) view options ≡ o → replies.Lists o (Ok r) → Tells (λ o. ListsAt may_ask v view options o w × Also) (Ok r)
      by (answered a) is says = (a, says, ((size, opened, restated may_ask v w _ _ _ _ step refl (inl (sym is))), also))
      by (refused f) is says = absurd says
  listed size v w view options (Err e) opened step = ((size, opened, restated may_ask v w _ _ _ _ step refl (by (list_outcome size (entries step.history) view options) step.says)), also)
    where
      by : (o : Outcome) → replies.Lists o (Err e) → (refused (refusal_of e) ≡ o) ⊎ (refused (refusal_of e) ≡ refused no_memory)
      by (answered a) none = inr (ap (λ z. refused (refusal_of z)) none)
      by (refused f) is = inl (sym (ap refused is))

  abbrev Found : ℕ → Known Server Entry → View → ListOptions → Result (List ℕ) Fault → Known Server Entry → Type 0
  Found size v view options r w = Step may_ask v (λ h. None) (λ h. replies.Finds (list_outcome size h view options) r) w

  pub found : (size : ℕ) (v w : Known Server Entry) (view : View) (options : ListOptions) (r : Result (List ℕ) Fault) → v.opening ≡ Some (opened_server size) → Found size v view options r w
      → TellsText (λ o. ListsAt may_ask v view options o w × Also) r
  found size v w view options (Ok text) opened step = by (list_outcome size (entries step.history) view options) refl step.says
    where
      by : (o : Outcome) → list_outcome size (entries step.history) view options ≡ o → replies.Finds o (Ok text) → TellsText (λ o. ListsAt may_ask v view options o w × Also) (Ok text)
      by (answered a) is says = (a, says, ((size, opened, restated may_ask v w _ _ _ _ step refl (inl (sym is))), also))
      by (refused f) is says = absurd says
  found size v w view options (Err e) opened step = ((size, opened, restated may_ask v w _ _ _ _ step refl (by (list_outcome size (entries step.history) view options) step.says)), also)
    where
      by : (o : Outcome) → replies.Finds o (Err e) → (refused (refusal_of e) ≡ o) ⊎ (refused (refusal_of e) ≡ refused no_memory)
      by (answered a) none = inr (ap (λ z. refused (refusal_of z)) none)
      by (refused f) is = inl (sym (ap refused is))

  -- ---- watches

  abbrev Looked : ℕ → Known Server Entry → View → ℕ → ℕ → Result WatchedEvents Fault → Known Server Entry → Type 0
  Looked size v view after most r w = Step may_ask v (λ h. None) (λ h. Serves watched_of (watched_from size h view after most) r) w

  abbrev refused_look : Fault → Result versions.Watched Refusal
  refused_look e = Err (refusal_of e)

  pub looked : (size : ℕ) (v w : Known Server Entry) (view : View) (after most : ℕ) (r : Result WatchedEvents Fault) → v.opening ≡ Some (opened_server size) → Looked size v view after most r w
      → Gives watched_of (λ x. WatchesAt may_ask v view after most x w × Also) r
  looked size v w view after most (Ok r) opened step = ((size, opened, restated may_ask v w _ _ _ _ step refl (by (watched_from size (entries step.history) view after most) step.says)), also)
    where
      by : (x : Result versions.Watched Refusal) → Serves watched_of x (Ok r) → (Ok (watched_of r) ≡ x) ⊎ (Ok (watched_of r) ≡ Err no_memory)
      by (Ok x) is = inl (sym (ap (λ z. Ok z) is))
      by (Err f) none = absurd none
  looked size v w view after most (Err e) opened step = ((size, opened, restated may_ask v w _ _ _ _ step refl (by (watched_from size (entries step.history) view after most) step.says)), also)
    where
      by : (x : Result versions.Watched Refusal) → Serves watched_of x (Err e) → (refused_look e ≡ x) ⊎ (refused_look e ≡ Err no_memory)
      by (Ok x) none = inr (ap refused_look none)
      by (Err f) is = inl (sym (ap (λ z. Err z) is))

  -- ---- what is there

  pub begun : (v w : Known Server Entry) (view : View) (least : Option ℕ) (r : Result Begun Fault) → Step may_ask v (λ h. None) (λ h. GivesBegun (IsThere h view least) r) w
      → GivesBegun (λ l. BeginsAt may_ask v view least l w × Also) r
  begun v w view least (Ok b) step = (restated may_ask v w _ _ _ _ step refl step.says, also)
  begun v w view least (Err e) step = (restated may_ask v w _ _ _ _ step refl step.says, also)
