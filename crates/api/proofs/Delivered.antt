-- What was done, and written.
use Rattle.std.proofs.Common.{◌≡◌, ℕ, List, Bool, Option, Some, None, Result, Ok, Err, refl, sym, subst, ◌∙◌}
use Rattle.spec_api.specs.ListQueries.{ListOptions}
use Rattle.spec_api.specs.declared.versions.Start.{Start}
use Rattle.spec_api.specs.History.{View}
use Rattle.spec_api.specs.ObjectRequests.{Request}
use Rattle.spec_api.specs.Refusals.{Refusal}
use Rattle.spec_api.specs.Targets as targets
use Rattle.spec_api.specs.Verbs.{Outcome, refused}
use Rattle.spec_api.specs.Versions.{Listed}
use Rattle.chunked.specs.declared.watched.Watched.{Watched}
use Rattle.object_keys.specs.Faults.{refusal_of}
use Rattle.http_watch.proofs.Going.{opened_follows}
use Rattle.http_watch.specs.Opened.{Refuses, IsOpened, opening_of}
use Rattle.http_watch.specs.Served.{Follows, Serves}
use Rattle.http_watch.specs.Watches.{Look, opening_text}
use Rattle.http_watch.specs.declared.fault.Cut.{Cut}
use Rattle.http_watch.specs.declared.fault.Cut.TheVariants as cut
use Rattle.http_watch.specs.declared.fault.WatchFault.{WatchFault}
use Rattle.http_watch.specs.declared.fault.WatchFault.TheVariants as left
use Rattle.http_watch.specs.declared.opening.WatchStart.{WatchStart}
use Rattle.api.proofs.Written.{replied}
use Rattle.api.specs.Delivering.{after_watch, GoesOn, Delivers}
use Rattle.api.specs.Replying.{Sends}
use Rattle.api.specs.Responding as responding
use Rattle.api.specs.Responding.{OpensWatch, Responds, text_of}
use Rattle.api.specs.Serving.{Concludes, Answers, Does}
use Rattle.api.specs.declared.fault.ServeFault.{ServeFault}
use Rattle.api.specs.declared.response.OpenWatch.{OpenWatch}
use Rattle.api.specs.declared.response.Response.{Response}
use Rattle.api.specs.declared.response.Response.TheVariants as response

-- how a watch was served that was followed so
abbrev served_as : Result (Unit {0}) Cut → Result (Unit {0}) WatchFault
served_as (Ok u) = Ok u
served_as (Err c) = Err (left.Cut c)

module _ {D : Type 0} (contents : D → Option (List ℕ)) (new : Watched D) where
  ends : (followed : Result (Unit {0}) Cut) (r : Result (Unit {0}) ServeFault) → r ≡ after_watch followed → Concludes contents (served_as followed) new new r
  ends (Ok u) r is = (refl, is)
  ends (Err cut.Device) r is = (refl, is)
  ends (Err cut.NoMemory) r is = (refl, is)

module _ {S D : Type 0} (begins : S → View → Option ℕ → Result Listed Refusal → S → Type 0) (watches : S → View → ℕ → ℕ → Look → S → Type 0) (v : View) (bookmarks : Bool)
    (contents : D → Option (List ℕ)) (s mid t : S) (old new : Watched D) (start : Start) where
  serves : (w : WatchStart) (followed : Result (Unit {0}) Cut) → IsOpened begins watches v bookmarks start s mid (Ok w)
      → Follows watches v bookmarks contents mid t old new (opening_of w) w.at.revision w.at.idle followed → Serves begins watches v bookmarks contents s t old new start (served_as followed)
  serves w (Ok u) (o, opens, stands, idle, is) follows =
      (o, mid, opens, opened_follows watches v bookmarks contents mid t old new (opening_of w) (opening_text v.kind o) w.at.revision w.at.idle o.stands o.idle (Ok u) stands idle is follows)
  serves w (Err c) (o, opens, stands, idle, is) follows =
      (o, mid, opens, opened_follows watches v bookmarks contents mid t old new (opening_of w) (opening_text v.kind o) w.at.revision w.at.idle o.stands o.idle (Err c) stands idle is follows)

module _ {S D : Type 0} (calls : S → Request → List ℕ → Outcome → S → Type 0) (lists : S → View → ListOptions → Outcome → S → Type 0)
    (begins : S → View → Option ℕ → Result Listed Refusal → S → Type 0) (watches : S → View → ℕ → ℕ → Look → S → Type 0) (contents : D → Option (List ℕ)) (moment : List ℕ)
    (s mid t : S) (old new : Watched D) where
  answers_reply : (a : Result targets.Asked Refusal) (bytes : List ℕ) (r : Result (Unit {0}) ServeFault) → responding.Replies calls lists begins watches moment s mid a bytes → t ≡ mid
      → Sends contents old new bytes r → Answers calls lists begins watches contents moment s t old new a r
  answers_reply (Err f) bytes r (same, is) stays sends = (stays ∙ same, replied contents old new (refused f) bytes r is sends)
  answers_reply (Ok (targets.request q)) bytes r (o, called, is) stays sends = (o, subst (calls s q moment o) (sym stays) called, replied contents old new o bytes r is sends)
  answers_reply (Ok (targets.list v options)) bytes r (o, listed, is) stays sends = (o, subst (lists s v options o) (sym stays) listed, replied contents old new o bytes r is sends)
  answers_reply (Ok (targets.watch v options)) bytes r (e, refuses, is) stays sends = (
    old,
    Err (left.Refused e),
    (subst (λ u. Refuses begins watches v options.bookmarks s u options.start e) (sym stays) refuses, refl),
    replied contents old new (refused (refusal_of e)) bytes r is sends,
  )

  answers_watch : (a : Result targets.Asked Refusal) (w : OpenWatch) (r : Result (Unit {0}) ServeFault) → OpensWatch calls lists begins watches moment s mid a w
      → GoesOn watches contents mid t old new w r → Answers calls lists begins watches contents moment s t old new a r
  answers_watch (Err f) w r opens goes = absurd opens
  answers_watch (Ok (targets.request q)) w r opens goes = absurd opens
  answers_watch (Ok (targets.list v options)) w r opens goes = absurd opens
  answers_watch (Ok (targets.watch v options)) w r (view, bookmarks, opened) (followed, follows, is) =
      let same = subst (λ b. Follows watches v b contents mid t old new (opening_of w.opened) w.opened.at.revision w.opened.at.idle followed) bookmarks
      (subst (λ x. Follows watches x w.bookmarks contents mid t old new (opening_of w.opened) w.opened.at.revision w.opened.at.idle followed) view follows) in (
        new,
        served_as followed,
        serves begins watches v options.bookmarks contents s mid t old new options.start w.opened followed opened same,
        ends contents new followed r is,
      )

  -- what was responded and then delivered was done
  pub delivered : (said : Option (Result targets.Asked Refusal)) (x : Response) (r : Result (Unit {0}) ServeFault) → Responds calls lists begins watches moment s mid said x
      → Delivers watches contents mid t old new x r → Does calls lists begins watches contents moment s t old new said r
  delivered None response.Nothing r same (stays, kept, is) = (stays ∙ same, kept, is)
  delivered None (response.Reply x) r responds delivers = absurd responds
  delivered None (response.List l) r responds delivers = absurd responds
  delivered None (response.Watch w) r responds delivers = absurd responds
  delivered (Some a) response.Nothing r responds delivers = absurd responds
  delivered (Some a) (response.Reply x) r replies (stays, sends) = answers_reply a (text_of x) r replies stays sends
  delivered (Some a) (response.List l) r responds delivers = absurd delivers
  delivered (Some a) (response.Watch w) r opens goes = answers_watch a w r opens goes
