-- A seat stays at its desk, whatever is asked there.
use Rattle.std.proofs.Common.{inl, inr, ℕ, zero, suc, List, Bool, Some, Result, Ok, ap, ◌∙◌}
use Rattle.api.specs.Responding.{Responds}
use Rattle.api.specs.declared.response.Response.{Response}
use Rattle.api.specs.declared.response.Response.TheVariants as response
use Rattle.spec_api.specs.History.{View}
use Rattle.spec_api.specs.Refusals.{Refusal}
use Rattle.spec_api.specs.Targets as targets
use Rattle.spec_api.specs.declared.versions.Start.{Start}
use Rattle.spec_api.specs.declared.versions.Start.TheVariants.{After, Listed, Streamed, Present}
use Rattle.http_event_loop.specs.Asked.{AreAsked, AreLooks, IsRequest}
use Rattle.desk.specs.Askings.{IsReadable}
use Rattle.desk.specs.Seats.{Begins, Calls, Lists, Stays, Watches}
use Rattle.desk.specs.declared.askings.Readable.{Readable}
use Rattle.desk.specs.declared.seats.Seat.{Seat}
use Rattle.http_watch.specs.Watches.{Opening, Opens}
use Rattle.kcp_loopback.specs.Asking.{Rings}
use Rattle.kcp_loopback.specs.Serving.{Asks}
use Rattle.kcp_loopback.specs.declared.ringing.Ringer.{Ringer}

module _ {R : Type 0} where
  opened : (v : View) (bookmarks : Bool) (start : Start) (s t : Seat Readable Ringer R) (r : Result Opening Refusal) → Opens (Begins IsReadable) (Watches IsReadable) v bookmarks s start r t → Stays s t
  opened v bookmarks (After at) s t r (w, watches, is) = watches.1.0
  opened v bookmarks Listed s t r (l, begins, is) = begins.1.0
  opened v bookmarks (Streamed least) s t r (l, begins, is) = begins.1.0
  opened v bookmarks Present s t r (l, begins, is) = begins.1.0

  responded : (moment : List ℕ) (s t : Seat Readable Ringer R) (a : targets.Asked) (r : Response) → Responds (Calls IsReadable Rings) (Lists IsReadable) (Begins IsReadable) (Watches IsReadable) moment s t (Some (Ok a)) r → Stays s t
  responded moment s t a response.Nothing none = elim none [ ]
  responded moment s t (targets.request q) (response.Reply x) (o, calls, is) = calls.2
  responded moment s t (targets.list v options) (response.Reply x) (o, lists, is) = lists.1.0
  responded moment s t (targets.watch v options) (response.Reply x) (e, inl refused, is) = opened v options.bookmarks options.start s t _ refused
  responded moment s t (targets.watch v options) (response.Reply x) (e, inr (none, o, refused), is) = opened v options.bookmarks options.start s t _ refused
  responded moment s t (targets.request q) (response.List l) none = elim none [ ]
  responded moment s t (targets.list v options) (response.List l) (o, lists, is) = lists.1.0
  responded moment s t (targets.watch v options) (response.List l) none = elim none [ ]
  responded moment s t (targets.request q) (response.Watch w) none = elim none [ ]
  responded moment s t (targets.list v options) (response.Watch w) none = elim none [ ]
  responded moment s t (targets.watch v options) (response.Watch w) (of, marks, is_open) = opened v options.bookmarks options.start s t _ is_open.1

  looked : (k : ℕ) (s t : Seat Readable Ringer R) → AreLooks (Calls IsReadable Rings) (Lists IsReadable) (Begins IsReadable) (Watches IsReadable) k s t → Stays s t
  looked zero s t same = ap (λ z. z.desk.now) same
  looked (suc k) s t (mid, before, (v, at, look, watches)) = watches.1.0 ∙ looked k s mid before

  pub stays : (n : ℕ) (s t : Seat Readable Ringer R) → Asks n s t → Stays s t
  stays zero s t (k, looks) = looked k s t looks
  stays (suc n) s t (before, after, asked, (moment, a, r, some, responds), (k, looks)) = looked k after t looks ∙ responded moment before after a r responds ∙ stays n s before asked
