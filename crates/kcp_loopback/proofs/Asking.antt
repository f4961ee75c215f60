-- A request that is asked as its text is read.
use Rattle.std.proofs.Common.{◌≡◌, inl, inr, ℕ, List, Bool, true, false, Ok, Err, refl, sym, subst, ◌∙◌}
use Rattle.std.specs.Prelude.{if◌then◌else◌, string_bytes}
use Rattle.request_decoding.specs.Asked as read
use Rattle.http_client.specs.declared.answer.Answer.{Answer}
use Rattle.http_client.specs.declared.answer.Answer.TheVariants.{Replied, NotSent, Lost}
use Rattle.spec_api.specs.ObjectRequests.{Request}
use Rattle.spec_api.specs.Refusals.{Refusal, too_large}
use Rattle.spec_api.specs.Targets as targets
use Rattle.spec_api.specs.Targets.{is_too_long, read_request}
use Rattle.spec_api.specs.Verbs.{refused}
use Rattle.object_keys.specs.Faults.{refusal_of}
use Rattle.object_keys.specs.declared.fault.Fault.{Fault}
use Rattle.request_encoding.specs.Texts.{can_be_told, taken}
use Rattle.request_encoding.specs.Told as texts
use Rattle.request_encoding.specs.declared.text.RequestText.{RequestText}
use Rattle.desk.specs.declared.askings.Readable.{Readable}
use Rattle.desk.specs.declared.seats.Seat.{Seat}
use Rattle.kcp_loopback.specs.Asking.{Asks, IsAsked, IsAskedOrNotSent, IsNotAsked}
use Rattle.kcp_loopback.specs.Told.{Says, TellsResult}
use Rattle.kcp_loopback.specs.declared.ringing.Ringer.{Ringer}

-- what is taken for a request of this length is that request
taken_as : (long : Bool) (q r : Request) → (if long then Err too_large else Ok (targets.request q)) ≡ Ok (targets.request r) → (long ≡ false) × (r ≡ q)
taken_as true q r is = cc
taken_as false q r is = (refl, cc)

-- what is refused is too long
refused_as : (long : Bool) (q : Request) (f : Refusal) → (if long then Err too_large else Ok (targets.request q)) ≡ Err f → (long ≡ true) × (f ≡ too_large)
refused_as true q f is = (refl, cc)
refused_as false q f is = cc

module _ (q : Request) (text : RequestText) (target body : List ℕ) (can : can_be_told q ≡ true) (asks : texts.Asks q text) (at : target ≡ string_bytes text.target) (of : body ≡ string_bytes text.body) where
  is_taken : read_request text.method target body ≡ taken q (string_bytes text.body)
  is_taken = (λ i. read_request text.method (at i) (of i)) ∙ asks

  module _ {R : Type 0} (s : Seat Readable Ringer R) (a : Answer) where
    -- a request that is read is the one that was told
    pub asks_read : (t : Seat Readable Ringer R) (r : Request) → read_request text.method target body ≡ Ok (targets.request r) → IsAskedOrNotSent s r a t → Asks s q a t
    asks_read t r is (inl asked) =
        let back = taken_as (is_too_long (string_bytes text.body)) q r (sym is_taken ∙ is) in
        inl ((text, can, asks, back.0), subst (λ z. IsAsked s z a t) back.1 asked)
    asks_read t r is (inr quiet) = inr (subst (IsNotAsked q) (sym quiet.0) tt, quiet.1)

    not_asked : (b : Answer) (e : Fault) → read.Asks (read_request text.method target body) (Err e) → TellsResult (Err e) b → IsNotAsked q b
    not_asked (Replied p) e (inl none) tells = absurd (let x : Replied p ≡ NotSent = tells.1 none in cc)
    not_asked (Replied p) e (inr is) tells =
        let back = refused_as (is_too_long (string_bytes text.body)) q (refusal_of e) (sym is_taken ∙ is) in
        ((text, can, asks, back.0), subst (λ f. Says (refused f) p) back.1 tells.0)
    not_asked NotSent e is tells = tt
    not_asked Lost e is tells = tells.0

    -- a request that is refused is too large
    pub asks_refused : (e : Fault) → read.Asks (read_request text.method target body) (Err e) → TellsResult (Err e) a → Asks s q a s
    asks_refused e is tells = inr (not_asked a e is tells, refl)
