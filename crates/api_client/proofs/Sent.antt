-- What a connection was used for.
use Rattle.std.proofs.Common.{◌≡◌, inl, ℕ, List, Option, Some, None, true, false, refl, sym, ap, ◌∙◌, subst}
use Rattle.chunked.specs.Devices.{device_of, has_failed}
use Rattle.chunked.specs.Reading.{answered_fault, fault_at, fault_of, place_of}
use Rattle.chunked.specs.declared.place.BodyPlace.TheVariants as place
use Rattle.chunked.specs.declared.reader.Reader.{Reader}
use Rattle.chunked.specs.declared.watched.Watched.{Watched}
use Rattle.http_client.specs.Calls.{IsExchanged}
use Rattle.http_client.specs.declared.answer.Answer.{Answer}
use Rattle.http_client.specs.declared.answer.Answer.TheVariants as answer
use Rattle.spec_api.specs.ObjectRequests.{Request}
use Rattle.request_encoding.specs.Texts.{can_be_told}
use Rattle.request_encoding.specs.Told.{Asks}
use Rattle.request_encoding.specs.declared.text.RequestText.{RequestText}
use Rattle.api_client.specs.Asked.{IsSent, IsCalled, IsOpened, IsWatchedFrom}
use Rattle.api_client.specs.Begun.{IsBegun}
use Rattle.api_client.specs.declared.opened.Opened.{Opened}
use Rattle.api_client.specs.declared.opened.Opened.TheVariants as opened
use Rattle.api_client.specs.Outgoing.{written}

module _ {C R W : Type 0} (connects : C → Option (R × W) → C → Type 0) (remaining : R → Option (List ℕ)) (contents : W → Option (List ℕ)) where
  -- both ends of a connection, as they are watched
  ends_of : (before after : C) (ends : R × W) (reader : Watched R) (writer : Watched W) → connects before (Some ends) after → device_of reader ≡ ends.0 → device_of writer ≡ ends.1
      → connects before (Some (device_of reader, device_of writer)) after
  ends_of before after ends reader writer made at to = subst (λ (e : R × W). connects before (Some e) after) (sym (λ i. (at i, to i))) made

  -- a text was sent over a connection
  pub sent_over : (most : ℕ) (text : List ℕ) (before after : C) (ends : R × W) (reader : Watched R) (old new : Watched W) (a : Answer) → connects before (Some ends) after
      → device_of reader ≡ ends.0 → device_of old ≡ ends.1 → has_failed old ≡ false → IsExchanged contents text most (remaining (device_of reader)) old new a
      → IsSent connects remaining contents most text before a after
  sent_over most text before after ends reader old new answer.NotSent made at to fresh done = absurd done
  sent_over most text before after ends reader old new answer.Lost made at to fresh done = (device_of reader, old, new, ends_of before after ends reader old made at to, fresh, done)
  sent_over most text before after ends reader old new (answer.Replied r) made at to fresh done = (device_of reader, old, new, ends_of before after ends reader old made at to, fresh, done)

  -- so was one for a watch
  pub opened_over : (text : List ℕ) (before after : C) (ends : R × W) (reader : Watched R) (old new : Watched W) (left : Option (List ℕ)) (o : Opened) (w : Option (Reader R))
      → connects before (Some ends) after → device_of reader ≡ ends.0 → device_of old ≡ ends.1 → has_failed old ≡ false
      → IsBegun contents text (remaining (device_of reader)) left old new o → IsWatchedFrom remaining left o w
      → IsOpened connects remaining contents text before o after w
  opened_over text before after ends reader old new left o w made at to fresh begun watched =
      inl (device_of reader, old, new, left, ends_of before after ends reader old made at to, fresh, begun, watched)

  -- a text of a request was
  pub called_by : (most : ℕ) (text : List ℕ) (q : Request) (t : RequestText) (before after : C) (a : Answer) → can_be_told q ≡ true → Asks q t → text ≡ written t
      → IsSent connects remaining contents most text before a after → IsCalled connects remaining contents most q before a after
  called_by most text q t before after answer.NotSent told asks e is = is
  called_by most text q t before after answer.Lost told asks e is = (t, told, asks, subst (λ s. IsSent connects remaining contents most s before answer.Lost after) e is)
  called_by most text q t before after (answer.Replied r) told asks e is = (t, told, asks, subst (λ s. IsSent connects remaining contents most s before (answer.Replied r) after) e is)

-- what reads a watch from where a reader stands that has not failed
pub watched_from : {R : Type 0} (remaining : R → Option (List ℕ)) (device : Watched R) (r : Reader R) (o : Opened) → o ≡ opened.Open → (o ≡ opened.Open → has_failed device ≡ false)
    → r.device ≡ device → place_of r ≡ place.Line → fault_of r ≡ None → IsWatchedFrom remaining (remaining (device_of device)) o (Some r)
watched_from remaining device r o begun sound is at none =
    let unfailed : answered_fault r ≡ None = (λ i. fault_at (none i) (has_failed (is i))) ∙ ap (fault_at None) (sound begun) in
    subst (λ x. IsWatchedFrom remaining (remaining (device_of device)) x (Some r)) (sym begun) (r, refl, ap (λ d. remaining (device_of d)) is, at, unfailed)
