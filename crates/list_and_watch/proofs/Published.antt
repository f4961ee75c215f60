-- What is asked and answered publishes nothing.
use Rattle.std.proofs.Common.{◌≡◌, ℕ, Bool, true, false, List, Option, Some, None, cond, nat_eq, refl}
use Rattle.spec_client_go.specs.Reflectors.{Listed}
use Rattle.api_client.specs.Exchanges.{Exchange, list, first, watch, stream, read, understood, not_understood, piece_in}
use Rattle.api_client.specs.declared.opened.Opened.{Opened}
use Rattle.api_client.specs.declared.opened.Opened.TheVariants as opened
use Rattle.list_and_watch.specs.Answered.{after_opened, after_stream_opened, leads_to_list, listed_in}
use Rattle.list_and_watch.specs.Exchanged.{after_exchange, after_piece, after_recognized, recognized_by}
use Rattle.list_and_watch.specs.Followers.{Follower, after_list, after_expiry, after_refusal}
use Rattle.list_and_watch.specs.declared.recognizing.Recognized.{Recognized}
use Rattle.list_and_watch.specs.declared.recognizing.Recognized.TheVariants.{Same, Other, Unknown, Unanswered}

list_publishes : (o : Option Listed) (f : Follower) → (after_list o f).informer.published ≡ f.informer.published
list_publishes None f = refl
list_publishes (Some l) f = refl

recognized_publishes : (r : Recognized) (f : Follower) → (after_recognized r f).informer.published ≡ f.informer.published
recognized_publishes Same f = refl
recognized_publishes Other f = refl
recognized_publishes Unknown f = refl
recognized_publishes Unanswered f = refl

unless_publishes : (t : Bool) (f : Follower) → (cond t f (after_expiry f)).informer.published ≡ f.informer.published
unless_publishes true f = refl
unless_publishes false f = refl

opened_publishes : (o : Opened) (f : Follower) → (after_opened o f).informer.published ≡ f.informer.published
opened_publishes opened.Open f = refl
opened_publishes opened.Expired f = refl
opened_publishes (opened.Refused code wait) f = unless_publishes (nat_eq code 429) f
opened_publishes opened.Lost f = refl

refused_publishes : (t : Bool) (code : ℕ) (wait : Option ℕ) (f : Follower) → (cond t (after_refusal f) (after_opened (opened.Refused code wait) f)).informer.published ≡ f.informer.published
refused_publishes true code wait f = refl
refused_publishes false code wait f = opened_publishes (opened.Refused code wait) f

stream_publishes : (o : Opened) (f : Follower) → (after_stream_opened o f).informer.published ≡ f.informer.published
stream_publishes opened.Open f = refl
stream_publishes opened.Expired f = refl
stream_publishes (opened.Refused code wait) f = refused_publishes (leads_to_list code) code wait f
stream_publishes opened.Lost f = refl

piece_publishes : (o : Option (List ℕ)) (f : Follower) → (after_piece o f).informer.published ≡ f.informer.published
piece_publishes None f = refl
piece_publishes (Some bytes) f = refl

pub exchange_publishes : (e : Exchange) (memory : Bool) (f : Follower) → (after_exchange e memory f).informer.published ≡ f.informer.published
exchange_publishes (list k a) true f = list_publishes (listed_in f.reflector.kind a) f
exchange_publishes (list k a) false f = refl
exchange_publishes (first k r a) true f = recognized_publishes (recognized_by k r a f) f
exchange_publishes (first k r a) false f = refl
exchange_publishes (watch k r o) memory f = opened_publishes o f
exchange_publishes (stream k o) memory f = stream_publishes o f
exchange_publishes (read m buffer) true f = piece_publishes (piece_in m buffer) f
exchange_publishes (read m buffer) false f = refl
exchange_publishes understood memory f = refl
exchange_publishes (not_understood bytes) memory f = refl
