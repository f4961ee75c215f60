-- A request as its bytes come.
use Rattle.std.proofs.Common.{◌≡◌, ◌<◌, ℕ, List, [], ◌∷◌, ◌++◌, length, Bool, true, false, Option, None, inr, refl, sym, ap, ◌∙◌, subst, arith, append_assoc, append-nil, codes}
use Rattle.std.proofs.Math.Logic.{∥∥₁_prop, ∥∥₁_elim}
use Rattle.std.proofs.KnownBytes.{Consumes-nil, Consumes-trans}
use Rattle.std.specs.Io.KnownBytes.{Consumes}
use Rattle.httparse.specs.Grammar.{print_request}
use Rattle.spec_http.proofs.Halves.{half_a_head}
use Rattle.spec_http.proofs.OnLiterals.{http_on_literals}
use Rattle.spec_http.proofs.WellFormed.{well_formed}
use Rattle.spec_http.specs.ConnectionExamples.{pods}
use Rattle.spec_http.specs.Connections.{Asks}
use Rattle.spec_http.specs.HeadExamples.{head}
use Rattle.http_request_reader.specs.Arriving.{WaitsFor}
use Rattle.api.specs.declared.served.Served.TheVariants as served
use Rattle.http_connection.specs.Arriving.{Awaits, IsArriving, Arrives, HasLed, MayStand, ReadsOn}
use Rattle.http_connection.specs.declared.arriving.Arriving.{Arriving}
use Rattle.http_connection.specs.declared.arriving.Awaited.{Awaited}
use Rattle.http_connection.specs.declared.arriving.Awaited.TheVariants as awaited
use Rattle.http_connection.specs.declared.phase.ConnectionPhase.{ConnectionPhase}
use Rattle.http_connection.specs.declared.phase.ConnectionPhase.TheVariants as phase

-- ---- what is awaited

-- nothing that is asked is read of nothing
nothing_asked : Asks [] None
unfolding http_on_literals
nothing_asked = (half_a_head (head 1 (codes "GET") pods []) [] (print_request (head 1 (codes "GET") pods [])) (well_formed (head 1 (codes "GET") pods []) refl) (omega arith) refl (omega arith) (omega arith)).0

pub waits_at_first : WaitsFor [] 1
waits_at_first = (omega arith, λ more short. nothing more short)
  where
    nothing : (more : List ℕ) → length ([] ++ more) < 1 → Asks ([] ++ more) None
    nothing [] short = nothing_asked
    nothing (b ∷ more) short = absurd (omega (arith, short))

-- more came, and not enough
pub waits_on : (read piece : List ℕ) (n : ℕ) → WaitsFor read n → length (read ++ piece) < n → WaitsFor (read ++ piece) n
waits_on read piece n waits few = (few, λ more short. subst (λ b. Asks b None) (sym (append_assoc read piece more)) (waits.1 (piece ++ more) (subst (λ b. length b < n) (append_assoc read piece more) short)))

-- ---- pieces, one after the other

-- after what was read since a request was this it is that
abbrev pub ReadsTo : Option (List ℕ) → Option (List ℕ) → Arriving → Arriving → Type 0
ReadsTo before after start now = (read : List ℕ) → IsArriving start read → (more : List ℕ) × Consumes before after more × IsArriving now (read ++ more)

pub reads_none : (a : Option (List ℕ)) (start : Arriving) → ReadsTo a a start start
reads_none a start read is = ([], Consumes-nil a, subst (IsArriving start) (sym (append-nil read)) is)

pub reads_piece : (no_more : Bool) (a b c : Option (List ℕ)) (start now : Arriving) (piece : List ℕ) (p : ConnectionPhase) → ReadsTo a b start now → Consumes b c piece
    → ((read : List ℕ) → IsArriving now read → Arrives no_more (read ++ piece) p) → (read : List ℕ) → IsArriving start read → ReadsOn no_more a c read p
reads_piece no_more a b c start now piece p reads second comes read is =
    let r = reads read is in
    (r.0 ++ piece, Consumes-trans a b c r.0 piece r.1 second, subst (λ t. Arrives no_more t p) (append_assoc read r.0 piece) (comes (read ++ r.0) r.2))

-- ---- what is half asked

asks_none : (w : Awaited) (bytes : List ℕ) → Awaits w bytes → Asks bytes None
asks_none awaited.HeadEnd bytes half = inr (inr (inr (half, refl)))
asks_none (awaited.Bytes n) bytes waits =
    subst (λ b. Asks b None) (append-nil bytes) (waits.1 [] (subst (λ b. length b < n) (sym (append-nil bytes)) waits.0))

-- where its peer sends no more, and nothing more came
pub ends_half : (a : Arriving) (read piece : List ℕ) → piece ≡ [] → IsArriving a read → Arrives true (read ++ piece) (phase.Closing served.NotAsked)
ends_half a read piece none is =
    subst (λ t. Arrives true t (phase.Closing served.NotAsked)) (sym (ap (λ t. read ++ t) none ∙ append-nil read)) (refl, refl, asks_none a.awaited read is.1)

not_ended : false ≡ true → ⊥
not_ended e = cc

-- what came of bytes, whether or not more come
pub arrives_still : (no_more : Bool) (read : List ℕ) (p : ConnectionPhase) → Arrives false read p → Arrives no_more read p
arrives_still no_more read (phase.Reading a) is = is
arrives_still no_more read (phase.Asked a) is = is
arrives_still no_more read phase.Answering is = is
arrives_still no_more read (phase.Replying r) is = is
arrives_still no_more read (phase.Listing l) is = is
arrives_still no_more read (phase.Watching w) is = is
arrives_still no_more read (phase.Closing s) (is, never, asks) = absurd (not_ended never)

-- ---- what bytes have led to

arrived_led : (no_more : Bool) (read : List ℕ) (p : ConnectionPhase) → Arrives no_more read p → HasLed p
arrived_led no_more read (phase.Reading a) is = (read, is)
arrived_led no_more read (phase.Asked a) is = (read, is)
arrived_led no_more read phase.Answering is = tt
arrived_led no_more read (phase.Replying r) is = tt
arrived_led no_more read (phase.Listing l) is = tt
arrived_led no_more read (phase.Watching w) is = tt
arrived_led no_more read (phase.Closing s) is = tt

pub reads_led : (no_more : Bool) (a b : Option (List ℕ)) (x : Arriving) (p : ConnectionPhase) → ((read : List ℕ) → IsArriving x read → ReadsOn no_more a b read p)
    → MayStand (phase.Reading x) → MayStand p
reads_led no_more a b x p reads led = ∥∥₁_elim led ∥∥₁_prop (λ r. let s = reads r.0 r.1 in ∣ arrived_led no_more (r.0 ++ s.0) p s.2 ∣₁)
