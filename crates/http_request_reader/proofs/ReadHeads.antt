-- What is said of a head and of its body.
use Rattle.std.proofs.Common.{◌≡◌, ◌<◌, ◌≤◌, ℕ, List, [], ◌++◌, take, drop, length, Option, Some, None, Result, Ok, Err, Vec, inl, inr, refl, sym, ap, ◌∙◌, subst, arith, append-nil}
use Rattle.std.specs.Result.{IsErrAnd}
use Rattle.std.specs.Io.KnownBytes.{Consumes}
use Rattle.std.proofs.KnownBytes.{Consumes-nil}
use Rattle.spec_api.specs.Refusals.{Refusal}
use Rattle.spec_api.specs.Targets as targets
use Rattle.spec_http.specs.Checks.{Opening}
use Rattle.spec_http.specs.Connections.{asked_with_body}
use Rattle.object_keys.specs.Faults.{refusal_of}
use Rattle.object_keys.specs.declared.fault.Fault.{Fault}
use Rattle.object_keys.specs.declared.fault.Fault.TheVariants as fault
use Rattle.request_decoding.specs.Asked.{Asks, asked_seen}
use Rattle.request_decoding.specs.declared.meaning.Asked.{Asked}
use Rattle.http_request_head.specs.declared.fault.ReadFault.{ReadFault}
use Rattle.http_request_head.specs.declared.fault.ReadFault.TheVariants as read
use Rattle.http_request_reader.specs.Openings.{Opens}
use Rattle.http_request_reader.specs.declared.received.Received.{Received}
use Rattle.http_request_reader.specs.declared.received.Received.TheVariants as received
use Rattle.http_request_reader.specs.Answered.{Answers, Refuses}
use Rattle.http_request_reader.specs.Bodies.{ReadsBody}
use Rattle.http_request_reader.specs.Receiving.{Says, Tells, IsOfBody, said}
use Rattle.http_request_reader.proofs.Told.{short_body, whole_body}

-- where nothing was read of a body, no more was read than there is of it
nothing_of_body : (c : Result Opening Refusal) (follows : List ℕ) → IsOfBody c follows []
nothing_of_body (Err f) follows = refl
nothing_of_body (Ok o) follows = inl refl

no_device : read.Device ≡ read.Want → ⊥
no_device e = cc

says_tells : (o : Opening) (follows more : List ℕ) (before after : Option (List ℕ)) (result : Result Received ReadFault) → Consumes before after more → IsOfBody (Ok o) follows more
    → Says o (follows ++ more) result → Tells (Ok o) follows before after result
says_tells o follows more before after (Ok r) consumes fits says = (more, consumes, fits, (says.0, λ none. absurd (says.1 none)))
says_tells o follows more before after (Err read.Want) consumes fits says = (more, consumes, fits, tt)
says_tells o follows more before after (Err read.Device) consumes fits says = absurd (no_device says)

-- the body was read with the head
pub body_tells : (o : Opening) (follows : List ℕ) (before : Option (List ℕ)) (result : Result Received ReadFault) → Says o follows result → Tells (Ok o) follows before before result
body_tells o follows before result says =
    says_tells o follows [] before before result (Consumes-nil before) (inl refl) (subst (λ b. Says o b result) (sym (append-nil follows)) says)

-- or after it
pub read_tells : {Z : Type 0} → (o : Opening) (follows text : List ℕ) (body : Vec ℕ Z) (before after : Option (List ℕ)) (result : Result Received ReadFault)
    → ReadsBody follows o.body_length before after (Ok (Some body)) → text ≡ body.items → Says o text result → Tells (Ok o) follows before after result
read_tells o follows text body before after result (more, consumes, (is, long)) same says =
    says_tells o follows more before after result consumes (inr (omega (arith, long, ap length is))) (subst (λ b. Says o b result) (same ∙ is) says)

pub ended_tells : {Z : Type 0} → (o : Opening) (follows : List ℕ) (before after : Option (List ℕ)) (body : Result (Option (Vec ℕ Z)) ReadFault)
    → body ≡ Ok None → ReadsBody follows o.body_length before after body → Tells (Ok o) follows before after (Ok received.Ended)
ended_tells o follows before after (Ok None) is (more, consumes, (short, end)) = (more, consumes, inr (omega (arith, short)), (short_body o (follows ++ more) short, λ none. end))
ended_tells o follows before after (Ok (Some b)) is reads = absurd (cc)
ended_tells o follows before after (Err f) is reads = absurd (cc)

pub fault_tells : {Z : Type 0} → (o : Opening) (follows : List ℕ) (before after : Option (List ℕ)) (body : Result (Option (Vec ℕ Z)) ReadFault) (f : ReadFault)
    → body ≡ Err f → ReadsBody follows o.body_length before after body → Tells (Ok o) follows before after (Err f)
fault_tells o follows before after (Ok b) f is reads = absurd (cc)
fault_tells o follows before after (Err read.Device) read.Device is (more, consumes, short) = (more, consumes, inr (omega (arith, short)), short_body o (follows ++ more) short)
fault_tells o follows before after (Err read.Want) read.Want is (more, consumes, none) = (more, consumes, inl none, tt)
fault_tells o follows before after (Err read.Device) read.Want is reads = absurd (cc)
fault_tells o follows before after (Err read.Want) read.Device is reads = absurd (cc)

-- a head that is refused
pub refused_tells : (c : Result Opening Refusal) (follows : List ℕ) (before : Option (List ℕ)) (e : Fault) (result : Result Received ReadFault)
    → Opens c (Err e) → Refuses e result → Tells c follows before before result
refused_tells c follows before e (Ok r) (inl none) refuses = absurd (refuses.1 none)
refused_tells c follows before e (Ok r) (inr is) refuses =
    subst (λ x. Tells c follows before before (Ok x)) (sym refuses.0)
    (subst (λ x. Tells x follows before before (Ok (received.Refused e))) (sym is) ([], Consumes-nil before, refl, (refl, λ none. absurd (cc))))
refused_tells c follows before e (Err f) opens refuses =
    subst (λ x. Tells c follows before before (Err x)) (sym refuses.1) ([], Consumes-nil before, nothing_of_body c follows, tt)

-- out of memory before anything is read
pub want_tells : (c : Result Opening Refusal) (follows : List ℕ) (before : Option (List ℕ)) → Tells c follows before before (Err read.Want)
want_tells c follows before = ([], Consumes-nil before, nothing_of_body c follows, tt)

pub result_tells : (c : Result Opening Refusal) (follows : List ℕ) (before : Option (List ℕ)) (result : Result Received ReadFault) → IsErrAnd result (λ f. f ≡ read.Want) → Tells c follows before before result
result_tells c follows before (Ok r) is = absurd is
result_tells c follows before (Err f) is = subst (λ f. Tells c follows before before (Err f)) (sym is) (want_tells c follows before)

-- what is asked with a body
pub says : (o : Opening) (bytes body : List ℕ) (a : Result Asked Fault) (result : Result Received ReadFault) → o.body_length ≤ length bytes → body ≡ take o.body_length bytes
    → Asks (targets.asked o.method o.route o.query body) a → Answers a result → Says o bytes result
says o bytes body (Ok x) result long is asks answers =
    let asked : targets.asked o.method o.route o.query (take o.body_length bytes) ≡ Ok (asked_seen x) = ap (targets.asked o.method o.route o.query) (sym is) ∙ asks in
    subst (Says o bytes) (sym answers) (whole_body o bytes (Ok (asked_seen x)) long (sym asked), λ none. absurd (cc))
says o bytes body (Err e) (Ok r) long is (inl none) answers = absurd (answers.1 none)
says o bytes body (Err e) (Ok r) long is (inr refused) answers =
    let asked : targets.asked o.method o.route o.query (take o.body_length bytes) ≡ Err (refusal_of e) = ap (targets.asked o.method o.route o.query) (sym is) ∙ refused in
    subst (λ x. Says o bytes (Ok x)) (sym answers.0) (whole_body o bytes (Err (refusal_of e)) long (sym asked), λ none. absurd (cc))
says o bytes body (Err e) (Err f) long is asks answers = answers.1
