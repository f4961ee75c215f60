-- What the owner of a server is told.
use Rattle.std.proofs.Common.{◌≡◌, ◌⊎◌, inl, inr, ℕ, List, Option, Some, None, Result, Ok, Err, refl, sym, ap, ap₂, ◌∙◌}
use Rattle.spec_api.specs.History.{View, Entries, viewed}
use Rattle.spec_api.specs.ListQueries.{ListOptions}
use Rattle.spec_api.specs.ObjectRequests.{Request}
use Rattle.spec_api.specs.Refusals.{Refusal, no_memory}
use Rattle.spec_api.specs.Verbs.{Outcome, answered, refused, write_of, accept_at}
use Rattle.spec_api.specs.Versions.{Listed, listed_as, once_present}
use Rattle.spec_api.specs.WatchReplies.{initial_from}
use Rattle.server.proofs.Begun.{served_once, refused_once}
use Rattle.server.specs.Initials.{initial_of}
use Rattle.server.specs.Replies.{Replies, Finds}
use Rattle.server.specs.declared.initials.InitialEvents.{InitialEvents}
use Rattle.object_keys.specs.Faults.{refusal_of}
use Rattle.object_keys.specs.declared.fault.Fault.{Fault}
use Rattle.object_keys.specs.declared.fault.Fault.TheVariants as fault
use Rattle.watch_cache.specs.Served.{Serves}
use Rattle.reply.specs.declared.reply.Reply.{Reply}
use Rattle.spec_server.specs.Servers.{Server, after_writing, initial_by, list_served}
use Rattle.http_watch.specs.Given.{GivesBegun, there_from}
use Rattle.api.specs.Alone.{CallsAlone, ListsAlone, BeginsAlone}
use Rattle.api.specs.Told.{Tells, TellsText}

-- ---- requests

called : (s t : Server) (wanted o : Outcome) (r : Reply) → wanted ≡ o → Replies o (Ok r) → t ≡ after_writing s (write_of wanted)
    → Tells (λ x. ((x ≡ wanted) ⊎ (x ≡ refused no_memory)) × (t ≡ after_writing s (write_of x))) (Ok r)
called s t wanted (answered a) r e says made = (a, says, (inl (sym e), made ∙ ap (λ x. after_writing s (write_of x)) e))
called s t wanted (refused f) r e says made = absurd says

pub call_answered : (s t : Server) (q : Request) (moment : List ℕ) (r : Reply) → Replies (accept_at q s.snapshot.members s.snapshot.revision moment) (Ok r)
    → t ≡ after_writing s (write_of (accept_at q s.snapshot.members s.snapshot.revision moment)) → Tells (λ o. CallsAlone s q moment o t) (Ok r)
call_answered s t q moment r says made =
    let wanted = accept_at q s.snapshot.members s.snapshot.revision moment in
    called s t wanted wanted r refl says made

-- ---- lists

pub found : (s : Server) (v : View) (options : ListOptions) (r : Result (List ℕ) Fault) → Finds (list_served s v options) r → TellsText (λ o. ListsAlone s v options o s) r
found s v options r finds = by (list_served s v options) refl r finds
  where
    by : (wanted : Outcome) → list_served s v options ≡ wanted → (r : Result (List ℕ) Fault) → Finds wanted r → TellsText (λ o. ListsAlone s v options o s) r
    by (answered a) e (Ok text) is = (a, is, (inl (sym e), refl))
    by (answered a) e (Err f) is = (inr (ap (λ z. refused (refusal_of z)) is), refl)
    by (refused f) e (Ok text) never = absurd never
    by (refused f) e (Err g) is = (inl (sym (ap refused is) ∙ sym e), refl)

-- ---- what is there

-- what is given is there
given : (now : ℕ) (ms : Entries) (least : Option ℕ) (i : InitialEvents) → Serves initial_of (initial_from now ms least) (Ok i) → there_from now ms least ≡ Ok (listed_as now ms)
given now ms None i is = refl
given now ms (Some r) i is = served_once now r ms i (listed_as now ms) is

pub begun : (s : Server) (v : View) (least : Option ℕ) (i : InitialEvents) → Serves initial_of (initial_by s v least) (Ok i) → i.objects ≡ viewed v s.snapshot.members → i.revision ≡ s.snapshot.revision
    → GivesBegun (λ l. BeginsAlone s v least l s) (Ok (record { objects = i.objects; revision = i.revision }))
begun s v least i gives is present =
    let ms = viewed v s.snapshot.members in
    (inl (ap₂ (λ r ms. Ok (listed_as r ms)) present is ∙ sym (given s.snapshot.revision ms least i gives)), refl)

abbrev refusing : Fault → Result Listed Refusal
refusing e = Err (refusal_of e)

refuses : (now : ℕ) (ms : Entries) (least : Option ℕ) (e : Fault) → Serves initial_of (initial_from now ms least) (Err e) → (refusing e ≡ there_from now ms least) ⊎ (refusing e ≡ Err no_memory)
refuses now ms None e is = inr (ap refusing is)
refuses now ms (Some r) e is = by (refused_once now r ms e (listed_as now ms) is)
  where
    by : (once_present now r (listed_as now ms) ≡ refusing e) ⊎ (e ≡ fault.NoMemory) → (refusing e ≡ once_present now r (listed_as now ms)) ⊎ (refusing e ≡ Err no_memory)
    by (inl above) = inl (sym above)
    by (inr none) = inr (ap refusing none)

-- why nothing is given
pub not_begun : (s : Server) (v : View) (least : Option ℕ) (e : Fault) → Serves initial_of (initial_by s v least) (Err e) → GivesBegun (λ l. BeginsAlone s v least l s) (Err e)
not_begun s v least e is = (refuses s.snapshot.revision (viewed v s.snapshot.members) least e is, refl)
