-- What follows for whoever speaks over a connection.
use Rattle.std.specs.Prelude.{◌≡◌, ◌<◌, ◌≤◌, ◌⊎◌, ℕ, List, ◌++◌, length, not, ◌&&◌, true, false, is_some, Option, Some, None, Result, Ok, Err}
use Rattle.httparse.specs.Grammar.{RequestHead, IsRequestHead, print_end, print_request, NeverHasRequest, EndsInTarget}
use Rattle.spec_api.specs.declared.methods.Method.{Method}
use Rattle.spec_api.specs.declared.refusals.Part.TheVariants as part
use Rattle.spec_api.specs.Refusals.{Refusal, bad_request, too_large}
use Rattle.spec_api.specs.Targets.{Asked, read_request}
use Rattle.spec_http.specs.Heads.{head_of, stated_length, has_transfer_coding, media_type, needs_length, takes_type, method_named}
use Rattle.spec_http.specs.Checks.{Opening, checked, length_or_none}
use Rattle.spec_http.specs.Connections.{longest_head, most_fields, IsWithinLimits, IsHeadTooLarge, asked_with_body, asked_after, Asks, AsksOnly}

-- bytes ask one thing, but where no head can come of them and either a limit is passed too, or they end in a target
abbrev pub OneThingIsAsked : Type 0
OneThingIsAsked =
    (bytes : List ℕ) (said other : Option (Result Asked Refusal)) → Asks bytes said → Asks bytes other
    → (said ≡ other) ⊎ (NeverHasRequest bytes × (IsHeadTooLarge bytes ⊎ EndsInTarget bytes))

-- what bytes ask stays asked, whatever follows them: where they ask nothing yet, what is asked is still to come
abbrev pub AskedStaysAsked : Type 0
AskedStaysAsked = (bytes more : List ℕ) (a : Result Asked Refusal) → Asks bytes (Some a) → Asks (bytes ++ more) (Some a)

-- a head within the limits asks what its checks say, with what follows it, and nothing else
abbrev pub HeadsAsk : Type 0
HeadsAsk = (h : RequestHead) (rest : List ℕ) → IsRequestHead h → IsWithinLimits h → AsksOnly (print_request h ++ rest) (asked_after (checked (head_of h)) rest)

-- a head within the limit of fields that is cut anywhere asks nothing, and is not refused
abbrev pub HalfAHeadAsksNothing : Type 0
HalfAHeadAsksNothing =
    (h : RequestHead) (bytes more : List ℕ) → IsRequestHead h → length h.fields ≤ most_fields → print_request h ≡ bytes ++ more → 0 < length more
    → length bytes < longest_head → AsksOnly bytes None

-- neither does a head whose checks pass and whose body is cut
abbrev pub HalfABodyAsksNothing : Type 0
HalfABodyAsksNothing =
    (h : RequestHead) (rest : List ℕ) (o : Opening) → IsRequestHead h → IsWithinLimits h → checked (head_of h) ≡ Ok o → length rest < o.body_length
    → AsksOnly (print_request h ++ rest) None

-- a head that is longer, or has more fields, is too large, whatever follows
abbrev pub LargeHeadsAreRefused : Type 0
LargeHeadsAreRefused =
    (h : RequestHead) (rest : List ℕ) → IsRequestHead h → (longest_head < length (print_request h)) ⊎ (most_fields < length h.fields)
    → AsksOnly (print_request h ++ rest) (Some (Err too_large))

-- and so is one whose fields are too many before it ends
abbrev pub ManyFieldsAreRefused : Type 0
ManyFieldsAreRefused =
    (h : RequestHead) (bytes : List ℕ) → IsRequestHead h → most_fields < length h.fields → print_request h ≡ bytes ++ print_end h.last → AsksOnly bytes (Some (Err too_large))

-- bytes of which no head can come are refused, and nothing else, unless a limit is passed too or they end in a target
abbrev pub IllFormedHeadsAreRefused : Type 0
IllFormedHeadsAreRefused =
    (bytes : List ℕ) → NeverHasRequest bytes → (IsHeadTooLarge bytes ⊎ EndsInTarget bytes → ⊥) → AsksOnly bytes (Some (Err (bad_request part.Head)))

-- where the checks of a head pass, the body that its length says is read with its method and target as any request is
abbrev pub RequestsAreRead : Type 0
RequestsAreRead =
    (h : RequestHead) (o : Opening) (body rest : List ℕ) → IsRequestHead h → checked (head_of h) ≡ Ok o → length body ≡ o.body_length
    → (method_named h.method ≡ Some o.method) × (asked_with_body o (body ++ rest) ≡ Some (read_request o.method h.target body))

-- the method is served, and what HTTP itself wants of a request is there: a length that is one, where one is needed, no transfer coding, a media
-- type that is taken, and HTTP/1.1
abbrev pub IsProper : RequestHead → Method → Option ℕ → Type 0
IsProper h m stated =
    (method_named h.method ≡ Some m) × (stated_length (head_of h) ≡ Some stated) × (needs_length m && not (is_some stated) ≡ false)
    × (has_transfer_coding (head_of h) ≡ false) × (takes_type m (media_type (head_of h)) ≡ true) × (h.minor ≡ 1)

-- then it is read as any request is, and refused as it is
abbrev pub ProperRequestsAreRead : Type 0
ProperRequestsAreRead =
    (h : RequestHead) (m : Method) (stated : Option ℕ) (body rest : List ℕ) → IsRequestHead h → IsProper h m stated → length body ≡ length_or_none stated
    → asked_after (checked (head_of h)) (body ++ rest) ≡ Some (read_request m h.target body)
