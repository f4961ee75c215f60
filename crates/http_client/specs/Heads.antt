-- What the head of a reply says, and where there is none.
use Rattle.std.specs.Prelude.{◌≡◌, ◌≤◌, ◌<◌, ℕ, List, [], ◌∷◌, codes, Option, Some, true}
use Rattle.std.specs.Str.{str_eq_ignore_ascii_case}
use Rattle.httparse.specs.Grammar.{ResponseHead, ReadsResponse, status_code}
use Rattle.spec_http.specs.Heads.{Field, values_of, length_in}
use Rattle.spec_http.specs.Answers.{Replied, Says, IsWithinLimits, HasLength, fields_of}
use Rattle.http_client.specs.Patience.{retry_after}
use Rattle.http_client.specs.declared.framing.Framing.{Framing}
use Rattle.http_client.specs.declared.framing.Framing.TheVariants as framing
use Rattle.http_client.specs.declared.reply_head.ReplyHead.{ReplyHead}

-- the bytes begin with no head within the limits
abbrev pub BeginsWithNoHead : List ℕ → Type 0
BeginsWithNoHead bytes = (h : ResponseHead) (rest : List ℕ) → ReadsResponse bytes h rest → IsWithinLimits h → ⊥

-- the bytes say no reply
abbrev pub SaysNothing : List ℕ → Type 0
SaysNothing bytes = (r : Replied) → Says bytes r → ⊥

-- the bytes begin with a head within the limits, which states a body longer than this
abbrev pub StatesLonger : ℕ → List ℕ → Type 0
StatesLonger most bytes = (h : ResponseHead) × (rest : List ℕ) × (n : ℕ) × ReadsResponse bytes h rest × IsWithinLimits h × HasLength h n × (most < n)

-- the transfer codings, and the length, that fields state
abbrev pub codings_in : List Field → List (List ℕ)
codings_in fields = values_of (codes "transfer-encoding") fields

abbrev pub stated_in : List Field → Option (Option ℕ)
stated_in fields = length_in (values_of (codes "content-length") fields)

-- a stated length says how the end of a body is known, of which so many bytes are read at most
abbrev pub IsFramedByLength : ℕ → Option (Option ℕ) → Framing → Type 0
IsFramedByLength most stated (framing.Length n) = (stated ≡ Some (Some n)) × (n ≤ most)
IsFramedByLength most stated framing.TooLong = (n : ℕ) × (stated ≡ Some (Some n)) × (most < n)
IsFramedByLength most stated framing.Chunked = ⊥
IsFramedByLength most stated framing.Other = (n : ℕ) → stated ≡ Some (Some n) → ⊥

-- no transfer coding and a length, or the coding in chunks alone; anything else is another way
abbrev pub IsFramed : ℕ → List Field → Framing → Type 0
IsFramed most fields (framing.Length n) = (codings_in fields ≡ []) × (stated_in fields ≡ Some (Some n)) × (n ≤ most)
IsFramed most fields framing.TooLong = (codings_in fields ≡ []) × ((n : ℕ) × (stated_in fields ≡ Some (Some n)) × (most < n))
IsFramed most fields framing.Chunked = (coding : List ℕ) × (codings_in fields ≡ coding ∷ []) × (str_eq_ignore_ascii_case coding (codes "chunked") ≡ true)
IsFramed most fields framing.Other =
    ((n : ℕ) → codings_in fields ≡ [] → stated_in fields ≡ Some (Some n) → ⊥)
    × ((coding : List ℕ) → codings_in fields ≡ coding ∷ [] → str_eq_ignore_ascii_case coding (codes "chunked") ≡ true → ⊥)

-- what counts of a head, where so many bytes of a body are read at most
abbrev pub IsHeadOf : ℕ → ResponseHead → ReplyHead → Type 0
IsHeadOf most h r = (status_code h ≡ r.code) × IsFramed most (fields_of h) r.framing × (r.retry_after ≡ retry_after (fields_of h))
