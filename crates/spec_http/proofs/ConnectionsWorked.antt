-- Single connections, by the laws.
use Rattle.std.proofs.Common.{◌≡◌, ◌≤◌, ◌<◌, ℕ, List, [], ◌∷◌, ◌++◌, length, Option, None, Result, refl, sym, subst, arith, codes, true}
use Rattle.httparse.specs.Grammar.{RequestHead, print_request}
use Rattle.spec_api.specs.Refusals.{Refusal}
use Rattle.spec_api.specs.Targets.{Asked}
use Rattle.spec_http.specs.Heads.{head_of}
use Rattle.spec_http.specs.Checks.{checked}
use Rattle.spec_http.specs.Connections.{IsWithinLimits, asked_after, AsksOnly}
use Rattle.spec_http.specs.HeadExamples.{head, all}
use Rattle.spec_http.specs.ConnectionExamples.{pods, HeadsEnd, BodiesAreWaitedFor}
use Rattle.spec_http.proofs.OnLiterals.{http_on_literals}
use Rattle.spec_http.proofs.WellFormed.{is_well_formed, well_formed}
use Rattle.spec_http.proofs.Halves.{heads_ask, half_a_head}

-- what is asked by bytes that are a head and what follows it
pub asked_by : (h : RequestHead) (rest bytes : List ℕ) (said : Option (Result Asked Refusal)) → is_well_formed h ≡ true → IsWithinLimits h → bytes ≡ print_request h ++ rest
    → asked_after (checked (head_of h)) rest ≡ said → AsksOnly bytes said
asked_by h rest bytes said ok limits e asks =
    subst (λ b. AsksOnly b said) (sym e) (subst (AsksOnly (print_request h ++ rest)) asks (heads_ask h rest (well_formed h ok) limits))

-- what is asked by bytes that are a part of a head
cut_of : (h : RequestHead) (bytes more : List ℕ) → is_well_formed h ≡ true → length h.fields ≤ 64 → print_request h ≡ bytes ++ more → 0 < length more → length bytes < 16384 → AsksOnly bytes None
cut_of h bytes more ok few e some short = half_a_head h bytes more (well_formed h ok) few e some short

get_pods : RequestHead
get_pods = head 1 (codes "GET") pods []

pub heads_end : HeadsEnd
unfolding http_on_literals get_pods
heads_end = (
  cut_of get_pods (codes "GET /api/v1/pods HTTP/1.1\r\n") (codes "\r\n") refl (omega arith) refl (omega arith) (omega arith),
  asked_by get_pods [] (codes "GET /api/v1/pods HTTP/1.1\r\n\r\n") _ refl (omega arith, omega arith) refl refl,
  asked_by get_pods (codes "GET /") (codes "GET /api/v1/pods HTTP/1.1\r\n\r\nGET /") _ refl (omega arith, omega arith) refl refl,
)

post : List ℕ → RequestHead
post length = head 1 (codes "POST") all ((codes "Content-Length", length) ∷ [])

pub bodies_waited : BodiesAreWaitedFor
unfolding http_on_literals post
bodies_waited = (
  asked_by (post (codes "25")) (codes "{\"metadata\":{\"name\":\"a\"}") _ None refl (omega arith, omega arith) refl refl,
  asked_by (post (codes "25")) (codes "{\"metadata\":{\"name\":\"a\"}}") _ _ refl (omega arith, omega arith) refl refl,
  asked_by (post (codes "1048577")) [] _ _ refl (omega arith, omega arith) refl refl,
  asked_by (head 1 (codes "POST") all []) [] _ _ refl (omega arith, omega arith) refl refl,
)
