-- Heads at their limits, by the laws.
use Rattle.std.proofs.Common.{◌≡◌, ◌<◌, [], length, Some, Err, true, ◌⊎◌, inl, inr, refl, sym, subst, arith, append-nil}
use Rattle.httparse.specs.Grammar.{RequestHead, print_request}
use Rattle.spec_api.specs.Refusals.{too_large}
use Rattle.spec_http.specs.Connections.{longest_head, most_fields, AsksOnly}
use Rattle.spec_http.specs.ConnectionExamples.{long, many, LimitsAreExact}
use Rattle.spec_http.proofs.OnLiterals.{http_on_literals}
use Rattle.spec_http.proofs.WellFormed.{is_well_formed, well_formed}
use Rattle.spec_http.proofs.ConnectionsWorked.{asked_by}
use Rattle.spec_http.proofs.Halves.{large_heads}

too_large_by : (h : RequestHead) → is_well_formed h ≡ true → ((longest_head < length (print_request h)) ⊎ (most_fields < length h.fields)) → AsksOnly (print_request h) (Some (Err too_large))
too_large_by h ok over = subst (λ b. AsksOnly b (Some (Err too_large))) (append-nil (print_request h)) (large_heads h [] (well_formed h ok) over)

long_at : length (print_request (long 16350)) ≡ 16384
unfolding http_on_literals
long_at = refl

long_over : length (print_request (long 16351)) ≡ 16385
unfolding http_on_literals
long_over = refl

long_asks : is_well_formed (long 16350) ≡ true
unfolding http_on_literals
long_asks = refl

long_is : is_well_formed (long 16351) ≡ true
unfolding http_on_literals
long_is = refl

pub limits : LimitsAreExact
unfolding http_on_literals
limits = (
  long_at,
  asked_by (long 16350) [] (print_request (long 16350)) _ long_asks (omega (arith, long_at), omega arith) (sym (append-nil (print_request (long 16350)))) refl,
  long_over,
  too_large_by (long 16351) long_is (inl (omega (arith, long_over))),
  asked_by (many 64) [] (print_request (many 64)) _ refl (omega arith, omega arith) (sym (append-nil (print_request (many 64)))) refl,
  too_large_by (many 65) refl (inr (omega arith)),
)
