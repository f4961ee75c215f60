-- What is found stays found, whatever follows.
use Rattle.std.proofs.Common.{◌≤◌, ℕ, List, ◌++◌, drop, length, Option, None, inl, inr, refl, sym, ap, ◌∙◌, subst, arith, append_assoc, append-nil, length-append}
use Rattle.std.proofs.lemmas.List.{take-append-le, take_all}
use Rattle.std.proofs.KnownBytes.{Consumes-trans}
use Rattle.httparse.specs.declared.spans.HeaderSpan.{HeaderSpan}
use Rattle.httparse.specs.declared.spans.RequestSpans.{RequestSpans}
use Rattle.httparse.specs.Grammar.{RequestHead, ReadsRequest, NeverHasRequest, HasNoRequest}
use Rattle.httparse.specs.Spans.{IsRequestAt}
use Rattle.httparse.proofs.GrammarLemmas.{request_unique, ReadsRequest-append}
use Rattle.spec_http.specs.Connections.{longest_head, IsWithinLimits, IsHeadTooLarge, Asks}
use Rattle.spec_http.proofs.Staying.{never_after, too_large_after}
use Rattle.http_request_head.specs.Laws.{FoundHeadsAsk}
use Rattle.http_request_head.specs.Reading.{Reads}
use Rattle.http_request_head.specs.declared.found.FoundHead.TheVariants as found

-- two heads at the same place are one
same_limits : (bytes : List ℕ) (fields : List HeaderSpan) (spans : RequestSpans) (h k : RequestHead) → IsRequestAt bytes fields spans h → IsRequestAt bytes fields spans k
    → IsWithinLimits h → IsWithinLimits k
same_limits bytes fields spans h k x y limits = subst IsWithinLimits (request_unique bytes h k (drop spans.len bytes) (drop spans.len bytes) x.reads y.reads).0 limits

pub found_asks : FoundHeadsAsk
found_asks bytes fields (found.Whole spans) more is = λ k at.
    inl (k, drop spans.len bytes ++ more, ReadsRequest-append bytes k (drop spans.len bytes) more at.reads, same_limits bytes fields spans is.0.0 k is.0.1 at is.0.2, refl)
found_asks bytes fields found.IllFormed more is = inr (inl (never_after bytes more is, refl))
found_asks bytes fields found.TooLarge more is = inr (inr (inl (too_large_after bytes more is, refl)))
found_asks bytes fields found.Cut more is = λ nothing. subst (λ m. Asks (bytes ++ m) None) (sym nothing) (subst (λ b. Asks b None) (sym (append-nil bytes)) (inr (inr (inr (is, refl)))))

-- as many bytes as a head may have, and no head
pub too_long : (bytes : List ℕ) → longest_head ≤ length bytes → length bytes ≤ longest_head → HasNoRequest bytes → IsHeadTooLarge bytes
too_long bytes least most none = inl (least, subst HasNoRequest (sym (take_all longest_head bytes most)) none)

-- what is read after what was read before
pub reads_on : (a b c : Option (List ℕ)) (old mid new : List ℕ) → Reads a b old mid → Reads b c mid new → Reads a c old new
reads_on a b c old mid new (front, is, first) (back, next, second) =
    (front ++ back, next ∙ ap (λ x. x ++ back) is ∙ append_assoc old front back, Consumes-trans a b c front back first second)
