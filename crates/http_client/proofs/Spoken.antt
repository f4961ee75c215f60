-- What is written for a reply, read whole.
use Rattle.std.proofs.Common.{◌≡◌, ◌<◌, ℕ, List, [], ◌∷◌, ◌++◌, length, Some, inl, inr, sym, ap, ◌∙◌, subst, append-nil}
use Rattle.httparse.specs.Grammar.{ResponseHead, ReadsResponse, status_code}
use Rattle.httparse.proofs.GrammarLemmas.{response_unique, ReadsResponse-append}
use Rattle.chunked.specs.Bodies.{IsBodyWithin, joined}
use Rattle.chunked.specs.Reading.{longest_line}
use Rattle.chunked.proofs.Bodies.{one_body}
use Rattle.spec_http.specs.Replies.{response_text}
use Rattle.spec_http.specs.Answers.{Replied, Says, HasLength, IsChunked, transfer_codings}
use Rattle.spec_http.specs.ClientLaws.{IsReply}
use Rattle.spec_http.proofs.Read.{one_reply, written_read, cut_lost}
use Rattle.http_client.specs.Laws.{OneWholeReplyIsSaid, WrittenRepliesAreWhole, CutRepliesAreNotWhole, LongerRepliesAreBeyond}
use Rattle.http_client.specs.Heads.{StatesLonger}
use Rattle.http_client.specs.Replies.{SaysInChunks, SaysWhole, IsBodyLonger}

abbrev reply : ℕ → List ℕ → Replied
reply c b = record { code = c; body = b }

same_reply : (r s : Replied) → r.code ≡ s.code → r.body ≡ s.body → r ≡ s
same_reply r s e f = ap (λ c. reply c r.body) e ∙ ap (λ b. reply s.code b) f

-- a head does not state both a length and chunks
not_both : (h k : ResponseHead) (n : ℕ) → h ≡ k → HasLength h n → IsChunked k → ⊥
not_both h k n e long chunked =
    let none : transfer_codings k ≡ [] = subst (λ g. transfer_codings g ≡ []) e long.0 in
    absurd (some_none chunked.0 (transfer_codings k) chunked.1 none)
  where
    some_none : (v : List ℕ) (vs : List (List ℕ)) → vs ≡ v ∷ [] → vs ≡ [] → ⊥
    some_none v vs e none = absurd (cc)

-- a head states one length
one_length : (h k : ResponseHead) (m n : ℕ) → h ≡ k → HasLength h m → HasLength k n → m ≡ n
one_length h k m n e long long' =
    let same : HasLength k m = subst (λ g. HasLength g m) e long in
    let twice : Some (Some m) ≡ Some (Some n) = sym same.1 ∙ long'.1 in
    cc twice

-- what says a reply by its length says none in chunks
one_way : (bytes : List ℕ) (r s : Replied) → Says bytes r → SaysInChunks bytes s → ⊥
one_way bytes r s (h, rest, reads, limits, long, code) (k, body, left, chunks, others, limits', chunked, is, joined, code') =
    not_both h k (length r.body) (response_unique bytes h k (r.body ++ rest) body reads others).0 long chunked

in_chunks : (bytes : List ℕ) (r s : Replied) → SaysInChunks bytes r → SaysInChunks bytes s → r ≡ s
in_chunks bytes r s (h, body, rest, chunks, reads, limits, chunked, is, all, code) (k, body', rest', chunks', reads', limits', chunked', is', all', code') =
    let same = response_unique bytes h k body body' reads reads' in
    let there : IsBodyWithin longest_line chunks body' rest = subst (λ b. IsBodyWithin longest_line chunks b rest) same.1 is in
    let one = one_body longest_line longest_line chunks chunks' body' rest rest' there is' in
    same_reply r s (sym code ∙ ap status_code same.0 ∙ code') (all ∙ ap joined one.0 ∙ sym all')

pub one_whole : OneWholeReplyIsSaid
one_whole bytes r s (inl a) (inl b) = one_reply bytes r s a b
one_whole bytes r s (inl a) (inr b) = absurd (one_way bytes r s a b)
one_whole bytes r s (inr a) (inl b) = absurd (one_way bytes s r b a)
one_whole bytes r s (inr a) (inr b) = in_chunks bytes r s a b

pub written_whole : WrittenRepliesAreWhole
written_whole r rest ok =
    let says : SaysWhole (response_text r.code r.body ++ rest) r = inl (written_read r rest ok) in
    (says, λ s other. one_whole (response_text r.code r.body ++ rest) s r other says)

-- of the text of a reply no beginning says one in chunks, as the whole states a length
not_in_chunks : (bytes more text : List ℕ) (r s : Replied) → text ≡ bytes ++ more → Says text r → SaysInChunks bytes s → ⊥
not_in_chunks bytes more text r s e (h, rest, reads, limits, long, code) (k, body, left, chunks, others, limits', chunked, is, joined, code') =
    let longer : ReadsResponse (bytes ++ more) k (body ++ more) = ReadsResponse-append bytes k body more others in
    let whole : ReadsResponse (bytes ++ more) h (r.body ++ rest) = subst (λ b. ReadsResponse b h (r.body ++ rest)) e reads in
    not_both h k (length r.body) (response_unique (bytes ++ more) h k (r.body ++ rest) (body ++ more) whole longer).0 long chunked

cut_by : (r s : Replied) (bytes more : List ℕ) → IsReply r → response_text r.code r.body ≡ bytes ++ more → 0 < length more → SaysWhole bytes s → ⊥
cut_by r s bytes more ok e some (inl says) = cut_lost r s bytes more ok e some says
cut_by r s bytes more ok e some (inr says) =
    not_in_chunks bytes more (response_text r.code r.body ++ []) r s (append-nil (response_text r.code r.body) ∙ e) (written_read r [] ok) says

pub cut_none : CutRepliesAreNotWhole
cut_none r bytes more ok e some = λ s says. cut_by r s bytes more ok e some says

-- ---- longer than a limit

stated_beyond : (most : ℕ) (bytes : List ℕ) (r : Replied) → StatesLonger most bytes → SaysWhole bytes r → most < length r.body
stated_beyond most bytes r (h, ys, n, reads, limits, long, more) (inl (k, rest, others, limits', long', code)) =
    let same = response_unique bytes h k ys (r.body ++ rest) reads others in
    subst (λ m. most < m) (one_length h k n (length r.body) same.0 long long') more
stated_beyond most bytes r (h, ys, n, reads, limits, long, more) (inr (k, body, rest, chunks, others, limits', chunked, is, all, code)) =
    absurd (not_both h k n (response_unique bytes h k ys body reads others).0 long chunked)

chunks_beyond : (most : ℕ) (bytes body : List ℕ) (h : ResponseHead) (r : Replied) → ReadsResponse bytes h body → IsChunked h → IsBodyLonger most body → SaysWhole bytes r → most < length r.body
chunks_beyond most bytes body h r reads chunked long (inl (k, rest, others, limits, stated, code)) =
    absurd (not_both k h (length r.body) (sym (response_unique bytes h k body (r.body ++ rest) reads others).0) stated chunked)
chunks_beyond most bytes body h r reads chunked long (inr (k, body', rest, chunks, others, limits, chunked', is, all, code)) =
    let same = response_unique bytes h k body body' reads others in
    subst (λ b. most < length b) (sym all) (long chunks rest (subst (λ b. IsBodyWithin longest_line chunks b rest) (sym same.1) is))

pub longer_beyond : LongerRepliesAreBeyond
longer_beyond most bytes r (inl stated) says = stated_beyond most bytes r stated says
longer_beyond most bytes r (inr (h, body, reads, limits, chunked, long)) says = chunks_beyond most bytes body h r reads chunked long says
