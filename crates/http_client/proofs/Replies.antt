-- Replies, and where there is none.
use Rattle.std.proofs.Common.{◌≡◌, inl, inr, ◌≤◌, ◌<◌, ℕ, List, [], ◌∷◌, ◌++◌, length, Option, Some, None, refl, sym, ap, ◌∙◌, subst, arith, length-append}
use Rattle.std.specs.Io.KnownBytes.{Consumes}
use Rattle.std.proofs.KnownBytes.{Consumes-trans}
use Rattle.httparse.specs.Grammar.{ResponseHead, print_response, ReadsResponse, status_code}
use Rattle.httparse.proofs.GrammarLemmas.{response_unique, ReadsResponse-append}
use Rattle.chunked.specs.Bodies.{IsBodyWithin}
use Rattle.chunked.specs.Reading.{longest_line}
use Rattle.spec_http.specs.Answers.{Replied, Says, HasLength, IsChunked, fields_of, transfer_codings}
use Rattle.http_client.specs.Heads.{BeginsWithNoHead, SaysNothing, IsFramed, IsHeadOf}
use Rattle.http_client.specs.Patience.{AsksPatience}
use Rattle.http_client.specs.Reading.{IfKnown, IsShorterThan, ReadsHead, ReadsLongerHead}
use Rattle.http_client.specs.Bodies.{ReadsBody, HasNoBody, HasLongBody, IsStatedWithin}
use Rattle.http_client.specs.Replies.{ReadsReply, SaysInChunks, SaysWhole, SaysNoReply, IsNoBody, IsLonger}
use Rattle.http_client.specs.Watches.{IsOpening}
use Rattle.http_client.proofs.WholeBodies.{body_there}
use Rattle.http_client.specs.declared.opening.WatchAnswer.{WatchAnswer}
use Rattle.http_client.specs.declared.opening.WatchAnswer.TheVariants as opening
use Rattle.http_client.specs.declared.framing.Framing.{Framing}
use Rattle.http_client.specs.declared.framing.Framing.TheVariants as framing
use Rattle.http_client.specs.declared.reply_head.ReplyHead.{ReplyHead}

-- ---- a reply

-- a head, and then the body that it states
pub reply_read : (before mid after : Option (List ℕ)) (h : ResponseHead) (r : Replied) → ReadsHead before mid h → Consumes mid after r.body → HasLength h (length r.body) → status_code h ≡ r.code
    → ReadsReply before after r
reply_read before mid after h r (well, limits, read) body long code =
    (print_response h ++ r.body, Consumes-trans before mid after (print_response h) r.body read body, (h, (well, refl), limits, long, code))

-- ---- none

-- a head states one length
length_same : (h k : ResponseHead) (m n : ℕ) → h ≡ k → HasLength h m → HasLength k n → m ≡ n
length_same h k m n e long long' =
    let same : HasLength k m = subst (λ g. HasLength g m) e long in
    let twice : Some (Some m) ≡ Some (Some n) = sym same.1 ∙ long'.1 in
    cc twice

short_body : (xs ys : List ℕ) (h : ResponseHead) (n : ℕ) (r : Replied) → ReadsResponse xs h ys → HasLength h n → length ys < n → Says xs r → ⊥
short_body xs ys h n r reads long short (k, rest, others, limits, long', code) =
    let same = response_unique xs h k ys (r.body ++ rest) reads others in
    let size : n ≡ length r.body = length_same h k n (length r.body) same.0 long long' in
    absurd (omega (arith, short, size, ap length same.1, length-append r.body rest))

-- with less than the body that its head states
pub short_says : (before mid : Option (List ℕ)) (h : ResponseHead) (n : ℕ) → ReadsHead before mid h → HasLength h n → IfKnown mid (IsShorterThan n) → IfKnown before SaysNothing
short_says None mid h n reads long short = tt
short_says (Some xs) None h n (well, limits, read) long short = absurd read
short_says (Some xs) (Some ys) h n (well, limits, read) long short = λ r says. short_body xs ys h n r (well, read) long short says

unstated : (xs ys : List ℕ) (h : ResponseHead) (r : Replied) → ReadsResponse xs h ys → ((n : ℕ) → HasLength h n → ⊥) → Says xs r → ⊥
unstated xs ys h r reads none (k, rest, others, limits, long, code) =
    let same = response_unique xs h k ys (r.body ++ rest) reads others in
    none (length r.body) (subst (λ g. HasLength g (length r.body)) (sym same.0) long)

-- with a head that states no length
pub unstated_says : (before mid : Option (List ℕ)) (h : ResponseHead) → ReadsHead before mid h → ((n : ℕ) → HasLength h n → ⊥) → IfKnown before SaysNothing
unstated_says None mid h reads none = tt
unstated_says (Some xs) None h (well, limits, read) none = absurd read
unstated_says (Some xs) (Some ys) h (well, limits, read) none = λ r says. unstated xs ys h r (well, read) none says

-- ---- by what counts of a head

abbrev pub HeadRead : ℕ → Option (List ℕ) → Option (List ℕ) → ReplyHead → Type 0
HeadRead most before mid r = (h : ResponseHead) × ReadsHead before mid h × IsHeadOf most h r

framed_as : (most : ℕ) (h : ResponseHead) (r : ReplyHead) (f : Framing) → IsHeadOf most h r → r.framing ≡ f → IsFramed most (fields_of h) f
framed_as most h r f of is = subst (λ g. IsFramed most (fields_of h) g) is of.1

-- the length that a head states is its body's
stated : (most : ℕ) (h : ResponseHead) (r : ReplyHead) (n : ℕ) → IsHeadOf most h r → r.framing ≡ framing.Length n → HasLength h n
stated most h r n of is = let long = framed_as most h r (framing.Length n) of is in (long.0, long.1)

-- one within the limit
pub stated_within : (most : ℕ) (before mid : Option (List ℕ)) (head : ReplyHead) (n : ℕ) → HeadRead most before mid head → head.framing ≡ framing.Length n → n ≤ most
stated_within most before mid head n (h, reads, of) is = (framed_as most h head (framing.Length n) of is).2

-- or one beyond it
pub head_longer : (most : ℕ) (before mid : Option (List ℕ)) (head : ReplyHead) → HeadRead most before mid head → head.framing ≡ framing.TooLong → ReadsLongerHead most before mid
head_longer most before mid head (h, reads, of) is =
    let long = framed_as most h head framing.TooLong of is in
    (h, long.1.0, reads, (long.0, long.1.1), long.1.2)

pub reply_whole : (most : ℕ) (before mid after : Option (List ℕ)) (head : ReplyHead) (n : ℕ) (r : Replied) → HeadRead most before mid head → head.framing ≡ framing.Length n → Consumes mid after r.body
    → length r.body ≡ n → head.code ≡ r.code → ReadsReply before after r
reply_whole most before mid after head n r (h, reads, of) is body long same =
    reply_read before mid after h r reads body (subst (λ m. HasLength h m) (sym long) (stated most h head n of is)) (of.0 ∙ same)

pub reply_short : (most : ℕ) (before mid : Option (List ℕ)) (head : ReplyHead) (n : ℕ) → HeadRead most before mid head → head.framing ≡ framing.Length n → IfKnown mid (IsShorterThan n)
    → IfKnown before SaysNothing
reply_short most before mid head n (h, reads, of) is short = short_says before mid h n reads (stated most h head n of is) short

pub reply_in_chunks : (most : ℕ) (before mid : Option (List ℕ)) (head : ReplyHead) → HeadRead most before mid head → head.framing ≡ framing.Chunked → IfKnown before SaysNothing
reply_in_chunks most before mid head (h, reads, of) is =
    let chunked = framed_as most h head framing.Chunked of is in
    unstated_says before mid h reads (λ n long. some_none chunked.0 (chunked.1) long.0)
  where
    some_none : {vs : List (List ℕ)} → (v : List ℕ) → vs ≡ v ∷ [] → vs ≡ [] → ⊥
    some_none v e none = absurd (cc)

pub reply_other : (most : ℕ) (before mid : Option (List ℕ)) (head : ReplyHead) → HeadRead most before mid head → head.framing ≡ framing.Other → IfKnown before SaysNothing
reply_other most before mid head (h, reads, of) is =
    let other = framed_as most h head framing.Other of is in
    unstated_says before mid h reads (λ n long. other.0 n long.0 long.1)

-- a body comes in chunks just where its head is framed so
none_some : {vs : List (List ℕ)} → (v : List ℕ) → vs ≡ [] → vs ≡ v ∷ [] → ⊥
none_some v none e = absurd (cc)

chunked_framing : (most : ℕ) (h : ResponseHead) (f : Framing) → IsFramed most (fields_of h) f → IsChunked h → f ≡ framing.Chunked
chunked_framing most h (framing.Length n) is chunked = absurd (none_some chunked.0 is.0 chunked.1)
chunked_framing most h framing.TooLong is chunked = absurd (none_some chunked.0 is.0 chunked.1)
chunked_framing most h framing.Chunked is chunked = refl
chunked_framing most h framing.Other is chunked = absurd (is.1 chunked.0 chunked.1 chunked.2)

-- a head of another code than an opened watch's, or without chunks, refuses it, with what it asks
pub head_refuses : (most : ℕ) (before mid : Option (List ℕ)) (head : ReplyHead) (a : WatchAnswer) → a ≡ opening.Refused head.code head.retry_after → HeadRead most before mid head → (head.code ≡ 410 → ⊥) → (head.framing ≡ framing.Chunked → head.code ≡ 200 → ⊥)
    → IsOpening before mid a
head_refuses most before mid head a same (h, reads, of) known none =
    subst (IsOpening before mid) (sym same) (h, reads, (of.0, (λ is. known is), (λ both. none (chunked_framing most h head.framing of.1 both.0) both.1), of.2))

-- ---- replies, however their bodies end

says_by_length : (xs : List ℕ) (left : Option (List ℕ)) (r : Replied) → ReadsReply (Some xs) left r → Says xs r
says_by_length xs None r reads = absurd reads.1
says_by_length xs (Some ys) r (bytes, read, (h, reads, limits, long, code)) =
    (h, ys, subst (λ b. ReadsResponse b h (r.body ++ ys)) (sym read) (ReadsResponse-append bytes h r.body ys reads), limits, long, code)

whole_by : (most : ℕ) (f : Framing) (xs : List ℕ) (mid : Option (List ℕ)) (head : ReplyHead) (r : Replied) → HeadRead most (Some xs) mid head → head.framing ≡ f → ReadsBody f mid r.body → head.code ≡ r.code
    → SaysWhole xs r
whole_by most (framing.Length n) xs mid head r read is (after, body, long) same = inl (says_by_length xs after r (reply_whole most (Some xs) mid after head n r read is body long same))
whole_by most framing.TooLong xs mid head r read is body same = absurd body
whole_by most framing.Chunked xs None head r (h, reads, of) is body same = absurd reads.2
whole_by most framing.Chunked xs (Some ys) head r (h, (well, limits, read), of) is (after, reaches) same =
    let there = body_there ys after r.body reaches in
    inr (h, ys, there.1, there.0, (well, read), limits, framed_as most h head framing.Chunked of is, there.2, there.3, of.0 ∙ same)
whole_by most framing.Other xs mid head r read is body same = absurd body

pub whole_says : (most : ℕ) (before mid : Option (List ℕ)) (head : ReplyHead) (r : Replied) → HeadRead most before mid head → ReadsBody head.framing mid r.body → head.code ≡ r.code
    → IfKnown before (λ bytes. SaysWhole bytes r)
whole_says most None mid head r read body same = tt
whole_says most (Some xs) mid head r read body same = whole_by most head.framing xs mid head r read refl body same

-- a head that was read says for how long its server asks to be left alone
pub patience_says : (most : ℕ) (before mid : Option (List ℕ)) (head : ReplyHead) (wait : Option ℕ) → HeadRead most before mid head → wait ≡ head.retry_after
    → IfKnown before (λ bytes. AsksPatience bytes wait)
patience_says most None mid head wait read same = tt
patience_says most (Some xs) None head wait (h, reads, of) same = absurd reads.2
patience_says most (Some xs) (Some ys) head wait (h, (well, limits, read), of) same = (h, ys, (well, read), limits, same ∙ of.2)

-- without a head
headless : (xs : List ℕ) (r : Replied) → BeginsWithNoHead xs → SaysWhole xs r → ⊥
headless xs r none (inl says) = none says.0 (r.body ++ says.1) says.2 says.3
headless xs r none (inr says) = none says.0 says.1 says.4 says.5

pub headless_says : (before : Option (List ℕ)) → IfKnown before BeginsWithNoHead → IfKnown before SaysNoReply
headless_says None none = tt
headless_says (Some xs) none = λ r says. headless xs r none says

-- without a body
unchunked : (xs ys : List ℕ) (h : ResponseHead) (r : Replied) → ReadsResponse xs h ys → (IsChunked h → IsNoBody ys) → SaysInChunks xs r → ⊥
unchunked xs ys h r reads none (k, body, rest, chunks, others, limits, chunked, is, joined, code) =
    let same = response_unique xs h k ys body reads others in
    none (subst (λ g. IsChunked g) (sym same.0) chunked) chunks rest (subst (λ b. IsBodyWithin longest_line chunks b rest) (sym same.1) is)

either : (xs ys : List ℕ) (h : ResponseHead) (r : Replied) → ReadsResponse xs h ys → (Says xs r → ⊥) → (IsChunked h → IsNoBody ys) → SaysWhole xs r → ⊥
either xs ys h r reads one other (inl says) = one says
either xs ys h r reads one other (inr says) = unchunked xs ys h r reads other says

some_none : (v : List ℕ) (vs : List (List ℕ)) → vs ≡ v ∷ [] → vs ≡ [] → ⊥
some_none v vs e none = absurd (cc)

no_whole_by : (most : ℕ) (f : Framing) (xs ys : List ℕ) (head : ReplyHead) (h : ResponseHead) → ReadsHead (Some xs) (Some ys) h → IsHeadOf most h head → head.framing ≡ f → HasNoBody f (Some ys) → SaysNoReply xs
no_whole_by most (framing.Length n) xs ys head h (well, limits, read) of is short = λ r.
    let long = stated most h head n of is in
    either xs ys h r (well, read) (short_body xs ys h n r (well, read) long short) (λ chunked. absurd (some_none chunked.0 (transfer_codings h) chunked.1 long.0))
no_whole_by most framing.TooLong xs ys head h reads of is none = absurd none
no_whole_by most framing.Chunked xs ys head h (well, limits, read) of is none = λ r.
    let chunked = framed_as most h head framing.Chunked of is in
    either xs ys h r (well, read) (unstated xs ys h r (well, read) (λ n long. some_none chunked.0 (transfer_codings h) chunked.1 long.0)) (λ other. none)
no_whole_by most framing.Other xs ys head h (well, limits, read) of is none = λ r.
    let other = framed_as most h head framing.Other of is in
    either xs ys h r (well, read) (unstated xs ys h r (well, read) (λ n long. other.0 n long.0 long.1)) (λ chunked. absurd (other.1 chunked.0 chunked.1 chunked.2))

pub bodiless_says : (most : ℕ) (before mid : Option (List ℕ)) (head : ReplyHead) → HeadRead most before mid head → HasNoBody head.framing mid → IfKnown before SaysNoReply
bodiless_says most None mid head read none = tt
bodiless_says most (Some xs) None head (h, reads, of) none = absurd reads.2
bodiless_says most (Some xs) (Some ys) head (h, reads, of) none = no_whole_by most head.framing xs ys head h reads of refl none

-- with a body within the limit, as far as the head states it
framed_within : (most : ℕ) (f : Framing) (h : ResponseHead) → IsFramed most (fields_of h) f → IsStatedWithin most f
framed_within most (framing.Length n) h is = is.2
framed_within most framing.TooLong h is = tt
framed_within most framing.Chunked h is = tt
framed_within most framing.Other h is = tt

pub head_within : (most : ℕ) (before mid : Option (List ℕ)) (head : ReplyHead) → HeadRead most before mid head → IsStatedWithin most head.framing
head_within most before mid head (h, reads, of) = framed_within most head.framing h of.1

-- with a longer one
longer_by : (most : ℕ) (f : Framing) (xs ys : List ℕ) (head : ReplyHead) (h : ResponseHead) → ReadsHead (Some xs) (Some ys) h → IsHeadOf most h head → head.framing ≡ f
    → HasLongBody most f (Some ys) → IsLonger most xs
longer_by most (framing.Length n) xs ys head h reads of is long = absurd long
longer_by most framing.TooLong xs ys head h (well, limits, read) of is long =
    let more = framed_as most h head framing.TooLong of is in
    inl (h, ys, more.1.0, (well, read), limits, (more.0, more.1.1), more.1.2)
longer_by most framing.Chunked xs ys head h (well, limits, read) of is long = inr (h, ys, (well, read), limits, framed_as most h head framing.Chunked of is, long)
longer_by most framing.Other xs ys head h reads of is long = absurd long

pub longer_says : (most : ℕ) (before mid : Option (List ℕ)) (head : ReplyHead) → HeadRead most before mid head → HasLongBody most head.framing mid → IfKnown before (IsLonger most)
longer_says most None mid head read long = tt
longer_says most (Some xs) None head (h, reads, of) long = absurd reads.2
longer_says most (Some xs) (Some ys) head (h, reads, of) long = longer_by most head.framing xs ys head h reads of refl long
