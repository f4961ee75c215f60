-- What is written, read.
use Rattle.std.proofs.Common.{◌≡◌, ℕ, List, [], ◌∷◌, ◌++◌, length, true, Some, codes, decimal, refl, sym, ap, ◌∙◌, subst, arith, append_assoc, append-nil}
use Rattle.std.proofs.lemmas.List.{length-append}
use Rattle.std.proofs.lemmas.List.Elements.{All-cons}
use Rattle.std.proofs.lemmas.List.Sums.{AllPass-from_list_all}
use Rattle.std.specs.Prelude.{All, IsTrue, nat_lt}
use Rattle.std.specs.List.{list_all}
use Rattle.std.specs.Char.{is_ascii_digit}
use Rattle.std.proofs.lemmas.Fmt.{decimal_is_IsNumeral, length-decimal-le}
use Rattle.httparse.specs.Grammar.{AllPass, is_token_byte, is_value_byte, Field, IsField, ResponseHead, IsResponseHead, ReadsResponse, status_code}
use Rattle.httparse.proofs.GrammarLemmas.{response_unique, ReadsResponse-append}
use Rattle.chunked.specs.Reading.{longest_line}
use Rattle.chunked.proofs.Bodies.{written}
use Rattle.spec_http.specs.Heads.{length_in}
use Rattle.spec_http.specs.Replies.{phrase, head_text, response_text, watch_head, frames_text}
use Rattle.chunked.specs.Bodies.{last_chunk}
use Rattle.spec_http.proofs.OnLiterals.{http_on_literals}
use Rattle.spec_http.specs.Answers.{Replied, HasLength, IsWithinLimits, OpensWatch}
use Rattle.spec_http.specs.ClientLaws.{IsReply, OneReplyIsSaid, RepliesOpenNoWatch, WholeRepliesStay, WrittenRepliesAreRead, CutRepliesAreLost, WrittenWatchesAreRead}
use Rattle.spec_http.proofs.Numerals.{trimmed, stated, in_value, are_digits, three_digits}
use Rattle.spec_http.proofs.Printed.{field, head_with, length_field, printed, sizes, no_codings, lengths, phrase_passes, phrase_short, field_from}

abbrev reply : ℕ → List ℕ → Replied
reply c b = record { code = c; body = b }

same_reply : (r s : Replied) → r.code ≡ s.code → r.body ≡ s.body → r ≡ s
same_reply r s e f = ap (λ c. reply c r.body) e ∙ ap (λ b. reply s.code b) f

twice : (a b : ℕ) → Some (Some a) ≡ Some (Some b) → a ≡ b
twice a b e = cc

-- texts of one length at the front of the same bytes
front_same : (a b x y : List ℕ) → a ++ x ≡ b ++ y → length a ≡ length b → a ≡ b
front_same [] [] x y e l = refl
front_same [] (b ∷ t) x y e l = absurd (omega (arith, l))
front_same (a ∷ s) [] x y e l = absurd (omega (arith, l))
front_same (a ∷ s) (b ∷ t) x y e l =
    let first : a ≡ b = cc in
    let others : s ++ x ≡ t ++ y = cc in
    rw (first, front_same s t x y others (omega (arith, l))) refl

-- a head states one length
one_length : (h k : ResponseHead) (m n : ℕ) → h ≡ k → HasLength h m → HasLength k n → m ≡ n
one_length h k m n e long long' = twice m n (sym long.1 ∙ (subst (λ g. HasLength g n) (sym e) long').1)

pub one_reply : OneReplyIsSaid
one_reply bytes r s (h, rest, reads, limits, long, code) (k, left, others, limits', long', code') =
    let same = response_unique bytes h k (r.body ++ rest) (s.body ++ left) reads others in
    let size : length r.body ≡ length s.body = one_length h k (length r.body) (length s.body) same.0 long long' in
    same_reply r s (sym code ∙ ap status_code same.0 ∙ code') (front_same r.body s.body rest left same.1 size)

pub no_watch : RepliesOpenNoWatch
no_watch bytes body r (h, rest, reads, limits, long, code) (k, others, limits', (coding, named, same_coding), code') =
    let same = response_unique bytes h k (r.body ++ rest) body reads others in
    let none = (subst (λ g. HasLength g (length r.body)) same.0 long).0 in
    absurd (cc)

pub stays : WholeRepliesStay
stays bytes more r (h, rest, reads, limits, long, code) =
    (h, rest ++ more, subst (λ x. ReadsResponse (bytes ++ more) h x) (append_assoc r.body rest more) (ReadsResponse-append bytes h (r.body ++ rest) more reads), limits, long, code)

-- ---- the head of a reply

abbrev head_for : Replied → ResponseHead
head_for r = head_with (decimal r.code) (phrase r.code) (length_field (decimal (length r.body)))

framed : (n : List ℕ) → AllPass is_value_byte n → IsField (length_field n)
unfolding http_on_literals
framed n pass = field_from (codes "Content-Length") (32 ∷ n) refl refl (All-cons (λ b. IsTrue (is_value_byte b)) 32 n refl pass)

literal : (name raw : List ℕ) → nat_lt 0 (length name) ≡ true → list_all is_token_byte name ≡ true → list_all is_value_byte raw ≡ true → IsField (field name raw)
literal name raw some token pass = field_from name raw some token (AllPass-from_list_all is_value_byte raw pass)

fields_well : (f : Field) → IsField f → All IsField (field (codes "Content-Type") (codes " application/json") ∷ f ∷ field (codes "Connection") (codes " close") ∷ [])
unfolding http_on_literals
fields_well f good =
    let type = literal (codes "Content-Type") (codes " application/json") refl refl refl in
    let close = literal (codes "Connection") (codes " close") refl refl refl in
    let last : List Field = field (codes "Connection") (codes " close") ∷ [] in
    let closes : All IsField last = All-cons IsField (field (codes "Connection") (codes " close")) [] close (λ k d here. absurd (omega (arith, here))) in
    All-cons IsField (field (codes "Content-Type") (codes " application/json")) (f ∷ last) type (All-cons IsField f last good closes)

head_well : (r : Replied) → IsReply r → IsResponseHead (head_for r)
head_well r (low, high, short) = record {
  minor = omega arith;
  digits = (three_digits r.code low high, are_digits r.code (omega (arith, high)));
  reason = phrase_passes r.code;
  fields = fields_well (length_field (decimal (length r.body))) (framed (decimal (length r.body)) (in_value (length r.body) short));
}

within : (r : Replied) → IsReply r → IsWithinLimits (head_for r)
within r (low, high, short) =
    let size = sizes (decimal r.code) (phrase r.code) (decimal (length r.body)) in
    let number = length-decimal-le 20 (length r.body) (omega arith) (omega (arith, short)) short in
    (omega (arith, size, three_digits r.code low high, phrase_short r.code, number), omega arith)

has_length : (r : Replied) → IsReply r → HasLength (head_for r) (length r.body)
has_length r (low, high, short) =
    let size = decimal (length r.body) in
    let values = lengths (decimal r.code) (phrase r.code) size ∙ ap (λ v. v ∷ []) (trimmed (length r.body) short) in
    (no_codings (decimal r.code) (phrase r.code) size, ap length_in values ∙ stated (length r.body) short)

reads_reply : (r : Replied) (rest : List ℕ) → IsReply r → ReadsResponse (response_text r.code r.body ++ rest) (head_for r) (r.body ++ rest)
reads_reply r rest ok =
    let text = printed (decimal r.code) (phrase r.code) (decimal (length r.body)) in
    (head_well r ok, append_assoc (head_text r.code (codes "Content-Length: " ++ decimal (length r.body))) r.body rest ∙ ap (λ t. t ++ (r.body ++ rest)) (sym text))

pub written_read : WrittenRepliesAreRead
written_read r rest ok =
    (head_for r, rest, reads_reply r rest ok, within r ok, has_length r ok, (decimal_is_IsNumeral r.code (omega (arith, ok.1))).1)

pub cut_lost : CutRepliesAreLost
cut_lost r s bytes more ok e some (k, left, others, limits, long, code) =
    let whole : ReadsResponse (response_text r.code r.body ++ []) (head_for r) (r.body ++ []) = reads_reply r [] ok in
    let cut : ReadsResponse (bytes ++ more) k ((s.body ++ left) ++ more) = ReadsResponse-append bytes k (s.body ++ left) more others in
    let bytes_are : response_text r.code r.body ++ [] ≡ bytes ++ more = append-nil _ ∙ e in
    let same = response_unique (bytes ++ more) (head_for r) k (r.body ++ []) ((s.body ++ left) ++ more) (subst (λ b. ReadsResponse b (head_for r) (r.body ++ [])) bytes_are whole) cut in
    let size : length r.body ≡ length s.body = one_length (head_for r) k (length r.body) (length s.body) same.0 (has_length r ok) long in
    let total = ap length same.1 in
    absurd (omega (arith, some, size, total, length-append r.body [], length-append (s.body ++ left) more, length-append s.body left))

-- ---- watches

abbrev watch_with : ResponseHead
watch_with = head_with (codes "200") (codes "OK") (field (codes "Transfer-Encoding") (codes " chunked"))

watch_well : IsResponseHead watch_with
unfolding http_on_literals
watch_well = record {
  minor = omega arith;
  digits = (refl, AllPass-from_list_all is_ascii_digit (codes "200") refl);
  reason = AllPass-from_list_all is_value_byte (codes "OK") refl;
  fields = fields_well (field (codes "Transfer-Encoding") (codes " chunked")) (literal (codes "Transfer-Encoding") (codes " chunked") refl refl refl);
}

pub opens : (body : List ℕ) → OpensWatch (watch_head ++ body) body
unfolding http_on_literals
opens body = (watch_with, (watch_well, refl), (omega arith, omega arith), (codes "chunked", refl, refl), refl)

pub watches_read : WrittenWatchesAreRead
watches_read k lines are = (frames_text k lines ++ last_chunk, opens (frames_text k lines ++ last_chunk), (longest_line, written _ [] are))
