-- What a client writes for a request, as a server reads it.
use Rattle.std.proofs.Common.{◌≡◌, ◌≤◌, ◌<◌, ◌^◌, ◌⊎◌, ℕ, List, [], ◌∷◌, ◌++◌, length, nat_lt, ◌&&◌, Bool, true, false, cond, Option, Some, None, Result, Ok, Err, inl, inr, codes, decimal, refl, sym, ap, ◌∙◌, subst, arith, append_assoc, append-nil, length-append}
use Rattle.std.specs.List.{list_all}
use Rattle.std.specs.Prelude.{All, IsTrue}
use Rattle.std.specs.Str.{bytes_eq}
use Rattle.std.proofs.lemmas.Bool.{ltb-true}
use Rattle.std.proofs.lemmas.Slice.Eq.{bytes_eq-Decides}
use Rattle.std.proofs.lemmas.List.Elements.{All-cons}
use Rattle.std.proofs.lemmas.List.Sums.{AllPass-from_list_all}
use Rattle.httparse.specs.Grammar.{crlf, AllPass, is_token, is_token_byte, is_uri_byte, is_value_byte, IsToken, Field, IsField, RequestHead, IsRequestHead, print_end, print_request, trim_ows}
use Rattle.spec_api.specs.declared.methods.Method.{Method}
use Rattle.spec_api.specs.declared.methods.Method.TheVariants.{Get, Post, Put, Patch, Delete}
use Rattle.spec_api.specs.Refusals.{Refusal, too_large}
use Rattle.spec_api.specs.Targets.{Asked, read_request}
use Rattle.chunked.specs.Bodies as bodies
use Rattle.spec_http.specs.Replies.{line}
use Rattle.spec_http.specs.Heads.{head_of, values_of, stated_length, length_in, media_type, has_transfer_coding, needs_length, takes_type, without_parameters, method_named}
use Rattle.spec_http.specs.Checks.{Opening, checked}
use Rattle.spec_http.specs.Connections.{longest_head, IsWithinLimits, asked_after, AsksOnly}
use Rattle.spec_http.specs.Laws.{IsProper}
use Rattle.spec_http.proofs.OnLiterals.{http_on_literals}
use Rattle.spec_http.proofs.Fields.{started, lines_of, written_as}
use Rattle.spec_http.proofs.Halves.{heads_ask, half_a_head, half_a_body, large_heads}
use Rattle.spec_http.proofs.Proper.{proper_read}
use Rattle.spec_http.specs.Requests as words
use Rattle.spec_http.specs.RequestLaws.{IsWritable, WrittenRequestsAreRead, LongRequestsAreRefused, CutRequestsAskNothing}
use Rattle.spec_http.proofs.Checked.{body_stated}
use Rattle.spec_http.proofs.Numerals.{trimmed, stated, in_value}
use Rattle.spec_http.proofs.Printed.{field, length_field, field_from}

-- the head that is written, in the words of the grammar
abbrev head_with : List ℕ → List ℕ → List ℕ → List ℕ → List ℕ → RequestHead
head_with name target host type size = record {
  blank = [];
  method = name;
  target = target;
  minor = 1;
  line_end = crlf;
  fields = field (codes "Host") (32 ∷ host) ∷ field (codes "Content-Type") (32 ∷ type) ∷ length_field size ∷ field (codes "Connection") (codes " close") ∷ [];
  last = crlf;
}

-- its text
abbrev text_with : List ℕ → List ℕ → List ℕ → List ℕ → List ℕ → List ℕ
text_with name target host type size =
    line (name ++ (32 ∷ (target ++ codes " HTTP/1.1")))
    ++ (line (codes "Host: " ++ host)
    ++ (line (codes "Content-Type: " ++ type) ++ (line (codes "Content-Length: " ++ size) ++ (line (codes "Connection: close") ++ bodies.crlf))))

regroup : (m t h y n v a b l c e z : List ℕ)
    → (((m ++ (32 ∷ (t ++ v))) ++ e) ++ (((a ++ h) ++ e) ++ (((b ++ y) ++ e) ++ (((l ++ n) ++ e) ++ (c ++ e))))) ++ z
    ≡ m ++ (32 ∷ (t ++ (v ++ (e ++ ((a ++ ((h ++ e) ++ (b ++ ((y ++ e) ++ (l ++ ((n ++ e) ++ c)))))) ++ (e ++ z))))))
regroup m t h y n v a b l c e z = simp append_assoc

starts : (m t h y n z : List ℕ) → text_with m t h y n ++ z ≡ started (head_with m t h y n) (lines_of (head_with m t h y n) ++ (print_end crlf ++ z))
unfolding http_on_literals
starts m t h y n z = regroup m t h y n (codes " HTTP/1.1") (codes "Host: ") (codes "Content-Type: ") (codes "Content-Length: ") (codes "Connection: close\r\n") bodies.crlf z

-- the text is the head, and then what follows
printed : (m t h y n z : List ℕ) → text_with m t h y n ++ z ≡ print_request (head_with m t h y n) ++ z
printed m t h y n z = starts m t h y n z ∙ sym (written_as (head_with m t h y n) z)

-- ---- each part stands where it is written

-- a name that is one of these is a token
one_of : (b : Bool) (name word : List ℕ) (m n : Method) (r : Option Method) → bytes_eq name word ≡ b → is_token word ≡ true → cond b (Some n) r ≡ Some m
    → (r ≡ Some m → is_token name ≡ true) → is_token name ≡ true
one_of true name word m n r e token named others = ap is_token ((bytes_eq-Decides name word).0 e) ∙ token
one_of false name word m n r e token named others = others named

none_left : (name : List ℕ) (m : Method) → None ≡ Some m → is_token name ≡ true
none_left name m e = absurd (cc)

named_token : (name : List ℕ) (m : Method) → method_named name ≡ Some m → is_token name ≡ true
unfolding http_on_literals
named_token name m e =
    one_of (bytes_eq name (codes "GET")) name (codes "GET") m Get _ refl refl e
    (λ e. one_of (bytes_eq name (codes "POST")) name (codes "POST") m Post _ refl refl e
    (λ e. one_of (bytes_eq name (codes "PUT")) name (codes "PUT") m Put _ refl refl e
    (λ e. one_of (bytes_eq name (codes "PATCH")) name (codes "PATCH") m Patch _ refl refl e
    (λ e. one_of (bytes_eq name (codes "DELETE")) name (codes "DELETE") m Delete _ refl refl e (none_left name m)))))

each : (a b : Bool) → a && b ≡ true → (a ≡ true) × (b ≡ true)
each true b e = (refl, e)
each false b e = absurd (cc)

token_from : (t : List ℕ) → is_token t ≡ true → IsToken t
token_from t e =
    let parts = each (nat_lt 0 (length t)) (list_all is_token_byte t) e in
    (ltb-true 0 (length t) parts.0, AllPass-from_list_all is_token_byte t parts.1)

-- a field whose value follows a blank
spaced : (name v : List ℕ) → nat_lt 0 (length name) ≡ true → list_all is_token_byte name ≡ true → AllPass is_value_byte v → IsField (field name (32 ∷ v))
spaced name v some token pass = field_from name (32 ∷ v) some token (All-cons (λ b. IsTrue (is_value_byte b)) 32 v refl pass)

fields_well : (host type size : List ℕ) → AllPass is_value_byte host → AllPass is_value_byte type → AllPass is_value_byte size → All IsField (head_with [] [] host type size).fields
unfolding http_on_literals
fields_well host type size h y n =
    let close = field_from (codes "Connection") (codes " close") refl refl (AllPass-from_list_all is_value_byte (codes " close") refl) in
    let last : List Field = field (codes "Connection") (codes " close") ∷ [] in
    let sized : List Field = length_field size ∷ last in
    let typed : List Field = field (codes "Content-Type") (32 ∷ type) ∷ sized in
    let closes : All IsField last = All-cons IsField (field (codes "Connection") (codes " close")) [] close (λ k d here. absurd (omega (arith, here))) in
    let sizes : All IsField sized = All-cons IsField (length_field size) last (spaced (codes "Content-Length") size refl refl n) closes in
    let types : All IsField typed = All-cons IsField (field (codes "Content-Type") (32 ∷ type)) sized (spaced (codes "Content-Type") type refl refl y) sizes in
    All-cons IsField (field (codes "Host") (32 ∷ host)) typed (spaced (codes "Host") host refl refl h) types

abbrev head_for : List ℕ → List ℕ → List ℕ → List ℕ → List ℕ → RequestHead
head_for name target host type body = head_with name target host type (decimal (length body))

head_well : (m : Method) (name target host type body : List ℕ) → IsWritable m name target host type body → IsRequestHead (head_for name target host type body)
head_well m name target host type body (named, (some, visible, text), h, y, takes, short) = record {
  method = token_from name (named_token name m named);
  target = (some, AllPass-from_list_all is_uri_byte target visible);
  target_text = text;
  minor = omega arith;
  fields = fields_well host type (decimal (length body)) (AllPass-from_list_all is_value_byte host h) (AllPass-from_list_all is_value_byte type y) (in_value (length body) short);
}

-- ---- what the head states

lengths : (m t h y n : List ℕ) → values_of (codes "content-length") (head_of (head_with m t h y n)).fields ≡ trim_ows (32 ∷ n) ∷ []
unfolding http_on_literals
lengths m t h y n = refl

no_coding : (m t h y n : List ℕ) → has_transfer_coding (head_of (head_with m t h y n)) ≡ false
unfolding http_on_literals
no_coding m t h y n = refl

of_type : (m t h y n : List ℕ) → media_type (head_of (head_with m t h y n)) ≡ Some (without_parameters (trim_ows y))
unfolding http_on_literals
of_type m t h y n = refl

states_length : (name target host type body : List ℕ) → length body < 2 ^ 64 → stated_length (head_of (head_for name target host type body)) ≡ Some (Some (length body))
states_length name target host type body short =
    let size = decimal (length body) in
    ap length_in (lengths name target host type size ∙ ap (λ v. v ∷ []) (trimmed (length body) short)) ∙ stated (length body) short

not_needed : (m : Method) → needs_length m && false ≡ false
not_needed Get = refl
not_needed Post = refl
not_needed Put = refl
not_needed Patch = refl
not_needed Delete = refl

proper : (m : Method) (name target host type body : List ℕ) → IsWritable m name target host type body → IsProper (head_for name target host type body) m (Some (length body))
proper m name target host type body (named, target_well, h, y, takes, short) = (
  named,
  states_length name target host type body short,
  not_needed m,
  no_coding name target host type (decimal (length body)),
  ap (takes_type m) (of_type name target host type (decimal (length body))) ∙ takes,
  refl,
)

-- ---- what is asked

-- the length of the head is that of its text
long_as : (name target host type body : List ℕ) → length (words.request_head name target host type (length body)) ≡ length (print_request (head_for name target host type body))
long_as name target host type body =
    let size = decimal (length body) in
    ap length (sym (append-nil (text_with name target host type size)) ∙ printed name target host type size [] ∙ append-nil (print_request (head_for name target host type body)))

-- the text is the head, the body, and what follows
whole_text : (name target host type body rest : List ℕ) → words.request_text name target host type body ++ rest ≡ print_request (head_for name target host type body) ++ (body ++ rest)
whole_text name target host type body rest =
    append_assoc (words.request_head name target host type (length body)) body rest ∙ printed name target host type (decimal (length body)) (body ++ rest)

limits : (name target host type body : List ℕ) → length (words.request_head name target host type (length body)) ≤ longest_head → IsWithinLimits (head_for name target host type body)
limits name target host type body short = (subst (λ n. n ≤ longest_head) (long_as name target host type body) short, omega arith)

answered : (m : Method) (name target host type body rest : List ℕ) → IsWritable m name target host type body
    → asked_after (checked (head_of (head_for name target host type body))) (body ++ rest) ≡ Some (read_request m target body)
answered m name target host type body rest can =
    proper_read (head_for name target host type body) m (Some (length body)) body rest (head_well m name target host type body can) (proper m name target host type body can) refl

pub written_asked : WrittenRequestsAreRead
written_asked m name target host type body rest can short =
    let asks = heads_ask (head_for name target host type body) (body ++ rest) (head_well m name target host type body can) (limits name target host type body short) in
    subst (λ b. AsksOnly b (Some (read_request m target body))) (sym (whole_text name target host type body rest))
    (subst (AsksOnly (print_request (head_for name target host type body) ++ (body ++ rest))) (answered m name target host type body rest can) asks)

pub long_refused : LongRequestsAreRefused
long_refused m name target host type body rest can long =
    let over = subst (λ n. longest_head < n) (long_as name target host type body) long in
    subst (λ b. AsksOnly b (Some (Err too_large))) (sym (whole_text name target host type body rest))
    (large_heads (head_for name target host type body) (body ++ rest) (head_well m name target host type body can) (inl over))

-- ---- a request that is cut

-- a text that goes on after another ends within it, or goes on beyond it
abbrev Within : List ℕ → List ℕ → List ℕ → List ℕ → Type 0
Within a b c d = (y : List ℕ) × (c ≡ a ++ y) × (b ≡ y ++ d) × (0 < length y)

abbrev Beyond : List ℕ → List ℕ → List ℕ → List ℕ → Type 0
Beyond a b c d = (x : List ℕ) × (a ≡ c ++ x) × (d ≡ x ++ b)

split : (a b c d : List ℕ) → a ++ b ≡ c ++ d → Within a b c d ⊎ Beyond a b c d
split [] b [] d e = inr ([], refl, sym e)
split [] b (c ∷ cs) d e = inl (c ∷ cs, refl, e, omega arith)
split (a ∷ s) b [] d e = inr (a ∷ s, refl, sym e)
split (a ∷ s) b (c ∷ t) d e = split_more a c s b t d (cc) (split s b t d (cc))
  where
    split_more : (a c : ℕ) (s b t d : List ℕ) → a ≡ c → Within s b t d ⊎ Beyond s b t d → Within (a ∷ s) b (c ∷ t) d ⊎ Beyond (a ∷ s) b (c ∷ t) d
    split_more a c s b t d e (inl (y, f, g, some)) = inl (y, cc, g, some)
    split_more a c s b t d e (inr (x, f, g)) = inr (x, cc, g)

-- checks that do not pass ask nothing that is answered
abbrev IsAsked : Result Opening Refusal → List ℕ → Type 0
IsAsked r body = (a : Asked) × (asked_after r (body ++ []) ≡ Some (Ok a))

cut_body : (h : RequestHead) (r : Result Opening Refusal) (body front : List ℕ) → checked (head_of h) ≡ r → IsRequestHead h → IsWithinLimits h
    → stated_length (head_of h) ≡ Some (Some (length body)) → IsAsked r body → length front < length body → AsksOnly (print_request h ++ front) None
cut_body h (Err f) body front e ok short said (a, asks) less = absurd (cc)
cut_body h (Ok o) body front e ok short said (a, asks) less =
    half_a_body h front o ok short e (subst (λ n. length front < n) (sym (body_stated (head_of h) (Some (length body)) o said e)) less)

cut_from : (h : RequestHead) (body bytes more : List ℕ) → IsRequestHead h → IsWithinLimits h → stated_length (head_of h) ≡ Some (Some (length body)) → IsAsked (checked (head_of h)) body
    → 0 < length more → Within bytes more (print_request h) body ⊎ Beyond bytes more (print_request h) body → AsksOnly bytes None
cut_from h body bytes more ok short said asks some (inl (y, head, rest, left)) =
    half_a_head h bytes y ok short.1 head left (omega (arith, short.0, left, ap length head, length-append bytes y))
cut_from h body bytes more ok short said asks some (inr (x, front, all)) =
    let less : length x < length body = omega (arith, some, ap length all, length-append x more) in
    subst (λ b. AsksOnly b None) (sym front) (cut_body h (checked (head_of h)) body x refl ok short said asks less)

pub cut_asks_nothing : CutRequestsAskNothing
cut_asks_nothing m name target host type body bytes more a can short read e some =
    let h = head_for name target host type body in
    let text = sym e ∙ sym (append-nil (words.request_text name target host type body)) ∙ whole_text name target host type body [] ∙ ap (λ b. print_request h ++ b) (append-nil body) in
    cut_from h body bytes more (head_well m name target host type body can) (limits name target host type body short)
    (states_length name target host type body can.5) (a, answered m name target host type body [] can ∙ ap Some read) some
    (split bytes more (print_request h) body text)
