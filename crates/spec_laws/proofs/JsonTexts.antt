-- Each string and each key that is read of a text in UTF-8 is in UTF-8: of its tokens, and of the value that they spell.
use Rattle.std.proofs.Common.{◌≡◌, ◌<◌, ◌==◌, ◌&&◌, ℕ, zero, suc, List, [], ◌∷◌, ◌++◌, length, drop, nat_eq, Bool, true, false, cond, Option, Some, None, IfSome, option_and_then, refl, sym, subst, arith, append_assoc}
use Rattle.std.proofs.lemmas.Bool.Decides.{nat_tests}
use Rattle.std.specs.List.{starts_with}
use Rattle.std.specs.Str.{IsUtf8}
use Rattle.json.specs.Token.{Token, begin_object, end_object, begin_array, end_array, key, string, number, boolean, null, bad}
use Rattle.json.specs.Lex.{Lexeme, token, comma, colon, Class, quote, backslash, operator, space, other, class, operator_lexeme, string_token, Mode, between, in_word, in_string, in_escape, lex_byte, lex, Place, fresh, after_value, after_comma, after_key, begins_colon, may_begin, may_close, if_allowed, place_token, punctuate, tokens}
use Rattle.json.specs.Text.{content, plain}
use Rattle.json.specs.Word.{head, after_number, number_before, ends_word, literal, word}
use Rattle.json.specs.Ascii as ascii
use Rattle.json.specs.Json as json
use Rattle.json.specs.Json.{Parse, parse_map, after_end_array, read_key, items_step, members_step, value_with, items, members, value}
use Rattle.spec_laws.proofs.TextsRead.{after_byte, content_text}

-- ---- lexemes

abbrev pub IsText : Token → Type 0
IsText begin_object = Unit {0}
IsText end_object = Unit {0}
IsText begin_array = Unit {0}
IsText end_array = Unit {0}
IsText (key s) = IsUtf8 s
IsText (string s) = IsUtf8 s
IsText (number s) = Unit {0}
IsText (boolean b) = Unit {0}
IsText null = Unit {0}
IsText bad = Unit {0}

abbrev IsTextIn : Lexeme → Type 0
IsTextIn (token t) = IsText t
IsTextIn comma = Unit {0}
IsTextIn colon = Unit {0}

abbrev AreTextsIn : List Lexeme → Type 0
AreTextsIn [] = Unit {0}
AreTextsIn (l ∷ ls) = IsTextIn l × AreTextsIn ls

lexeme_if : (b : Bool) (p q : Lexeme) → IsTextIn p → IsTextIn q → IsTextIn (cond b p q)
lexeme_if true p q x y = x
lexeme_if false p q x y = y

token_if : (b : Bool) (p q : Token) → IsText p → IsText q → IsText (cond b p q)
token_if true p q x y = x
token_if false p q x y = y

operator_text : (x : ℕ) → IsTextIn (operator_lexeme x)
operator_text x =
    lexeme_if (x == 123) (token begin_object) _ tt
    (lexeme_if (x == 125) (token end_object) _ tt (lexeme_if (x == 91) (token begin_array) _ tt (lexeme_if (x == 93) (token end_array) _ tt (lexeme_if (x == 44) comma colon tt tt))))

number_text : (t : List ℕ) (o : Option (List ℕ)) → IsText (number_before t o)
number_text t None = tt
number_text t (Some rest) = token_if (ends_word rest) _ bad tt tt

literal_text : (name : List ℕ) (k : Token) (t : List ℕ) → IsText k → IsText (literal name k t)
literal_text name k t h = token_if (starts_with nat_eq t name && ends_word (drop (length name) t)) k bad h tt

one_of : (a b c : Bool) (p q r s : Token) → IsText p → IsText q → IsText r → IsText s → IsText (cond a p (cond b q (cond c r s)))
one_of true b c p q r s w x y z = w
one_of false true c p q r s w x y z = x
one_of false false true p q r s w x y z = y
one_of false false false p q r s w x y z = z

word_text : (t : List ℕ) → IsText (word t)
unfolding word
word_text t =
    one_of (head t == 116) (head t == 102) (head t == 110) (literal ascii.true_text (boolean true) t) (literal ascii.false_text (boolean false) t) (literal ascii.null_text null t)
    (number_before t (after_number t)) (literal_text ascii.true_text (boolean true) t tt) (literal_text ascii.false_text (boolean false) t tt) (literal_text ascii.null_text null t tt)
    (number_text t (after_number t))

string_text : (o : Option (List ℕ)) → IfSome o IsUtf8 → IsText (string_token o)
string_text None h = tt
string_text (Some s) h = h

quote_at : (a b c d : Bool) → cond a quote (cond b backslash (cond c operator (cond d space other))) ≡ quote → a ≡ true
quote_at true b c d h = refl
quote_at false true c d h = cc
quote_at false false true d h = cc
quote_at false false false true h = cc
quote_at false false false false h = cc

quote_low : (x : ℕ) → class x ≡ quote → x < 128
quote_low x h = let is : (x == 34) ≡ true = quote_at (x == 34) _ _ _ h in grind (arith, nat_tests, is)

abbrev More : List ℕ → Type 0
More xs = (m : Mode) → AreTextsIn (lex m xs)

byte_text : (m : Mode) (c : Class) (x : ℕ) (done xs : List ℕ) → class x ≡ c → IsUtf8 (done ++ x ∷ xs) → More xs → AreTextsIn (lex_byte m c x xs (λ next. lex next xs))
byte_text between quote x done xs is u more = (string_text (content plain xs) (content_text xs (after_byte done xs x (quote_low x is) u).1), more in_string)
byte_text between backslash x done xs is u more = (tt, more in_word)
byte_text between operator x done xs is u more = (operator_text x, more between)
byte_text between space x done xs is u more = more between
byte_text between other x done xs is u more = (word_text (x ∷ xs), more in_word)
byte_text in_word quote x done xs is u more = more in_word
byte_text in_word backslash x done xs is u more = more in_word
byte_text in_word operator x done xs is u more = (operator_text x, more between)
byte_text in_word space x done xs is u more = more between
byte_text in_word other x done xs is u more = more in_word
byte_text in_string quote x done xs is u more = more between
byte_text in_string backslash x done xs is u more = more in_escape
byte_text in_string operator x done xs is u more = more in_string
byte_text in_string space x done xs is u more = more in_string
byte_text in_string other x done xs is u more = more in_string
byte_text in_escape c x done xs is u more = more in_string

lexed : (m : Mode) (done xs : List ℕ) → IsUtf8 (done ++ xs) → AreTextsIn (lex m xs)
unfolding lex
lexed m done [] u = tt
lexed m done (x ∷ xs) u = byte_text m (class x) x done xs refl u (λ n. lexed n (done ++ x ∷ []) xs (subst IsUtf8 (sym (append_assoc done (x ∷ []) xs)) u))

-- ---- tokens

abbrev pub AreTexts : List Token → Type 0
AreTexts [] = Unit {0}
AreTexts (t ∷ ts) = IsText t × AreTexts ts

allowed : (b : Bool) (t : Token) (k : Place → List Token) (p : Place) → IsText t → ((n : Place) → AreTexts (k n)) → AreTexts (if_allowed b t k p)
allowed true t k p h more = (h, more p)
allowed false t k p h more = (tt, tt)

placed : (p : Place) (t : Token) (b : Bool) (k : Place → List Token) → IsText t → ((n : Place) → AreTexts (k n)) → AreTexts (place_token p t b k)
placed p begin_object b k h more = allowed (may_begin p) begin_object k fresh h more
placed p end_object b k h more = allowed (may_close p) end_object k after_value h more
placed p begin_array b k h more = allowed (may_begin p) begin_array k fresh h more
placed p end_array b k h more = allowed (may_close p) end_array k after_value h more
placed p (key s) b k h more = (tt, tt)
placed p (string s) true k h more = allowed (may_begin p) (key s) k after_key h more
placed p (string s) false k h more = allowed (may_begin p) (string s) k after_value h more
placed p (number s) b k h more = allowed (may_begin p) (number s) k after_value h more
placed p (boolean v) b k h more = allowed (may_begin p) (boolean v) k after_value h more
placed p null b k h more = allowed (may_begin p) null k after_value h more
placed p bad b k h more = (tt, tt)

punctuated : (p : Place) (ls : List Lexeme) → AreTextsIn ls → AreTexts (punctuate p ls)
unfolding punctuate
punctuated fresh [] h = tt
punctuated after_value [] h = tt
punctuated after_comma [] h = (tt, tt)
punctuated after_key [] h = (tt, tt)
punctuated fresh (token t ∷ ls) h = placed fresh t (begins_colon ls) (λ n. punctuate n ls) h.0 (λ n. punctuated n ls h.1)
punctuated after_value (token t ∷ ls) h = placed after_value t (begins_colon ls) (λ n. punctuate n ls) h.0 (λ n. punctuated n ls h.1)
punctuated after_comma (token t ∷ ls) h = placed after_comma t (begins_colon ls) (λ n. punctuate n ls) h.0 (λ n. punctuated n ls h.1)
punctuated after_key (token t ∷ ls) h = placed after_key t (begins_colon ls) (λ n. punctuate n ls) h.0 (λ n. punctuated n ls h.1)
punctuated fresh (comma ∷ ls) h = (tt, tt)
punctuated after_value (comma ∷ ls) h = punctuated after_comma ls h.1
punctuated after_comma (comma ∷ ls) h = (tt, tt)
punctuated after_key (comma ∷ ls) h = (tt, tt)
punctuated fresh (colon ∷ ls) h = (tt, tt)
punctuated after_value (colon ∷ ls) h = (tt, tt)
punctuated after_comma (colon ∷ ls) h = (tt, tt)
punctuated after_key (colon ∷ ls) h = punctuated fresh ls h.1

pub tokens_text : (text : List ℕ) → IsUtf8 text → AreTexts (tokens text)
tokens_text text u = punctuated fresh (lex between text) (lexed between [] text u)

-- ---- the value

abbrev mutual
  pub InText : json.Json → Type 0
  InText json.null = Unit {0}
  InText (json.boolean b) = Unit {0}
  InText (json.number s) = Unit {0}
  InText (json.string s) = IsUtf8 s
  InText (json.array js) = ItemsInText js
  InText (json.object ms) = MembersInText ms

  pub ItemsInText : json.Items → Type 0
  ItemsInText json.no_items = Unit {0}
  ItemsInText (json.item j js) = InText j × ItemsInText js

  pub MembersInText : json.Members → Type 0
  MembersInText json.no_members = Unit {0}
  MembersInText (json.member k j ms) = IsUtf8 k × InText j × MembersInText ms

-- what is read is so, and so is what follows
abbrev Reads : {A : Type 0} → (A → Type 0) → Option (A × List Token) → Type 0
Reads P o = IfSome o (λ p. P p.0 × AreTexts p.1)

abbrev AllRead : {A : Type 0} → (A → Type 0) → Parse A → Type 0
AllRead P f = (ts : List Token) → AreTexts ts → Reads P (f ts)

mapped : {A B : Type 0} (P : A → Type 0) (Q : B → Type 0) (f : A → B) (o : Option (A × List Token)) → ((a : A) → P a → Q (f a)) → Reads P o → Reads Q (parse_map f o)
mapped P Q f None each h = tt
mapped P Q f (Some p) each h = (each p.0 h.0, h.1)

then_read : {A B : Type 0} (P : A → Type 0) (Q : B → Type 0) (o : Option (A × List Token)) (f : A × List Token → Option (B × List Token))
    → ((p : A × List Token) → P p.0 → AreTexts p.1 → Reads Q (f p)) → Reads P o → Reads Q (option_and_then f o)
then_read P Q None f each h = tt
then_read P Q (Some p) f each h = each p h.0 h.1

closing : (ts : List Token) → AreTexts ts → IfSome (after_end_array ts) AreTexts
closing [] h = tt
closing (begin_object ∷ ts) h = tt
closing (end_object ∷ ts) h = tt
closing (begin_array ∷ ts) h = tt
closing (end_array ∷ ts) h = h.1
closing (key s ∷ ts) h = tt
closing (string s ∷ ts) h = tt
closing (number s ∷ ts) h = tt
closing (boolean b ∷ ts) h = tt
closing (null ∷ ts) h = tt
closing (bad ∷ ts) h = tt

abbrev IsKey : Option (List ℕ) → Type 0
IsKey o = IfSome o IsUtf8

key_text : (ts : List Token) → AreTexts ts → Reads IsKey (read_key ts)
key_text [] h = tt
key_text (begin_object ∷ ts) h = tt
key_text (end_object ∷ ts) h = (tt, h.1)
key_text (begin_array ∷ ts) h = tt
key_text (end_array ∷ ts) h = tt
key_text (key s ∷ ts) h = h
key_text (string s ∷ ts) h = tt
key_text (number s ∷ ts) h = tt
key_text (boolean b ∷ ts) h = tt
key_text (null ∷ ts) h = tt
key_text (bad ∷ ts) h = tt

module _ (read : Parse json.Json) (each : AllRead InText read) where
  item_read : (more : Parse json.Items) (ts : List Token) (o : Option (List Token)) → AllRead ItemsInText more → AreTexts ts → IfSome o AreTexts → Reads ItemsInText (items_step read more ts o)
  item_read more ts (Some rest) later h closed = (tt, closed)
  item_read more ts None later h closed =
      then_read InText ItemsInText (read ts) (λ p. parse_map (json.item p.0) (more p.1))
      (λ p one rest. mapped ItemsInText ItemsInText (json.item p.0) (more p.1) (λ js all. (one, all)) (later p.1 rest)) (each ts h)

  items_text : (n : ℕ) → AllRead ItemsInText (items read n)
  unfolding items
  items_text zero ts h = tt
  items_text (suc n) ts h = item_read (items read n) ts (after_end_array ts) (items_text n) h (closing ts h)

  member_read : (more : Parse json.Members) (o : Option (List ℕ)) (ts : List Token) → AllRead MembersInText more → IsKey o → AreTexts ts → Reads MembersInText (members_step read more o ts)
  member_read more None ts later k h = (tt, h)
  member_read more (Some s) ts later k h =
      then_read InText MembersInText (read ts) (λ p. parse_map (json.member s p.0) (more p.1))
      (λ p one rest. mapped MembersInText MembersInText (json.member s p.0) (more p.1) (λ ms all. (k, one, all)) (later p.1 rest)) (each ts h)

  members_text : (n : ℕ) → AllRead MembersInText (members read n)
  unfolding members
  members_text zero ts h = tt
  members_text (suc n) ts h =
      then_read IsKey MembersInText (read_key ts) (λ p. members_step read (members read n) p.0 p.1) (λ p k rest. member_read (members read n) p.0 p.1 (members_text n) k rest) (key_text ts h)

with_text : (a : Parse json.Items) (o : Parse json.Members) → AllRead ItemsInText a → AllRead MembersInText o → AllRead InText (value_with a o)
with_text a o x y [] h = tt
with_text a o x y (begin_object ∷ ts) h = mapped MembersInText InText json.object (o ts) (λ ms all. all) (y ts h.1)
with_text a o x y (end_object ∷ ts) h = tt
with_text a o x y (begin_array ∷ ts) h = mapped ItemsInText InText json.array (a ts) (λ js all. all) (x ts h.1)
with_text a o x y (end_array ∷ ts) h = tt
with_text a o x y (key s ∷ ts) h = tt
with_text a o x y (string s ∷ ts) h = h
with_text a o x y (number s ∷ ts) h = (tt, h.1)
with_text a o x y (boolean b ∷ ts) h = (tt, h.1)
with_text a o x y (null ∷ ts) h = (tt, h.1)
with_text a o x y (bad ∷ ts) h = tt

pub value_text : (n : ℕ) → AllRead InText (value n)
unfolding value
value_text zero = with_text (λ ts. None) (λ ts. None) (λ ts h. tt) (λ ts h. tt)
value_text (suc n) =
    with_text (λ ts. items (value n) (length ts) ts) (λ ts. members (value n) (length ts) ts) (λ ts h. items_text (value n) (value_text n) (length ts) ts h) (λ ts h. members_text (value n) (value_text n) (length ts) ts h)

if_whole : (j : json.Json) (ts : List Token) → InText j → IfSome (json.if_last j ts) InText
if_whole j [] h = h
if_whole j (t ∷ ts) h = tt

whole_text : (o : Option (json.Json × List Token)) → Reads InText o → IfSome (option_and_then (λ p. json.if_last p.0 p.1) o) InText
whole_text None h = tt
whole_text (Some p) h = if_whole p.0 p.1 h.0

pub document_text : (n : ℕ) (text : List ℕ) → IsUtf8 text → IfSome (option_and_then (λ p. json.if_last p.0 p.1) (value n (tokens text))) InText
document_text n text u = whole_text (value n (tokens text)) (value_text n (tokens text) (tokens_text text u))
