-- What a server makes of the query of each target.
use Rattle.std.proofs.Common.{◌≡◌, ◌<◌, ◌≤◌, ◌^◌, ◌==◌, ◌&&◌, nat_lt, nat_le, ℕ, zero, suc, List, [], ◌∷◌, ◌++◌, length, true, false, Option, Some, None, Result, Ok, IsUtf8, bytes_eq, codes, decimal, refl, ◌∙◌, rules, arith}
use Rattle.std.specs.List.{list_all, list_any}
use Rattle.std.specs.Int.{IsInRange}
use Rattle.std.specs.Str.Parse.{AllDigits, digits_value}
use Rattle.std.proofs.lemmas.Fmt.{decimal_is_IsNumeral, decimal_nonempty, length-decimal-le, IsAscii-decimal}
use Rattle.std.proofs.lemmas.Str.{IsUtf8-from_ascii}
use Rattle.std.proofs.lemmas.Str.Parse.{digit_from_value}
use Rattle.form_urlencoded.specs.Form.{raw_pairs, extend_pairs}
use Rattle.spec_api.proofs.RevisionTexts.{revision_is}
use Rattle.spec_api.specs.declared.refusals.Part.{Part}
use Rattle.spec_api.specs.declared.versions.At.TheVariants.{Present, Exact}
use Rattle.spec_api.specs.declared.versions.Start.TheVariants.{Streamed}
use Rattle.spec_api.specs.ListQueries.{ListOptions, WatchOptions, Read, list, watch, understood, limit_of, version_of, match_of, list_at, by_token, list_options, start_of, initial_of, is_true_value, plain_start, watch_options, read_by}
use Rattle.spec_api.specs.Moments.{is_digit}
use Rattle.spec_api.specs.Queries.{Pairs, parameter, has_any}
use Rattle.request_encoding.specs.Scopes.{IsText}
use Rattle.request_encoding.specs.Targets.{Parameters, selecting}
use Rattle.request_encoding.specs.ScopesTold.{IsPage}
use Rattle.request_encoding.proofs.Bytes.{plain_utf8}
use Rattle.request_encoding.proofs.Parameters.{AreTexts, given, any_given, parameter_back, any_back}

-- ---- numbers

nonempty : (t : List ℕ) → 0 < length t → (length t == 0) ≡ false
nonempty t h = grind arith

version_back : (r : ℕ) → r < 2 ^ 53 → version_of (Some (decimal r)) ≡ Some (Some r)
version_back r h = rw (nonempty (decimal r) (decimal_nonempty r (omega arith)), revision_is r h) refl

digit : (c : ℕ) → IsInRange 48 57 c → is_digit c ≡ true
digit c within = search rules

digits : (ds : List ℕ) → AllDigits 10 ds → list_all is_digit ds ≡ true
digits [] all = refl
digits (c ∷ cs) (here, all) = rw (digit c (digit_from_value c here)) (digits cs all)

all_digits : (n : ℕ) → n < 2 ^ 64 → list_all is_digit (decimal n) ≡ true
all_digits n small = digits (decimal n) (decimal_is_IsNumeral n small).0.1

limited : (t : List ℕ) (n : ℕ) → 0 < length t → length t ≤ 9 → list_all is_digit t ≡ true → digits_value 10 t ≡ n → limit_of (Some t) ≡ Some n
limited t n some few all value =
    let a : nat_lt 0 (length t) ≡ true = grind arith in let b : nat_le (length t) 9 ≡ true = grind arith in rw (a, b, all, value) refl

limit_back : (n : ℕ) → n < 1000000000 → limit_of (Some (decimal n)) ≡ Some n
limit_back n h =
    let small : n < 2 ^ 64 = omega arith in
    limited (decimal n) n (decimal_nonempty n small) (length-decimal-le 9 n (omega arith) (omega arith) small) (all_digits n small) (decimal_is_IsNumeral n small).1

-- ---- texts

word : (t : List ℕ) → list_all (λ b. nat_lt 32 b && nat_lt b 127) t ≡ true → IsUtf8 t
word t h = plain_utf8 t h

number : (n : ℕ) → n < 2 ^ 64 → IsUtf8 (decimal n)
number n h = IsUtf8-from_ascii (decimal n) (IsAscii-decimal n h)

with_selector : (sel : Option (List ℕ)) (ps : Parameters) → IsText sel → AreTexts ps → AreTexts (selecting sel ++ ps)
with_selector None ps text h = h
with_selector (Some t) ps text h = (word (codes "labelSelector") refl, text, h)

-- ---- lists

abbrev list_by : (limit version matched token : Option (List ℕ)) → Result ListOptions Part
list_by limit version matched token =
    understood (limit_of limit) (λ limit.
    understood (version_of version) (λ version.
    understood (match_of matched) (λ matched.
    understood (list_at (nat_lt 0 limit) matched version) (λ at. by_token limit version token at))))

options_listed : (raw : Pairs) (limit version matched token : Option (List ℕ)) → parameter (codes "limit") raw ≡ limit → parameter (codes "resourceVersion") raw ≡ version
    → parameter (codes "resourceVersionMatch") raw ≡ matched → parameter (codes "continue") raw ≡ token → list_options raw ≡ list_by limit version matched token
options_listed raw limit version matched token l v m t = λ i. list_by (l i) (v i) (m i) (t i)

reads_list : (raw : Pairs) (o : ListOptions) → parameter (codes "watch") raw ≡ None → has_any (codes "sendInitialEvents" ∷ []) raw ≡ false → list_options raw ≡ Ok o → read_by raw ≡ Ok (list o)
reads_list raw o w i e = rw (w, i, e) refl

-- ---- watches

abbrev watch_by : (version matched initial bookmarks : Option (List ℕ)) → Result WatchOptions Part
watch_by version matched initial bookmarks =
    understood (version_of version) (λ version.
    understood (match_of matched) (λ matched.
    understood (start_of (initial_of initial) matched version) (λ start.
    Ok (record { start = start; bookmarks = is_true_value bookmarks }))))

options_watched : (raw : Pairs) (version matched initial bookmarks : Option (List ℕ)) → parameter (codes "resourceVersion") raw ≡ version → parameter (codes "resourceVersionMatch") raw ≡ matched
    → parameter (codes "sendInitialEvents") raw ≡ initial → parameter (codes "allowWatchBookmarks") raw ≡ bookmarks → watch_options raw ≡ watch_by version matched initial bookmarks
options_watched raw version matched initial bookmarks v m s b = λ i. watch_by (v i) (m i) (s i) (b i)

reads_watch : (raw : Pairs) (o : WatchOptions) → parameter (codes "watch") raw ≡ Some (codes "true") → watch_options raw ≡ Ok o → read_by raw ≡ Ok (watch o)
reads_watch raw o w e = rw (w, e) refl

-- ---- the query of a target

abbrev pub raw_of : Parameters → Pairs
raw_of ps = raw_pairs (extend_pairs [] ps)

-- a query of a selector and these parameters asks for what the selector selects, and reads it so
pub record IsRead (sel : Option (List ℕ)) (ps : Parameters) (read : Read) : Type 0 where
  pub dry : has_any (codes "dryRun" ∷ []) (raw_of (selecting sel ++ ps)) ≡ false
  pub labels : parameter (codes "labelSelector") (raw_of (selecting sel ++ ps)) ≡ sel
  pub fields : parameter (codes "fieldSelector") (raw_of (selecting sel ++ ps)) ≡ None
  pub reads : read_by (raw_of (selecting sel ++ ps)) ≡ Ok read

other : (name : List ℕ) (sel : Option (List ℕ)) (ps : Parameters) → bytes_eq (codes "labelSelector") name ≡ false → given name (selecting sel ++ ps) ≡ given name ps
other name None ps e = refl
other name (Some t) ps e = rw e refl

own : (sel : Option (List ℕ)) (ps : Parameters) → given (codes "labelSelector") ps ≡ None → given (codes "labelSelector") (selecting sel ++ ps) ≡ sel
own None ps e = e
own (Some t) ps e = refl

others : (names : List (List ℕ)) (sel : Option (List ℕ)) (ps : Parameters) → list_any (bytes_eq (codes "labelSelector")) names ≡ false → any_given names (selecting sel ++ ps) ≡ any_given names ps
others names None ps e = refl
others names (Some t) ps e = rw e refl

module _ (sel : Option (List ℕ)) (ps : Parameters) (selects : IsText sel) (texts : AreTexts ps) where
  at_name : (name : List ℕ) → bytes_eq (codes "labelSelector") name ≡ false → parameter name (raw_of (selecting sel ++ ps)) ≡ given name ps
  at_name name e = parameter_back name (selecting sel ++ ps) (with_selector sel ps selects texts) ∙ other name sel ps e

  selected : given (codes "labelSelector") ps ≡ None → parameter (codes "labelSelector") (raw_of (selecting sel ++ ps)) ≡ sel
  selected e = parameter_back (codes "labelSelector") (selecting sel ++ ps) (with_selector sel ps selects texts) ∙ own sel ps e

  at_names : (names : List (List ℕ)) → list_any (bytes_eq (codes "labelSelector")) names ≡ false → has_any names (raw_of (selecting sel ++ ps)) ≡ any_given names ps
  at_names names e = any_back names (selecting sel ++ ps) (with_selector sel ps selects texts) ∙ others names sel ps e

  query_read : (read : Read) → any_given (codes "dryRun" ∷ []) ps ≡ false → given (codes "labelSelector") ps ≡ None → given (codes "fieldSelector") ps ≡ None
      → read_by (raw_of (selecting sel ++ ps)) ≡ Ok read → IsRead sel ps read
  query_read read dry label field reads = record {
    dry = at_names (codes "dryRun" ∷ []) refl ∙ dry;
    labels = selected label;
    fields = at_name (codes "fieldSelector") refl ∙ field;
    reads = reads;
  }

pub list_read : (sel : Option (List ℕ)) → IsText sel → IsRead sel [] (list (record { at = Present; limit = 0; after = None }))
list_read sel selects =
    let at = at_name sel [] selects tt in
    query_read sel [] selects tt (list (record { at = Present; limit = 0; after = None })) refl refl refl
    (reads_list (raw_of (selecting sel ++ [])) (record { at = Present; limit = 0; after = None }) (at (codes "watch") refl) (at_names sel [] selects tt (codes "sendInitialEvents" ∷ []) refl)
    (options_listed (raw_of (selecting sel ++ [])) None None None None (at (codes "limit") refl) (at (codes "resourceVersion") refl) (at (codes "resourceVersionMatch") refl) (at (codes "continue") refl)))

abbrev page_parameters : ℕ → ℕ → Parameters
page_parameters n r = (codes "limit", decimal n) ∷ (codes "resourceVersion", decimal r) ∷ (codes "resourceVersionMatch", codes "Exact") ∷ []

page_texts : (n r : ℕ) → IsPage n r → AreTexts (page_parameters n r)
page_texts n r (some, few, after, early) =
    (word (codes "limit") refl, number n (omega arith), (word (codes "resourceVersion") refl, number r (omega arith), (word (codes "resourceVersionMatch") refl, word (codes "Exact") refl, tt)))

page_options : (n r : ℕ) → IsPage n r → list_by (Some (decimal n)) (Some (decimal r)) (Some (codes "Exact")) None ≡ Ok (record { at = Exact r; limit = n; after = None })
page_options n zero (some, few, after, early) = absurd (omega (arith, after))
page_options n (suc r) (some, few, after, early) = rw (limit_back n few, version_back (suc r) early) refl

pub page_read : (sel : Option (List ℕ)) (n r : ℕ) → IsText sel → IsPage n r → IsRead sel (page_parameters n r) (list (record { at = Exact r; limit = n; after = None }))
page_read sel n r selects is =
    let ps = page_parameters n r in
    let texts = page_texts n r is in
    let at = at_name sel ps selects texts in
    query_read sel ps selects texts (list (record { at = Exact r; limit = n; after = None })) refl refl refl
    (reads_list (raw_of (selecting sel ++ ps)) (record { at = Exact r; limit = n; after = None }) (at (codes "watch") refl) (at_names sel ps selects texts (codes "sendInitialEvents" ∷ []) refl)
    (options_listed (raw_of (selecting sel ++ ps)) (Some (decimal n)) (Some (decimal r)) (Some (codes "Exact")) None
    (at (codes "limit") refl) (at (codes "resourceVersion") refl) (at (codes "resourceVersionMatch") refl) (at (codes "continue") refl)
    ∙ page_options n r is))

abbrev watch_parameters : ℕ → Parameters
watch_parameters r = (codes "watch", codes "true") ∷ (codes "allowWatchBookmarks", codes "true") ∷ (codes "resourceVersion", decimal r) ∷ []

watch_texts : (r : ℕ) → r < 2 ^ 53 → AreTexts (watch_parameters r)
watch_texts r early =
    (word (codes "watch") refl, word (codes "true") refl, (word (codes "allowWatchBookmarks") refl, word (codes "true") refl, (word (codes "resourceVersion") refl, number r (omega arith), tt)))

watch_options_from : (r : ℕ) → r < 2 ^ 53 → watch_by (Some (decimal r)) None None (Some (codes "true")) ≡ Ok (record { start = plain_start (Some r); bookmarks = true })
watch_options_from r early = rw (version_back r early) refl

pub watch_read : (sel : Option (List ℕ)) (r : ℕ) → IsText sel → r < 2 ^ 53 → IsRead sel (watch_parameters r) (watch (record { start = plain_start (Some r); bookmarks = true }))
watch_read sel r selects early =
    let ps = watch_parameters r in
    let texts = watch_texts r early in
    let at = at_name sel ps selects texts in
    query_read sel ps selects texts (watch (record { start = plain_start (Some r); bookmarks = true })) refl refl refl
    (reads_watch (raw_of (selecting sel ++ ps)) (record { start = plain_start (Some r); bookmarks = true }) (at (codes "watch") refl)
    (options_watched (raw_of (selecting sel ++ ps)) (Some (decimal r)) None None (Some (codes "true"))
    (at (codes "resourceVersion") refl) (at (codes "resourceVersionMatch") refl) (at (codes "sendInitialEvents") refl) (at (codes "allowWatchBookmarks") refl)
    ∙ watch_options_from r early))

abbrev stream_parameters : Parameters
stream_parameters =
    (codes "watch", codes "true") ∷ (codes "allowWatchBookmarks", codes "true") ∷ (codes "sendInitialEvents", codes "true") ∷ (codes "resourceVersionMatch", codes "NotOlderThan") ∷ []

stream_texts : AreTexts stream_parameters
stream_texts = (
  word (codes "watch") refl,
  word (codes "true") refl,
  (
    word (codes "allowWatchBookmarks") refl,
    word (codes "true") refl,
    (word (codes "sendInitialEvents") refl, word (codes "true") refl, (word (codes "resourceVersionMatch") refl, word (codes "NotOlderThan") refl, tt)),
  ),
)

pub stream_read : (sel : Option (List ℕ)) → IsText sel → IsRead sel stream_parameters (watch (record { start = Streamed None; bookmarks = true }))
stream_read sel selects =
    let ps = stream_parameters in
    let at = at_name sel ps selects stream_texts in
    query_read sel ps selects stream_texts (watch (record { start = Streamed None; bookmarks = true })) refl refl refl
    (reads_watch (raw_of (selecting sel ++ ps)) (record { start = Streamed None; bookmarks = true }) (at (codes "watch") refl)
    (options_watched (raw_of (selecting sel ++ ps)) None (Some (codes "NotOlderThan")) (Some (codes "true")) (Some (codes "true"))
    (at (codes "resourceVersion") refl) (at (codes "resourceVersionMatch") refl) (at (codes "sendInitialEvents") refl) (at (codes "allowWatchBookmarks") refl)))
