-- Data as a parser gives it: what is read, left out, filled in, put, merged and stored is so again.
use Rattle.std.proofs.Common.{◌≡◌, ◌≤◌, ℕ, List, Bool, true, false, cond, codes, nat_cmp, is_eq, is_some, IfSome, Option, Some, None, option_map, option_and_then, unwrap_or, Result, Ok, Err, Ordering, Less, Equal, Greater, refl, sym, subst, arith}
use Rattle.std.specs.Ordering.{match_ordering}
use Rattle.std.specs.Cmp.Lexicographic.{slice_cmp}
use Rattle.json.specs.Lex.{tokens}
use Rattle.json.specs.Json as json
use Rattle.serde_json.specs.Data.{Data, null, boolean, number, string, array, object, Items, no_items, item, Members, no_members, member, put}
use Rattle.serde_json.specs.Find.{get, get_member}
use Rattle.serde_json.specs.Read.{read, of_json, of_items, of_members, max_depth}
use Rattle.spec_api.specs.declared.kinds.Kind.{Kind}
use Rattle.spec_api.specs.declared.kinds.Kind.TheVariants.{ConfigMap, Pod, ReplicaSet, Deployment}
use Rattle.spec_api.specs.declared.refusals.Part.{Part}
use Rattle.spec_api.specs.declared.schemas.Schema.{Schema}
use Rattle.spec_api.specs.declared.schemas.Schema.TheVariants.{Root}
use Rattle.spec_api.specs.declared.schemas.Shape.{Shape}
use Rattle.spec_api.specs.Defaults as defaults
use Rattle.spec_api.specs.Defaults.{unsigned_value, replica_set_defaults, deployment_defaults, strategy_defaults, rolling_defaults, is_rolling_update}
use Rattle.spec_api.proofs.FoundMembers.{with_found}
use Rattle.spec_api.specs.Kinds.{api_version, kind_text}
use Rattle.spec_api.specs.Reading.{is_absent, schema_of, item_of, tidied, tidied_items, tidied_members, empty, reading}
use Rattle.spec_api.specs.Schemas.{property_at}
use Rattle.spec_api.specs.Values.{data_of, members_of, inner_of, without, found_or_null, is_null, merged, merged_members, with_member, with_default}
use Rattle.spec_api.specs.Verbs.{object_in}
use Rattle.spec_api.proofs.VerbSteps.{with_defaults}
use Rattle.spec_laws.proofs.JsonOrder.{IsOrdered, IsOrdered-put, IsOrdered-without, IsOrdered-tidied, IsOrdered-filled}
use Rattle.spec_laws.proofs.NeatMembers.{opens}
use Rattle.spec_laws.proofs.NumbersRead.{number_read}
use Rattle.spec_laws.proofs.JsonTexts.{InText, ItemsInText, MembersInText, document_text}
use Rattle.json.proofs.Printed.Utf8.{are_ascii, IsUtf8-are_ascii}
use Rattle.std.specs.Str.{IsUtf8, is_utf8}
use Rattle.std.proofs.lemmas.Str.{IsUtf8-from_is_utf8}
use Rattle.spec_laws.proofs.ReadAgain.{defaulted, spec_members, filled_members}
use Rattle.spec_api.proofs.FirstStatus.{get-members_of}
use Rattle.spec_api.specs.Reached.{AreInOrder, IsParsed, AreParsed}

-- ---- order, and what stands in it

abbrev pub All : Members → Type 0
All no_members = Unit {0}
All (member k d ms) = IsParsed d × All ms × IsUtf8 k

abbrev pub Both : Members → Type 0
Both ms = IsOrdered ms × All ms

pub parts : (ms : Members) → AreInOrder ms → Both ms
parts no_members h = (tt, tt)
parts (member k d ms) h = let more = parts ms h.2 in ((h.0, more.0), (h.1, more.1, h.3))

pub joined : (ms : Members) → Both ms → AreInOrder ms
joined no_members b = tt
joined (member k d ms) b = (b.0.0, b.1.0, joined ms (b.0.1, b.1.1), b.1.2)

pub inside : (d : Data) → IsParsed d → Both (members_of d)
inside null h = (tt, tt)
inside (boolean b) h = (tt, tt)
inside (number n) h = (tt, tt)
inside (string t) h = (tt, tt)
inside (array ds) h = (tt, tt)
inside (object ms) h = parts ms h

-- ---- what is put, taken out and found

put_at : (o : Ordering) (k l : List ℕ) (d e : Data) (ms : Members) → IsUtf8 k → IsParsed d → All (member l e ms) → All (put k d ms)
    → All (match_ordering o (member k d (member l e ms)) (member l d ms) (member l e (put k d ms)))
put_at Less k l d e ms u h a later = (h, a, u)
put_at Equal k l d e ms u h a later = (h, a.1, a.2)
put_at Greater k l d e ms u h a later = (a.0, later, a.2)

All-put : (k : List ℕ) → IsUtf8 k → (d : Data) (ms : Members) → IsParsed d → All ms → All (put k d ms)
All-put k u d no_members h a = (h, tt, u)
All-put k u d (member l e ms) h a = put_at (slice_cmp nat_cmp k l) k l d e ms u h a (All-put k u d ms h a.1)

without_at : (b : Bool) (l : List ℕ) (e : Data) (ms left : Members) → All (member l e ms) → All left → All (cond b ms (member l e left))
without_at true l e ms left a later = a.1
without_at false l e ms left a later = (a.0, later, a.2)

All-without : (k : List ℕ) (ms : Members) → All ms → All (without k ms)
All-without k no_members a = tt
All-without k (member l e ms) a = without_at (is_eq (slice_cmp nat_cmp k l)) l e ms (without k ms) a (All-without k ms a.1)

get_at : (o : Ordering) (e : Data) (x : Option Data) → IsParsed e → IfSome x IsParsed → IfSome (match_ordering o x (Some e) x) IsParsed
get_at Less e x h later = later
get_at Equal e x h later = h
get_at Greater e x h later = later

All-get : (k : List ℕ) (ms : Members) → All ms → IfSome (get_member k ms) IsParsed
All-get k no_members a = tt
All-get k (member l e ms) a = get_at (slice_cmp nat_cmp k l) e (get_member k ms) a.0 (All-get k ms a.1)

pub Both-put : (k : List ℕ) → IsUtf8 k → (d : Data) (ms : Members) → IsParsed d → Both ms → Both (put k d ms)
Both-put k u d ms h b = (IsOrdered-put k d ms b.0, All-put k u d ms h b.1)

-- under a name that is ASCII
pub Both-set : (k : List ℕ) → are_ascii k ≡ true → (d : Data) (ms : Members) → IsParsed d → Both ms → Both (put k d ms)
Both-set k e d ms h b = Both-put k (IsUtf8-are_ascii k e) d ms h b

pub Both-without : (k : List ℕ) (ms : Members) → Both ms → Both (without k ms)
Both-without k ms b = (IsOrdered-without k ms b.0, All-without k ms b.1)

pub found : (q : List ℕ) (d : Data) → IsParsed d → IfSome (get q d) IsParsed
found q d p = subst (λ o. IfSome o IsParsed) (sym (get-members_of q d)) (All-get q (members_of d) (inside d p).1)

pub found_in : (q : List ℕ) (ms : Members) → Both ms → IfSome (get_member q ms) IsParsed
found_in q ms b = All-get q ms b.1

pub inner : (o : Option Data) → IfSome o IsParsed → Both (inner_of o)
inner None h = (tt, tt)
inner (Some d) h = inside d h

-- ---- what is left out

unless_absent : (b : Bool) (k : List ℕ) (d : Data) (ms : Members) → IsUtf8 k → IsParsed d → All ms → All (cond b ms (member k d ms))
unless_absent true k d ms u h a = a
unless_absent false k d ms u h a = (h, a, u)

mutual
  parsed_tidied : (s : Shape) (d : Data) → IsParsed d → IsParsed (tidied s d)
  parsed_tidied s null h = tt
  parsed_tidied s (boolean b) h = tt
  parsed_tidied s (number n) h = h
  parsed_tidied s (string t) h = h
  parsed_tidied s (array ds) h = items_tidied (item_of s) ds h
  parsed_tidied s (object ms) h = joined (tidied_members (schema_of s) ms) (IsOrdered-tidied (schema_of s) ms (parts ms h).0, all_tidied (schema_of s) ms (parts ms h).1)

  items_tidied : (s : Shape) (ds : Items) → AreParsed ds → AreParsed (tidied_items s ds)
  items_tidied s no_items h = tt
  items_tidied s (item d ds) h = (parsed_tidied s d h.0, items_tidied s ds h.1)

  all_tidied : (p : Schema) (ms : Members) → All ms → All (tidied_members p ms)
  all_tidied p no_members h = tt
  all_tidied p (member k d ms) h =
      unless_absent (is_absent (property_at p k) (tidied (property_at p k).shape d)) k (tidied (property_at p k).shape d) (tidied_members p ms) h.2 (parsed_tidied (property_at p k).shape d h.0) (all_tidied p ms h.1)

-- ---- what is filled in

default_cond : (b : Bool) (k : List ℕ) (d : Data) (ms : Members) → IsUtf8 k → IsParsed d → All ms → All (cond b ms (put k d ms))
default_cond true k d ms u h a = a
default_cond false k d ms u h a = All-put k u d ms h a

all_defaulted : (k : List ℕ) → are_ascii k ≡ true → (d : Data) (ms : Members) → IsParsed d → All ms → All (defaulted k d ms)
all_defaulted k e d ms h a = default_cond (is_some (get_member k ms)) k d ms (IsUtf8-are_ascii k e) h a

all_spec : (k : Kind) (ms : Members) → All ms → All (spec_members k ms)
all_spec ConfigMap ms a = a
all_spec Pod ms a = all_defaulted (codes "spec") refl empty ms tt a
all_spec ReplicaSet ms a = a
all_spec Deployment ms a = a

pub version_ascii : (k : Kind) → are_ascii (api_version k) ≡ true
version_ascii ConfigMap = refl
version_ascii Pod = refl
version_ascii ReplicaSet = refl
version_ascii Deployment = refl

pub kind_ascii : (k : Kind) → are_ascii (kind_text k) ≡ true
kind_ascii ConfigMap = refl
kind_ascii Pod = refl
kind_ascii ReplicaSet = refl
kind_ascii Deployment = refl

all_filled : (k : Kind) (ms : Members) → All ms → All (filled_members k ms)
all_filled k ms a =
    let based = defaulted (codes "metadata") empty ms in
    let specced = spec_members k based in
    all_defaulted (codes "apiVersion") refl (string (api_version k)) (defaulted (codes "kind") (string (kind_text k)) specced) (IsUtf8-are_ascii (api_version k) (version_ascii k))
    (all_defaulted (codes "kind") refl (string (kind_text k)) specced (IsUtf8-are_ascii (kind_text k) (kind_ascii k)) (all_spec k based (all_defaulted (codes "metadata") refl empty ms tt a)))

pub parsed_reading : (k : Kind) (d o : Data) → reading k d ≡ Ok o → IsParsed d → IsParsed o
parsed_reading k d o is p =
    let opening = opens k d o is in
    let b = inside d p in
    let left : Both opening.left = subst Both (sym opening.from) (IsOrdered-tidied (Root k) (members_of d) b.0, all_tidied (Root k) (members_of d) b.1) in
    subst IsParsed (sym opening.is) (joined (filled_members k opening.left) (IsOrdered-filled k opening.left left.0, all_filled k opening.left left.1))

-- ---- defaults

parsed_member : (q : List ℕ) (e d : Data) → are_ascii q ≡ true → IsParsed e → IsParsed d → IsParsed (with_member q e d)
parsed_member q e null u h a = tt
parsed_member q e (boolean b) u h a = tt
parsed_member q e (number n) u h a = a
parsed_member q e (string s) u h a = a
parsed_member q e (array ds) u h a = a
parsed_member q e (object ms) u h a = joined (put q e ms) (Both-set q u e ms h (parts ms a))

parsed_cond : (b : Bool) (x y : Data) → IsParsed x → IsParsed y → IsParsed (cond b x y)
parsed_cond true x y p q = p
parsed_cond false x y p q = q

parsed_default : (q : List ℕ) → are_ascii q ≡ true → (e d : Data) → IsParsed e → IsParsed d → IsParsed (with_default q e d)
parsed_default q u e d h a = parsed_cond (is_some (get q d)) d (with_member q e d) a (parsed_member q e d u h a)

found_changed : (q : List ℕ) → are_ascii q ≡ true → (change : Data → Data) (o : Option Data) (d : Data) → ((e : Data) → IsParsed e → IsParsed (change e)) → IfSome o IsParsed → IsParsed d → IsParsed (with_found q change o d)
found_changed q u change None d each h a = a
found_changed q u change (Some e) d each h a = parsed_member q (change e) d u (each e h) a

changed : (q : List ℕ) → are_ascii q ≡ true → (change : Data → Data) (d : Data) → ((e : Data) → IsParsed e → IsParsed (change e)) → IsParsed d → IsParsed (with_found q change (get q d) d)
changed q u change d each a = found_changed q u change (get q d) d each (found q d a) a

rolling : (d : Data) → IsParsed d → IsParsed (rolling_defaults d)
rolling d a = parsed_default (codes "maxUnavailable") refl (string (codes "25%")) _ (IsUtf8-are_ascii (codes "25%") refl) (parsed_default (codes "maxSurge") refl (string (codes "25%")) d (IsUtf8-are_ascii (codes "25%") refl) a)

strategy : (d : Data) → IsParsed d → IsParsed (strategy_defaults d)
strategy d a =
    let typed = with_default (codes "type") (string (codes "RollingUpdate")) d in
    let b : IsParsed typed = parsed_default (codes "type") refl (string (codes "RollingUpdate")) d (IsUtf8-are_ascii (codes "RollingUpdate") refl) a in
    let based = with_default (codes "rollingUpdate") empty typed in
    parsed_cond (is_rolling_update typed) (with_found (codes "rollingUpdate") rolling_defaults (get (codes "rollingUpdate") based) based) typed
    (changed (codes "rollingUpdate") refl rolling_defaults based rolling (parsed_default (codes "rollingUpdate") refl empty typed tt b)) b

-- a number that may be filled in
small : (n : ℕ) → n ≤ 10 → IsParsed (unsigned_value n)
small n h = omega (arith, h)

deployment : (d : Data) → IsParsed d → IsParsed (deployment_defaults d)
deployment d a =
    let one = with_default (codes "replicas") (unsigned_value 1) d in
    let two = with_default (codes "revisionHistoryLimit") (unsigned_value 10) one in
    changed (codes "strategy") refl strategy_defaults (with_default (codes "strategy") empty two) strategy
    (parsed_default (codes "strategy") refl empty two tt (parsed_default (codes "revisionHistoryLimit") refl (unsigned_value 10) one (small 10 (omega arith)) (parsed_default (codes "replicas") refl (unsigned_value 1) d (small 1 (omega arith)) a)))

parsed_defaults : (k : Kind) (d : Data) → IsParsed d → IsParsed (defaults.defaulted k d)
parsed_defaults ConfigMap d a = a
parsed_defaults Pod d a = a
parsed_defaults ReplicaSet d a = changed (codes "spec") refl replica_set_defaults d (λ e h. parsed_default (codes "replicas") refl (unsigned_value 1) e (small 1 (omega arith)) h) a
parsed_defaults Deployment d a = changed (codes "spec") refl deployment_defaults d deployment a

said_as : (k : Kind) (d o : Data) (r : Result Data Part) → reading k d ≡ r → with_defaults k r ≡ Ok o → IsParsed d → IsParsed o
said_as k d o (Err p) is h a = cc
said_as k d o (Ok e) is h a = let one : defaults.defaulted k e ≡ o = cc in subst IsParsed one (parsed_defaults k e (parsed_reading k d e is a))

pub parsed_said : (k : Kind) (d o : Data) → object_in k d ≡ Ok o → IsParsed d → IsParsed o
parsed_said k d o h a = said_as k d o (reading k d) refl h a

-- ---- patches

both_cond : (b : Bool) (x y : Members) → Both x → Both y → Both (cond b x y)
both_cond true x y p q = p
both_cond false x y p q = q

or_null : (o : Option Data) → IfSome o IsParsed → IsParsed (unwrap_or o null)
or_null None h = tt
or_null (Some d) h = h

mutual
  pub parsed_merged : (target d : Data) → IsParsed target → IsParsed d → IsParsed (merged target d)
  parsed_merged target null t p = tt
  parsed_merged target (boolean b) t p = tt
  parsed_merged target (number n) t p = p
  parsed_merged target (string s) t p = p
  parsed_merged target (array ds) t p = p
  parsed_merged target (object changes) t p = joined (merged_members (members_of target) changes) (both_merged (members_of target) changes (inside target t) (parts changes p).1)

  both_merged : (ms changes : Members) → Both ms → All changes → Both (merged_members ms changes)
  both_merged ms no_members b c = b
  both_merged ms (member k d changes) b c =
      let new = merged (found_or_null k ms) d in
      both_merged (cond (is_null d) (without k ms) (put k new ms)) changes
      (both_cond (is_null d) (without k ms) (put k new ms) (Both-without k ms b) (Both-put k c.2 new ms (parsed_merged (found_or_null k ms) d (or_null (get_member k ms) (found_in k ms b)) c.0) b)) c.1

-- ---- what is read of a text

one_read : (o : Option Data) (more : Data → Option Members) → IfSome o IsParsed → ((d : Data) → IsParsed d → IfSome (more d) Both) → IfSome (option_and_then more o) Both
one_read None more h each = tt
one_read (Some d) more h each = each d h

of_array : (o : Option Items) → IfSome o AreParsed → IfSome (option_map array o) IsParsed
of_array None a = tt
of_array (Some ds) a = a

of_object : (o : Option Members) → IfSome o Both → IfSome (option_map object o) IsParsed
of_object None a = tt
of_object (Some ms) a = joined ms a

items_read : (o : Option Data) (p : Option Items) → IfSome o IsParsed → IfSome p AreParsed → IfSome (option_and_then (λ d. option_map (item d) p) o) AreParsed
items_read None p h k = tt
items_read (Some d) None h k = tt
items_read (Some d) (Some ds) h k = (h, k)

mutual
  of_whole : (j : json.Json) → InText j → IfSome (of_json j) IsParsed
  of_whole json.null u = tt
  of_whole (json.boolean b) u = tt
  of_whole (json.number s) u = number_read s
  of_whole (json.string s) u = u
  of_whole (json.array js) u = of_array (of_items js) (of_each js u)
  of_whole (json.object ms) u = of_object (of_members ms no_members) (of_all ms no_members u (tt, tt))

  of_each : (js : json.Items) → ItemsInText js → IfSome (of_items js) AreParsed
  of_each json.no_items u = tt
  of_each (json.item j js) u = items_read (of_json j) (of_items js) (of_whole j u.0) (of_each js u.1)

  of_all : (ms : json.Members) (done : Members) → MembersInText ms → Both done → IfSome (of_members ms done) Both
  of_all json.no_members done u a = a
  of_all (json.member k j ms) done u a =
      one_read (of_json j) (λ d. of_members ms (put k d done)) (of_whole j u.1) (λ d h. of_all ms (put k d done) u.2 (Both-put k u.0 d done h a))

of_some : (o : Option json.Json) → IfSome o InText → IfSome (option_and_then of_json o) IsParsed
of_some None u = tt
of_some (Some j) u = of_whole j u

pub parsed_read : (text : List ℕ) → IsUtf8 text → IfSome (read text) IsParsed
parsed_read text u = of_some (option_and_then (λ p. json.if_last p.0 p.1) (json.value max_depth (tokens text))) (document_text max_depth text u)

utf8_read : (b : Bool) (text : List ℕ) → is_utf8 text ≡ b → IfSome (cond b (read text) None) IsParsed
utf8_read true text is = parsed_read text (IsUtf8-from_is_utf8 text is)
utf8_read false text is = tt

pub parsed_data : (text : List ℕ) → IfSome (data_of text) IsParsed
parsed_data text = utf8_read (is_utf8 text) text refl
