-- What bytes ask can be read of bytes.
use Rattle.std.proofs.Common.{◌≡◌, nat_lt, ◌==◌, ◌&&◌, ◌||◌, not, ℕ, pos, negsuc, List, length, take, Bool, true, false, if◌then◌else◌, IsUtf8, Option, Some, None, is_some, Result, Ok, Err, inl, inr, refl, subst}
use Rattle.std.proofs.Math.Logic.{∥∥₁_elim}
use Rattle.std.proofs.Props.{props}
use Rattle.std.specs.Coded.{×_prop, Unit-prop}
use Rattle.serde_json.specs.Data.{Data, null, boolean, number, string, array, object, unsigned, negative, float, Items, no_items, item, Members, no_members, member}
use Rattle.spec_api.specs.declared.methods.Method.{Method}
use Rattle.spec_api.specs.declared.refusals.Part.{Part}
use Rattle.spec_api.specs.declared.refusals.Part.TheVariants as part
use Rattle.spec_api.specs.ObjectRequests.{Request, get_object, list_objects, create_object, update_object, update_status, patch_object, delete_object}
use Rattle.spec_api.specs.Reached.{CanBeRead, IsBefore, IsParsed, AreParsed, AreInOrder}
use Rattle.spec_api.specs.Refusals.{Refusal, bad_request, length_required, method_not_allowed, too_large, unsupported_media_type}
use Rattle.spec_api.specs.Targets.{Query, Asked, request, list, watch, Route, route, path_of, query_for, names_namespace, is_allowed, longest_body, asked}
use Rattle.spec_http.specs.Checks.{Opening, checked, is_watch, length_checked, length_or_none, path_checked, method_checked, query_checked}
use Rattle.spec_http.specs.Connections.{Asks, asked_after}
use Rattle.spec_http.specs.Heads.{Head, has_transfer_coding, head_of, media_type, method_named, needs_length, stated_length, takes_type}
use Rattle.spec_laws.proofs.ReadRequests.{AsksWell, well_asked}
use Rattle.api.specs.Askable.{CanBeAsked}
use Rattle.http_connection.specs.Arriving.{IsAskedBySome}

-- ---- what a method asks of a route whose namespace can be one

abbrev CanBe : Result Asked Refusal → Type 0
CanBe (Err f) = Unit {0}
CanBe (Ok a) = CanBeAsked a

can_be : (r : Result Asked Refusal) → AsksWell r → CanBe r
can_be (Err f) well = tt
can_be (Ok (request q)) well = well
can_be (Ok (list v o)) well = tt
can_be (Ok (watch v o)) well = tt

can_ask : (method : Method) (r : Route) (q : Query) (text : List ℕ) → names_namespace r ≡ true → CanBe (asked method r q text)
can_ask method r q text names = can_be (asked method r q text) (well_asked method r q text names)

-- ---- heads

abbrev Names : Result Opening Refusal → Type 0
Names (Err f) = Unit {0}
Names (Ok o) = names_namespace o.route ≡ true

module _ (x y z w : Refusal) (o : Opening) (names : names_namespace o.route ≡ true) where
  by_four : (a b c d : Bool) → Names (if a then Err x else (if b then Err y else (if c then Err z else (if d then Ok o else Err w))))
  by_four true b c d = tt
  by_four false true c d = tt
  by_four false false true d = tt
  by_four false false false true = names
  by_four false false false false = tt

module _ (h : Head) (stated : Option ℕ) (r : Route) (names : names_namespace r ≡ true) where
  query_names : (m : Method) (q : Result Query Part) → Names (query_checked h stated m r q)
  query_names m (Err p) = tt
  query_names m (Ok q) =
      let o : Opening = record { method = m; route = r; query = q; body_length = length_or_none stated } in
      by_four (bad_request part.Head) length_required too_large unsupported_media_type o names (is_watch q.collection.read && h.minor == 0)
      (has_transfer_coding h || (needs_length m && not (is_some stated))) (nat_lt longest_body o.body_length) (takes_type m (media_type h))

  allowed_names : (m : Method) (b : Bool) → Names (if b then query_checked h stated m r (query_for m r h.target) else Err method_not_allowed)
  allowed_names m true = query_names m (query_for m r h.target)
  allowed_names m false = tt

  method_names : (m : Option Method) → Names (method_checked h stated r m)
  method_names None = tt
  method_names (Some m) = allowed_names m (is_allowed m r)

named : (h : Head) (stated : Option ℕ) (r : Route) (b : Bool) → names_namespace r ≡ b → Names (if b then method_checked h stated r (method_named h.method) else Err (bad_request part.Path))
named h stated r true names = method_names h stated r names (method_named h.method)
named h stated r false names = tt

path_names : (h : Head) (stated : Option ℕ) (r : Option Route) → Names (path_checked h stated r)
path_names h stated None = tt
path_names h stated (Some r) = named h stated r (names_namespace r) refl

length_names : (h : Head) (stated : Option (Option ℕ)) → Names (length_checked h stated)
length_names h None = tt
length_names h (Some stated) = path_names h stated (route (path_of h.target))

-- ---- connections

module _ (a : Asked) where
  some_is : (r : Result Asked Refusal) → Some (Ok a) ≡ Some r → r ≡ Ok a
  some_is r e = cc

  none_is : (said : Option (Result Asked Refusal)) → said ≡ Some (Ok a) → said ≡ None → ⊥
  none_is said e is = cc

  refused_is : (f : Refusal) (said : Option (Result Asked Refusal)) → said ≡ Some (Ok a) → said ≡ Some (Err f) → ⊥
  refused_is f said e is = cc

  with_body : (o : Opening) (rest : List ℕ) → names_namespace o.route ≡ true → (b : Bool) → Some (Ok a) ≡ (if b then None else Some (asked o.method o.route o.query (take o.body_length rest))) → CanBeAsked a
  with_body o rest names true is = absurd (none_is (Some (Ok a)) refl is)
  with_body o rest names false is =
      let text = take o.body_length rest in
      subst CanBe (some_is (asked o.method o.route o.query text) is) (can_ask o.method o.route o.query text names)

  after_head : (c : Result Opening Refusal) (rest : List ℕ) → Names c → Some (Ok a) ≡ asked_after c rest → CanBeAsked a
  after_head (Err f) rest names is = absurd (refused_is f (Some (Ok a)) refl is)
  after_head (Ok o) rest names is = with_body o rest names (nat_lt (length rest) o.body_length) is

  pub asks_can : (bytes : List ℕ) → Asks bytes (Some (Ok a)) → CanBeAsked a
  asks_can bytes (inl (h, rest, reads, within, is)) = after_head (checked (head_of h)) rest (length_names (head_of h) (stated_length (head_of h))) is
  asks_can bytes (inr (inl (never, is))) = absurd (refused_is (bad_request part.Head) (Some (Ok a)) refl is)
  asks_can bytes (inr (inr (inl (large, is)))) = absurd (refused_is too_large (Some (Ok a)) refl is)
  asks_can bytes (inr (inr (inr (half, is)))) = absurd (none_is (Some (Ok a)) refl is)

-- ---- in one way at most

utf8_prop : (t : List ℕ) → IsProp (IsUtf8 t)
utf8_prop t = hlevel props

before_prop : (k : List ℕ) (ms : Members) → IsProp (IsBefore k ms)
before_prop k no_members = Unit-prop
before_prop k (member l d ms) = ×_prop (hlevel props) (before_prop k ms)

mutual
  parsed_prop : (d : Data) → IsProp (IsParsed d)
  parsed_prop null = Unit-prop
  parsed_prop (boolean b) = Unit-prop
  parsed_prop (number (unsigned n)) = hlevel props
  parsed_prop (number (negative (pos n))) = hlevel props
  parsed_prop (number (negative (negsuc n))) = hlevel props
  parsed_prop (number (float x)) = Unit-prop
  parsed_prop (string t) = utf8_prop t
  parsed_prop (array ds) = items_prop ds
  parsed_prop (object ms) = members_prop ms

  items_prop : (ds : Items) → IsProp (AreParsed ds)
  items_prop no_items = Unit-prop
  items_prop (item d ds) = ×_prop (parsed_prop d) (items_prop ds)

  members_prop : (ms : Members) → IsProp (AreInOrder ms)
  members_prop no_members = Unit-prop
  members_prop (member k d ms) = λ x y i. (before_prop k ms x.0 y.0 i, parsed_prop d x.1 y.1 i, members_prop ms x.2 y.2 i, utf8_prop k x.3 y.3 i)

read_prop : (q : Request) → IsProp (CanBeRead q)
read_prop (get_object k) = Unit-prop
read_prop (list_objects v) = Unit-prop
read_prop (create_object kind ns d) = ×_prop (hlevel props) (parsed_prop d)
read_prop (update_object k d) = parsed_prop d
read_prop (update_status k d) = parsed_prop d
read_prop (patch_object k d) = parsed_prop d
read_prop (delete_object k o) = Unit-prop

can_prop : (a : Asked) → IsProp (CanBeAsked a)
can_prop (request q) = read_prop q
can_prop (list v options) = Unit-prop
can_prop (watch v options) = Unit-prop

pub some_can : (a : Asked) → IsAskedBySome a → CanBeAsked a
some_can a some = ∥∥₁_elim some (can_prop a) (λ r. asks_can a r.0 r.1)
