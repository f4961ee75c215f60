-- What owes a look at a key: a change of the object itself, and a reference that names it.
use Rattle.std.proofs.Common.{◌≡◌, ◌&&◌, inl, ℕ, List, [], ◌∷◌, Bool, true, false, cond, IfSome, Option, Some, None, option_and_then, refl, sym, ap, ◌∙◌}
use Rattle.std.specs.List.{find}
use Rattle.serde_json.specs.Data.{Data}
use Rattle.spec_api.specs.declared.kinds.Kind.{Kind}
use Rattle.spec_api.specs.Keys.{Key}
use Rattle.spec_api.specs.Kinds.{kinds}
use Rattle.spec_api.specs.History.{Entries, found}
use Rattle.spec_api.specs.Metadata.{Owner, owners, uid}
use Rattle.spec_api.specs.SelectorValues.{is_some_and}
use Rattle.spec_api.proofs.Truths.{both_true, and_true}
use Rattle.spec_client_go.specs.OwedKeys.{Change, own_key, changed}
use Rattle.spec_client_go.specs.OwnerReferences.{is_text, refers_to, key_named, owner_key, owner_keys, namespace_of, controls_as, controllers, controller_keys, is_controlled_by}
use Rattle.spec_reconcile.specs.Standings.{is_to}
use Rattle.reconcile_locality_laws.specs.Differences.{AreNamed, IsMap, Led, NameIt, change}
use Rattle.reconcile_locality_laws.proofs.Elements.{In, in_filter, in_filter_map, all_in, any_in}
use Rattle.reconcile_locality_laws.proofs.Maps.{found_in}

pub some_true : {A : Type 0} (t : A → Bool) (o : Option A) → is_some_and t o ≡ true → (a : A) × (o ≡ Some a) × (t a ≡ true)
some_true t None h = cc
some_true t (Some a) h = (a, refl, h)

-- ---- the object itself

pub own : (kind : Kind) (ms : Entries) (k : Key) (d : Data) → IsMap kind ms → found k ms ≡ Some d → own_key kind d ≡ k
own kind ms k d is at = all_in (λ m. own_key kind m.1 ≡ m.0) ms (k, d) is.own_keys (found_in k ms d at)

pub owns : (kind : Kind) (ms : Entries) (k : Key) → IsMap kind ms → IfSome (found k ms) (λ d. own_key kind d ≡ k)
owns kind ms k is = by (found k ms) refl
  where
    by : (o : Option Data) → found k ms ≡ o → IfSome o (λ d. own_key kind d ≡ k)
    by None at = tt
    by (Some d) at = own kind ms k d is at

-- an object whose own changes are none of these is the same in the end
module _ (Q : Change → Type 0) (kind : Kind) (k : Key) (none : (old new : Option Data) → Q (change kind old new) → In (changed (change kind old new)) k → ⊥) where
  one_unchanged : (old new : Option Data) → Q (change kind old new) → IfSome old (λ d. own_key kind d ≡ k) → IfSome new (λ d. own_key kind d ≡ k) → old ≡ new
  one_unchanged None None q p r = refl
  one_unchanged None (Some e) q p r = absurd (none None (Some e) q (inl r))
  one_unchanged (Some d) None q p r = absurd (none (Some d) None q (inl p))
  one_unchanged (Some d) (Some e) q p r = absurd (none (Some d) (Some e) q (inl r))

  pub unchanged : (os : List (Option Data)) (old new : Option Data) → IfSome old (λ d. own_key kind d ≡ k) → Led Q kind k old os new → old ≡ new
  unchanged [] old new owned led = led
  unchanged (o ∷ os) old new owned led = one_unchanged old o led.0 owned led.1 ∙ unchanged os o new led.1 led.2

-- ---- references

key_of_kind : (ns : List ℕ) (name : Option (List ℕ)) (t : Kind → Bool) (ks : List Kind) (k : Key) → option_and_then (λ j. key_named ns j name) (find t ks) ≡ Some k
    → (t k.kind ≡ true) × (key_named ns k.kind name ≡ Some k)
key_of_kind ns name t [] k h = cc
key_of_kind ns name t (j ∷ js) k h = by (t j) refl (key_of_kind ns name t js k) h
  where
    named : (name : Option (List ℕ)) → key_named ns j name ≡ Some k → j ≡ k.kind
    named None h = cc
    named (Some n) h = let made : Key = record { kind = j; namespace = ns; name = n } in let e : made ≡ k = cc in ap (λ (x : Key). x.kind) e

    by : (b : Bool) → t j ≡ b → (option_and_then (λ j. key_named ns j name) (find t js) ≡ Some k → (t k.kind ≡ true) × (key_named ns k.kind name ≡ Some k))
        → option_and_then (λ j. key_named ns j name) (cond b (Some j) (find t js)) ≡ Some k → (t k.kind ≡ true) × (key_named ns k.kind name ≡ Some k)
    by true e rest h = let same : j ≡ k.kind = named name h in (ap t (sym same) ∙ e, ap (λ i. key_named ns i name) (sym same) ∙ h)
    by false e rest h = rest h

pub named_as : (kind : Kind) (k : Key) (ns : List ℕ) (o : Owner) → k.kind ≡ kind → owner_key ns o ≡ Some k → (refers_to kind o ≡ true) × (key_named ns kind o.name ≡ Some k)
named_as kind k ns o is names =
    let both = key_of_kind ns o.name (λ j. refers_to j o) kinds k names in
    (ap (λ j. refers_to j o) (sym is) ∙ both.0, ap (λ j. key_named ns j o.name) (sym is) ∙ both.1)

-- a controller reference that names a key of a kind is among the keys of the controllers of that kind
pub controller_named : (kind : Kind) (k : Key) (d : Data) (o : Owner) → k.kind ≡ kind → In (owners d) o → owner_key (namespace_of d) o ≡ Some k → o.is_controller ≡ true → In (controller_keys kind d) k
controller_named kind k d o is i names controls =
    let both = named_as kind k (namespace_of d) o is names in
    in_filter_map (λ (o : Owner). key_named (namespace_of d) kind o.name) (controllers kind d) o k both.1
    (in_filter (controls_as kind) (owners d) o (and_true o.is_controller (refers_to kind o) controls both.0) i)

pub owner_named : (k : Key) (d : Data) (o : Owner) → In (owners d) o → owner_key (namespace_of d) o ≡ Some k → In (owner_keys d) k
owner_named k d o i names = in_filter_map (owner_key (namespace_of d)) (owners d) o k names i

-- ---- references that name what has their uid

pub reference_named : (k : Key) (owner : Data) (ms : Entries) (m : Key × Data) (o : Owner) → AreNamed k owner ms → In ms m → In (owners m.1) o → is_to owner o ≡ true → owner_key (namespace_of m.1) o ≡ Some k
reference_named k owner ms m o named i j is =
    all_in (λ o. is_to owner o ≡ true → owner_key (namespace_of m.1) o ≡ Some k) (owners m.1) o
    (all_in (λ m. NameIt k owner m.1) ms m named i) j is

-- the reference by which an object is controlled
pub controlling : (owner d : Data) → is_some_and (λ u. is_controlled_by u d) (uid owner) ≡ true → (o : Owner) × In (owners d) o × (o.is_controller ≡ true) × (is_to owner o ≡ true)
controlling owner d h =
    let of = some_true (λ u. is_controlled_by u d) (uid owner) h in
    let one = any_in (λ (o : Owner). o.is_controller && is_text of.0 o.uid) (owners d) of.2 in
    let both = both_true one.0.is_controller (is_text of.0 one.0.uid) one.2 in
    (one.0, one.1, both.0, ap (is_some_and (λ u. is_text u one.0.uid)) of.1 ∙ both.1)

-- a controlled object names its controller's key
pub controller_is_named : (kind : Kind) (k : Key) (owner : Data) (ms : Entries) (m : Key × Data) → k.kind ≡ kind → AreNamed k owner ms → In ms m → is_some_and (λ u. is_controlled_by u m.1) (uid owner) ≡ true
    → In (controller_keys kind m.1) k
controller_is_named kind k owner ms m is named i h =
    let one = controlling owner m.1 h in
    controller_named kind k m.1 one.0 is one.1 (reference_named k owner ms m one.0 named i one.1 one.3) one.2
