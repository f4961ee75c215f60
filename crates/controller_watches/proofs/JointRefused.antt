-- What is refused of the scopes that are followed, is refused of a watch.
use Rattle.std.proofs.Common.{◌≡◌, ◌<◌, ℕ, ◌+◌, List, [], ◌∷◌, ◌++◌, length, map, Bool, true, false, true≢false, All, slice_index_or, not, ◌||◌, refl, sym, ap, subst, arith}
use Rattle.std.specs.Prelude.{Option, Some, None, Result, Ok, Err, IfErr, option_map, unwrap_or, Contains, if◌then◌else◌}
use Rattle.std.specs.List.{find, list_all}
use Rattle.std.proofs.lemmas.List.Elements.{All-nil, All-cons, All-head, All-tail, Contains-append_right}
use Rattle.spec_api.specs.Kinds.{kinds}
use Rattle.spec_api.specs.declared.kinds.Kind.{Kind}
use Rattle.request_encoding.specs.Given.{Refuses}
use Rattle.request_encoding.specs.Scopes.{Scope, names_namespace, required}
use Rattle.request_encoding.specs.declared.faults.ScopeFault.{ScopeFault}
use Rattle.request_encoding.specs.declared.faults.ScopeFault.TheVariants.{Namespace, Selector, NoMemory}
use Rattle.controller_watches.specs.Watched.{asked_by, scope_asked, RefusesOne, RefusesScopes}
use Rattle.controller_watches.specs.Joint.{agreed, all_joint, followed_first, is_of, joint, joint_of, same_text}
use Rattle.controller_watches.specs.declared.watches.Watch.{Watch}

each : {X Y : Type 0} (P : Y → Type 0) (f : X → Y) (xs : List X) → All P (map f xs) → All (λ x. P (f x)) xs
each P f [] all = All-nil (λ x. P (f x))
each P f (x ∷ xs) all = All-cons (λ x. P (f x)) x xs (All-head P (f x) (map f xs) all) (each P f xs (All-tail P (f x) (map f xs) all))

some_is : {X : Type 0} (x y : X) → Some x ≡ Some y → x ≡ y
some_is x y e = ap (λ o. unwrap_or o x) e

module _ (ws : List Watch) where
  -- what is found is there
  found_in : (test : Watch → Bool) (vs : List Watch) (first : Watch) → find test vs ≡ Some first → Contains vs first
  found_in test [] first e = absurd (cc)
  found_in test (v ∷ vs) first e = by (test v) (found_in test vs first) e
    where
      by : (b : Bool) → (find test vs ≡ Some first → Contains vs first) → (if b then Some v else find test vs) ≡ Some first → Contains (v ∷ vs) first
      by true later e = (0, omega arith, some_is v first e)
      by false later e = Contains-append_right (v ∷ []) vs first (later e)

  are_joint : (ks : List Kind) → All (λ (p : Kind × Scope). joint p.0 ws ≡ Some p.1) (joint_of ks ws)
  are_joint [] = All-nil (λ (p : Kind × Scope). joint p.0 ws ≡ Some p.1)
  are_joint (k ∷ ks) = by (joint k ws) (are_joint ks) refl
    where
      by : (o : Option Scope) → All (λ (p : Kind × Scope). joint p.0 ws ≡ Some p.1) (joint_of ks ws) → joint k ws ≡ o → All (λ (p : Kind × Scope). joint p.0 ws ≡ Some p.1) (followed_first k o (joint_of ks ws))
      by None rest e = rest
      by (Some s) rest e = All-cons (λ (p : Kind × Scope). joint p.0 ws ≡ Some p.1) (k, s) (joint_of ks ws) e rest

  -- the scope of a kind is refused only where one of its watches is
  namespace_by : (k : Kind) (first : Watch) → find (is_of k) ws ≡ Some first → (b : Bool) → names_namespace (record { namespace = if b then (scope_asked first).namespace else None; selector = None }) ≡ false → RefusesOne ws Namespace
  namespace_by k first f true h = (first, found_in (is_of k) ws first f, h)
  namespace_by k first f false h = absurd (true≢false h)

  selector_by : (k : Kind) (first : Watch) → find (is_of k) ws ≡ Some first → (b : Bool) → required (record { namespace = None; selector = if b then (scope_asked first).selector else None }) ≡ None → RefusesOne ws Selector
  selector_by k first f true h = (first, found_in (is_of k) ws first f, h)
  selector_by k first f false h = absurd (cc)

  abbrev joint_by : Kind → Watch → Scope
  joint_by k first = record { namespace = agreed (λ s. s.namespace) k ws first; selector = agreed (λ s. s.selector) k ws first }

  namespace_refused : (k : Kind) (s : Scope) → joint k ws ≡ Some s → names_namespace s ≡ false → RefusesOne ws Namespace
  namespace_refused k s is refused = from (find (is_of k) ws) refl is
    where
      from : (o : Option Watch) → find (is_of k) ws ≡ o → option_map (joint_by k) o ≡ Some s → RefusesOne ws Namespace
      from None f e = absurd (cc)
      from (Some first) f e =
          namespace_by k first f (list_all (λ w. not (is_of k w) || same_text (scope_asked w).namespace (scope_asked first).namespace) ws)
          (subst (λ t. names_namespace t ≡ false) (sym (some_is (joint_by k first) s e)) refused)

  selector_refused : (k : Kind) (s : Scope) → joint k ws ≡ Some s → required s ≡ None → RefusesOne ws Selector
  selector_refused k s is refused = from (find (is_of k) ws) refl is
    where
      from : (o : Option Watch) → find (is_of k) ws ≡ o → option_map (joint_by k) o ≡ Some s → RefusesOne ws Selector
      from None f e = absurd (cc)
      from (Some first) f e =
          selector_by k first f (list_all (λ w. not (is_of k w) || same_text (scope_asked w).selector (scope_asked first).selector) ws)
          (subst (λ t. required t ≡ None) (sym (some_is (joint_by k first) s e)) refused)

  is_joint : (js : List Watch) → map asked_by js ≡ all_joint ws → (w : Watch) → Contains js w → joint w.kind ws ≡ Some (scope_asked w)
  is_joint js is w (i, lt, at) =
      let all : All (λ (p : Kind × Scope). joint p.0 ws ≡ Some p.1) (map asked_by js) = subst (All (λ (p : Kind × Scope). joint p.0 ws ≡ Some p.1)) (sym is) (are_joint kinds) in
      subst (λ (v : Watch). joint v.kind ws ≡ Some (scope_asked v)) at (each (λ (p : Kind × Scope). joint p.0 ws ≡ Some p.1) asked_by js all i w lt)

  pub joint_refused : (js : List Watch) (fault : ScopeFault) → map asked_by js ≡ all_joint ws → RefusesScopes js fault → RefusesScopes ws fault
  joint_refused js Namespace is (w, among, h) = namespace_refused w.kind (scope_asked w) (is_joint js is w among) h
  joint_refused js Selector is (w, among, h) = selector_refused w.kind (scope_asked w) (is_joint js is w among) h
  joint_refused js NoMemory is h = tt

  -- so of what may be refused
  pub refused_of : {X : Type 0} (r : Result X ScopeFault) (js : List Watch) → map asked_by js ≡ all_joint ws → IfErr r (RefusesScopes js) → IfErr r (RefusesScopes ws)
  refused_of (Ok x) js is h = tt
  refused_of (Err fault) js is h = joint_refused js fault is h
