-- A scope that holds all that watches ask for.
use Rattle.std.proofs.Common.{◌≡◌, ◌⊎◌, inl, inr, ⊎_elim, ℕ, List, [], ◌∷◌, Bool, true, false, true≢false, not, ◌&&◌, ◌||◌, ◌==◌, refl, sym, ap, ◌∙◌, subst, arith}
use Rattle.std.specs.Prelude.{Option, Some, None, option_map, unwrap_or, Contains, if◌then◌else◌}
use Rattle.std.specs.List.{find, list_all}
use Rattle.std.specs.Str.{bytes_eq}
use Rattle.std.proofs.lemmas.Bool.Decides.{nat_tests}
use Rattle.std.proofs.lemmas.List.Sums.{AllPass-from_list_all}
use Rattle.std.proofs.lemmas.Slice.Eq.{bytes_eq-Decides}
use Rattle.serde_json.specs.Data.{Data}
use Rattle.spec_api.specs.History.{in_namespace, in_view}
use Rattle.spec_api.specs.Keys.{Key}
use Rattle.spec_api.specs.Kinds.{rank}
use Rattle.spec_api.specs.Metadata.{labels_of}
use Rattle.spec_api.specs.SelectorFields.{fields_meet}
use Rattle.spec_api.specs.Selectors.{meets_all}
use Rattle.spec_api.specs.declared.kinds.Kind.{Kind}
use Rattle.request_encoding.specs.Scopes.{Scope, required, view_in}
use Rattle.controller_watches.specs.Watched.{scope_asked, view_asked}
use Rattle.controller_watches.specs.Joint.{agreed, is_of, joint, same_text, NothingIsMissed, OneIsAsItWas}
use Rattle.controller_watches.specs.declared.watches.Watch.{Watch}

-- ---- texts

same_is : (s t : Option (List ℕ)) → same_text s t ≡ true → s ≡ t
same_is None None h = refl
same_is None (Some t) h = absurd (true≢false (sym h))
same_is (Some s) None h = absurd (true≢false (sym h))
same_is (Some s) (Some t) h = ap Some ((bytes_eq-Decides s t).0 h)

same_itself : (t : Option (List ℕ)) → same_text t t ≡ true
same_itself None = refl
same_itself (Some t) = (bytes_eq-Decides t t).1 refl

number_is_itself : (n : ℕ) → (n == n) ≡ true
number_is_itself n = grind (arith, nat_tests)

-- ---- what is agreed is what each says, or nothing

second_of : (a b : Bool) → a ≡ true → (not a || b) ≡ true → b ≡ true
second_of true b h so = so
second_of false b h so = absurd (true≢false (sym h))

agreed_by : (part : Scope → Option (List ℕ)) (ws : List Watch) (w first : Watch) → Contains ws w
    → (agreed part w.kind ws first ≡ part (scope_asked w)) ⊎ (agreed part w.kind ws first ≡ None)
agreed_by part ws w first (i, lt, is) = by (list_all test ws) refl
  where
    test : Watch → Bool
    test v = not (is_of w.kind v) || same_text (part (scope_asked v)) (part (scope_asked first))

    by : (b : Bool) → list_all test ws ≡ b → ((if b then part (scope_asked first) else None) ≡ part (scope_asked w)) ⊎ ((if b then part (scope_asked first) else None) ≡ None)
    by true e =
        let passes : test w ≡ true = subst (λ v. test v ≡ true) is (AllPass-from_list_all test ws e i w lt) in
        inl (sym (same_is (part (scope_asked w)) (part (scope_asked first)) (second_of (is_of w.kind w) (same_text (part (scope_asked w)) (part (scope_asked first))) (number_is_itself (rank w.kind)) passes)))
    by false e = inr refl

-- ---- views

without_second : (a b c d : Bool) → (a && b && c && d) ≡ true → (a && true && c && d) ≡ true
without_second true true c d h = h
without_second true false c d h = absurd (true≢false (sym h))
without_second false b c d h = absurd (true≢false (sym h))

without_third : (a b c d : Bool) → (a && b && c && d) ≡ true → (a && b && true && d) ≡ true
without_third true true true d h = h
without_third true true false d h = absurd (true≢false (sym h))
without_third true false c d h = absurd (true≢false (sym h))
without_third false b c d h = absurd (true≢false (sym h))

-- whether an object is in a scope, by its parts
abbrev is_in : Kind → Key → Data → Option (List ℕ) → Option (List ℕ) → Bool
is_in kind k d namespace selector = in_view (view_in (record { namespace = namespace; selector = selector }) kind) k d

wider : (kind : Kind) (k : Key) (d : Data) (w s : Scope) → (s.namespace ≡ w.namespace) ⊎ (s.namespace ≡ None) → (s.selector ≡ w.selector) ⊎ (s.selector ≡ None)
    → is_in kind k d w.namespace w.selector ≡ true → is_in kind k d s.namespace s.selector ≡ true
wider kind k d w s namespaces selectors h =
    let a = rank kind == rank k.kind in
    let c = meets_all (unwrap_or (required w) []) (labels_of d) in
    let f = fields_meet [] k.name k.namespace in
    let first : is_in kind k d s.namespace w.selector ≡ true =
    ⊎_elim (λ (e : s.namespace ≡ w.namespace). subst (λ n. is_in kind k d n w.selector ≡ true) (sym e) h)
    (λ (e : s.namespace ≡ None). subst (λ n. is_in kind k d n w.selector ≡ true) (sym e) (without_second a (in_namespace w.namespace k.namespace) c f h)) namespaces in
    ⊎_elim (λ (e : s.selector ≡ w.selector). subst (λ t. is_in kind k d s.namespace t ≡ true) (sym e) first)
    (λ (e : s.selector ≡ None). subst (λ t. is_in kind k d s.namespace t ≡ true) (sym e) (without_third a (in_namespace s.namespace k.namespace) c f first)) selectors

some_is : (s t : Scope) → Some s ≡ Some t → s ≡ t
some_is s t e = ap (λ o. unwrap_or o s) e

pub nothing_missed : NothingIsMissed
nothing_missed ws w s k d among is here = by (find (is_of w.kind) ws) is
  where
    scope : Watch → Scope
    scope first = record { namespace = agreed (λ s. s.namespace) w.kind ws first; selector = agreed (λ s. s.selector) w.kind ws first }

    by : (o : Option Watch) → option_map scope o ≡ Some s → in_view (view_in s w.kind) k d ≡ true
    by None e = absurd (cc)
    by (Some first) e =
        subst (λ t. in_view (view_in t w.kind) k d ≡ true) (some_is (scope first) s e)
        (wider w.kind k d (scope_asked w) (scope first) (agreed_by (λ s. s.namespace) ws w first among) (agreed_by (λ s. s.selector) ws w first among) here)

-- ---- one watch alone

and_true : (b : Bool) → b ≡ true → (b && true) ≡ true
and_true true h = refl
and_true false h = h

or_second : (a b : Bool) → b ≡ true → (a || b) ≡ true
or_second true b h = refl
or_second false b h = h

agreed_alone : (part : Scope → Option (List ℕ)) (w : Watch) → agreed part w.kind (w ∷ []) w ≡ part (scope_asked w)
agreed_alone part w =
    ap (λ b. if b then part (scope_asked w) else None)
    (and_true (not (is_of w.kind w) || same_text (part (scope_asked w)) (part (scope_asked w))) (or_second (not (is_of w.kind w)) (same_text (part (scope_asked w)) (part (scope_asked w))) (same_itself (part (scope_asked w)))))

pub one_as_it_was : OneIsAsItWas
one_as_it_was w =
    ap (λ b. option_map (λ first. record { namespace = agreed (λ s. s.namespace) w.kind (w ∷ []) first; selector = agreed (λ s. s.selector) w.kind (w ∷ []) first }) (if b then Some w else None)) (number_is_itself (rank w.kind))
    ∙ (λ i. Some (record { namespace = agreed_alone (λ s. s.namespace) w i; selector = agreed_alone (λ s. s.selector) w i }))
