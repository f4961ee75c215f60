-- What is followed, kind after kind.
use Rattle.std.proofs.Common.{◌≡◌, ◌<◌, ◌≤◌, ℕ, ◌+◌, ◌++◌, List, [], ◌∷◌, map, drop, length, slice_index_or, refl, sym, ap, ◌∙◌, append_assoc, append-nil}
use Rattle.std.specs.Prelude.{Option, Some, None, IfSome, option_map}
use Rattle.std.proofs.lemmas.List.{at_drop_more, drop_all, map-append}
use Rattle.spec_api.specs.declared.kinds.Kind.{Kind}
use Rattle.spec_api.specs.declared.kinds.Kind.TheVariants.{ConfigMap}
use Rattle.request_encoding.specs.Scopes.{Scope}
use Rattle.controller_watches.specs.Watched.{asked_by, scope_asked}
use Rattle.controller_watches.specs.Joint.{followed_first, joint, joint_of, those}
use Rattle.controller_watches.specs.declared.watches.Watch.{Watch}

module _ (ws : List Watch) (ks : List Kind) (i : ℕ) (lt : i < length ks) where
  -- the kind whose turn it is
  abbrev k : Kind
  k = slice_index_or ks i ConfigMap

  next : joint_of (drop i ks) ws ≡ followed_first k (joint k ws) (joint_of (drop (i + 1) ks) ws)
  next = at_drop_more (λ l. joint_of l ws) ks i ConfigMap lt

  -- of a kind that no watch names nothing is followed
  none_more : (all front : List (Kind × Scope)) → joint k ws ≡ None → front ++ joint_of (drop i ks) ws ≡ all → front ++ joint_of (drop (i + 1) ks) ws ≡ all
  none_more all front none so = ap (λ l. front ++ l) (sym (next ∙ ap (λ j. followed_first k j (joint_of (drop (i + 1) ks) ws)) none)) ∙ so

  -- of another its scope is
  one_more : (all : List (Kind × Scope)) (made now : List Watch) (w : Watch) → w.kind ≡ k → Some (scope_asked w) ≡ joint k ws → now ≡ made ++ w ∷ []
      → map asked_by made ++ joint_of (drop i ks) ws ≡ all → map asked_by now ++ joint_of (drop (i + 1) ks) ws ≡ all
  one_more all made now w kind scope then so =
      let left : List (Kind × Scope) = joint_of (drop (i + 1) ks) ws in
      let here : joint_of (drop i ks) ws ≡ asked_by w ∷ left = next ∙ ap (λ j. followed_first k j left) (sym scope) ∙ ap (λ (x : Kind). (x, scope_asked w) ∷ left) (sym kind) in
      ap (λ l. map asked_by l ++ left) then ∙ ap (λ l. l ++ left) (map-append asked_by made (w ∷ [])) ∙ append_assoc (map asked_by made) (asked_by w ∷ []) left
      ∙ ap (λ l. map asked_by made ++ l) (sym here) ∙ so

  pub found_more : (all : List (Kind × Scope)) (made now : List Watch) (found : Option Watch) → IfSome found (λ w. w.kind ≡ k) → option_map scope_asked found ≡ joint k ws → now ≡ made ++ those found
      → map asked_by made ++ joint_of (drop i ks) ws ≡ all → map asked_by now ++ joint_of (drop (i + 1) ks) ws ≡ all
  found_more all made now None kind scope then so = ap (λ l. map asked_by l ++ joint_of (drop (i + 1) ks) ws) (then ∙ append-nil made) ∙ none_more all (map asked_by made) (sym scope) so
  found_more all made now (Some w) kind scope then so = one_more all made now w kind scope then so

pub all_made : (ws : List Watch) (ks : List Kind) (i : ℕ) (front all : List (Kind × Scope)) → length ks ≤ i → front ++ joint_of (drop i ks) ws ≡ all → front ≡ all
all_made ws ks i front all end so = sym (append-nil front) ∙ ap (λ l. front ++ joint_of l ws) (sym (drop_all i ks end)) ∙ so
