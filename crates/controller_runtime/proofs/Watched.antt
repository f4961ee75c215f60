-- Watches, one after another.
use Rattle.std.proofs.Common.{◌≡◌, ◌<◌, ◌+◌, ◌++◌, ◌∙◌, ℕ, List, [], ◌∷◌, length, map, take, slice_index_or, None, ap, sym}
use Rattle.std.proofs.lemmas.List.{map-append, take_more}
use Rattle.spec_api.specs.declared.kinds.Kind.{Kind}
use Rattle.spec_api.specs.declared.kinds.Kind.TheVariants.{ConfigMap}
use Rattle.request_encoding.specs.Scopes as words
use Rattle.api_client.specs.Asked.{scope_at}
use Rattle.api_client.specs.declared.asking.Remote.{Remote}
use Rattle.api_notes.specs.Told.{api_of}
use Rattle.api_notes.specs.declared.told.Told.{Told}
use Rattle.controller_watches.specs.Watched.{scope_asked, asked_by}
use Rattle.controller_runtime.specs.Watched.{asked_for, AreFollowed}
use Rattle.controller_runtime.specs.declared.followed.Followed.{Followed}
use Rattle.controller_watches.specs.declared.watches.Watch.{Watch}

-- what is read where there is no watch
abbrev pub any_watch : Watch
any_watch = record { kind = ConfigMap; namespace = None; selector = None }

module _ {C I O N : Type 0} where
  -- one more is followed
  pub followed_more : (ws : List Watch) (i : ℕ) (fs now : List (Followed (Told (Remote C I O) N))) (f : Followed (Told (Remote C I O) N)) → i < length ws → f.kind ≡ (slice_index_or ws i any_watch).kind
      → scope_at (api_of f.api) ≡ scope_asked (slice_index_or ws i any_watch) → now ≡ fs ++ f ∷ [] → AreFollowed (take i ws) fs → AreFollowed (take (i + 1) ws) now
  followed_more ws i fs now f lt kind scope is so =
      let w : Watch = slice_index_or ws i any_watch in
      let pair : Kind → words.Scope → Kind × words.Scope = λ k s. (k, s) in
      let front : List (Kind × words.Scope) = map asked_by (take i ws) in
      let same : asked_for f ≡ asked_by w = ap (λ k. pair k (scope_at (api_of f.api))) kind ∙ ap (pair w.kind) scope in
      let these : map asked_for now ≡ front ++ asked_by w ∷ [] =
      ap (map asked_for) is ∙ map-append asked_for fs (f ∷ []) ∙ ap (λ (l : List (Kind × words.Scope)). l ++ asked_for f ∷ []) so ∙ ap (λ (p : Kind × words.Scope). front ++ p ∷ []) same in
      let those : map asked_by (take (i + 1) ws) ≡ front ++ asked_by w ∷ [] = ap (map asked_by) (take_more ws i any_watch lt) ∙ map-append asked_by (take i ws) (w ∷ []) in
      these ∙ sym those
