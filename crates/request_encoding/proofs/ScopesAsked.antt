-- What a server takes each target for.
use Rattle.std.proofs.Common.{◌≡◌, ◌<◌, ◌^◌, ℕ, List, [], ◌∷◌, ◌++◌, true, false, Option, Some, None, is_some, Result, Ok, Err, IfOk, String, string_bytes, option_map, codes, refl, sym, subst, ap, ◌∙◌}
use Rattle.std.proofs.lemmas.Str.{is_utf8-from_IsUtf8, IsUtf8-string_bytes}
use Rattle.std.specs.Prelude.{unwrap_or}
use Rattle.std.specs.Result.{result_map_both}
use Rattle.std.specs.Str.{is_utf8}
use Rattle.form_urlencoded.specs.Form.{raw_pairs}
use Rattle.spec_api.proofs.Truths.{both_true}
use Rattle.spec_api.specs.declared.kinds.Kind.{Kind}
use Rattle.spec_api.specs.declared.methods.Method.TheVariants.{Get}
use Rattle.spec_api.specs.declared.policies.StatedPolicy.TheVariants.{Nothing}
use Rattle.spec_api.specs.ListQueries.{Read, Collection, read_by, collection_of}
use Rattle.spec_api.specs.Queries.{Pairs, parameter, has_any, or_empty}
use Rattle.spec_api.specs.Selectors.{Requirement}
use Rattle.spec_api.specs.SelectorTexts.{selector_of_text}
use Rattle.spec_api.specs.Targets.{Asked, collection, collection_text, route, path_of, read_as, asked_with, asked_at, decoded}
use Rattle.request_encoding.specs.Scopes.{Scope, IsText, required, names_namespace, is_scope, view_in}
use Rattle.request_encoding.specs.Targets.{Parameters, selecting, target, list_target, page_target, watch_target, stream_target}
use Rattle.request_encoding.specs.ScopesTold.{Asks, IsPage, listed, paged, watched, streamed}
use Rattle.request_encoding.proofs.Paths.{path_before, query_after, path_routed, path_clear}
use Rattle.request_encoding.proofs.Bytes.{are_plain, target_plain, plain_utf8}
use Rattle.request_encoding.proofs.ScopeOptions.{IsRead, raw_of, list_read, page_read, watch_read, stream_read}

as_it_is : (t : List ℕ) → is_utf8 t ≡ true → decoded t ≡ t
as_it_is t text = rw text refl

there : {A : Type 0} (o : Option A) (d : A) → is_some o ≡ true → o ≡ Some (unwrap_or o d)
there None d h = cc
there (Some a) d h = refl

collected : (raw : Pairs) (sel : Option (List ℕ)) (labels : List Requirement) (read : Read) → has_any (codes "dryRun" ∷ []) raw ≡ false → parameter (codes "labelSelector") raw ≡ sel
    → selector_of_text (or_empty sel) ≡ Some labels → parameter (codes "fieldSelector") raw ≡ None → read_by raw ≡ Ok read
    → collection_of raw ≡ Ok (record { labels = labels; fields = []; read = read })
collected raw sel labels read dry selects understood field reads = rw (dry, selects, understood, field, reads) refl

module _ (s : Scope) (k : Kind) (is : is_scope s ≡ true) where
  abbrev path : List ℕ
  path = collection_text k s.namespace

  named : names_namespace s ≡ true
  named = (both_true (names_namespace s) (is_some (required s)) is).0

  pub target_is_plain : (ps : Parameters) → are_plain (target s k ps) ≡ true
  target_is_plain ps = target_plain k s.namespace (selecting s.selector ++ ps) named

  module _ (ps : Parameters) (read : Read) (reads : IsRead s.selector ps read) where
    abbrev query : Parameters
    query = selecting s.selector ++ ps

    asked_there : asked_at Get (target s k ps) [] (Some (collection k s.namespace)) ≡ Ok (read_as (view_in s k) read)
    asked_there =
        let found : collection_of (raw_of query) ≡ Ok (record { labels = unwrap_or (required s) []; fields = []; read = read }) =
        collected (raw_of query) s.selector (unwrap_or (required s) []) read reads.dry reads.labels
        (there (required s) [] (both_true (names_namespace s) (is_some (required s)) is).1) reads.fields reads.reads
        in
        rw named (ap (λ q. asked_with Get (collection k s.namespace) [] (result_map_both (λ (c : Collection). record { collection = c; policy = Nothing }) (λ p. p) (collection_of (raw_pairs q)))) (query_after path query (path_clear k s.namespace named))
        ∙ ap (λ c. asked_with Get (collection k s.namespace) [] (result_map_both (λ (c : Collection). record { collection = c; policy = Nothing }) (λ p. p) c)) found)

    pub asks : Asks (target s k ps) (read_as (view_in s k) read)
    asks =
        ap (λ z. asked_at Get z [] (route (path_of z))) (as_it_is (target s k ps) (is_utf8-from_IsUtf8 (target s k ps) (plain_utf8 (target s k ps) (target_is_plain ps))))
        ∙ ap (λ z. asked_at Get (target s k ps) [] (route z)) (path_before path query (path_clear k s.namespace named))
        ∙ ap (asked_at Get (target s k ps) []) (path_routed k s.namespace named) ∙ asked_there

  pub asks_list : IsText s.selector → Asks (list_target s k) (listed s k)
  asks_list text = asks [] _ (list_read s.selector text)

  pub asks_page : (n r : ℕ) → IsText s.selector → IsPage n r → Asks (page_target s k n r) (paged s k n r)
  asks_page n r text page = asks _ _ (page_read s.selector n r text page)

  pub asks_watch : (r : ℕ) → IsText s.selector → r < 2 ^ 53 → Asks (watch_target s k r) (watched s k r)
  asks_watch r text early = asks _ _ (watch_read s.selector r text early)

  pub asks_stream : IsText s.selector → Asks (stream_target s k) (streamed s k)
  asks_stream text = asks _ _ (stream_read s.selector text)

-- ---- texts that code makes

pub text_given : {Z : Type 0} (o : Option (String Z)) → IsText (option_map string_bytes o)
text_given None = tt
text_given (Some t) = IsUtf8-string_bytes t

pub told : {Z E : Type 0} (r : Result (String Z) E) (t : List ℕ) (a : Asked) → IfOk r (λ x. string_bytes x ≡ t) → Asks t a → IfOk r (λ x. Asks (string_bytes x) a)
told (Ok x) t a same says = subst (λ z. Asks z a) (sym same) says
told (Err e) t a same says = tt
