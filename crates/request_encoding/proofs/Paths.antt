-- A target is a path, and a query after a `?`.
use Rattle.std.proofs.Common.{◌≡◌, ℕ, suc, ◌+◌, List, [], ◌∷◌, ◌++◌, true, not, ◌==◌, length, take, drop, Option, Some, None, refl, ap, ◌∙◌, arith, append-nil}
use Rattle.std.specs.List.{prefix_len}
use Rattle.form_urlencoded.specs.Form.{extend_pairs}
use Rattle.spec_api.proofs.Truths.{both_true, right_true}
use Rattle.spec_api.specs.declared.kinds.Kind.{Kind}
use Rattle.spec_api.specs.Queries.{query_of}
use Rattle.spec_api.specs.Targets.{collection, collection_text, names_namespace, path_of, route}
use Rattle.request_encoding.specs.Texts.{is_visible, is_of_path}
use Rattle.request_encoding.proofs.Segments.{is_path, whole_path, no_query}
use Rattle.request_encoding.proofs.Routed.{all_routed, collection_routed, all_clear, collection_clear}
use Rattle.request_encoding.specs.Targets.{Parameters, query_text}

before_mark : (t q : List ℕ) → is_path t ≡ true → prefix_len (λ b. not (b == 63)) (t ++ 63 ∷ q) ≡ length t
before_mark [] q h = refl
before_mark (b ∷ t) q h =
    let parts = both_true (is_of_path b) (is_path t) h in
    rw (right_true (is_visible b) (not (b == 63)) parts.0) (omega (arith, before_mark t q parts.1))

take_front : (t q : List ℕ) → take (length t) (t ++ q) ≡ t
take_front [] q = refl
take_front (b ∷ t) q = ap (λ z. b ∷ z) (take_front t q)

drop_front : (t q : List ℕ) → drop (length t + 1) (t ++ 63 ∷ q) ≡ q
drop_front [] q = refl
drop_front (b ∷ t) q =
    let more : length (b ∷ t) + 1 ≡ suc (length t + 1) = omega arith in ap (λ n. drop n (b ∷ (t ++ 63 ∷ q))) more ∙ drop_front t q

pub path_before : (t : List ℕ) (ps : Parameters) → is_path t ≡ true → path_of (t ++ query_text ps) ≡ t
path_before t [] h = ap path_of (append-nil t) ∙ whole_path t h
path_before t (p ∷ ps) h = ap (λ n. take n (t ++ query_text (p ∷ ps))) (before_mark t (extend_pairs [] (p ∷ ps)) h) ∙ take_front t (query_text (p ∷ ps))

pub query_after : (t : List ℕ) (ps : Parameters) → is_path t ≡ true → query_of (t ++ query_text ps) ≡ extend_pairs [] ps
query_after t [] h = ap query_of (append-nil t) ∙ no_query t h
query_after t (p ∷ ps) h =
    ap (λ n. drop (n + 1) (t ++ query_text (p ∷ ps))) (before_mark t (extend_pairs [] (p ∷ ps)) h) ∙ drop_front t (extend_pairs [] (p ∷ ps))

-- ---- collections, of one namespace and of all

pub path_routed : (k : Kind) (ns : Option (List ℕ)) → names_namespace (collection k ns) ≡ true → route (collection_text k ns) ≡ Some (collection k ns)
path_routed k (Some ns) named = collection_routed k ns named
path_routed k None named = all_routed k

pub path_clear : (k : Kind) (ns : Option (List ℕ)) → names_namespace (collection k ns) ≡ true → is_path (collection_text k ns) ≡ true
path_clear k (Some ns) named = collection_clear k ns named
path_clear k None named = all_clear k
