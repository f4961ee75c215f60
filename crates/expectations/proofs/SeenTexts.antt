-- Sets and maps of texts, by their bytes.
use Rattle.std.proofs.Common.{◌≡◌, refl, ℕ, List, false, cond, Option, option_map, string_bytes, String, Global, [], Ordering}
use Rattle.std.specs.Cmp.{IsTotalOrder}
use Rattle.std.specs.Cmp.Lexicographic.{nat_list_cmp_total}
use Rattle.std.specs.List.{list_any}
use Rattle.std.specs.Ordering.{eq_by_cmp}
use Rattle.std.specs.BTreeMap.{is_at, insert_entry}
use Rattle.std.specs.BTreeSet.{insert_key}
use Rattle.std.specs.Map as key_map
use Rattle.std.specs.Map.{lookup}
use Rattle.std.specs.Set as key_set
use Rattle.std.specs.FinMap as map_of
use Rattle.std.specs.FinMap.{IsAntisymmetric, nat_cmp-IsAntisymmetric, slice_cmp-IsAntisymmetric}
use Rattle.std.specs.FinSet as set
use Rattle.object_keys.specs.Seen.{seen_map, seen_set}
use Rattle.object_keys.proofs.SeenMaps as maps
use Rattle.object_keys.proofs.SeenSets as sets
use Rattle.expectations.specs.Seen.{uid_cmp}

pub uid_total : IsTotalOrder uid_cmp
uid_total = nat_list_cmp_total

pub uid_tells : IsAntisymmetric uid_cmp
uid_tells = slice_cmp-IsAntisymmetric nat_cmp-IsAntisymmetric

abbrev pub text_cmp : String Global → String Global → Ordering
text_cmp a b = uid_cmp (string_bytes a) (string_bytes b)

abbrev pub at_text : List ℕ → String Global → Ordering
at_text t a = uid_cmp t (string_bytes a)

pub no_texts : (ks : List (String Global)) → set.len (seen_set uid_cmp string_bytes ks) ≡ 0 → ks ≡ []
no_texts = sets.has_none uid_cmp uid_total uid_tells string_bytes text_cmp (λ a b. refl)

pub remove-text : (t : List ℕ) (old new : List (String Global)) → list_any (is_at (at_text t)) new ≡ false → key_set.KeepsOthers (eq_by_cmp text_cmp) (is_at (at_text t)) old new → seen_set uid_cmp string_bytes new ≡ set.remove (seen_set uid_cmp string_bytes old) t
remove-text t = sets.remove-by uid_cmp uid_total uid_tells string_bytes text_cmp (λ a b. refl) (at_text t) t (λ a. refl)

module _ {X Y : Type 0} (h : X → Y) where
  pub get-text : (t : List ℕ) (es : List (String Global × X)) → map_of.get (seen_map uid_cmp string_bytes h es) t ≡ option_map h (lookup (is_at (at_text t)) es)
  get-text t = maps.get-by uid_cmp uid_total uid_tells string_bytes text_cmp (λ a b. refl) h (at_text t) t (λ a. refl)

  pub insert-text : (es : List (String Global × X)) (k : String Global) (v : X) → seen_map uid_cmp string_bytes h (insert_entry text_cmp es k v) ≡ map_of.insert (seen_map uid_cmp string_bytes h es) (string_bytes k) (h v)
  insert-text = maps.insert-seen uid_cmp uid_total uid_tells string_bytes text_cmp (λ a b. refl) h

  pub update-text : (t : List ℕ) (old new : List (String Global × X)) (w : Option X) → lookup (is_at (at_text t)) new ≡ w → key_map.KeepsOthers (eq_by_cmp text_cmp) (is_at (at_text t)) old new
      → (q : List ℕ) → map_of.get (seen_map uid_cmp string_bytes h new) q ≡ cond (eq_by_cmp uid_cmp q t) (option_map h w) (map_of.get (seen_map uid_cmp string_bytes h old) q)
  update-text t = maps.update-by uid_cmp uid_total uid_tells string_bytes text_cmp (λ a b. refl) h (at_text t) t (λ a. refl)

pub insert-texts : (ks : List (String Global)) (k : String Global) → seen_set uid_cmp string_bytes (insert_key text_cmp ks k) ≡ set.insert (seen_set uid_cmp string_bytes ks) (string_bytes k)
insert-texts = sets.insert-seen uid_cmp uid_total uid_tells string_bytes text_cmp (λ a b. refl)
