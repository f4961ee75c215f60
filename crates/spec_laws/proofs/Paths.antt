-- A path that is read as a route is the path of that route.
use Rattle.std.proofs.Common.{◌≡◌, ℕ, List, [], ◌∷◌, ◌++◌, ◌==◌, ◌&&◌, Bool, true, false, cond, Option, Some, None, option_and_then, option_map, codes, bytes_eq, eqb-true, append_assoc, refl, sym, ap, ◌∙◌}
use Rattle.std.proofs.lemmas.Slice.Eq.{bytes_eq-Decides}
use Rattle.std.specs.List.{onto_first, list_all, find}
use Rattle.std.specs.Option.{option_map_or}
use Rattle.spec_api.proofs.Truths.{both_true}
use Rattle.spec_api.specs.declared.kinds.Kind.{Kind}
use Rattle.spec_api.specs.declared.kinds.Group.{Group}
use Rattle.spec_api.specs.declared.kinds.Group.TheVariants.{Core, Apps}
use Rattle.spec_api.specs.Kinds.{kinds, group, text_of_group, group_name, plural, has_status, kind_with_plural}
use Rattle.spec_laws.specs.HistoryLaws.{PathsAreRoutes}
use Rattle.spec_api.specs.Targets.{Route, collection, object_at, status_of, prefix, collection_text, path_text, segments, after_words, is_filled, kind_with_status}
use Rattle.spec_api.proofs.PathForms.{Form, all_form, namespace_form, object_form, status_form, below, by_prefix, form_of, route_of, by_form}

-- the parts with a `/` before each
rest_text : List (List ℕ) → List ℕ
rest_text [] = []
rest_text (p ∷ ps) = 47 ∷ (p ++ rest_text ps)

joined : List (List ℕ) → List ℕ
unfolding rest_text
joined [] = []
joined (p ∷ ps) = p ++ rest_text ps

joined-onto : (x : ℕ) (ps : List (List ℕ)) → joined (onto_first x ps) ≡ x ∷ joined ps
unfolding joined rest_text
joined-onto x [] = refl
joined-onto x (p ∷ ps) = refl

rest_onto : (x : ℕ) (ps : List (List ℕ)) → rest_text (onto_first x ps) ≡ 47 ∷ joined (onto_first x ps)
unfolding joined rest_text
rest_onto x [] = refl
rest_onto x (p ∷ ps) = refl

rest_cond : (b : Bool) (x : ℕ) (ps : List (List ℕ)) → rest_text (cond b ([] ∷ ps) (onto_first x ps)) ≡ 47 ∷ joined (cond b ([] ∷ ps) (onto_first x ps))
unfolding joined rest_text
rest_cond true x ps = refl
rest_cond false x ps = rest_onto x ps

rest_parts : (t : List ℕ) → rest_text (segments t) ≡ 47 ∷ joined (segments t)
unfolding joined rest_text
rest_parts [] = refl
rest_parts (x ∷ t) = rest_cond (x == 47) x (segments t)

joined_cond : (b : Bool) (x : ℕ) (t : List ℕ) → (x == 47) ≡ b → joined (segments t) ≡ t → joined (cond b ([] ∷ segments t) (onto_first x (segments t))) ≡ x ∷ t
unfolding joined rest_text
joined_cond true x t is later = rest_parts t ∙ ap (λ l. 47 ∷ l) later ∙ ap (λ y. y ∷ t) (sym (eqb-true x 47 is))
joined_cond false x t is later = joined-onto x (segments t) ∙ ap (λ l. x ∷ l) later

joined-parts : (t : List ℕ) → joined (segments t) ≡ t
unfolding joined rest_text
joined-parts [] = refl
joined-parts (x ∷ t) = joined_cond (x == 47) x t refl (joined-parts t)

begins_at : (b : Bool) (p q : List ℕ) (first parts rest : List (List ℕ)) → bytes_eq p q ≡ b → cond b (after_words first parts) None ≡ Some rest
    → (after_words first parts ≡ Some rest → parts ≡ first ++ rest) → q ∷ parts ≡ p ∷ (first ++ rest)
begins_at true p q first parts rest same is later = λ i. sym ((bytes_eq-Decides p q).0 same) i ∷ later is i
begins_at false p q first parts rest same is later = cc

some_from : (parts rest : List (List ℕ)) → Some parts ≡ Some rest → parts ≡ rest
some_from parts rest is = cc

-- the words of a prefix, and what follows them
begins : (first parts rest : List (List ℕ)) → after_words first parts ≡ Some rest → parts ≡ first ++ rest
begins [] parts rest is = some_from parts rest is
begins (p ∷ first) [] rest is = cc
begins (p ∷ first) (q ∷ parts) rest is = begins_at (bytes_eq p q) p q first parts rest refl is (begins first parts rest)

to_end : (l : List ℕ) → l ++ [] ≡ l
to_end [] = refl
to_end (x ∷ l) = ap (λ m. x ∷ m) (to_end l)

-- the path of a form, with the name of its resource
form_text : Form → List ℕ
form_text (all_form g p) = prefix g ++ rest_text (p ∷ [])
form_text (namespace_form g n p) = prefix g ++ rest_text (codes "namespaces" ∷ n ∷ p ∷ [])
form_text (object_form g n p o) = prefix g ++ rest_text (codes "namespaces" ∷ n ∷ p ∷ o ∷ [])
form_text (status_form g n p o) = prefix g ++ rest_text (codes "namespaces" ∷ n ∷ p ∷ o ∷ codes "status" ∷ [])

one_form : (b : Bool) (f g : Form) → cond b (Some f) None ≡ Some g → (b ≡ true) × (f ≡ g)
one_form true f g is = (refl, cc)
one_form false f g is = cc

word_is : (word w : List ℕ) → bytes_eq word w ≡ true → w ≡ word
word_is word w h = sym ((bytes_eq-Decides word w).0 h)

form-text : (g : Group) (rest : List (List ℕ)) (f : Form) → below g rest ≡ Some f → prefix g ++ rest_text rest ≡ form_text f
unfolding form_text rest_text
form-text g [] f is = cc
form-text g (p ∷ []) f is = let one = one_form true (all_form g p) f is in ap form_text one.1
form-text g (a ∷ b ∷ []) f is = cc
form-text g (word ∷ n ∷ p ∷ []) f is =
    let one = one_form (bytes_eq (codes "namespaces") word) (namespace_form g n p) f is in
    ap (λ w. prefix g ++ rest_text (w ∷ n ∷ p ∷ [])) (word_is (codes "namespaces") word one.0) ∙ ap form_text one.1
form-text g (word ∷ n ∷ p ∷ o ∷ []) f is =
    let one = one_form (bytes_eq (codes "namespaces") word) (object_form g n p o) f is in
    ap (λ w. prefix g ++ rest_text (w ∷ n ∷ p ∷ o ∷ [])) (word_is (codes "namespaces") word one.0) ∙ ap form_text one.1
form-text g (word ∷ n ∷ p ∷ o ∷ last ∷ []) f is =
    let one = one_form (bytes_eq (codes "namespaces") word && bytes_eq (codes "status") last) (status_form g n p o) f is in
    let words = both_true (bytes_eq (codes "namespaces") word) (bytes_eq (codes "status") last) one.0 in
    ap (λ w. prefix g ++ rest_text (w ∷ n ∷ p ∷ o ∷ last ∷ [])) (word_is (codes "namespaces") word words.0)
    ∙ ap (λ w. prefix g ++ rest_text (codes "namespaces" ∷ n ∷ p ∷ o ∷ w ∷ [])) (word_is (codes "status") last words.1)
    ∙ ap form_text one.1
form-text g (a ∷ b ∷ c ∷ d ∷ e ∷ more ∷ rest) f is = cc

core_at : (o : Option (List (List ℕ))) (segs : List (List ℕ)) (f : Form) → after_words (codes "api" ∷ codes "v1" ∷ []) segs ≡ o → option_map_or (below Core) o (option_and_then (below Apps) (after_words (codes "apis" ∷ codes "apps" ∷ codes "v1" ∷ []) segs)) ≡ Some f
    → 47 ∷ joined segs ≡ form_text f
unfolding joined rest_text
core_at (Some rest) segs f at is = ap (λ s. 47 ∷ joined s) (begins (codes "api" ∷ codes "v1" ∷ []) segs rest at) ∙ form-text Core rest f is
core_at None segs f at is = apps_at (after_words (codes "apis" ∷ codes "apps" ∷ codes "v1" ∷ []) segs) refl is
  where
    apps_at : (o : Option (List (List ℕ))) → after_words (codes "apis" ∷ codes "apps" ∷ codes "v1" ∷ []) segs ≡ o → option_and_then (below Apps) o ≡ Some f → 47 ∷ joined segs ≡ form_text f
    apps_at (Some rest) at is = ap (λ s. 47 ∷ joined s) (begins (codes "apis" ∷ codes "apps" ∷ codes "v1" ∷ []) segs rest at) ∙ form-text Apps rest f is
    apps_at None at is = cc

rest-joined : (segs : List (List ℕ)) (f : Form) → by_prefix segs ≡ Some f → joined ([] ∷ segs) ≡ form_text f
unfolding joined rest_text
rest-joined [] f is = cc
rest-joined (s ∷ segs) f is = core_at (after_words (codes "api" ∷ codes "v1" ∷ []) (s ∷ segs)) (s ∷ segs) f refl is

filled_form : (b : Bool) (segs : List (List ℕ)) (f : Form) → cond b (by_prefix segs) None ≡ Some f → joined ([] ∷ segs) ≡ form_text f
filled_form true segs f is = rest-joined segs f is
filled_form false segs f is = cc

joined-form : (segs : List (List ℕ)) (f : Form) → form_of segs ≡ Some f → joined segs ≡ form_text f
joined-form [] f is = cc
joined-form ([] ∷ segs) f is = filled_form (list_all is_filled segs) segs f is
joined-form ((x ∷ s) ∷ segs) f is = cc

some_is : (b : Bool) (k j : Kind) → cond b (Some k) None ≡ Some j → k ≡ j
some_is true k j is = cc
some_is false k j is = cc

passes_found : (p : Kind → Bool) (ks : List Kind) (k : Kind) → find p ks ≡ Some k → p k ≡ true
passes_found p [] k is = cc
passes_found p (j ∷ ks) k is = by (p j) refl is (λ later. passes_found p ks k later)
  where
    by : (b : Bool) → p j ≡ b → cond b (Some j) (find p ks) ≡ Some k → (find p ks ≡ Some k → p k ≡ true) → p k ≡ true
    by true here one later = let same : j ≡ k = cc in ap p (sym same) ∙ here
    by false here one later = later one

group_tells : (g h : Group) → text_of_group g ≡ text_of_group h → h ≡ g
group_tells Core Core is = refl
group_tells Core Apps is = cc
group_tells Apps Core is = cc
group_tells Apps Apps is = refl

-- the plural that was read is that of the kind, and its group the one that was asked
named : (g : Group) (p : List ℕ) (k : Kind) → kind_with_plural g p ≡ Some k → (group k ≡ g) × (p ≡ plural k)
named g p k is =
    let passed = both_true (bytes_eq (text_of_group g) (group_name k)) (bytes_eq p (plural k)) (passes_found (λ k. bytes_eq (text_of_group g) (group_name k) && bytes_eq p (plural k)) kinds k is) in
    (group_tells g (group k) ((bytes_eq-Decides (text_of_group g) (group_name k)).0 passed.0), (bytes_eq-Decides p (plural k)).0 passed.1)

one_route : {A : Type 0} (f : A → Route) (o : Option A) (r : Route) → option_map f o ≡ Some r → (k : A) × (o ≡ Some k) × (f k ≡ r)
one_route f None r is = cc
one_route f (Some k) r is = (k, refl, cc)

with_status_is : (o : Option Kind) (k : Kind) → option_and_then kind_with_status o ≡ Some k → o ≡ Some k
with_status_is None k is = cc
with_status_is (Some j) k is = ap (λ i. Some i) (some_is (has_status j) j k is)

in_kind : (k : Kind) (ns : List ℕ) (more : List (List ℕ))
    → collection_text k (Some ns) ++ rest_text more ≡ prefix (group k) ++ rest_text (codes "namespaces" ∷ ns ∷ plural k ∷ more)
unfolding joined rest_text
in_kind k ns more =
    append_assoc (prefix (group k)) (codes "/namespaces/" ++ (ns ++ (47 ∷ plural k))) (rest_text more)
    ∙ ap (λ l. prefix (group k) ++ l) (append_assoc (codes "/namespaces/") (ns ++ (47 ∷ plural k)) (rest_text more))
    ∙ ap (λ l. prefix (group k) ++ (codes "/namespaces/" ++ l)) (append_assoc ns (47 ∷ plural k) (rest_text more))

moved : (g h : Group) (p q : List ℕ) (F : Group → List ℕ → List ℕ) → g ≡ h → p ≡ q → F g p ≡ F h q
moved g h p q F a b = λ i. F (a i) (b i)

route-text : (f : Form) (r : Route) → route_of f ≡ Some r → path_text r ≡ form_text f
unfolding form_text rest_text
route-text (all_form g p) r is =
    let one = one_route (λ k. collection k None) (kind_with_plural g p) r is in
    let same = named g p one.0 one.1 in
    ap path_text (sym one.2) ∙ ap (λ l. prefix (group one.0) ++ (47 ∷ l)) (sym (to_end (plural one.0))) ∙ moved (group one.0) g (plural one.0) p (λ h q. prefix h ++ rest_text (q ∷ [])) same.0 (sym same.1)
route-text (namespace_form g n p) r is =
    let one = one_route (λ k. collection k (Some n)) (kind_with_plural g p) r is in
    let same = named g p one.0 one.1 in
    ap path_text (sym one.2) ∙ sym (to_end _) ∙ in_kind one.0 n []
    ∙ moved (group one.0) g (plural one.0) p (λ h q. prefix h ++ rest_text (codes "namespaces" ∷ n ∷ q ∷ [])) same.0 (sym same.1)
route-text (object_form g n p o) r is =
    let one = one_route (λ k. object_at (record { kind = k; namespace = n; name = o })) (kind_with_plural g p) r is in
    let same = named g p one.0 one.1 in
    ap path_text (sym one.2) ∙ ap (λ l. collection_text one.0 (Some n) ++ (47 ∷ l)) (sym (to_end o)) ∙ in_kind one.0 n (o ∷ [])
    ∙ moved (group one.0) g (plural one.0) p (λ h q. prefix h ++ rest_text (codes "namespaces" ∷ n ∷ q ∷ o ∷ [])) same.0 (sym same.1)
route-text (status_form g n p o) r is =
    let one = one_route (λ k. status_of (record { kind = k; namespace = n; name = o })) (option_and_then kind_with_status (kind_with_plural g p)) r is in
    let same = named g p one.0 (with_status_is (kind_with_plural g p) one.0 one.1) in
    ap path_text (sym one.2) ∙ append_assoc (collection_text one.0 (Some n)) (47 ∷ o) (codes "/status") ∙ in_kind one.0 n (o ∷ codes "status" ∷ [])
    ∙ moved (group one.0) g (plural one.0) p (λ h q. prefix h ++ rest_text (codes "namespaces" ∷ n ∷ q ∷ o ∷ codes "status" ∷ [])) same.0 (sym same.1)

through : (t : List ℕ) (o : Option Form) (r : Route) → form_of (segments t) ≡ o → option_and_then route_of o ≡ Some r → path_text r ≡ t
through t None r at is = cc
through t (Some f) r at is = route-text f r is ∙ sym (joined-form (segments t) f at) ∙ joined-parts t

pub routes : PathsAreRoutes
routes t r is = through t (form_of (segments t)) r refl (sym (by_form t) ∙ is)
