-- What a pod is to a set says whether the set claims it, and whether it is its own.
use Rattle.std.proofs.Common.{◌≡◌, ℕ, ◌<◌, ◌+◌, length, map, drop, get_or, List, [], ◌∷◌, Bool, true, false, not, ◌&&◌, ◌||◌, ◌++◌, cond, Option, Some, None, refl, sym, ap, ◌∙◌, if◌then◌else◌}
use Rattle.std.proofs.lemmas.List.{at_drop_more}
use Rattle.std.specs.List.{list_any}
use Rattle.serde_json.specs.Data.{Data}
use Rattle.spec_api.specs.History.{Entries}
use Rattle.spec_api.specs.Keys.{Key}
use Rattle.spec_api.specs.Metadata.{Owner, owners, uid, is_being_deleted}
use Rattle.spec_api.specs.SelectorValues.{is_some_and}
use Rattle.spec_client_go.specs.Commands.{Command, update}
use Rattle.spec_client_go.specs.OwnerReferences.{has_controller, is_controlled_by, is_text}
use Rattle.spec_reconcile.specs.PodClaims.{adopted, claim, claims, is_adoptable, is_own, own_pods, released}
use Rattle.spec_reconcile.specs.Pods.{is_active, is_owned, matches}
use Rattle.replicaset.specs.Relations.{claim_as, is_own_as, own_as, relation}
use Rattle.replicaset.specs.declared.relations.Relation.{Relation}
use Rattle.replicaset.specs.declared.relations.Relation.TheVariants.{Own, Released, Adoptable, Other}
use Rattle.reconcile_types.specs.Entries.{entry_of}
use Rattle.reconcile_types.specs.declared.entries.Entry.{Entry}

-- what an owner controls has a controller
controller_among : (t : Owner → Bool) (os : List Owner) → list_any (λ o. o.is_controller && t o) os ≡ true → list_any (λ o. o.is_controller) os ≡ true
controller_among t [] h = h
controller_among t (o ∷ os) h = one o.is_controller (t o) (list_any (λ p. p.is_controller && t p) os) (list_any (λ p. p.is_controller) os) h (controller_among t os) where
  one : (c b less more : Bool) → ((c && b) || less) ≡ true → (less ≡ true → more ≡ true) → (c || more) ≡ true
  one true b less more h f = refl
  one false b less more h f = f h

controlled : (u : Option (List ℕ)) (pod : Data) → is_some_and (λ v. is_controlled_by v pod) u ≡ true → has_controller pod ≡ true
controlled None pod h = cc
controlled (Some u) pod h = controller_among (λ o. is_text u o.uid) (owners pod) h

-- what is owned is not adopted
apart : (d a c h m : Bool) → (c ≡ true → h ≡ true) → (a && c) ≡ true → (not d && (a && not h) && m) ≡ false
apart true a c h m f e = refl
apart false true true true m f e = refl
apart false true true false m f e = let no = f refl in cc
apart false true false h m f e = cc
apart false false c h m f e = cc

owned_stays : (set pod : Data) → is_owned set pod ≡ true → is_adoptable set pod ≡ false
owned_stays set pod h =
    apart (is_being_deleted set) (is_active pod) (is_some_and (λ u. is_controlled_by u pod) (uid set)) (has_controller pod) (matches set pod) (controlled (uid set) pod) h

own_by : (may o m d a : Bool) → (o ≡ true → a ≡ false) → ((o && m) || (may && a)) ≡ is_own_as may (if o then (if m then Own else (if d then Other else Released)) else (if a then Adoptable else Other))
own_by may true true d a f = refl
own_by true true false true true f = f refl
own_by true true false false true f = f refl
own_by true true false true false f = refl
own_by true true false false false f = refl
own_by false true false true a f = refl
own_by false true false false a f = refl
own_by true false m d true f = refl
own_by true false m d false f = refl
own_by false false m d true f = refl
own_by false false m d false f = refl

own_related : (set pod : Data) (may : Bool) → is_own set may pod ≡ is_own_as may (relation set pod)
own_related set pod may = own_by may (is_owned set pod) (matches set pod) (is_being_deleted set) (is_adoptable set pod) (owned_stays set pod)

apart_lists : (xs ys : List Command) → true ≡ false → xs ≡ ys
apart_lists xs ys h = cc

claim_by : (k : Key) (set : Data) (p : Key × Data) (may o m d a : Bool) → (o ≡ true → a ≡ false)
    → (if not d && o && not m then update p.0 (released set p.1) ∷ [] else (if may && a then update p.0 (adopted k set p.1) ∷ [] else []))
    ≡ claim_as k set may p (if o then (if m then Own else (if d then Other else Released)) else (if a then Adoptable else Other))
claim_by k set p may true false false a f = refl
claim_by k set p true true true d true f = apart_lists _ _ (f refl)
claim_by k set p true true true true false f = refl
claim_by k set p true true true false false f = refl
claim_by k set p false true true true a f = refl
claim_by k set p false true true false a f = refl
claim_by k set p true true false true true f = apart_lists _ _ (f refl)
claim_by k set p true true false true false f = refl
claim_by k set p false true false true a f = refl
claim_by k set p true false m true true f = refl
claim_by k set p true false m false true f = refl
claim_by k set p true false m true false f = refl
claim_by k set p true false m false false f = refl
claim_by k set p false false m true true f = refl
claim_by k set p false false m false true f = refl
claim_by k set p false false m true false f = refl
claim_by k set p false false m false false f = refl

claim_related : (k : Key) (set : Data) (may : Bool) (p : Key × Data) → claim k set may p ≡ claim_as k set may p (relation set p.1)
claim_related k set may p = claim_by k set p may (is_owned set p.1) (matches set p.1) (is_being_deleted set) (is_adoptable set p.1) (owned_stays set p.1)

-- ---- one pod more

claims_step : (k : Key) (set : Data) (may : Bool) (p : Key × Data) (ps : Entries) → claims k set may (p ∷ ps) ≡ claim_as k set may p (relation set p.1) ++ claims k set may ps
claims_step k set may p ps = ap (λ (cs : List Command). cs ++ claims k set may ps) (claim_related k set may p)

own_step-at : (b : Bool) (p : Key × Data) (ps : Entries) → cond b (p ∷ ps) ps ≡ (if b then p ∷ [] else []) ++ ps
own_step-at true p ps = refl
own_step-at false p ps = refl

own_step : (set : Data) (may : Bool) (p : Key × Data) (ps : Entries) → own_pods set may (p ∷ ps) ≡ own_as may (relation set p.1) p ++ own_pods set may ps
own_step set may p ps =
    own_step-at (is_own set may p.1) p (own_pods set may ps) ∙ ap (λ (b : Bool). (if b then p ∷ [] else []) ++ own_pods set may ps) (own_related set p.1 may)

joined : {A : Type 0} (xs ys zs : List A) → (xs ++ ys) ++ zs ≡ xs ++ (ys ++ zs)
joined [] ys zs = refl
joined (x ∷ xs) ys zs = ap (λ ws. x ∷ ws) (joined xs ys zs)

pub claims_on : (k : Key) (set : Data) (may : Bool) (p : Key × Data) (ps left : Entries) (r : Relation) (before now start : List Command) → r ≡ relation set p.1 → left ≡ p ∷ ps
    → now ≡ before ++ claim_as k set may p r → before ++ claims k set may left ≡ start → now ++ claims k set may ps ≡ start
claims_on k set may p ps left r before now start er el en h =
    ap (λ (cs : List Command). cs ++ claims k set may ps) en
    ∙ joined before (claim_as k set may p r) (claims k set may ps)
    ∙ ap (λ (q : Relation). before ++ (claim_as k set may p q ++ claims k set may ps)) er
    ∙ ap (λ (cs : List Command). before ++ cs) (sym (claims_step k set may p ps))
    ∙ ap (λ (es : Entries). before ++ claims k set may es) (sym el)
    ∙ h

pub own_on : (set : Data) (may : Bool) (p : Key × Data) (ps left : Entries) (r : Relation) (before now all : Entries) → r ≡ relation set p.1 → left ≡ p ∷ ps
    → now ≡ before ++ own_as may r p → before ++ own_pods set may left ≡ all → now ++ own_pods set may ps ≡ all
own_on set may p ps left r before now all er el en h =
    ap (λ (es : Entries). es ++ own_pods set may ps) en
    ∙ joined before (own_as may r p) (own_pods set may ps)
    ∙ ap (λ (q : Relation). before ++ (own_as may q p ++ own_pods set may ps)) er
    ∙ ap (λ (es : Entries). before ++ es) (sym (own_step set may p ps))
    ∙ ap (λ (es : Entries). before ++ own_pods set may es) (sym el)
    ∙ h

pub next_pod : (pods : List Entry) (i : ℕ) (pod d : Entry) → i < length pods → pod ≡ get_or pods i d → map entry_of (drop i pods) ≡ entry_of pod ∷ map entry_of (drop (i + 1) pods)
next_pod pods i pod d l is = at_drop_more (map entry_of) pods i d l ∙ ap (λ (e : Entry). entry_of e ∷ map entry_of (drop (i + 1) pods)) (sym is)
