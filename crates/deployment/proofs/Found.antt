-- The objects of a namespace that an object manages are among those that it owns.
use Rattle.std.proofs.Common.{◌≡◌, ℕ, List, [], ◌∷◌, Bool, true, false, cond, ◌&&◌, ◌||◌, bytes_eq, Option, Some, None, refl, sym, ap, ◌∙◌}
use Rattle.std.specs.Prelude.{filter}
use Rattle.std.specs.List.{list_any}
use Rattle.serde_json.specs.Data.{Data}
use Rattle.spec_api.specs.History.{Entries}
use Rattle.spec_api.specs.Keys.{Key}
use Rattle.spec_api.specs.Metadata.{Owner, owners, uid}
use Rattle.spec_api.specs.SelectorValues.{is_some_and}
use Rattle.spec_client_go.specs.Informers.{of_namespace, of_owner}
use Rattle.spec_client_go.specs.OwnerReferences.{is_text, is_owned_by, is_controlled_by}
use Rattle.spec_reconcile.specs.Deployments.{managed}

-- a controller is an owner
among : (t : Owner → Bool) (os : List Owner) → list_any t os ≡ false → list_any (λ o. o.is_controller && t o) os ≡ false
among t [] h = refl
among t (o ∷ os) h = both o.is_controller (t o) (list_any t os) (list_any (λ p. p.is_controller && t p) os) h (among t os) where
  both : (c b more less : Bool) → (b || more) ≡ false → (more ≡ false → less ≡ false) → ((c && b) || less) ≡ false
  both true true more less h f = h
  both true false more less h f = f h
  both false true more less h f = cc
  both false false more less h f = f h

not_owned : (u : List ℕ) (d : Data) → is_owned_by u d ≡ false → is_controlled_by u d ≡ false
not_owned u d h = among (λ o. is_text u o.uid) (owners d) h

abbrev pub here : List ℕ → List ℕ → Key × Data → Bool
here ns u m = bytes_eq m.0.namespace ns && is_controlled_by u m.1

step : (o n c : Bool) (m : Key × Data) (xs ys : Entries) (t : Key × Data → Bool) (s : Key × Data → Bool) → t m ≡ (n && c) → s m ≡ c → (o ≡ false → c ≡ false) → filter t xs ≡ filter s ys
    → filter t (cond o (m ∷ xs) xs) ≡ filter s (cond n (m ∷ ys) ys)
step true true c m xs ys t s e f h k = ap (λ b. cond b (m ∷ filter t xs) (filter t xs)) (e ∙ sym f) ∙ ap (λ zs. cond (s m) (m ∷ zs) zs) k
step true false c m xs ys t s e f h k = ap (λ b. cond b (m ∷ filter t xs) (filter t xs)) e ∙ k
step false true c m xs ys t s e f h k = k ∙ sym (ap (λ b. cond b (m ∷ filter s ys) (filter s ys)) (f ∙ h refl))
step false false c m xs ys t s e f h k = k

pub here_of_owner : (ns u : List ℕ) (ms : Entries) → filter (here ns u) (of_owner u ms) ≡ filter (λ m. is_controlled_by u m.1) (of_namespace ns ms)
here_of_owner ns u [] = refl
here_of_owner ns u (m ∷ ms) =
    step (is_owned_by u m.1) (bytes_eq m.0.namespace ns) (is_controlled_by u m.1) m (of_owner u ms) (of_namespace ns ms) (here ns u) (λ p. is_controlled_by u p.1) refl refl (not_owned u m.1)
    (here_of_owner ns u ms)

pub managed_here : (ns u : List ℕ) (owner : Data) (ms : Entries) → uid owner ≡ Some u → filter (here ns u) (of_owner u ms) ≡ managed ns owner ms
managed_here ns u owner ms is =
    here_of_owner ns u ms ∙ ap (λ (o : Option (List ℕ)). filter (λ (m : Key × Data). is_some_and (λ v. is_controlled_by v m.1) o) (of_namespace ns ms)) (sym is)

none_pass : (ms : Entries) → filter (λ (m : Key × Data). false) ms ≡ []
none_pass [] = refl
none_pass (m ∷ ms) = none_pass ms

pub nothing_managed : (ns : List ℕ) (owner : Data) (ms : Entries) → uid owner ≡ None → managed ns owner ms ≡ []
nothing_managed ns owner ms is = ap (λ (o : Option (List ℕ)). filter (λ (m : Key × Data). is_some_and (λ v. is_controlled_by v m.1) o) (of_namespace ns ms)) is ∙ none_pass (of_namespace ns ms)
