-- What a read object is with its defaults reads as itself.
use Rattle.std.proofs.Common.{◌≡◌, ◌≤◌, List, ℕ, suc, Bool, true, false, cond, if◌then◌else◌, codes, is_some, Option, Some, None, Ok, refl, sym, ap, ◌∙◌, subst, arith}
use Rattle.serde_json.specs.Data.{Data, null, boolean, number, string, array, object, Members, put, depth, members_depth}
use Rattle.serde_json.specs.Find.{get_member}
use Rattle.spec_api.specs.declared.kinds.Kind.{Kind}
use Rattle.spec_api.specs.declared.kinds.Kind.TheVariants.{ConfigMap, Pod, ReplicaSet, Deployment}
use Rattle.spec_api.specs.declared.schemas.Shape.TheVariants.{Object}
use Rattle.spec_api.specs.declared.schemas.Schema.{Schema}
use Rattle.spec_api.specs.declared.schemas.Schema.TheVariants.{Root, ReplicaSetSpec, DeploymentSpec, Strategy, Unknown}
use Rattle.spec_laws.proofs.NeatMembers.{One, Neat, Neat-put, Neat-get, Neat-of, Neat-fits, Neat-tidy, Neat-depth, Neat-whole, Neat-good, opens}
use Rattle.spec_laws.specs.CheckLaws.{DefaultsReadAgain}
use Rattle.spec_api.specs.Defaults.{unsigned_value, with_changed, rolling_defaults, is_rolling_update, with_rolling, strategy_defaults, replica_set_defaults, deployment_defaults, defaulted}
use Rattle.spec_api.proofs.FoundMembers.{with_found}
use Rattle.spec_api.specs.Schemas.{property_at}
use Rattle.spec_api.specs.Values.{with_default}
use Rattle.spec_api.specs.Reading.{fits, members_fit, is_absent, empty, reading}
use Rattle.spec_laws.proofs.ReadAgain.{IsTidy, Has, Has-put, Filled, filled_members, Filled-filled, settled}

abbrev OneIf : ℕ → Schema → List ℕ → Option Data → Type 0
OneIf n p k None = Unit {0}
OneIf n p k (Some d) = One n p k d

Neat-found : (n : ℕ) (p : Schema) (k : List ℕ) (o : Option Data) (ms : Members) → get_member k ms ≡ o → Neat n p ms → OneIf n p k o
Neat-found n p k None ms is g = tt
Neat-found n p k (Some d) ms is g = Neat-get n p k ms d is g

-- ---- what is filled in keeps an object's members such

-- what it makes of an object is an object with such members
abbrev Keeps : ℕ → Schema → (Data → Data) → Type 0
Keeps n p change = (ms : Members) → Neat n p ms → (ns : Members) × (change (object ms) ≡ object ns) × Neat n p ns

put_unless : (b : Bool) (n : ℕ) (p : Schema) (k : List ℕ) (e : Data) (ms : Members) → One n p k e → Neat n p ms
    → (ns : Members) × (cond b (object ms) (object (put k e ms)) ≡ object ns) × Neat n p ns
put_unless true n p k e ms f g = (ms, refl, g)
put_unless false n p k e ms f g = (put k e ms, refl, Neat-put n p k e ms f g)

keeps_default : (n : ℕ) (p : Schema) (k : List ℕ) (e : Data) → One n p k e → Keeps n p (with_default k e)
keeps_default n p k e f = λ ms g. put_unless (is_some (get_member k ms)) n p k e ms f g

keeps_both : (n : ℕ) (p : Schema) (first second : Data → Data) → Keeps n p first → Keeps n p second → Keeps n p (λ d. second (first d))
keeps_both n p first second f s = λ ms g.
    let a = f ms g in
    let b = s a.0 a.2 in
    (b.0, ap second a.1 ∙ b.1, b.2)

keeps_if : (n : ℕ) (p : Schema) (test : Data → Bool) (change : Data → Data) → Keeps n p change → Keeps n p (λ d. if test d then change d else d)
keeps_if n p test change f = λ ms g. by (test (object ms)) ms g
  where
    by : (b : Bool) (ms : Members) → Neat n p ms → (ns : Members) × (cond b (change (object ms)) (object ms) ≡ object ns) × Neat n p ns
    by true ms g = f ms g
    by false ms g = (ms, refl, g)

-- a member that is an object
IsObjectAt : Schema → List ℕ → Schema → Type 0
IsObjectAt p k q = ((property_at p k).shape ≡ Object q) × ((ms : Members) → is_absent (property_at p k) (object ms) ≡ false)

as_part : (n : ℕ) (p q : Schema) (k : List ℕ) (ms : Members) → IsObjectAt p k q → Neat n q ms → One (suc n) p k (object ms)
unfolding IsObjectAt
as_part n p q k ms at g =
    let shown : fits (Object q) (object ms) ≡ true = Neat-fits n q ms g in
    let deep : members_depth ms ≤ n = Neat-depth n q ms g in
    (ap (λ s. fits s (object ms)) at.0 ∙ shown, at.1 ms, subst (λ s. IsTidy s (object ms)) (sym at.0) (Neat-tidy n q ms g), omega (arith, deep), Neat-whole n q ms g)

from_part : (n : ℕ) (p q : Schema) (k : List ℕ) (d : Data) → IsObjectAt p k q → One (suc n) p k d → (ms : Members) × (d ≡ object ms) × Neat n q ms
unfolding IsObjectAt
from_part n p q k (object ms) at f =
    let deep : depth (object ms) ≤ suc n = f.3 in
    let fit : members_fit q ms ≡ true = ap (λ s. fits s (object ms)) (sym at.0) ∙ f.0 in
    (ms, refl, Neat-of n q ms fit (subst (λ s. IsTidy s (object ms)) at.0 f.2) (omega (arith, deep)) f.4)
from_part n p q k null at f = cc
from_part n p q k (boolean b) at f = let no : false ≡ true = ap (λ s. fits s (boolean b)) (sym at.0) ∙ f.0 in cc
from_part n p q k (number m) at f = let no : false ≡ true = ap (λ s. fits s (number m)) (sym at.0) ∙ f.0 in cc
from_part n p q k (string s) at f = let no : false ≡ true = ap (λ t. fits t (string s)) (sym at.0) ∙ f.0 in cc
from_part n p q k (array ds) at f = let no : false ≡ true = ap (λ s. fits s (array ds)) (sym at.0) ∙ f.0 in cc

changed_at : (n : ℕ) (p q : Schema) (k : List ℕ) (change : Data → Data) (o : Option Data) (ms : Members) → IsObjectAt p k q → Keeps n q change → OneIf (suc n) p k o → Neat (suc n) p ms
    → (ns : Members) × (with_found k change o (object ms) ≡ object ns) × Neat (suc n) p ns
changed_at n p q k change None ms at keeps f g = (ms, refl, g)
changed_at n p q k change (Some e) ms at keeps f g =
    let existing = from_part n p q k e at f in
    let made = keeps existing.0 existing.2 in
    let is : change e ≡ object made.0 = ap change existing.1 ∙ made.1 in
    (put k (object made.0) ms, ap (λ x. object (put k x ms)) is, Neat-put (suc n) p k (object made.0) ms (as_part n p q k made.0 at made.2) g)

keeps_changed : (n : ℕ) (p q : Schema) (k : List ℕ) (change : Data → Data) → IsObjectAt p k q → Keeps n q change → Keeps (suc n) p (with_changed k change)
keeps_changed n p q k change at keeps = λ ms g. changed_at n p q k change (get_member k ms) ms at keeps (Neat-found (suc n) p k (get_member k ms) ms refl g) g

-- ---- the defaults

keeps_rolling : Keeps 96 Unknown rolling_defaults
keeps_rolling =
    keeps_both 96 Unknown (with_default (codes "maxSurge") (string (codes "25%"))) (with_default (codes "maxUnavailable") (string (codes "25%")))
    (keeps_default 96 Unknown (codes "maxSurge") (string (codes "25%")) (refl, refl, tt, omega arith, refl))
    (keeps_default 96 Unknown (codes "maxUnavailable") (string (codes "25%")) (refl, refl, tt, omega arith, refl))

rolling_is : IsObjectAt Strategy (codes "rollingUpdate") Unknown
unfolding IsObjectAt
rolling_is = (refl, λ ms. refl)

keeps_strategy : Keeps 97 Strategy strategy_defaults
keeps_strategy =
    let filling : Data → Data = λ d. with_changed (codes "rollingUpdate") rolling_defaults (with_default (codes "rollingUpdate") empty d) in
    keeps_both 97 Strategy (with_default (codes "type") (string (codes "RollingUpdate"))) with_rolling
    (keeps_default 97 Strategy (codes "type") (string (codes "RollingUpdate")) (refl, refl, tt, omega arith, refl))
    (keeps_if 97 Strategy is_rolling_update filling
    (keeps_both 97 Strategy (with_default (codes "rollingUpdate") empty) (with_changed (codes "rollingUpdate") rolling_defaults)
    (keeps_default 97 Strategy (codes "rollingUpdate") empty (refl, refl, tt, omega arith, refl))
    (keeps_changed 96 Strategy Unknown (codes "rollingUpdate") rolling_defaults rolling_is keeps_rolling)))

keeps_replica_set : Keeps 98 ReplicaSetSpec replica_set_defaults
keeps_replica_set = keeps_default 98 ReplicaSetSpec (codes "replicas") (unsigned_value 1) (refl, refl, tt, omega arith, refl)

strategy_is : IsObjectAt DeploymentSpec (codes "strategy") Strategy
unfolding IsObjectAt
strategy_is = (refl, λ ms. refl)

keeps_deployment : Keeps 98 DeploymentSpec deployment_defaults
keeps_deployment =
    let one : Data → Data = with_default (codes "replicas") (unsigned_value 1) in
    let two : Data → Data = λ d. with_default (codes "revisionHistoryLimit") (unsigned_value 10) (one d) in
    let three : Data → Data = λ d. with_default (codes "strategy") empty (two d) in
    keeps_both 98 DeploymentSpec three (with_changed (codes "strategy") strategy_defaults)
    (keeps_both 98 DeploymentSpec two (with_default (codes "strategy") empty)
    (keeps_both 98 DeploymentSpec one (with_default (codes "revisionHistoryLimit") (unsigned_value 10))
    (keeps_default 98 DeploymentSpec (codes "replicas") (unsigned_value 1) (refl, refl, tt, omega arith, refl))
    (keeps_default 98 DeploymentSpec (codes "revisionHistoryLimit") (unsigned_value 10) (refl, refl, tt, omega arith, refl)))
    (keeps_default 98 DeploymentSpec (codes "strategy") empty (refl, refl, tt, omega arith, refl)))
    (keeps_changed 97 DeploymentSpec Strategy (codes "strategy") strategy_defaults strategy_is keeps_strategy)

-- ---- a read object

abbrev Read : Kind → Data → Type 0
Read k e = (ns : Members) × (object ns ≡ e) × Neat 99 (Root k) ns × Filled k ns

read_parts : (k : Kind) (d e : Data) → reading k d ≡ Ok e → Read k e
read_parts k d e h = let o = opens k d e h in (filled_members k o.left, sym o.is, o.neat, Filled-filled k o.left)

spec_is : IsObjectAt (Root ReplicaSet) (codes "spec") ReplicaSetSpec
unfolding IsObjectAt
spec_is = (refl, λ ms. refl)

deployment_spec_is : IsObjectAt (Root Deployment) (codes "spec") DeploymentSpec
unfolding IsObjectAt
deployment_spec_is = (refl, λ ms. refl)

-- members stay where one is changed
has_changed : (q k : List ℕ) (change : Data → Data) (o : Option Data) (ms ns : Members) → with_found k change o (object ms) ≡ object ns → Has q ms → Has q ns
has_changed q k change None ms ns is h = let e : ms ≡ ns = cc in subst (Has q) e h
has_changed q k change (Some d) ms ns is h = let e : put k (change d) ms ≡ ns = cc in subst (Has q) e (Has-put q k (change d) ms h)

pub defaults_read : DefaultsReadAgain
defaults_read ConfigMap d h = h
defaults_read Pod d h = h
defaults_read ReplicaSet d h =
    let r = read_parts ReplicaSet d d h in
    let made = keeps_changed 98 (Root ReplicaSet) ReplicaSetSpec (codes "spec") replica_set_defaults spec_is keeps_replica_set r.0 r.2 in
    let stays : (q : List ℕ) → Has q r.0 → Has q made.0 = λ q. has_changed q (codes "spec") replica_set_defaults (get_member (codes "spec") r.0) r.0 made.0 made.1 in
    let is : defaulted ReplicaSet d ≡ object made.0 = ap (defaulted ReplicaSet) (sym r.1) ∙ made.1 in
    let reads : reading ReplicaSet (object made.0) ≡ Ok (object made.0) =
    settled ReplicaSet made.0 (Neat-good (Root ReplicaSet) made.0 made.2) (stays (codes "metadata") r.3.0, tt, stays (codes "kind") r.3.2, stays (codes "apiVersion") r.3.3)
    (Neat-whole 99 (Root ReplicaSet) made.0 made.2) in
    subst (λ x. reading ReplicaSet x ≡ Ok x) (sym is) reads
defaults_read Deployment d h =
    let r = read_parts Deployment d d h in
    let made = keeps_changed 98 (Root Deployment) DeploymentSpec (codes "spec") deployment_defaults deployment_spec_is keeps_deployment r.0 r.2 in
    let stays : (q : List ℕ) → Has q r.0 → Has q made.0 = λ q. has_changed q (codes "spec") deployment_defaults (get_member (codes "spec") r.0) r.0 made.0 made.1 in
    let is : defaulted Deployment d ≡ object made.0 = ap (defaulted Deployment) (sym r.1) ∙ made.1 in
    let reads : reading Deployment (object made.0) ≡ Ok (object made.0) =
    settled Deployment made.0 (Neat-good (Root Deployment) made.0 made.2) (stays (codes "metadata") r.3.0, tt, stays (codes "kind") r.3.2, stays (codes "apiVersion") r.3.3)
    (Neat-whole 99 (Root Deployment) made.0 made.2) in
    subst (λ x. reading Deployment x ≡ Ok x) (sym is) reads
