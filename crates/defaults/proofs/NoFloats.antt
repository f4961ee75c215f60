-- What is filled in has no float, and leaves an object an object.
use Rattle.std.proofs.Common.{◌≡◌, ℕ, List, Bool, true, false, cond, codes, Option, Some, None, is_some, refl}
use Rattle.serde_json.specs.Data.{Data, null, boolean, number, string, array, object}
use Rattle.serde_json.specs.Find.{get, as_object}
use Rattle.serde_json.specs.Written.{has_float}
use Rattle.spec_api.specs.declared.kinds.Kind.{Kind}
use Rattle.spec_api.specs.declared.kinds.Kind.TheVariants.{ConfigMap, Pod, ReplicaSet, Deployment}
use Rattle.spec_api.specs.Defaults.{unsigned_value, with_changed, rolling_defaults, is_rolling_update, with_rolling, strategy_defaults, replica_set_defaults, deployment_defaults, defaulted}
use Rattle.spec_api.proofs.FoundMembers.{with_found}
use Rattle.spec_api.specs.Reading.{empty}
use Rattle.spec_api.specs.Values.{with_member, with_default}
use Rattle.spec_api.proofs.NoFloatsRead.{has_float-with_member}
use Rattle.json_values.proofs.NoFloats.{no_float, get_no_float}

either : (b : Bool) (d e : Data) → has_float d ≡ false → has_float e ≡ false → has_float (cond b d e) ≡ false
either true d e p q = p
either false d e p q = q

defaults : (k : List ℕ) (e d : Data) → has_float e ≡ false → has_float d ≡ false → has_float (with_default k e d) ≡ false
defaults k e d p q = either (is_some (get k d)) d (with_member k e d) q (has_float-with_member k e d p q)

abbrev Keeps : (Data → Data) → Type 0
Keeps change = (e : Data) → has_float e ≡ false → has_float (change e) ≡ false

found : (k : List ℕ) (change : Data → Data) (o : Option Data) (d : Data) → Keeps change → no_float o → has_float d ≡ false → has_float (with_found k change o d) ≡ false
found k change None d keeps p q = q
found k change (Some e) d keeps p q = has_float-with_member k (change e) d (keeps e p) q

changed : (k : List ℕ) (change : Data → Data) (d : Data) → Keeps change → has_float d ≡ false → has_float (with_changed k change d) ≡ false
changed k change d keeps q = found k change (get k d) d keeps (get_no_float k d q) q

rolling : Keeps rolling_defaults
rolling d h =
    let surge = string (codes "25%") in
    defaults (codes "maxUnavailable") surge (with_default (codes "maxSurge") surge d) refl (defaults (codes "maxSurge") surge d refl h)

typed : Keeps with_rolling
typed d h =
    let based = with_default (codes "rollingUpdate") empty d in
    either (is_rolling_update d) (with_changed (codes "rollingUpdate") rolling_defaults based) d
    (changed (codes "rollingUpdate") rolling_defaults based rolling (defaults (codes "rollingUpdate") empty d refl h)) h

strategy : Keeps strategy_defaults
strategy d h =
    let e = string (codes "RollingUpdate") in
    typed (with_default (codes "type") e d) (defaults (codes "type") e d refl h)

replica_set : Keeps replica_set_defaults
replica_set d h = defaults (codes "replicas") (unsigned_value 1) d refl h

deployment : Keeps deployment_defaults
deployment d h =
    let first = with_default (codes "replicas") (unsigned_value 1) d in
    let second = with_default (codes "revisionHistoryLimit") (unsigned_value 10) first in
    let third = with_default (codes "strategy") empty second in
    changed (codes "strategy") strategy_defaults third strategy
    (defaults (codes "strategy") empty second refl (defaults (codes "revisionHistoryLimit") (unsigned_value 10) first refl (defaults (codes "replicas") (unsigned_value 1) d refl h)))

pub no_float-defaulted : (k : Kind) (d : Data) → has_float d ≡ false → has_float (defaulted k d) ≡ false
no_float-defaulted ConfigMap d h = h
no_float-defaulted Pod d h = h
no_float-defaulted ReplicaSet d h = changed (codes "spec") replica_set_defaults d replica_set h
no_float-defaulted Deployment d h = changed (codes "spec") deployment_defaults d deployment h

found_object : (k : List ℕ) (change : Data → Data) (o : Option Data) (d : Data) → is_some (as_object d) ≡ true → is_some (as_object (with_found k change o d)) ≡ true
found_object k change None d h = h
found_object k change (Some e) null h = cc
found_object k change (Some e) (boolean b) h = cc
found_object k change (Some e) (number n) h = cc
found_object k change (Some e) (string s) h = cc
found_object k change (Some e) (array ds) h = cc
found_object k change (Some e) (object ms) h = refl

pub object-defaulted : (k : Kind) (d : Data) → is_some (as_object d) ≡ true → is_some (as_object (defaulted k d)) ≡ true
object-defaulted ConfigMap d h = h
object-defaulted Pod d h = h
object-defaulted ReplicaSet d h = found_object (codes "spec") replica_set_defaults (get (codes "spec") d) d h
object-defaulted Deployment d h = found_object (codes "spec") deployment_defaults (get (codes "spec") d) d h
