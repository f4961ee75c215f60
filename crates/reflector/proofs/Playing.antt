-- Frames that are taken in one after another, and initial events that are played.
use Rattle.std.proofs.Common.{◌≡◌, List, [], ◌∷◌, ◌++◌, Option, None, option_map, Result, Ok, refl, sym, ap, ◌∙◌, subst}
use Rattle.spec_api.specs.declared.kinds.Kind.{Kind}
use Rattle.spec_client_go.specs.declared.reflectors.End.{End}
use Rattle.spec_api.specs.Frames.{Frame}
use Rattle.spec_api.specs.Keys.{key_cmp as name_cmp}
use Rattle.spec_api.specs.History.{put_or_remove}
use Rattle.spec_api.specs.Objects.{Object}
use Rattle.std.specs.BTreeMap.{insert_entry, is_at}
use Rattle.std.specs.Map.{remove_entry}
use Rattle.spec_client_go.specs.Reflectors as reflectors
use Rattle.spec_client_go.specs.Reflectors.{name_in, put_in, Course}
use Rattle.object_keys.specs.Keys.{key_of}
use Rattle.object_keys.specs.declared.key.Key.{Key}
use Rattle.shared_map.specs.Entries.{put_entry}
use Rattle.reflector.specs.declared.deltas.Delta.{Delta}
use Rattle.reflector.specs.declared.shared_objects.SharedObject.{SharedObject}
use Rattle.reflector.specs.Deltas.{delta_of, deltas_of}
use Rattle.reflector.specs.Seen.{members_seen, HaveKinds}
use Rattle.reflector.specs.Courses.{Place, advance, IsAdvance}
use Rattle.reflector.proofs.Courses.{after_course, course_at, course_goes, given}
use Rattle.reflector.proofs.SeenMaps.{key_cmp, seen-put_entry, seen-remove_entry, kinds_put, kinds_removed}

pub deltas_pushed : (ds : List Delta) (d : Delta) → deltas_of (ds ++ d ∷ []) ≡ deltas_of ds ++ delta_of d ∷ []
deltas_pushed [] d = refl
deltas_pushed (e ∷ ds) d = ap (λ z. delta_of e ∷ z) (deltas_pushed ds d)

-- one frame more
pub taken_on : (k : Kind) (ds new : List reflectors.Delta) (old now : Place) (e : Frame) (es all : List Frame) (t : Result (Option Delta) End) (d : Option Delta) (total : Course) → t ≡ Ok d → IsAdvance t old now (advance k old e)
    → new ≡ ds ++ given (option_map delta_of d) → all ≡ e ∷ es → after_course ds (course_at k old all) ≡ total → after_course new (course_at k now es) ≡ total
taken_on k ds new old now e es all t d total is does n taken so_far =
    course_goes ds new k old e es (record { place = now; delta = option_map delta_of d }) (subst (λ t. IsAdvance t old now (advance k old e)) is does) n
    ∙ ap (λ z. after_course ds (course_at k old z)) (sym taken) ∙ so_far

-- an object that is put
pub put_seen : (es new : List (Key × SharedObject)) (k : Key) (o : SharedObject) → new ≡ put_entry key_cmp es (k, o) → key_of k ≡ name_in o → members_seen new ≡ put_in (members_seen es) o
put_seen es new k o is named = ap members_seen is ∙ seen-put_entry es (k, o) ∙ ap (λ n. insert_entry name_cmp (members_seen es) n o.value) named

pub put_kinds : (es new : List (Key × SharedObject)) (k : Key) (o : SharedObject) → new ≡ put_entry key_cmp es (k, o) → key_of k ≡ name_in o → HaveKinds es → HaveKinds new
put_kinds es new k o is named all = subst HaveKinds (sym is) (kinds_put es (k, o) (ap (λ n. n.kind) named) all)

-- and one that is removed
pub removed_seen : (es new : List (Key × SharedObject)) (k : Key) (o : Object) → new ≡ remove_entry (is_at (key_cmp k)) es → key_of k ≡ name_in o → members_seen new ≡ put_or_remove (members_seen es) (name_in o) None
removed_seen es new k o is named = ap members_seen is ∙ seen-remove_entry es k ∙ ap (λ n. remove_entry (is_at (name_cmp n)) (members_seen es)) named

pub removed_kinds : (es new : List (Key × SharedObject)) (k : Key) → new ≡ remove_entry (is_at (key_cmp k)) es → HaveKinds es → HaveKinds new
removed_kinds es new k is all = subst HaveKinds (sym is) (kinds_removed es k all)
