-- Entries that are laid over a map, one after another.
use Rattle.std.proofs.Common.{◌≡◌, List, ◌∷◌, sym, ap, ◌∙◌}
use Rattle.std.specs.BTreeMap.{insert_entry}
use Rattle.spec_api.specs.Keys.{key_cmp as name_cmp}
use Rattle.object_keys.specs.Keys.{key_of}
use Rattle.object_keys.specs.declared.key.Key.{Key}
use Rattle.spec_client_go.specs.Shifts.{overlaid}
use Rattle.reflector.specs.Seen.{members_seen}
use Rattle.reflector.specs.declared.shared_objects.SharedObject.{SharedObject}
use Rattle.reflector.proofs.SeenMaps.{key_cmp, seen-put_entry}
use Rattle.shared_map.specs.Entries.{put_entry}

-- one more entry is laid
pub one-more : (made new rest before : List (Key × SharedObject)) (key copied : Key) (object shared : SharedObject) → new ≡ put_entry key_cmp made (copied, shared) → key_of copied ≡ key_of key → shared ≡ object → before ≡ (key, object) ∷ rest
    → overlaid (members_seen new) (members_seen rest) ≡ overlaid (members_seen made) (members_seen before)
one-more made new rest before key copied object shared put named same goes =
    ap (λ ms. overlaid ms (members_seen rest))
    (ap members_seen put ∙ seen-put_entry made (copied, shared) ∙ ap (λ n. insert_entry name_cmp (members_seen made) n shared.value) named
    ∙ ap (λ (o : SharedObject). insert_entry name_cmp (members_seen made) (key_of key) o.value) same)
    ∙ ap (λ es. overlaid (members_seen made) (members_seen es)) (sym goes)
