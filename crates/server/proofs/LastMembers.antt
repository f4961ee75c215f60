-- The last of some members.
use Rattle.std.proofs.Common.{◌≡◌, suc, ◌-◌, List, [], ◌∷◌, length, map, arith, Some, ap, ◌∙◌}
use Rattle.std.specs.Prelude.{slice_get}
use Rattle.spec_api.specs.Pages.{place_of, last_place}
use Rattle.object_keys.specs.Keys.{key_of}
use Rattle.meta.specs.Members.{member_of}
use Rattle.meta.specs.declared.lent_members.Member.{Member}

last_at : (x : Member) (ms : List Member) (m : Member) → slice_get (x ∷ ms) (length ms) ≡ Some m → last_place (map member_of (x ∷ ms)) ≡ Some (place_of (key_of m.key.now))
last_at x [] m is = cc
last_at x (y ∷ ms) m is = last_at y ms m is

pub last_member : (ms : List Member) (m : Member) → slice_get ms (length ms - 1) ≡ Some m → last_place (map member_of ms) ≡ Some (place_of (key_of m.key.now))
last_member [] m is = cc
last_member (x ∷ ms) m is =
    let place : length ms ≡ suc (length ms) - 1 = omega arith in
    last_at x ms m (ap (slice_get (x ∷ ms)) place ∙ is)
