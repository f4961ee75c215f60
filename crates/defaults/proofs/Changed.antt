-- A member that was taken and put back changed.
use Rattle.std.proofs.Common.{◌≡◌, ℕ, List, true, Option, Some, None, is_some, unwrap_or, refl, ap, ◌∙◌}
use Rattle.serde_json.specs.Data.{Data, null, object, Members, put}
use Rattle.serde_json.specs.Find.{get, get_member}
use Rattle.spec_api.specs.Defaults.{with_changed}
use Rattle.spec_api.proofs.FoundMembers.{with_found}
use Rattle.spec_api.specs.Values.{members_of, found_or_null}
use Rattle.json_values.proofs.PutAndTaken.{put-put}

at : (found : Option Data) (k : List ℕ) (change : Data → Data) (ms : Members) → is_some found ≡ true
    → object (put k (change (unwrap_or found null)) ms) ≡ with_found k change found (object ms)
at None k change ms h = cc
at (Some e) k change ms h = refl

pub changed : (k : List ℕ) (change : Data → Data) (d : Data) → is_some (get k d) ≡ true
    → object (put k (change (found_or_null k (members_of d))) (put k null (members_of d))) ≡ with_changed k change d
changed k change (object ms) h = ap object (put-put k (change (found_or_null k ms)) null ms) ∙ at (get_member k ms) k change ms h
changed k change d h = cc

-- the steps of taking a member, changing it and putting it back
pub put_back : (k : List ℕ) (change : Data → Data) (d existing filled : Data) (m1 m2 m3 : Members) → is_some (get k d) ≡ true
    → m1 ≡ members_of d → existing ≡ found_or_null k m1 → m2 ≡ put k null m1 → filled ≡ change existing → m3 ≡ put k filled m2 → object m3 ≡ with_changed k change d
put_back k change d existing filled m1 m2 m3 there first taken left made last =
    let from : filled ≡ change (found_or_null k (members_of d)) = made ∙ ap change (taken ∙ ap (found_or_null k) first) in
    let rest : m2 ≡ put k null (members_of d) = left ∙ ap (put k null) first in
    ap object (last ∙ ap (λ e. put k e m2) from ∙ ap (put k (change (found_or_null k (members_of d)))) rest) ∙ changed k change d there
