-- What an object with its first status has beside that status: what it had.
use Rattle.std.proofs.Common.{◌≡◌, ℕ, List, false, codes, bytes_eq, Option, Some, None, refl, sym, ap, ◌∙◌}
use Rattle.serde_json.specs.Data.{Data, null, boolean, number, string, array, object, Members}
use Rattle.serde_json.specs.Find.{get, get_member}
use Rattle.serde_json.proofs.Views.{get_member-put_other}
use Rattle.spec_api.specs.declared.kinds.Kind.{Kind}
use Rattle.spec_api.specs.Metadata.{metadata_of}
use Rattle.spec_api.specs.NewObjects.{first_status, with_first_status, with_status}
use Rattle.spec_api.specs.Values.{members_of, inner_of}
use Rattle.spec_api.proofs.JsonMembers.{apart}

pub get-members_of : (q : List ℕ) (d : Data) → get q d ≡ get_member q (members_of d)
get-members_of q null = refl
get-members_of q (boolean b) = refl
get-members_of q (number n) = refl
get-members_of q (string s) = refl
get-members_of q (array ds) = refl
get-members_of q (object ms) = refl

pub get-status : (q : List ℕ) (s : Option Data) (ms : Members) → bytes_eq q (codes "status") ≡ false → get_member q (with_status s ms) ≡ get_member q ms
get-status q None ms other = refl
get-status q (Some s) ms other = get_member-put_other q (codes "status") s ms (apart q (codes "status") other)

pub get-first : (q : List ℕ) (k : Kind) (d : Data) → bytes_eq q (codes "status") ≡ false → get q (with_first_status k d) ≡ get q d
get-first q k d other = get-status q (first_status k) (members_of d) other ∙ sym (get-members_of q d)

pub metadata_of-first : (k : Kind) (d : Data) → metadata_of (with_first_status k d) ≡ metadata_of d
metadata_of-first k d = ap inner_of (get-first (codes "metadata") k d refl)
