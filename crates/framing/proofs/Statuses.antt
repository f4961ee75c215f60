-- A Status has no fractions.
use Rattle.std.proofs.Common.{◌≡◌, ℕ, List, Option, Some, None, option_map, codes, Bool, true, false, cond, length, ◌==◌, refl}
use Rattle.serde_json.specs.Data.{number, unsigned, string, object, no_members, member}
use Rattle.serde_json.specs.Written.{has_float}
use Rattle.spec_api.specs.declared.kinds.Kind.{Kind}
use Rattle.spec_api.specs.Kinds.{group_name, plural}
use Rattle.spec_api.specs.Keys.{Key}
use Rattle.spec_api.specs.Refusals.{Refusal, code, message, told, details, with_optional, status_body}

details_clean : (kind : Kind) (ns name : List ℕ) → has_float (details (record { kind = kind; namespace = ns; name = name }) no_members) ≡ false
details_clean kind ns name = by (length (group_name kind) == 0)
  where
    by : (b : Bool)
        → has_float
        (object
        (cond b (member (codes "kind") (string (plural kind)) (member (codes "name") (string name) no_members))
        (member (codes "group") (string (group_name kind)) (member (codes "kind") (string (plural kind)) (member (codes "name") (string name) no_members))))) ≡ false
    by true = refl
    by false = refl

clean : (n : ℕ) (said why : List ℕ) (o : Option Key)
    → has_float
    (object
    (member (codes "apiVersion") (string (codes "v1"))
    (member (codes "code") (number (unsigned n))
    (with_optional (codes "details") (option_map (λ k. details k no_members) o)
    (member (codes "kind") (string (codes "Status"))
    (member (codes "message") (string said)
    (member (codes "metadata") (object no_members) (member (codes "reason") (string why) (member (codes "status") (string (codes "Failure")) no_members))))))))) ≡ false
clean n said why None = refl
clean n said why (Some k) = rw (details_clean k.kind k.namespace k.name) refl

pub status_clean : (f : Refusal) → has_float (status_body f) ≡ false
status_clean f = clean (code f) (message f) (told f).reason (told f).about
