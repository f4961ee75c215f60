-- The body of a Status before all is put into it that it says.
use Rattle.std.specs.Prelude.{ℕ, List, codes}
use Rattle.serde_json.specs.Data.{Data, number, unsigned, string, object, no_members, member}
use Rattle.spec_api.specs.Refusals.{Refusal, code, message, told}

-- the members that each Status has, with whether it is a success
abbrev pub outcome_body : List ℕ → Data
outcome_body outcome =
    object
    (member (codes "apiVersion") (string (codes "v1"))
    (member (codes "kind") (string (codes "Status")) (member (codes "metadata") (object no_members) (member (codes "status") (string outcome) no_members))))

-- of a refusal, with its code
abbrev pub coded_body : ℕ → Data
coded_body coded =
    object
    (member (codes "apiVersion") (string (codes "v1"))
    (member (codes "code") (number (unsigned coded))
    (member (codes "kind") (string (codes "Status")) (member (codes "metadata") (object no_members) (member (codes "status") (string (codes "Failure")) no_members)))))

-- the members that each refusal has
abbrev pub bare_body : Refusal → Data
bare_body f =
    object
    (member (codes "apiVersion") (string (codes "v1"))
    (member (codes "code") (number (unsigned (code f)))
    (member (codes "kind") (string (codes "Status"))
    (member (codes "message") (string (message f))
    (member (codes "metadata") (object no_members) (member (codes "reason") (string (told f).reason) (member (codes "status") (string (codes "Failure")) no_members)))))))
