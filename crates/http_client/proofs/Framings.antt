-- How the end of a body is known by the fields of its head.
use Rattle.std.proofs.Common.{◌≡◌, ℕ, List, [], ◌∷◌, length, Bool, true, codes, sym, ap, ◌∙◌, arith}
use Rattle.std.specs.Str.{str_eq_ignore_ascii_case}
use Rattle.spec_http.specs.Heads.{Field}
use Rattle.http_client.specs.Heads.{IsFramed, codings_in}
use Rattle.http_client.specs.declared.framing.Framing.TheVariants as framing

-- the first is the only one
alone : (vs rest : List (List ℕ)) (v : List ℕ) (n : ℕ) → vs ≡ v ∷ rest → n ≡ length vs → n ≡ 1 → vs ≡ v ∷ []
alone vs [] v n e count one = e
alone vs (w ∷ rest) v n e count one = absurd (omega (arith, count, one, ap length e))

pub by_chunks : (most : ℕ) (fields : List Field) (v : List ℕ) (rest : List (List ℕ)) (n : ℕ) (t : Bool) → codings_in fields ≡ v ∷ rest → n ≡ length (codings_in fields) → n ≡ 1
    → t ≡ str_eq_ignore_ascii_case v (codes "chunked") → t ≡ true → IsFramed most fields framing.Chunked
by_chunks most fields v rest n t e count one same is = (v, alone (codings_in fields) rest v n e count one, sym same ∙ is)
