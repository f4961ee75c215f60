-- What is written for a watch, read in pieces.
use Rattle.std.proofs.Common.{◌≡◌, ℕ, List, [], ◌∷◌, ◌++◌, Some, sym, ap, ◌∙◌, subst, append_assoc, append-nil, length, length-append, arith}
use Rattle.httparse.specs.Grammar.{ReadsResponse}
use Rattle.httparse.proofs.GrammarLemmas.{response_unique, ReadsResponse-append}
use Rattle.chunked.specs.Bodies.{IsBodyWithin, chunks_text, last_chunk}
use Rattle.chunked.specs.Laws.{AreChunks, ReadsPieces, IsReadAs}
use Rattle.chunked.specs.Reading.{Stops, longest_line}
use Rattle.chunked.specs.declared.place.BodyPlace.{BodyPlace}
use Rattle.chunked.specs.declared.place.BodyPlace.TheVariants as place
use Rattle.chunked.proofs.Bodies.{written}
use Rattle.chunked.proofs.Runs.{read_as}
use Rattle.spec_http.specs.Answers.{OpensWatch}
use Rattle.spec_http.specs.ClientLaws.{chunks_written, WatchesAreReadInPieces}
use Rattle.spec_http.proofs.Read.{opens}

-- what follows the input stays
followed : (more : List ℕ) (pieces : List (List ℕ)) (p q : BodyPlace) (input left : List ℕ) → ReadsPieces p input pieces q left → ReadsPieces p (input ++ more) pieces q (left ++ more)
followed more [] p q input left (same, all) = (same, ap (λ b. b ++ more) all)
followed more (piece ∷ pieces) p q input left (mid, between, (read, consumes, passes), others) =
    let on : input ++ more ≡ read ++ (between ++ more) = ap (λ b. b ++ more) consumes ∙ append_assoc read between more in
    (mid, between ++ more, (read, on, passes), followed more pieces mid q between left others)

-- what follows the head is the chunks, up to where the bytes are cut
body_of : (chunks : List (List ℕ)) (bytes more rest : List ℕ) → chunks_written chunks ≡ bytes ++ more → OpensWatch bytes rest → chunks_text chunks ++ last_chunk ≡ rest ++ more
body_of chunks bytes more rest e (h, reads, limits, chunked, code) =
    let whole = opens (chunks_text chunks ++ last_chunk) in
    let longer : ReadsResponse (bytes ++ more) h (rest ++ more) = ReadsResponse-append bytes h rest more reads in
    (response_unique (bytes ++ more) whole.0 h (chunks_text chunks ++ last_chunk) (rest ++ more)
    (subst (λ b. ReadsResponse b whole.0 (chunks_text chunks ++ last_chunk)) e whole.1) longer).1

nothing_more : (left more : List ℕ) → left ++ more ≡ [] → more ≡ []
nothing_more [] more e = e
nothing_more (b ∷ left) more e = absurd (omega (arith, ap length e, length-append (b ∷ left) more))

whole_read : (chunks : List (List ℕ)) (rest more : List ℕ) → AreChunks chunks → chunks_text chunks ++ last_chunk ≡ rest ++ more → IsReadAs chunks (rest ++ more) []
whole_read chunks rest more are e = read_as chunks (rest ++ more) [] (subst (λ b. IsBodyWithin longest_line chunks b []) e (written chunks [] are))

pub read_in_pieces : WatchesAreReadInPieces
read_in_pieces chunks bytes more rest pieces p left are e opening reads =
    let read = whole_read chunks rest more are (body_of chunks bytes more rest e opening) pieces p (left ++ more) (followed more pieces place.Line p rest left reads) in (
      read.0,
      λ ended. ((read.1 ended).0, nothing_more left more (read.1 ended).1),
      λ after f none stops. read.2 after f (subst (λ b. Stops p (Some b) after f) (sym (ap (λ m. left ++ m) none ∙ append-nil left)) stops),
    )
