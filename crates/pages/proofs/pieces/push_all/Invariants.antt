use Rattle.std.proofs.Common.{◌≡◌, ◌++◌, drop, string_bytes}
use Rattle.std.specs.Prelude.{flat_map}
use Rattle.pages.proofs.pieces.push_all.Given as goal

-- what was added and what is left is all
abbrev pub invariant-loop-piece : goal.invariant-loop-piece
invariant-loop-piece l =
    string_bytes l.text ++ flat_map (λ piece. piece.now) (drop l.piece-index l.pieces) ≡ string_bytes l.initial.text ++ flat_map (λ piece. piece.now) l.pieces
