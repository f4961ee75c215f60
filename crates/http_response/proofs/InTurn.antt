-- Texts written one after another.
use Rattle.std.proofs.Common.{◌≡◌, inl, inr, ℕ, List, ◌++◌, Option, Result, Ok, Err, sym, ap, subst, ◌∙◌, append_assoc}
use Rattle.std.proofs.KnownBytes.{Appends-trans}
use Rattle.chunked.specs.Writing.{WritesInPlace}
use Rattle.chunked.specs.declared.fault.ChunkFault.{ChunkFault}
use Rattle.chunked.specs.declared.fault.ChunkFault.TheVariants as fault
use Rattle.chunked.specs.declared.watched.Watched.{Watched}

module _ {D : Type 0} (contents : D → Option (List ℕ)) (old mid new : Watched D) where
  -- what was written, and then what was
  then_written : (first second : List ℕ) (u : Unit {0}) (r : Result (Unit {0}) ChunkFault) → WritesInPlace first contents old mid (Ok u) → WritesInPlace second contents mid new r
      → WritesInPlace (first ++ second) contents old new r
  then_written first second u (Ok v) a b = (a.0, b.1, Appends-trans _ _ _ first second a.2 b.2)
  then_written first second u (Err fault.Device) a (inl (up, same)) = absurd (cc (up, a.1))
  then_written first second u (Err fault.Device) a (inr (down, up, begun)) =
      inr (a.0, up, (first ++ begun.0, begun.1, Appends-trans _ _ _ first begun.0 a.2 begun.2, append_assoc first begun.0 begun.1 ∙ ap (λ t. first ++ t) begun.3))
  then_written first second u (Err fault.Malformed) a b = b
  then_written first second u (Err fault.Truncated) a b = b
  then_written first second u (Err fault.Want) a b = b

  pub in_turn : (text first second : List ℕ) (u : Unit {0}) (r : Result (Unit {0}) ChunkFault) → text ≡ first ++ second → WritesInPlace first contents old mid (Ok u)
      → WritesInPlace second contents mid new r → WritesInPlace text contents old new r
  in_turn text first second u r e a b = subst (λ t. WritesInPlace t contents old new r) (sym e) (then_written first second u r a b)

module _ {D : Type 0} (contents : D → Option (List ℕ)) (old new : Watched D) where
  -- what follows is not written where the writer fails
  cut_short : (first second : List ℕ) (f : ChunkFault) → WritesInPlace first contents old new (Err f) → WritesInPlace (first ++ second) contents old new (Err f)
  cut_short first second fault.Device (inl a) = inl a
  cut_short first second fault.Device (inr (down, up, begun)) =
      inr (down, up, (begun.0, begun.1 ++ second, begun.2, sym (append_assoc begun.0 begun.1 second) ∙ ap (λ t. t ++ second) begun.3))
  cut_short first second fault.Malformed a = a
  cut_short first second fault.Truncated a = a
  cut_short first second fault.Want a = a

  pub at_first : (text first second : List ℕ) (f : ChunkFault) → text ≡ first ++ second → WritesInPlace first contents old new (Err f) → WritesInPlace text contents old new (Err f)
  at_first text first second f e a = subst (λ t. WritesInPlace t contents old new (Err f)) (sym e) (cut_short first second f a)
