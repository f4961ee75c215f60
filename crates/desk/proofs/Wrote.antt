-- Whether something was written, by the revision.
use Rattle.std.proofs.Common.{◌≡◌, ℕ, ◌+◌, nat_eq, sym, ap, ◌∙◌, not, true, false, arith}
use Rattle.std.specs.Prelude.{Option, Some, None, is_some}
use Rattle.std.proofs.lemmas.Bool.Decides.{nat_tests}
use Rattle.spec_api.specs.History.{Write}
use Rattle.spec_server.specs.Servers.{Server, after_writing}

same_number : (n m : ℕ) → n ≡ m → not (nat_eq n m) ≡ false
same_number n m is = grind (arith, nat_tests)

next_number : (n m : ℕ) → n ≡ m + 1 → not (nat_eq n m) ≡ true
next_number n m is = grind (arith, nat_tests)

-- the revision is another one just where something was written
pub wrote_so : (s t : Server) (w : Option Write) (before now : ℕ) → t ≡ after_writing s w → before ≡ s.snapshot.revision → now ≡ t.snapshot.revision → not (nat_eq now before) ≡ is_some w
wrote_so s t None before now is a b = same_number now before (b ∙ ap (λ z. z.snapshot.revision) is ∙ sym a)
wrote_so s t (Some w) before now is a b = next_number now before (b ∙ ap (λ z. z.snapshot.revision) is ∙ ap (λ n. n + 1) (sym a))
