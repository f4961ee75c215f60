-- Two lists of which one is at its end.
use Rattle.std.proofs.Common.{◌≡◌, ◌⊎◌, inl, inr, ℕ, List, [], ◌∷◌, ◌++◌, length, map, refl, sym, ap, ◌∙◌, arith}
use Rattle.spec_client_go.specs.Commands.{Command}
use Rattle.spec_reconcile.specs.Deployments.{scale_each}
use Rattle.reconcile_types.specs.Entries.{entry_of}
use Rattle.reconcile_types.specs.declared.entries.Entry.{Entry}

nothing : (ss : List Entry) (ns : List ℕ) → (length ss ≡ 0) ⊎ (length ns ≡ 0) → scale_each (map entry_of ss) ns ≡ []
nothing [] ns h = refl
nothing (s ∷ ss) [] h = refl
nothing (s ∷ ss) (n ∷ ns) (inl h) = absurd (omega arith)
nothing (s ∷ ss) (n ∷ ns) (inr h) = absurd (omega arith)

all-of : (cs : List Command) → cs ≡ cs ++ []
all-of [] = refl
all-of (c ∷ cs) = ap (λ rest. c ∷ rest) (all-of cs)

pub ended : (cs all : List Command) (ss : List Entry) (ns : List ℕ) → (length ss ≡ 0) ⊎ (length ns ≡ 0) → cs ++ scale_each (map entry_of ss) ns ≡ all → cs ≡ all
ended cs all ss ns h e = all-of cs ∙ ap (λ rest. cs ++ rest) (sym (nothing ss ns h)) ∙ e
