-- The derived orders of kinds and keys are those of ranks and names.
use Rattle.std.proofs.Common.{◌≡◌, nat_cmp, rules}
use Rattle.spec_api.specs.contracts.kinds.KindOrd.TheImpl as kind_ord
use Rattle.spec_api.specs.declared.kinds.Kind.{Kind}
use Rattle.spec_api.specs.Kinds.{rank}
use Rattle.spec_api.specs.Keys.{key_cmp}
use Rattle.object_keys.specs.contracts.key.KeyOrd.TheImpl as key_ord
use Rattle.object_keys.specs.declared.key.Key.{Key}
use Rattle.object_keys.specs.Keys.{key_of}

-- kinds go by their ranks
pub kind_cmp-rank : (a b : Kind) → (kind_ord.ghosts).cmp a b ≡ nat_cmp (rank a) (rank b)
kind_cmp-rank a b = search rules

-- keys go by their names
pub key_cmp-name_cmp : (a b : Key) → (key_ord.ghosts).cmp a b ≡ key_cmp (key_of a) (key_of b)
key_cmp-name_cmp a b = search (rules, kind_cmp-rank)
