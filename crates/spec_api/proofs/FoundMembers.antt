-- A member that is looked up, and changed where it is there.
use Rattle.std.proofs.Common.{ℕ, List, Option, option_map}
use Rattle.std.specs.Prelude.{unwrap_or}
use Rattle.serde_json.specs.Data.{Data}
use Rattle.spec_api.specs.Values.{with_member}

abbrev pub with_found : List ℕ → (Data → Data) → Option Data → Data → Data
with_found k change found d = unwrap_or (option_map (λ e. with_member k (change e) d) found) d
