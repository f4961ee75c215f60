-- The keys that changes owe.
use Rattle.std.specs.Prelude.{◌≡◌, List, [], ◌∷◌, ◌++◌}
use Rattle.spec_client_go.specs.Shifts.{Shift}

-- these are the keys that the changes owe, those of each after those of the ones before it
abbrev pub AreOwed : {K : Type 0} → (Shift → List K → Type 0) → List Shift → List K → Type 0
AreOwed owes [] keys = keys ≡ []
AreOwed {K = K} owes (s ∷ ss) keys = (first : List K) × (rest : List K) × (keys ≡ first ++ rest) × owes s first × AreOwed owes ss rest
