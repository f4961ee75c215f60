-- What commands ask of sets: of each set a number of pods, or nothing.
use Rattle.std.proofs.Common.{◌≡◌, ℕ, zero, suc, ◌+◌, ◌-◌, ◌≤◌, ◌<◌, ◌^◌, ◌⊎◌, inl, inr, min, max, List, [], ◌∷◌, ◌++◌, map, take, Bool, true, false, refl, ap, if◌then◌else◌, arith}
use Rattle.std.specs.List.{AllByRecursion}
use Rattle.serde_json.specs.Data.{Data}
use Rattle.spec_api.specs.History.{Entries}
use Rattle.spec_api.specs.Keys.{Key, is_same_key}
use Rattle.spec_client_go.specs.Commands.{Command, create, update, update_status, delete}
use Rattle.spec_reconcile.specs.Counts.{replicas}
use Rattle.spec_reconcile.specs.Deployments.{asked_by, tally}
use Rattle.spec_reconcile.specs.Rollouts.{total}
use Rattle.spec_reconcile.specs.declared.rollouts.Tally.{Tally}
use Rattle.spec_laws.specs.DeploymentLaws.{lost}
use Rattle.spec_laws.specs.ReplicaSetLaws.{created}
use Rattle.spec_laws.specs.RolloutLaws.{asked_after, asked_by_made, taken}
use Rattle.spec_laws.proofs.AskedNumbers.{Gives}
use Rattle.spec_laws.proofs.DeploymentPlans.{all_implied}

-- ---- numbers

abbrev pub Small : ℕ → Type 0
Small n = n < 2 ^ 63

-- a command leaves a set as it is, or brings it to a number
abbrev pub Tells : Command → Key × Data → ℕ → Type 0
Tells (create kind ns d) s n = Unit {0}
Tells (update k d) s n = is_same_key s.0 k ≡ true → (replicas d ≡ replicas s.1) ⊎ Gives n (replicas d)
Tells (update_status k d) s n = Unit {0}
Tells (delete k u v p) s n = is_same_key s.0 k ≡ true → 0 ≡ replicas s.1

-- each set with its number, and with what it is to have now where no number stands
abbrev pub Pairs : (Key × Data → ℕ → Type 0) → Entries → List ℕ → Type 0
Pairs P [] ns = Unit {0}
Pairs P (s ∷ ss) [] = P s (replicas s.1) × Pairs P ss []
Pairs P (s ∷ ss) (n ∷ ns) = P s n × Pairs P ss ns

abbrev pub Brings : Entries → List ℕ → List Command → Type 0
Brings ss ns cs = AllByRecursion (λ c. Pairs (Tells c) ss ns) cs

-- the greater of what each set has and is brought to, in all
abbrev pub higher : Entries → List ℕ → ℕ
higher [] ns = 0
higher (s ∷ ss) [] = replicas s.1 + higher ss []
higher (s ∷ ss) (n ∷ ns) = max (replicas s.1) n + higher ss ns

-- ---- a set after commands

abbrev Came : Key × Data → ℕ → ℕ → Type 0
Came s n m = (m ≡ replicas s.1) ⊎ Gives n m

chosen : (P : ℕ → Type 0) (x m : ℕ) (b c : Bool) → b ≡ c → (b ≡ true → P x) → P m → P (if b then x else m)
chosen P x m true c e f p = f refl
chosen P x m false c e f p = p

came : (s : Key × Data) (n m : ℕ) (cs : List Command) → Came s n m → AllByRecursion (λ c. Tells c s n) cs → Came s n (asked_after s.0 m cs)
came s n m [] h t = h
came s n m (create kind ns d ∷ cs) h t = came s n m cs h t.1
came s n m (update j d ∷ cs) h t = let b = is_same_key s.0 j in came s n (if b then replicas d else m) cs (chosen (Came s n) (replicas d) m b b refl t.0 h) t.1
came s n m (update_status j d ∷ cs) h t = came s n m cs h t.1
came s n m (delete j u v p ∷ cs) h t =
    let b = is_same_key s.0 j in came s n (if b then 0 else m) cs (chosen (Came s n) 0 m b b refl (λ e. inl (t.0 e)) h) t.1

first_came : (s : Key × Data) (n : ℕ) (ss : Entries) (ns : List ℕ) (cs : List Command) → AllByRecursion (λ c. Tells c s n × Pairs (Tells c) ss ns) cs → Came s n (asked_after s.0 (replicas s.1) cs)
first_came s n ss ns cs h = came s n (replicas s.1) cs (inl refl) (all_implied (λ c. Tells c s n × Pairs (Tells c) ss ns) (λ c. Tells c s n) (λ c x. x.0) cs h)

others_came : (s : Key × Data) (n : ℕ) (ss : Entries) (ns : List ℕ) (cs : List Command) → AllByRecursion (λ c. Tells c s n × Pairs (Tells c) ss ns) cs → Brings ss ns cs
others_came s n ss ns cs h = all_implied (λ c. Tells c s n × Pairs (Tells c) ss ns) (λ c. Pairs (Tells c) ss ns) (λ c x. x.1) cs h

-- ---- sums

at_most : (r n m : ℕ) → (m ≡ r) ⊎ Gives n m → m ≤ max r n
at_most r n m (inl e) = omega arith
at_most r n m (inr h) = omega (arith, h.0)

left_at_most : (r m : ℕ) → (m ≡ r) ⊎ Gives r m → m ≤ r
left_at_most r m (inl e) = omega arith
left_at_most r m (inr h) = h.0

pub asked_at_most : (ss : Entries) (ns : List ℕ) (cs : List Command) → Brings ss ns cs → total (map (λ (s : Key × Data). asked_after s.0 (replicas s.1) cs) ss) ≤ higher ss ns
asked_at_most [] ns cs h = omega arith
asked_at_most (s ∷ ss) [] cs h =
    let one = left_at_most (replicas s.1) (asked_after s.0 (replicas s.1) cs) (first_came s (replicas s.1) ss [] cs h) in
    let rest = asked_at_most ss [] cs (others_came s (replicas s.1) ss [] cs h) in
    omega arith
asked_at_most (s ∷ ss) (n ∷ ns) cs h =
    let one = at_most (replicas s.1) n (asked_after s.0 (replicas s.1) cs) (first_came s n ss ns cs h) in
    let rest = asked_at_most ss ns cs (others_came s n ss ns cs h) in
    omega arith

takes : (a r n m : ℕ) → n < 2 ^ 63 → (m ≡ r) ⊎ Gives n m → min a r - m ≤ min a r - n
takes a r n m small (inl e) = omega arith
takes a r n m small (inr h) = let least = h.1 small in omega arith

takes_none : (a r m : ℕ) → r < 2 ^ 63 → (m ≡ r) ⊎ Gives r m → min a r - m ≡ 0
takes_none a r m small (inl e) = omega arith
takes_none a r m small (inr h) = let least = h.1 small in omega arith

pub lost_none : (ss : Entries) → lost (map tally ss) [] ≡ 0
lost_none [] = refl
lost_none (s ∷ ss) = refl

pub taken_at_most : (ss : Entries) (ns : List ℕ) (cs : List Command) → AllByRecursion (λ (s : Key × Data). Small (replicas s.1)) ss → AllByRecursion Small ns → Brings ss ns cs
    → taken ss cs ≤ lost (map tally ss) ns
taken_at_most [] ns cs small smalls h = omega arith
taken_at_most (s ∷ ss) [] cs small smalls h =
    let one = takes_none (tally s).available (replicas s.1) (asked_after s.0 (replicas s.1) cs) small.0 (first_came s (replicas s.1) ss [] cs h) in
    let rest = taken_at_most ss [] cs small.1 tt (others_came s (replicas s.1) ss [] cs h) in
    let none = lost_none ss in
    omega arith
taken_at_most (s ∷ ss) (n ∷ ns) cs small smalls h =
    let one = takes (tally s).available (replicas s.1) n (asked_after s.0 (replicas s.1) cs) smalls.0 (first_came s n ss ns cs h) in
    let rest = taken_at_most ss ns cs small.1 smalls.1 (others_came s n ss ns cs h) in
    omega arith

-- ---- the sets that are made

pub made_joined : (xs ys : List Command) → asked_by_made (xs ++ ys) ≡ asked_by_made xs + asked_by_made ys
made_joined [] ys = omega arith
made_joined (create kind ns d ∷ xs) ys = let e = made_joined xs ys in omega arith
made_joined (update k d ∷ xs) ys = made_joined xs ys
made_joined (update_status k d ∷ xs) ys = made_joined xs ys
made_joined (delete k u v p ∷ xs) ys = made_joined xs ys

pub made_of_first : (n : ℕ) (cs : List Command) → asked_by_made (take n cs) ≤ asked_by_made cs
made_of_first zero cs = omega arith
made_of_first (suc n) [] = omega arith
made_of_first (suc n) (create kind ns d ∷ cs) = let e = made_of_first n cs in omega arith
made_of_first (suc n) (update k d ∷ cs) = made_of_first n cs
made_of_first (suc n) (update_status k d ∷ cs) = made_of_first n cs
made_of_first (suc n) (delete k u v p ∷ cs) = made_of_first n cs

pub none_made : (cs : List Command) → created cs ≡ 0 → asked_by_made cs ≡ 0
none_made [] e = refl
none_made (create kind ns d ∷ cs) e = absurd (omega arith)
none_made (update k d ∷ cs) e = none_made cs e
none_made (update_status k d ∷ cs) e = none_made cs e
none_made (delete k u v p ∷ cs) e = none_made cs e

-- ---- what stays

pub higher_none : (ss : Entries) → higher ss [] ≡ asked_by ss
higher_none [] = refl
higher_none (s ∷ ss) = ap (λ n. replicas s.1 + n) (higher_none ss)

pub fused : (g : Tally → ℕ) (ss : Entries) → map g (map tally ss) ≡ map (λ (s : Key × Data). g (tally s)) ss
fused g [] = refl
fused g (s ∷ ss) = ap (λ ns. g (tally s) ∷ ns) (fused g ss)
