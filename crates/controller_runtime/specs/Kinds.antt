-- Which kinds are followed, and how the server is asked for each.
use Rattle.std.specs.Prelude.{ℕ, List, [], ◌∷◌, length, filter, Option, Some, None, is_some}
use Rattle.spec_api.specs.Kinds.{kinds}
use Rattle.object_keys.specs.PerKind.{of_kind, with_kind, each_kind}
use Rattle.object_keys.specs.declared.per_kind.PerKind.{PerKind}
use Rattle.controller_runtime.specs.declared.followed.Followed.{Followed}

abbrev pub none_followed : {A : Type 0} → PerKind (Option A)
none_followed = each_kind (λ k. None)

-- those that are named later are put first, so that what is named first stays
abbrev pub with_named : {A : Type 0} → PerKind (Option A) → List (Followed A) → PerKind (Option A)
with_named l [] = l
with_named l (f ∷ fs) = with_kind f.kind (Some f.api) (with_named l fs)

-- each kind is asked for as the first says that names it, and one that none names not at all
abbrev pub apis_named : {A : Type 0} → List (Followed A) → PerKind (Option A)
apis_named fs = with_named none_followed fs

-- how many kinds are asked for
abbrev pub kinds_in : {A : Type 0} → PerKind (Option A) → ℕ
kinds_in l = length (filter (λ k. is_some (of_kind k l)) kinds)
