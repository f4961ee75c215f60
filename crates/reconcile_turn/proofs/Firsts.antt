-- The first of what is left of a list.
use Rattle.std.proofs.Common.{◌≡◌, ◌∙◌, ◌<◌, ℕ, zero, suc, List, [], ◌∷◌, length, get_or, map, drop, Option, Some, option_map, Bool, true, refl, ap}
use Rattle.std.proofs.lemmas.Option.{slice_get_read}
use Rattle.std.specs.List.{slice_get}
use Rattle.spec_sim.specs.NextSteps.{first, issuing}
use Rattle.reconcile_types.specs.Commands.{command_of}
use Rattle.reconcile_types.specs.declared.commands.Command.{Command}

pub first_left : {A B : Type 0} (f : A → B) (xs : List A) (n : ℕ) → first (drop n (map f xs)) ≡ option_map f (slice_get xs n)
first_left f [] zero = refl
first_left f [] (suc n) = refl
first_left f (x ∷ xs) zero = refl
first_left f (x ∷ xs) (suc n) = first_left f xs n

pub first_left_as : {A B : Type 0} (f : A → B) (xs : List A) (n : ℕ) (o : Option A) → slice_get xs n ≡ o → first (drop n (map f xs)) ≡ option_map f o
first_left_as f xs n o at = first_left f xs n ∙ ap (option_map f) at

pub issued_at : (b : Bool) (cs ys : List Command) (n : ℕ) (c : Command) → b ≡ true → ys ≡ cs → n < length ys → c ≡ get_or ys n c → issuing b (drop n (map command_of cs)) ≡ Some (command_of c)
issued_at b cs ys n c accepted same within at =
    let e : slice_get ys n ≡ Some c = slice_get_read ys (length ys) n c refl within at in
    rw accepted (first_left_as command_of cs n (Some c) (rw same at e))
