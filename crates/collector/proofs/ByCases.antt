-- Commands by cases, each a Boolean.
use Rattle.std.proofs.Common.{◌≡◌, List, [], Bool, true, false, cond, not, ◌&&◌, refl, sym, ap, ◌∙◌, Some}
use Rattle.serde_json.specs.Data.{Data}
use Rattle.spec_api.specs.Metadata.{is_being_deleted}
use Rattle.spec_client_go.specs.Commands.{Command}
use Rattle.spec_client_go.specs.Hands.{Hand, live}
use Rattle.spec_reconcile.specs.GarbageCollection.{finish, collect, plan_for, plan}
use Rattle.spec_reconcile.specs.Standings.{dependents}

-- with the second finalizer alone
pub waited : (o f b : Bool) (x y : List Command) → o ≡ false → f ≡ true → cond b [] y ≡ cond o x (cond (f && not b) y [])
waited false true true x y p q = refl
waited false true false x y p q = refl
waited false false b x y p q = cc
waited true f b x y p q = cc

-- with neither
pub neither : (o f b : Bool) (x y : List Command) → o ≡ false → f ≡ false → [] ≡ cond o x (cond (f && not b) y [])
neither false false b x y p q = refl
neither false true b x y p q = cc
neither true f b x y p q = cc

-- the second of three
pub second : (a b : Bool) (x y z : List Command) → a ≡ false → b ≡ true → y ≡ cond a x (cond b y z)
second false true x y z p q = refl
second false false x y z p q = cc
second true b x y z p q = cc

pub not_taken : (b : Bool) (x y : List Command) → b ≡ false → y ≡ cond b x y
not_taken false x y p = refl
not_taken true x y p = cc

-- the plan of what is not being deleted
pub planned : (h : Hand) (d : Data) → live h.reads h.key ≡ Some d → is_being_deleted d ≡ false → collect h.reads h.key d (dependents h.looks d) ≡ plan h
planned h d at lives =
    not_taken (is_being_deleted d) (finish h.key d (dependents h.looks d)) (collect h.reads h.key d (dependents h.looks d)) lives ∙ ap (plan_for h) (sym at)
