-- A create, from what its steps are told.
use Rattle.std.specs.Prelude.{◌≡◌, ◌+◌, ℕ, List, Option, None, Result, Ok, Err, false, is_some, ◌||◌}
use Rattle.std.proofs.Common.{subst, sym, ap, ◌∙◌, refl, inl, inr}
use Rattle.serde_json.specs.Data.{Data}
use Rattle.spec_api.specs.declared.kinds.Kind.{Kind}
use Rattle.spec_api.specs.declared.refusals.Field.{Field}
use Rattle.spec_api.specs.Checks.{create_fault}
use Rattle.spec_api.specs.History as history
use Rattle.spec_api.specs.Metadata as metadata
use Rattle.spec_api.specs.Metadata.{is_other}
use Rattle.spec_api.specs.Keys.{Key}
use Rattle.spec_api.specs.Refusals.{invalid}
use Rattle.spec_api.specs.Verbs.{Outcome, refused, refuse_field, new_name}
use Rattle.spec_api.proofs.VerbSteps.{create_read, create_checked, create_as}
use Rattle.spec_api.specs.NewObjects.{created, with_first_status}
use Rattle.object_keys.specs.declared.fault.Fault.{Fault}
use Rattle.object_keys.specs.declared.fault.Fault.TheVariants as fault
use Rattle.meta.specs.declared.writes.Write.{Write}
use Rattle.reply.specs.declared.reply.Reply.{Reply}
use Rattle.validate.specs.Faults.{RefusesField}
use Rattle.verb_parts.specs.Serves.{Serves}

abbrev Served : Type 0
Served = Result (Reply × Option Write) Fault

-- what is not misplaced is checked under its key
at_key : (kind : Kind) (ns : List ℕ) (o : Data) (ms : history.Entries) (r : ℕ) (moment : List ℕ) (k : Key) (result : Served) → (is_other (metadata.namespace o) ns || is_some (metadata.version o)) ≡ false
    → k ≡ new_name kind ns o ms r → Serves (create_checked k o ms r moment) result → Serves (create_read kind ns (Ok o) ms r moment) result
at_key kind ns o ms r moment k result placed key serves = rw placed (subst (λ n. Serves (create_checked n o ms r moment) result) key serves)

-- where no field is at fault it is created
pub create-placed : (kind : Kind) (ns : List ℕ) (o : Data) (ms : history.Entries) (r : ℕ) (moment : List ℕ) (k : Key) (d : Data) (result : Served)
    → (is_other (metadata.namespace o) ns || is_some (metadata.version o)) ≡ false → k ≡ new_name kind ns o ms r → create_fault k.kind k.name r (with_first_status k.kind o) ≡ None
    → d ≡ created k.kind (r + 1) k.namespace k.name moment o → Serves (create_as k d ms r) result → Serves (create_read kind ns (Ok o) ms r moment) result
create-placed kind ns o ms r moment k d result placed key valid made serves =
    at_key kind ns o ms r moment k result placed key (rw valid (subst (λ e. Serves (create_as k e ms r) result) made serves))

refused-field : (k : Key) (found : Option Field) (next : Outcome) (e : Fault) → RefusesField k found e → Serves (refuse_field k found next) (Err e)
refused-field k found next (fault.Invalid key f) h = inr (ap (λ o. refuse_field k o next) h.1 ∙ ap (λ n. refused (invalid n f)) (sym h.0))
refused-field k found next fault.NoMemory h = inl refl
refused-field k found next e h = absurd h

-- the fault that is found refuses it
pub create-refused : (kind : Kind) (ns : List ℕ) (o : Data) (ms : history.Entries) (r : ℕ) (moment : List ℕ) (k : Key) (e : Fault)
    → (is_other (metadata.namespace o) ns || is_some (metadata.version o)) ≡ false → k ≡ new_name kind ns o ms r
    → RefusesField k (create_fault k.kind k.name r (with_first_status k.kind o)) e → Serves (create_read kind ns (Ok o) ms r moment) (Err e)
create-refused kind ns o ms r moment k e placed key why =
    at_key kind ns o ms r moment k (Err e) placed key (refused-field k (create_fault k.kind k.name r (with_first_status k.kind o)) (create_as k (created k.kind (r + 1) k.namespace k.name moment o) ms r) e why)
