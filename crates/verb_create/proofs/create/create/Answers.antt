use Rattle.std.proofs.Common.{◌≡◌, ◌+◌, ◌∙◌, Ok, Err, None, sym, ap, subst}
use Rattle.std.proofs.lemmas.Result.{err_from_is_err_and}
use Rattle.spec_api.specs.Checks.{create_fault}
use Rattle.spec_api.specs.Defaults.{defaulted}
use Rattle.spec_api.specs.Metadata.{at_revision, metadata_of}
use Rattle.spec_api.specs.NewObjects.{created, new_metadata, with_first_status}
use Rattle.spec_api.proofs.VerbSteps.{create_read}
use Rattle.spec_api.proofs.FirstStatus.{metadata_of-first}
use Rattle.object_keys.specs.Keys.{key_of}
use Rattle.verb_parts.specs.Serves.{Serves}
use Rattle.validate.specs.Faults.{RefusesField}
use Rattle.verb_create.proofs.Creates.{create-placed, create-refused}
use Rattle.verb_create.proofs.create.create.Goals as goal

pub returns : goal.returns
returns c =
    let r = c.args.store.now.revision in
    let ms = c.args.store.now.members in
    let ns = c.args.namespace.now in
    let k = key_of c.in_ok-key.key in
    let o = c.in_ok-object-2.object in
    let first = c.in_ok-object-3.object in
    let filled : o.value ≡ defaulted c.args.kind c.in_ok-object.object.value = c.in_ok-object-2.ensures.value ∙ ap (λ kind. defaulted kind c.in_ok-object.object.value) c.in_ok-object.ensures.kind in
    let kinds : c.args.kind ≡ k.kind = sym (ap (λ n. n.kind) c.in_ok-key.ensures) in
    let same : first.kind ≡ k.kind = c.in_ok-object-3.ensures.kind ∙ c.in_ok-object-2.ensures.kind ∙ c.in_ok-object.ensures.kind ∙ kinds in
    let begins : first.value ≡ with_first_status k.kind o.value = c.in_ok-object-3.ensures.value ∙ ap (λ kind. with_first_status kind o.value) kinds in
    let valid : create_fault k.kind k.name r (with_first_status k.kind o.value) ≡ None =
    ap (create_fault k.kind k.name r) (sym begins) ∙ ap (λ kind. create_fault kind k.name r first.value) (sym same) ∙ ap (λ n. create_fault first.kind k.name n first.value) (sym c.revision.ensures.value)
    ∙ c.in_ok-check_create.ensures.valid
    in
    let made : c.in_ok-object-4.object.value ≡ created k.kind (r + 1) k.namespace k.name c.args.moment o.value =
    c.in_ok-object-4.ensures
    ∙ ap (λ n. at_revision (n + 1) (new_metadata k.kind (n + 1) k.namespace k.name c.args.moment (metadata_of first.value)) first.value) c.revision-2.ensures.value
    ∙ ap (λ d. at_revision (r + 1) (new_metadata k.kind (r + 1) k.namespace k.name c.args.moment (metadata_of d)) d) begins
    ∙ ap (λ meta. at_revision (r + 1) (new_metadata k.kind (r + 1) k.namespace k.name c.args.moment meta) (with_first_status k.kind o.value)) (metadata_of-first k.kind o.value)
    in
    rw c.in_ok-object.ensures.read
    (subst (λ d. Serves (create_read c.args.kind ns (Ok d) ms r c.args.moment) c.create_as.result) filled
    (create-placed c.args.kind ns o.value ms r c.args.moment k c.in_ok-object-4.object.value c.create_as.result (sym c.is_misplaced.ensures ∙ c.if-is_misplaced.false) c.in_ok-key.ensures valid made c.create_as.ensures))

pub returns-in_err-check_create : goal.returns-in_err-check_create
returns-in_err-check_create c =
    let r = c.args.store.now.revision in
    let ms = c.args.store.now.members in
    let ns = c.args.namespace.now in
    let k = key_of c.in_ok-key.key in
    let o = c.in_ok-object-2.object in
    let first = c.in_ok-object-3.object in
    let e = c.in_err-check_create.field-0.0 in
    let filled : o.value ≡ defaulted c.args.kind c.in_ok-object.object.value = c.in_ok-object-2.ensures.value ∙ ap (λ kind. defaulted kind c.in_ok-object.object.value) c.in_ok-object.ensures.kind in
    let kinds : c.args.kind ≡ k.kind = sym (ap (λ n. n.kind) c.in_ok-key.ensures) in
    let same : first.kind ≡ k.kind = c.in_ok-object-3.ensures.kind ∙ c.in_ok-object-2.ensures.kind ∙ c.in_ok-object.ensures.kind ∙ kinds in
    let begins : first.value ≡ with_first_status k.kind o.value = c.in_ok-object-3.ensures.value ∙ ap (λ kind. with_first_status kind o.value) kinds in
    let found : create_fault first.kind k.name c.revision.result first.value ≡ create_fault k.kind k.name r (with_first_status k.kind o.value) =
    ap (λ n. create_fault first.kind k.name n first.value) c.revision.ensures.value ∙ ap (λ kind. create_fault kind k.name r first.value) same ∙ ap (create_fault k.kind k.name r) begins
    in
    let why : RefusesField k (create_fault k.kind k.name r (with_first_status k.kind o.value)) e = subst (λ f. RefusesField k f e) found c.in_err-check_create.ensures.invalid in
    let refused : Serves (create_read c.args.kind ns (Ok o.value) ms r c.args.moment) (Err e) =
    create-refused c.args.kind ns o.value ms r c.args.moment k e (sym c.is_misplaced.ensures ∙ c.if-is_misplaced.false) c.in_ok-key.ensures why
    in
    let p = err_from_is_err_and c.from_residual-in_err-check_create.result c.from_residual-in_err-check_create.ensures.1 in
    rw (c.in_ok-object.ensures.read, p.1, p.2) (subst (λ d. Serves (create_read c.args.kind ns (Ok d) ms r c.args.moment) (Err e)) filled refused)
