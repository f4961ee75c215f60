use Rattle.std.proofs.Common.{◌≡◌, ◌+◌, ◌++◌, true, false, string_bytes, ap, subst, ◌∙◌, arith}
use Rattle.spec_api.specs.GeneratedNames.{suffix, made, made_name}
use Rattle.spec_api.specs.Verbs.{is_free}
use Rattle.verb_create.proofs.MadeNames.{Left, begins, taken, free, none_free, says_free}
use Rattle.verb_create.proofs.made_names.made_key.Goals as goal

pub loop-tries-init : goal.loop-tries-init
loop-tries-init c = begins (is_free c.args.kind c.args.namespace.now c.args.store.now.members) c.args.given.now (c.revision-first.result + 1)

pub loop-tries-preserved : goal.loop-tries-preserved
loop-tries-preserved c =
    let ms = c.args.store.now.members in
    let first = c.revision-first.result + 1 in
    let name = string_bytes c.in_ok-key.key.name in
    let named : name ≡ made c.args.given.now (first + c.loop-tries.tries) = c.in_ok-key.ensures.name ∙ ap (λ b. b ++ suffix 5 (first + c.loop-tries.tries)) (c.as_str-base.ensures.value ∙ c.in_ok-base.ensures) in
    let says : is_free c.args.kind c.args.namespace.now ms name ≡ false =
    says_free c.in_ok-key.key.kind c.args.kind (string_bytes c.in_ok-key.key.namespace) c.args.namespace.now name ms c.is_free.result false c.in_ok-key.ensures.kind c.in_ok-key.ensures.namespace c.is_free.ensures c.if-is_free.false in
    taken (is_free c.args.kind c.args.namespace.now ms) c.args.given.now name first c.loop-tries.tries c.loop-tries-test.true named says c.loop-tries.invariant

pub returns-then-is_free-clause-name : goal.returns-then-is_free-clause-name
returns-then-is_free-clause-name c =
    let ms = c.args.store.now.members in
    let first = c.revision-first.result + 1 in
    let name = string_bytes c.in_ok-key.key.name in
    let named : name ≡ made c.args.given.now (first + c.loop-tries.tries) = c.in_ok-key.ensures.name ∙ ap (λ b. b ++ suffix 5 (first + c.loop-tries.tries)) (c.as_str-base.ensures.value ∙ c.in_ok-base.ensures) in
    let says : is_free c.args.kind c.args.namespace.now ms name ≡ true =
    says_free c.in_ok-key.key.kind c.args.kind (string_bytes c.in_ok-key.key.namespace) c.args.namespace.now name ms c.is_free.result true c.in_ok-key.ensures.kind c.in_ok-key.ensures.namespace c.is_free.ensures c.if-is_free.true in
    free (is_free c.args.kind c.args.namespace.now ms) c.args.given.now name first c.loop-tries.tries c.loop-tries-test.true named says c.loop-tries.invariant
    ∙ ap (λ r. made_name (is_free c.args.kind c.args.namespace.now ms) c.args.given.now (r + 1)) c.revision-first.ensures.value

pub returns-clause-name : goal.returns-clause-name
returns-clause-name c =
    let ms = c.args.store.now.members in
    let first = c.revision-first.result + 1 in
    let name = string_bytes c.in_ok-key-2.key.name in
    let named : name ≡ made c.args.given.now first = c.in_ok-key-2.ensures.name ∙ ap (λ b. b ++ suffix 5 first) (c.as_str-base.ensures.value ∙ c.in_ok-base.ensures) in
    let all : c.loop-tries.tries ≡ 8 = omega (arith, c.loop-tries-test.false, c.loop-tries.auto.tries-end) in
    none_free (is_free c.args.kind c.args.namespace.now ms) c.args.given.now name first named (subst (Left (is_free c.args.kind c.args.namespace.now ms) c.args.given.now first) all c.loop-tries.invariant)
    ∙ ap (λ r. made_name (is_free c.args.kind c.args.namespace.now ms) c.args.given.now (r + 1)) c.revision-first.ensures.value
