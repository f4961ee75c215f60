use Rattle.std.proofs.Common.{◌≡◌, refl, sym, ap, ◌∙◌, subst, Some, None, Option, option_and_then, List, ℕ, codes, Fits, w8, get_or, arith}
use Rattle.matchit.specs.Router.{RouteOf}
use Rattle.matchit.specs.Params.{walk, named, AllText}
use Rattle.matchit.specs.Seek.{first}
use Rattle.spec_api.specs.Targets.{segments}
use Rattle.spec_api.proofs.PathForms.{Form, form_of, route_of, by_form}
use Rattle.request_parts.specs.Table.{table}
use Rattle.request_parts.specs.RoutesSeen.{assembled}
use Rattle.request_parts.specs.declared.entries.RouteEntry.{RouteEntry}
use Rattle.request_parts.proofs.Plain.{AreBytes}
use Rattle.request_parts.proofs.PathTexts.{Reads, reads, bytes-from, now-of, assembled-reads, texts-reads}
use Rattle.request_parts.proofs.table.Routes.read.Goals as goal

none : (path : List ℕ) (o : Option Form) → Reads path None o → None ≡ option_and_then route_of o
none path None h = refl
none path (Some x) h = absurd h

pub returns-in_default : goal.returns-in_default
returns-in_default c =
    let path = c.args.path.now in
    let bytes : AreBytes path = bytes-from path (λ i. let f : Fits w8 (get_or path i 0) = c.type_inv.path i in omega arith) in
    let h : Reads path (first table path) (form_of (segments path)) = reads path bytes c.utf8.path in
    let e : first table path ≡ None = ap (λ z. first z path) (sym c.args.self.now.whole) ∙ c.in_default.ensures.missing in
    let P : Option (RouteOf RouteEntry) → Type 0 = λ z. Reads path z (form_of (segments path)) in
    none path (form_of (segments path)) (subst P e h) ∙ sym (by_form path)

pub returns : goal.returns
returns c =
    let path = c.args.path.now in
    let found = c.in-Ok.found in
    let bytes : AreBytes path = bytes-from path (λ i. let f : Fits w8 (get_or path i 0) = c.type_inv.path i in omega arith) in
    let h : Reads path (first table path) (form_of (segments path)) = reads path bytes c.utf8.path in
    let r : RouteOf RouteEntry = record { pattern = found.params.pattern.now; text = found.params.text.now; names = found.params.names.now; value = found.value.now } in
    let e : first table path ≡ Some r = ap (λ z. first z path) (sym c.args.self.now.whole) ∙ c.in-Ok.ensures.found in
    let P : Option (RouteOf RouteEntry) → Type 0 = λ z. Reads path z (form_of (segments path)) in
    let known : Reads path (Some r) (form_of (segments path)) = subst P e h in
    let same : found.params.path.now ≡ path = c.in-Ok.ensures.path in
    let moved : walk r.pattern r.text path r.names 0 0 ≡ walk r.pattern r.text found.params.path.now r.names 0 0 = ap (λ z. walk r.pattern r.text z r.names 0 0) (sym same) in
    let texts : AllText (walk r.pattern r.text found.params.path.now r.names 0 0) = subst AllText moved (texts-reads path r (form_of (segments path)) known) in
    let a = now-of c.get-resource.result (named (codes "resource") (walk r.pattern r.text found.params.path.now r.names 0 0)) (c.get-resource.ensures texts) in
    let b = now-of c.get-namespace.result (named (codes "namespace") (walk r.pattern r.text found.params.path.now r.names 0 0)) (c.get-namespace.ensures texts) in
    let d = now-of c.get-name.result (named (codes "name") (walk r.pattern r.text found.params.path.now r.names 0 0)) (c.get-name.ensures texts) in
    c.assemble.ensures
    ∙ (λ i. assembled found.value.now (a i) (b i) (d i))
    ∙ (λ i. assembled found.value.now (named (codes "resource") (sym moved i)) (named (codes "namespace") (sym moved i)) (named (codes "name") (sym moved i)))
    ∙ assembled-reads path r (form_of (segments path)) known
    ∙ sym (by_form path)
