use Rattle.std.proofs.Common.{◌≡◌, List, [], ◌∷◌, take, map, refl, sym, ap, ◌∙◌, arith}
use Rattle.std.proofs.lemmas.List.{take_all}
use Rattle.serde_json.specs.Data.{Data}
use Rattle.serde_json.specs.View.{view, items_of}
use Rattle.spec_api.specs.Metadata.{owner, owners_in}
use Rattle.meta.proofs.owners.owners_in.Goals as goal

owners_in-items_of : (ds : List Data) → owners_in (items_of ds) ≡ map owner ds
owners_in-items_of [] = refl
owners_in-items_of (d ∷ ds) = rw (owners_in-items_of ds)

pub returns : goal.returns
returns c =
    let all : take c.loop-item.item-index c.args.items.now.items ≡ c.args.items.now.items = grind (arith, take_all) in
    c.loop-item.invariant ∙ ap (λ vs. map owner (map view vs)) all ∙ sym (owners_in-items_of (map view c.args.items.now.items))
