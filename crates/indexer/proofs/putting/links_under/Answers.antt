use Rattle.std.proofs.Common.{◌≡◌, ◌∙◌, ap, map, subst, option_map, Option, Some, IfOk}
use Rattle.serde_json.specs.Data.{Data}
use Rattle.object_keys.specs.Keys.{key_of}
use Rattle.indexer.specs.Links.{link_of, links_at}
use Rattle.reflector.proofs.SeenMaps.{data_of}
use Rattle.indexer.proofs.SeenMaps.{seen-lookup}
use Rattle.indexer.proofs.putting.links_under.Goals as goal

pub returns-in-Some : goal.returns-in-Some
returns-in-Some c =
    subst (λ (w : Option Data). IfOk c.links_of.result (λ v. map link_of v.items ≡ links_at (key_of c.args.key.now) w))
    (ap (λ o. Some o.value) c.object.ensures ∙ ap (option_map data_of) c.in-Some.ensures ∙ seen-lookup c.args.objects.now c.args.key.now) c.links_of.ensures

pub returns-in-None : goal.returns-in-None
returns-in-None c =
    ap (map link_of) c.new.ensures.items ∙ ap (links_at (key_of c.args.key.now)) (ap (option_map data_of) c.in-None.ensures ∙ seen-lookup c.args.objects.now c.args.key.now)
