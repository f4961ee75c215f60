use Rattle.std.proofs.Common.{rules, tests, ◌&&◌, ◌∙◌}
use Rattle.std.proofs.lemmas.Iterator.{YieldsList-from_slice}
use Rattle.std.proofs.lemmas.Iterator.Search.{find_from_yields_List}
use Rattle.std.specs.Str.{bytes_eq}
use Rattle.spec_api.specs.Kinds.{kinds, text_of_group, group_name, plural}
use Rattle.spec_api.proofs.kinds.Group.kind_with_plural.Goals as goal

pub returns : goal.returns
returns c =
    c.copied.ensures
    ∙ find_from_yields_List (λ k. bytes_eq (text_of_group c.args.self) (group_name k) && bytes_eq c.args.plural.now (plural k)) _ _ _ c.find.ensures.ran (YieldsList-from_slice kinds cc) (λ x b q k. search (rules, tests))
