use Rattle.spec_api.proofs.PageLists.{lists_are_in_place}
use Rattle.spec_laws.proofs.page_laws.lists_are_in_place.Goals as goal

pub returns : goal.returns
returns c = lists_are_in_place
