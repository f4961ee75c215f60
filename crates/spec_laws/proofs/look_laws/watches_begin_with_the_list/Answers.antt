use Rattle.spec_laws.proofs.Looks.{list_comes_first}
use Rattle.spec_laws.proofs.look_laws.watches_begin_with_the_list.Goals as goal

pub returns : goal.returns
returns c = list_comes_first
