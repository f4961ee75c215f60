use Rattle.std.proofs.Common.{length, refl, nat_le, nat_eq}
use Rattle.spec_api.specs.Pages.{after_place}
use Rattle.spec_api.proofs.PageLists.{adds_up}
use Rattle.spec_laws.proofs.page_laws.remainders_add_up.Goals as goal

pub returns : goal.returns
returns c = λ ms n p. adds_up ms n p (nat_eq n 0) (nat_le (length (after_place p ms)) n) refl refl
