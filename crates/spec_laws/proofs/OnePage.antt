-- A list without options is one page.
use Rattle.std.proofs.Common.{◌≡◌, ℕ, List, None, refl, ap}
use Rattle.spec_api.specs.History.{History, View, present, list}
use Rattle.spec_api.specs.Lists.{list_outcome}
use Rattle.spec_api.specs.Verbs.{answered, list_body, accept}
use Rattle.spec_api.specs.ObjectRequests.{list_objects}
use Rattle.spec_api.proofs.PageLists.{all_after}
use Rattle.spec_laws.specs.ReplyLaws.{newest, ListsAreOnePage}

as_listed : (size : ℕ) (h : History) (v : View) (moment : List ℕ) → list_outcome size h v newest ≡ accept (list_objects v) h moment
as_listed size h v moment =
    ap (λ ms. answered (record { code = 200; body = list_body v.kind (present h) ms; write = None })) (all_after (list h v (present h)))

pub one_page : ListsAreOnePage
one_page = record { body = λ k r count ms. refl; outcome = as_listed }
