use Rattle.std.proofs.Common.{◌≡◌, ◌+◌, ℕ, List, length, Option, Some, None, refl, sym, ap, ◌∙◌, Bor}
use Rattle.std.proofs.lemmas.Option.{slice_get_past, slice_get_read}
use Rattle.std.specs.List.{slice_get}
use Rattle.std.specs.Option.{option_copied}
use Rattle.std.specs.Slice.{IsItemAt}
use Rattle.spec_api.specs.declared.kinds.Kind.{Kind}
use Rattle.spec_api.specs.Kinds.{kinds}
use Rattle.spec_api.proofs.kinds.Kind.next.Goals as goal

-- what is lent of a place in a list is what stands there
copied_at : (r : Option (Bor Kind)) (ks : List Kind) (i : ℕ) → IsItemAt ks i r → option_copied r ≡ slice_get ks i
copied_at None ks i at = sym (slice_get_past ks i at.3)
copied_at (Some k) ks i at = sym (slice_get_read ks (length ks) i k.now refl at.3.0 at.1)

pub returns : goal.returns
returns c = c.copied.ensures ∙ copied_at c.get.result kinds (c.rank.result + 1) c.get.ensures.lookup ∙ ap (λ n. slice_get kinds (n + 1)) c.rank.ensures
