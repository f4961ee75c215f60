-- The keys that are due: those whose moment has come, in their order, as keys of any type are.
use Rattle.std.proofs.Common.{List, Contains, ◌↔◌, subst, ◌∙◌}
use Rattle.spec_client_go.specs.WorkQueues.{WorkKey, work_key_cmp}
use Rattle.spec_client_go.proofs.DueKeys as keys
use Rattle.spec_client_go.proofs.WorkDelays.{same_due}
use Rattle.spec_client_go.proofs.WorkKeyOrder.{work_key_total, work_key_tells}
use Rattle.spec_laws.specs.DueLaws.{IsDue, AreInTurn, DueHaveCome, DueAreInTurn, DueAreTheOnlyList, StillDelayedAreLater}

pub have_come : DueHaveCome
have_come now m k = subst (λ (ks : List WorkKey). Contains ks k ↔ IsDue now m k) (same_due now m) (keys.have_come work_key_cmp work_key_total work_key_tells now m k)

pub in_turn : DueAreInTurn
in_turn now m = subst (AreInTurn m) (same_due now m) (keys.in_turn work_key_cmp work_key_total work_key_tells now m)

pub only_list : DueAreTheOnlyList
only_list now m ks are turn = keys.only_list work_key_cmp work_key_total work_key_tells now m ks are turn ∙ same_due now m

pub still_later : StillDelayedAreLater
still_later = keys.still_later work_key_cmp work_key_total work_key_tells
