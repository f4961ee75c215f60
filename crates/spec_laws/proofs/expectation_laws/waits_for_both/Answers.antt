use Rattle.spec_client_go.proofs.Expected.{after_one, after_both}
use Rattle.spec_laws.proofs.expectation_laws.waits_for_both.Goals as goal

pub returns : goal.returns
returns c = record { waits = λ o t. after_one o 300000 t; is_patient = λ o t. after_one o 300001 t; is_over = after_both }
