-- An informer, and the deltas that made what it has published.
use Rattle.std.specs.Prelude.{◌≡◌, List, []}
use Rattle.spec_client_go.specs.Informers as informers
use Rattle.reflector.specs.Deltas.{deltas_of}
use Rattle.reflector.specs.declared.deltas.Delta.{Delta}
use Rattle.informer.specs.Copies.{shown, batches_shown, deltas_waiting}
use Rattle.informer.specs.Published.{all_of}
use Rattle.informer.specs.declared.informers.Informer.{Informer}

-- what it has published, and the deltas that wait to be
abbrev pub informer_of : Informer → informers.Informer
informer_of i = record { published = shown i.copies; pending = deltas_of (deltas_waiting i.copies) }

-- all that was published until now: the deltas of each publish are a batch, which was published at once
abbrev pub published_batches : Informer → List (List Delta)
published_batches i = batches_shown i.copies

-- all deltas that were published until now
abbrev pub published_deltas : Informer → List Delta
published_deltas i = all_of (published_batches i)

-- the deltas that wait
abbrev pub pending_deltas : Informer → List Delta
pending_deltas i = deltas_waiting i.copies

-- nothing was published, and nothing waits to be
abbrev pub IsNew : Informer → Type 0
IsNew i = (informer_of i ≡ informers.begun) × (published_batches i ≡ [])

-- nothing has changed
abbrev pub IsSame : Informer → Informer → Type 0
IsSame i j = (informer_of j ≡ informer_of i) × (published_batches j ≡ published_batches i) × (pending_deltas j ≡ pending_deltas i)
