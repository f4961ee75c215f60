-- What a publish leaves.
use Rattle.std.proofs.Common.{◌≡◌, ◌<◌, List, [], ◌∷◌, ◌++◌, length, fold, sym, ap, ◌∙◌, subst}
use Rattle.std.specs.declared.sync.Arc.{Arc}
use Rattle.spec_client_go.specs.Informers.{all_applied}
use Rattle.reflector.specs.Deltas.{deltas_of}
use Rattle.reflector.specs.declared.deltas.Delta.{Delta}
use Rattle.informer.specs.declared.published.Published.{Published}
use Rattle.informer.specs.declared.views.MapView.{MapView}
use Rattle.informer.specs.Published.{with_shared, with_batch, IsAfter}
use Rattle.informer.specs.Knowing.{knowing, latest}
use Rattle.informer.proofs.Keeps.{Says, folded_as, after_more, with_some}

module _ {A : Type 0} (x y : Published) (v w : MapView) (ps : List (Arc Delta A)) (ms : List Delta) where
  pub after_batch : Says ps ms → 0 < length ms → IsAfter (latest v) x → y ≡ fold with_shared x ps → w ≡ knowing (latest v ++ ms ∷ []) → IsAfter (latest w) y
  after_batch says filled mine is knows = subst (λ (u : MapView). IsAfter (latest u) y) (sym knows) (subst (IsAfter (latest v ++ ms ∷ [])) (sym is) (after_more (latest v) ms ps x says filled mine))

  pub published_batch : (ws : List Delta) → Says ps ms → ms ≡ ws → 0 < length ws → y ≡ fold with_shared x ps → w ≡ knowing (latest v ++ ms ∷ []) → (y.indexed ≡ all_applied x.indexed (deltas_of ws)) × (latest w ≡ with_batch (latest v) ws)
  published_batch ws says all filled is knows = (ap (λ (p : Published). p.indexed) is ∙ folded_as ps ms x says ∙ ap (λ ds. all_applied x.indexed (deltas_of ds)) all, ap latest knows ∙ ap (λ ds. latest v ++ ds ∷ []) all ∙ sym (with_some (latest v) ws filled))
