use Rattle.std.proofs.Common.{◌≡◌, ◌++◌, drop, map, not}
use Rattle.std.specs.List.{filter}
use Rattle.std.specs.Str.{bytes_eq}
use Rattle.serde_json.specs.View.{view}
use Rattle.spec_api.specs.Checks.{text_is}
use Rattle.reconciler.proofs.finalizers.other_texts.Given as goal

-- those that stay and those still to be looked at are all others
abbrev pub invariant-loop-item : goal.invariant-loop-item
invariant-loop-item l = map view l.others.items ++ filter (λ d. not (text_is (bytes_eq l.text) d)) (map view (drop l.item-index l.items)) ≡ filter (λ d. not (text_is (bytes_eq l.text) d)) (map view l.items)
