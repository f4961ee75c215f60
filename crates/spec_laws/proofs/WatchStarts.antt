-- Watches that begin after the present revision, and streams that no bookmark closes.
use Rattle.std.proofs.Common.{zero, suc, ◌≡◌, ◌+◌, ℕ, List, [], Bool, true, false, Some, None, Ok, refl, ap, ◌∙◌, arith, take, append-nil}
use Rattle.std.specs.Result.{result_map_both}
use Rattle.std.proofs.lemmas.Bool.{le-ltb, le-leb}
use Rattle.std.proofs.lemmas.List.{take_all}
use Rattle.std.specs.Prelude.{nat_le}
use Rattle.spec_api.specs.Events.{Event}
use Rattle.spec_api.specs.History.{present, list}
use Rattle.spec_api.specs.Streams.{added_lines}
use Rattle.spec_api.specs.Versions.{watched}
use Rattle.spec_api.specs.WatchReplies.{told_lines}
use Rattle.spec_api.specs.Windows.{floor, within}
use Rattle.spec_laws.proofs.Looks.{none_at}
use Rattle.spec_laws.proofs.ServedWindows.{within_is}
use Rattle.spec_laws.specs.StreamLaws.{PresentStartsAreEmpty, UnclosedStreamsAreLists}

abbrev the_none : List Event
the_none = []

none_of : (n : ℕ) → take n the_none ≡ the_none
none_of n = take_all n the_none (omega arith)

nothing_told : (bookmarks : Bool) (a : ℕ) → told_lines bookmarks a (record { events = []; stands = a }) ≡ []
nothing_told false a = refl
nothing_told true a = rw (le-ltb a a (omega arith)) refl

watched_none : (a n : ℕ) (b : Bool) → nat_le 0 n ≡ b → b ≡ true → watched a a n [] ≡ record { events = []; stands = a }
watched_none a n true m t = rw (none_of n, m) refl
watched_none a n false m t = cc

pub present_empty : PresentStartsAreEmpty
present_empty size h v bookmarks le =
    ap (λ es. result_map_both (told_lines bookmarks (present h)) (λ f. f) (result_map_both (watched (present h) (present h) (present h)) (λ f. f) (within (floor v.kind size h) (present h) (present h) (take (present h + 1) es)))) (none_at h v (present h))
    ∙ (ap (λ es. result_map_both (told_lines bookmarks (present h)) (λ f. f) (result_map_both (watched (present h) (present h) (present h)) (λ f. f) (within (floor v.kind size h) (present h) (present h) es))) (none_of (present h + 1))
    ∙ (ap (λ es. result_map_both (told_lines bookmarks (present h)) (λ f. f) (result_map_both (watched (present h) (present h) (present h)) (λ f. f) es)) (within_is (floor v.kind size h) (present h) (present h) [] le (omega arith))
    ∙ (ap (λ w. Ok (told_lines bookmarks (present h) w)) (watched_none (present h) (present h) (nat_le 0 (present h)) refl (le-leb 0 (present h) (omega arith)))
    ∙ ap Ok (nothing_told bookmarks (present h)))))

pub unclosed : UnclosedStreamsAreLists
unclosed size h v = ap Ok (append-nil (added_lines (list h v (present h))))
