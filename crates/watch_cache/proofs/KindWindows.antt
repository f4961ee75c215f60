-- The windows of all kinds, in a list.
use Rattle.std.proofs.Common.{◌≡◌, ◌≢◌, ◌<◌, ◌==◌, List, length, map, set, get_or, Bool, true, false, cond, Some, option_map, unwrap_or, slice_get, refl, sym, ap, ◌∙◌, subst, arith}
use Rattle.std.proofs.lemmas.Option.{slice_get-map, slice_get-get_or, slice_get_read, slice_get_within, unwrap_or-slice_get}
use Rattle.std.proofs.lemmas.List.{get_or-set_same, get_or-set_other}
use Rattle.spec_api.specs.declared.kinds.Kind.{Kind}
use Rattle.spec_api.specs.Kinds.{kinds, rank, kinds_at}
use Rattle.spec_server.specs.Codes.{window_at}
use Rattle.spec_server.specs.Recorded.{Window, opened}

pub rank_within : (k : Kind) → rank k < length kinds
rank_within k = slice_get_within kinds (rank k) k (kinds_at k)

-- the window that stands at the place of a kind is that of the kind
pub at_place : (ws : List Window) (k : Kind) (w : Window) → length ws ≡ length kinds → w ≡ get_or ws (rank k) w → window_at ws k ≡ w
at_place ws k w long is = ap (λ o. unwrap_or o (opened k 0)) (slice_get_read ws (length kinds) (rank k) w (sym long) (rank_within k) is)

-- where another window is set for a kind, the windows of the others stay
pub at_set : (ws : List Window) (k j : Kind) (w : Window) → length ws ≡ length kinds → window_at (set ws (rank k) w) j ≡ cond (rank j == rank k) w (window_at ws j)
at_set ws k j w long = unwrap_or-slice_get (set ws (rank k) w) (rank j) (opened j 0) ∙ by (rank j == rank k) refl
  where
    by : (b : Bool) → (rank j == rank k) ≡ b → get_or (set ws (rank k) w) (rank j) (opened j 0) ≡ cond b w (window_at ws j)
    by true is =
        let same : rank k ≡ rank j = grind arith in
        subst (λ i. get_or (set ws (rank k) w) i (opened j 0) ≡ w) same (get_or-set_same ws (rank k) w (opened j 0) (omega (arith, long, rank_within k)))
    by false is =
        let other : rank j ≢ rank k = grind arith in
        get_or-set_other ws (rank k) (rank j) w (opened j 0) other ∙ sym (unwrap_or-slice_get ws (rank j) (opened j 0))

-- what is done to each window is done to that of each kind
pub at_each : (f : Window → Window) (ws : List Window) (k : Kind) → length ws ≡ length kinds → window_at (map f ws) k ≡ f (window_at ws k)
at_each f ws k long =
    let there : slice_get ws (rank k) ≡ Some (get_or ws (rank k) (opened k 0)) = slice_get-get_or ws (rank k) (opened k 0) (omega (arith, long, rank_within k)) in
    ap (λ o. unwrap_or o (opened k 0)) (slice_get-map f ws (rank k) ∙ ap (option_map f) there) ∙ sym (ap (λ o. f (unwrap_or o (opened k 0))) there)
