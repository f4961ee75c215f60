use Rattle.std.proofs.Common.{◌≡◌, ◌+◌, ◌++◌, [], ◌∷◌, map, drop, Some, sym, ap, ◌∙◌, append_assoc}
use Rattle.std.specs.Prelude.{slice_get}
use Rattle.std.proofs.lemmas.Result.{on_ok_weaker}
use Rattle.std.specs.Option.{option_copied}
use Rattle.watch_cache.specs.Changes.{change_seen}
use Rattle.watch_cache.proofs.Rising.{drop_at, not_none}
use Rattle.watch_cache.proofs.copies.push_at.Goals as goal

pub returns-in-Some : goal.returns-in-Some
returns-in-Some c =
    let items = c.args.changes.now.items in
    let so_far = map change_seen c.args.copies.now.items in
    let k = change_seen c.in-Some.change.now in
    let later = drop (c.args.place + 1) (map change_seen items) in
    let at : slice_get items c.args.place ≡ Some c.in-Some.change.now = sym c.get.ensures ∙ ap option_copied c.in-Some.is in
    on_ok_weaker c.push_copy.result
    (λ (h : map change_seen c.push_copy.new.copies.items ≡ so_far ++ k ∷ []).
    ap (λ ks. ks ++ later) h ∙ append_assoc so_far (k ∷ []) later ∙ sym (ap (λ ks. so_far ++ ks) (drop_at c.args.place items c.in-Some.change.now at)))
    c.push_copy.ensures

pub returns-in-None : goal.returns-in-None
returns-in-None c = absurd (not_none c.args.place c.args.changes.now.items c.requires (sym c.get.ensures ∙ ap option_copied c.in-None.is))
