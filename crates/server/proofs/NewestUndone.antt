-- The newest of the changes that are left, undone.
use Rattle.std.proofs.Common.{◌≡◌, List, [], ◌∷◌, ◌++◌, map, refl, sym, ap, ◌∙◌}
use Rattle.std.proofs.lemmas.List.{map-append}
use Rattle.spec_api.specs.History.{View, Entries, put_or_remove, seen}
use Rattle.spec_api.specs.Windows.{Change as Kept}
use Rattle.spec_server.specs.Recorded.{undone}
use Rattle.store.specs.Snapshots.{ViewMembers}
use Rattle.watch_cache.specs.Changes.{change_seen}
use Rattle.watch_cache.specs.declared.changes.Change.{Change}
use Rattle.server.specs.PageTexts.{shown_before}

undone-append : (v : View) (ms : Entries) (ks : List Kept) (k : Kept) → undone v ms (ks ++ k ∷ []) ≡ undone v (put_or_remove ms k.key (seen v k.key k.old)) ks
undone-append v ms [] k = refl
undone-append v ms (l ∷ ks) k = ap (λ z. put_or_remove z l.key (seen v l.key l.old)) (undone-append v ms ks k)

pub newest_undone : (s now : ViewMembers) (all left : List Change) (c : Change) → all ≡ left ++ c ∷ [] → now ≡ shown_before s (change_seen c ∷ [])
    → shown_before now (map change_seen left) ≡ shown_before s (map change_seen all)
newest_undone s now all left c last is =
    ap (λ z. shown_before z (map change_seen left)) is
    ∙ ap (λ z. record { view = s.view; members = z }) (sym (undone-append s.view s.members (map change_seen left) (change_seen c)))
    ∙ ap (λ ks. shown_before s ks) (sym (map-append change_seen left (c ∷ [])))
    ∙ ap (λ cs. shown_before s (map change_seen cs)) (sym last)
