-- What a view shows after something was put under a key, or removed, is what it showed, with what it shows of that put or removed.
use Rattle.std.proofs.Common.{◌≡◌, [], ◌∷◌, Bool, true, false, cond, Option, Some, None, Ordering, Less, Equal, Greater, is_eq, refl, sym, ap, ◌∙◌, subst}
use Rattle.std.specs.Ordering.{ordering_reverse}
use Rattle.serde_json.specs.Data.{Data}
use Rattle.spec_api.specs.Keys.{Key, key_cmp, is_same_key}
use Rattle.spec_api.specs.History.{View, Entries, found, in_view, put_or_remove, seen, viewed}
use Rattle.store.specs.Snapshots.{ViewMembers}
use Rattle.spec_api.proofs.SameFound.{same_found}
use Rattle.spec_api.proofs.PutLaws.{IsAbove, IsAscending, IsAscending-after, IsAscending-filter, IsAbove-below, found-after, found-viewed, none_above, name_cmp_total, same_name}

-- ---- what is put or removed, as a view shows it

shown_at : (v : View) (q k : Key) (o x : Option Data) (b : Bool) → is_same_key q k ≡ b → seen v q (cond b o x) ≡ cond b (seen v k o) (seen v q x)
shown_at v q k o x true is = ap (λ z. seen v z o) (same_name q k is)
shown_at v q k o x false is = refl

pub viewed-put_or_remove : (v : View) (k : Key) (o : Option Data) (ms : Entries) → IsAscending key_cmp ms → viewed v (put_or_remove ms k o) ≡ put_or_remove (viewed v ms) k (seen v k o)
viewed-put_or_remove v k o ms a =
    let shown : IsAscending key_cmp (viewed v ms) = IsAscending-filter key_cmp (λ m. in_view v m.0 m.1) ms a in
    let put : IsAscending key_cmp (put_or_remove ms k o) = IsAscending-after k o ms a in
    same_found (viewed v (put_or_remove ms k o)) (put_or_remove (viewed v ms) k (seen v k o)) (IsAscending-filter key_cmp (λ m. in_view v m.0 m.1) (put_or_remove ms k o) put) (IsAscending-after k (seen v k o) (viewed v ms) shown)
    (λ q. found-viewed v q (put_or_remove ms k o) put ∙ ap (seen v q) (found-after q k o ms a) ∙ shown_at v q k o (found q ms) (is_same_key q k) refl
    ∙ ap (λ z. cond (is_same_key q k) (seen v k o) z) (sym (found-viewed v q ms a)) ∙ sym (found-after q k (seen v k o) (viewed v ms) shown))

-- the same of a snapshot that is seen as this
abbrev pub with_put : ViewMembers → Key → Option Data → ViewMembers
with_put s k o = record { view = s.view; members = put_or_remove s.members k (seen s.view k o) }

abbrev pub shown : View → Entries → ViewMembers
shown v ms = record { view = v; members = viewed v ms }

pub put_shown : (v : View) (k : Key) (o : Option Data) (ms new : Entries) (now : ViewMembers) → IsAscending key_cmp ms → new ≡ put_or_remove ms k o → shown v ms ≡ now → shown v new ≡ with_put now k o
put_shown v k o ms new now a put is =
    let made : shown v (put_or_remove ms k o) ≡ with_put (shown v ms) k o = λ i. record { view = v; members = viewed-put_or_remove v k o ms a i } in
    ap (shown v) put ∙ made ∙ ap (λ s. with_put s k o) is
