-- A write, undone.
use Rattle.std.proofs.Common.{◌≡◌, List, [], ◌∷◌, ◌++◌, Bool, true, false, cond, Option, Some, None, Ordering, Less, Equal, Greater, refl, sym, ap, ap₂, ◌∙◌, subst}
use Rattle.std.specs.Ordering.{ordering_reverse}
use Rattle.std.specs.Map.{remove_entry}
use Rattle.std.specs.BTreeMap.{insert_entry, is_at}
use Rattle.serde_json.specs.Data.{Data}
use Rattle.spec_api.specs.Keys.{Key, key_cmp}
use Rattle.spec_api.specs.History.{Write, View, Entries, found, in_view, viewed, seen, last_of, after_all, put_or_remove}
use Rattle.spec_api.proofs.PutLaws.{name_cmp_total, IsAbove, IsAbove-below, IsAscending, IsAscending-after_all, none_above, found-after_all}
use Rattle.spec_laws.proofs.AppliedEvents.{one_name, insert_above, remove_above, put_in, put_out, removed, after_all-push}

reversed : (r : Ordering) → r ≡ ordering_reverse r → r ≡ Equal
reversed Less h = cc
reversed Equal h = refl
reversed Greater h = cc

itself : (k : Key) → key_cmp k k ≡ Equal
itself k = reversed (key_cmp k k) (name_cmp_total.antisymm k k)

put_first : (k : Key) (d : Data) (ms : Entries) → IsAbove key_cmp k ms → insert_entry key_cmp ms k d ≡ (k, d) ∷ ms
put_first k d ms a = insert_above name_cmp_total one_name (λ _ (_ : Data). true) k d ms a

remove_none : (k : Key) (ms : Entries) → IsAbove key_cmp k ms → remove_entry (is_at (key_cmp k)) ms ≡ ms
remove_none k ms a = remove_above name_cmp_total one_name (λ _ (_ : Data). true) k ms a

put_later : (k : Key) (o : Option Data) (m : Key × Data) (ms : Entries) → key_cmp k m.0 ≡ Greater → put_or_remove (m ∷ ms) k o ≡ m ∷ put_or_remove ms k o
put_later k None m ms h = rw h refl
put_later k (Some d) m ms h = rw h refl

undo_at : (k : Key) (put : Option Data) (m : Key × Data) (ms : Entries) (r : Ordering) → key_cmp k m.0 ≡ r → IsAscending key_cmp (m ∷ ms) → put_or_remove (put_or_remove ms k put) k (found k ms) ≡ ms
    → put_or_remove (put_or_remove (m ∷ ms) k put) k (found k (m ∷ ms)) ≡ m ∷ ms
undo_at k None m ms Less h a later =
    let high : IsAbove key_cmp k (m ∷ ms) = (h, IsAbove-below name_cmp_total k m.0 ms h a.0) in
    let same : remove_entry (is_at (key_cmp k)) (m ∷ ms) ≡ m ∷ ms = remove_none k (m ∷ ms) high in
    ap (λ o. put_or_remove (remove_entry (is_at (key_cmp k)) (m ∷ ms)) k o) (none_above name_cmp_total k (m ∷ ms) high) ∙ ap (remove_entry (is_at (key_cmp k))) same ∙ same
undo_at k (Some d) m ms Less h a later =
    let high : IsAbove key_cmp k (m ∷ ms) = (h, IsAbove-below name_cmp_total k m.0 ms h a.0) in
    let first : insert_entry key_cmp (m ∷ ms) k d ≡ (k, d) ∷ m ∷ ms = put_first k d (m ∷ ms) high in
    let again : remove_entry (is_at (key_cmp k)) ((k, d) ∷ m ∷ ms) ≡ m ∷ ms = rw (itself k) refl in
    ap (λ o. put_or_remove (insert_entry key_cmp (m ∷ ms) k d) k o) (none_above name_cmp_total k (m ∷ ms) high) ∙ ap (remove_entry (is_at (key_cmp k))) first ∙ again
undo_at k None m ms Equal h a later =
    let is : k ≡ m.0 = one_name k m.0 h in
    let gone : remove_entry (is_at (key_cmp k)) (m ∷ ms) ≡ ms = rw h refl in
    let had : found k (m ∷ ms) ≡ Some m.1 = rw h refl in
    ap₂ (λ x o. put_or_remove x k o) gone had ∙ put_first k m.1 ms (subst (λ z. IsAbove key_cmp z ms) (sym is) a.0) ∙ ap (λ z. (z, m.1) ∷ ms) is
undo_at k (Some d) m ms Equal h a later =
    let first : insert_entry key_cmp (m ∷ ms) k d ≡ (m.0, d) ∷ ms = rw h refl in
    let had : found k (m ∷ ms) ≡ Some m.1 = rw h refl in
    let again : insert_entry key_cmp ((m.0, d) ∷ ms) k m.1 ≡ m ∷ ms = rw h refl in
    ap₂ (λ x o. put_or_remove x k o) first had ∙ again
undo_at k put m ms Greater h a later =
    let had : found k (m ∷ ms) ≡ found k ms = rw h refl in
    ap₂ (λ x o. put_or_remove x k o) (put_later k put m ms h) had ∙ put_later k (found k ms) m (put_or_remove ms k put) h ∙ ap (λ z. m ∷ z) later

undo_none : (k : Key) (put : Option Data) → (let ms : Entries = [] in put_or_remove (put_or_remove ms k put) k (found k ms) ≡ ms)
undo_none k None = refl
undo_none k (Some d) = rw (itself k) refl

-- what was there is there again
undo : (k : Key) (put : Option Data) (ms : Entries) → IsAscending key_cmp ms → put_or_remove (put_or_remove ms k put) k (found k ms) ≡ ms
undo k put [] a = undo_none k put
undo k put (m ∷ ms) a = undo_at k put m ms (key_cmp k m.0) refl a (undo k put ms a.1)

-- ---- of what a view shows

module _ (v : View) where
  put_seen : (b : Bool) (k : Key) (d : Data) (ms : Entries) → in_view v k d ≡ b → IsAscending key_cmp ms → viewed v (insert_entry key_cmp ms k d) ≡ put_or_remove (viewed v ms) k (cond b (Some d) None)
  put_seen true k d ms y a = put_in name_cmp_total one_name (in_view v) k d ms y a
  put_seen false k d ms y a = put_out name_cmp_total one_name (in_view v) k d ms y a

  seen_put : (k : Key) (o : Option Data) (ms : Entries) → IsAscending key_cmp ms → viewed v (put_or_remove ms k o) ≡ put_or_remove (viewed v ms) k (seen v k o)
  seen_put k None ms a = removed name_cmp_total one_name (in_view v) k ms a
  seen_put k (Some d) ms a = put_seen (in_view v k d) k d ms refl a

  pub write_undone : (before : List Write) (w : Write) → put_or_remove (viewed v (after_all [] (before ++ w ∷ []))) w.key (seen v w.key (last_of None w.key before)) ≡ viewed v (after_all [] before)
  write_undone before w =
      sym (seen_put w.key (last_of None w.key before) (after_all [] (before ++ w ∷ [])) (IsAscending-after_all [] (before ++ w ∷ []) tt))
      ∙ ap₂ (λ ms o. viewed v (put_or_remove ms w.key o)) (after_all-push v [] before w) (sym (found-after_all w.key [] before tt))
      ∙ ap (viewed v) (undo w.key w.put (after_all [] before) (IsAscending-after_all [] before tt))
