-- What is true of each object that was put is true of what is there, and of each of a list.
use Rattle.std.proofs.Common.{◌≡◌, ◌-◌, ℕ, zero, suc, List, [], ◌∷◌, ◌++◌, take, Bool, true, false, cond, is_eq, IfSome, Option, Some, None, Ordering, Less, Equal, Greater, refl, sym, ap, subst}
use Rattle.std.specs.BTreeMap.{insert_entry, is_at}
use Rattle.std.specs.List.{AllByRecursion}
use Rattle.std.specs.Map.{remove_entry}
use Rattle.std.specs.Ordering.{match_ordering}
use Rattle.serde_json.specs.Data.{Data}
use Rattle.spec_api.specs.History.{History, Write, View, Entries, write, writes, state, last_of, up_to, after_all, put_or_remove, in_view, viewed, list}
use Rattle.spec_api.specs.Keys.{Key, key_cmp, is_same_key}
use Rattle.spec_api.specs.Verbs.{with_write}
use Rattle.spec_api.proofs.PutLaws.{same_name}
use Rattle.spec_laws.proofs.Past.{writes-append}

-- a property of an object under its name
module _ (P : Key → Data → Type 0) where
  -- of each object that was put
  abbrev pub AllPut : List Write → Type 0
  AllPut [] = Unit {0}
  AllPut (w ∷ ws) = IfSome w.put (P w.key) × AllPut ws

  put_append : (ws : List Write) (w : Write) → AllPut ws → IfSome w.put (P w.key) → AllPut (ws ++ w ∷ [])
  put_append [] w a last = (last, tt)
  put_append (v ∷ ws) w a last = (a.0, put_append ws w a.1 last)

  pub put_write : (h : History) (o : Option Write) → IfSome o (λ w. IfSome w.put (P w.key)) → AllPut (writes h) → AllPut (writes (with_write h o))
  put_write h None c a = a
  put_write h (Some w) c a = subst AllPut (sym (writes-append h (write w ∷ []))) (put_append (writes h) w a c)

  pub put_first : (n : ℕ) (ws : List Write) → AllPut ws → AllPut (take n ws)
  put_first zero ws a = tt
  put_first (suc n) [] a = tt
  put_first (suc n) (w ∷ ws) a = (a.0, put_first n ws a.1)

  -- ---- what is there

  last_at : (b : Bool) (k : Key) (w : Write) (before : Option Data) → is_same_key k w.key ≡ b → IfSome before (P k) → IfSome w.put (P w.key) → IfSome (cond b w.put before) (P k)
  last_at true k w before is h a = subst (λ l. IfSome w.put (P l)) (sym (same_name k w.key is)) a
  last_at false k w before is h a = h

  pub last_put : (k : Key) (ws : List Write) (before : Option Data) → IfSome before (P k) → AllPut ws → IfSome (last_of before k ws) (P k)
  last_put k [] before h a = h
  last_put k (w ∷ ws) before h a = last_put k ws (cond (is_same_key k w.key) w.put before) (last_at (is_same_key k w.key) k w before refl h a.0) a.1

  pub there_put : (h : History) (r : ℕ) (k : Key) (d : Data) → AllPut (writes h) → state h r k ≡ Some d → P k d
  there_put h r k d a is = subst (λ o. IfSome o (P k)) is (last_put k (up_to r h) None tt (put_first (r - 1) (writes h) a))

  -- ---- what is listed

  abbrev pub Held : Entries → Type 0
  Held ms = AllByRecursion (λ (m : Key × Data). P m.0 m.1) ms

  insert_at : (o : Ordering) (n : Key) (d : Data) (m : Key × Data) (ms : Entries) → key_cmp n m.0 ≡ o → P n d → Held (m ∷ ms) → Held (insert_entry key_cmp ms n d)
      → Held (match_ordering o ((n, d) ∷ m ∷ ms) ((m.0, d) ∷ ms) (m ∷ insert_entry key_cmp ms n d))
  insert_at Less n d m ms is h a later = (h, a)
  insert_at Equal n d m ms is h a later = (subst (λ x. P x d) (same_name n m.0 (ap is_eq is)) h, a.1)
  insert_at Greater n d m ms is h a later = (a.0, later)

  held_insert : (n : Key) (d : Data) (ms : Entries) → P n d → Held ms → Held (insert_entry key_cmp ms n d)
  held_insert n d [] h a = (h, tt)
  held_insert n d (m ∷ ms) h a = insert_at (key_cmp n m.0) n d m ms refl h a (held_insert n d ms h a.1)

  remove_at : (b : Bool) (m : Key × Data) (ms left : Entries) → Held (m ∷ ms) → Held left → Held (cond b ms (m ∷ left))
  remove_at true m ms left a later = a.1
  remove_at false m ms left a later = (a.0, later)

  held_remove : (n : Key) (ms : Entries) → Held ms → Held (remove_entry (is_at (key_cmp n)) ms)
  held_remove n [] a = tt
  held_remove n (m ∷ ms) a = remove_at (is_at (key_cmp n) m.0) m ms (remove_entry (is_at (key_cmp n)) ms) a (held_remove n ms a.1)

  held_after : (n : Key) (o : Option Data) (ms : Entries) → IfSome o (P n) → Held ms → Held (put_or_remove ms n o)
  held_after n None ms h a = held_remove n ms a
  held_after n (Some d) ms h a = held_insert n d ms h a

  pub held_all : (ws : List Write) (ms : Entries) → AllPut ws → Held ms → Held (after_all ms ws)
  held_all [] ms s a = a
  held_all (w ∷ ws) ms s a = held_all ws (put_or_remove ms w.key w.put) s.1 (held_after w.key w.put ms s.0 a)

  seen_if : (b : Bool) (m : Key × Data) (ms : Entries) → P m.0 m.1 → Held ms → Held (cond b (m ∷ ms) ms)
  seen_if true m ms h a = (h, a)
  seen_if false m ms h a = a

  held_viewed : (v : View) (ms : Entries) → Held ms → Held (viewed v ms)
  held_viewed v [] a = tt
  held_viewed v (m ∷ ms) a = seen_if (in_view v m.0 m.1) m (viewed v ms) a.0 (held_viewed v ms a.1)

  pub listed_put : (h : History) (v : View) (r : ℕ) → AllPut (writes h) → Held (list h v r)
  listed_put h v r a = held_viewed v (after_all [] (up_to r h)) (held_all (up_to r h) [] (put_first (r - 1) (writes h) a) tt)
