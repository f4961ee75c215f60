-- What comes after a history, and what histories come to.
use Rattle.std.proofs.Common.{◌≡◌, ℕ, ◌+◌, List, [], ◌∷◌, ◌++◌, length, refl, sym, ap, ◌∙◌, subst, append-nil, append_assoc, length-append, true, arith}
use Rattle.std.specs.Prelude.{Option, Some, None, IfSome}
use Rattle.baton.specs.Marks.{entries, CanHappen}
use Rattle.spec_api.specs.History.{Write, Entry, write, compaction, writes, present}
use Rattle.spec_api.specs.Moments.{is_moment}
use Rattle.spec_api.specs.ObjectRequests.{Request}
use Rattle.spec_api.specs.Reached.{IsReached, opened, asks, compacts}
use Rattle.spec_api.specs.Verbs.{write_of, with_write, accept}
use Rattle.spec_laws.specs.Happening.{Follows}
use Rattle.spec_laws.proofs.Past.{writes-append}
use Rattle.spec_laws.proofs.ReadRequests.{moments_timed}
use Rattle.desk.specs.Askings.{IsReadable}
use Rattle.desk.specs.Histories.{written, MayFollow, HasCome, ReadHistoriesAreReached, HistoriesCanHappen}
use Rattle.desk.proofs.Entering.{entries-append}

-- what a request writes that may be asked may follow
pub writes_follow : (may_ask : Request → Type 0) (h : List (ℕ × Entry)) (name : ℕ) (change : Option Entry) (q : Request) (moment : List ℕ) → may_ask q → is_moment moment ≡ true
    → change ≡ written (write_of (accept q (entries h) moment)) → IfSome change (λ e. MayFollow may_ask h name e)
writes_follow may_ask h name change q moment asked time is =
    subst (λ (c : Option Entry). IfSome c (λ e. MayFollow may_ask h name e)) (sym is) (by (write_of (accept q (entries h) moment)) refl)
  where
    by : (w : Option Write) → write_of (accept q (entries h) moment) ≡ w → IfSome (written w) (λ e. MayFollow may_ask h name e)
    by None e = tt
    by (Some w) e = (q, moment, asked, time, e)

-- ---- what has come can happen

present_after : (h : List (ℕ × Entry)) (x : ℕ × Entry) → present (entries (h ++ x ∷ [])) ≡ length (writes (entries h) ++ writes (x.1 ∷ [])) + 1
present_after h x = ap present (entries-append h (x ∷ [])) ∙ ap (λ l. length l + 1) (writes-append (entries h) (x.1 ∷ []))

one_more : (may_ask : Request → Type 0) (h rest : List (ℕ × Entry)) (name : ℕ) (e : Entry) → MayFollow may_ask h name e → Follows (present (entries (h ++ (name, e) ∷ []))) (entries rest) → Follows (present (entries h)) (e ∷ entries rest)
one_more may_ask h rest name (write w) may more =
    subst (λ r. Follows r (entries rest)) (let a = present_after h (name, write w) in let b = length-append (writes (entries h)) (w ∷ []) in omega (arith, a, b)) more
one_more may_ask h rest name (compaction c) may more =
    (may, subst (λ r. Follows r (entries rest)) (let a = present_after h (name, compaction c) in a ∙ ap (λ l. length l + 1) (append-nil (writes (entries h)))) more)

shifted : (may_ask : Request → Type 0) (h rest : List (ℕ × Entry)) (x : ℕ × Entry) → HasCome may_ask (h ++ x ∷ rest) → HasCome may_ask ((h ++ x ∷ []) ++ rest)
shifted may_ask h rest x came = subst (CanHappen (MayFollow may_ask)) (sym (append_assoc h (x ∷ []) rest)) came

happens_from : (may_ask : Request → Type 0) (h rest : List (ℕ × Entry)) → HasCome may_ask (h ++ rest) → Follows (present (entries h)) (entries rest)
happens_from may_ask h [] came = tt
happens_from may_ask h (x ∷ rest) came =
    one_more may_ask h rest x.0 x.1 (came h x.0 x.1 rest refl) (happens_from may_ask (h ++ x ∷ []) rest (shifted may_ask h rest x came))

pub can_happen : (may_ask : Request → Type 0) → HistoriesCanHappen may_ask
can_happen may_ask h came = happens_from may_ask [] h came

-- ---- what has come of requests that can be read is reached

entered : (h : List (ℕ × Entry)) (name : ℕ) (e : Entry) → entries (h ++ (name, e) ∷ []) ≡ entries h ++ e ∷ []
entered h name e = entries-append h ((name, e) ∷ [])

reaches_one : (h : List (ℕ × Entry)) (name : ℕ) (e : Entry) → MayFollow IsReadable h name e → IsReached (entries h) → IsReached (entries (h ++ (name, e) ∷ []))
reaches_one h name (write w) (q, moment, asked, time, is) reached =
    subst IsReached (ap (with_write (entries h)) is ∙ sym (entered h name (write w))) (asks (entries h) q moment reached asked (moments_timed moment time))
reaches_one h name (compaction r) may reached = subst IsReached (sym (entered h name (compaction r))) (compacts (entries h) r reached may)

reaches_from : (h rest : List (ℕ × Entry)) → HasCome IsReadable (h ++ rest) → IsReached (entries h) → IsReached (entries (h ++ rest))
reaches_from h [] came reached = subst (λ l. IsReached (entries l)) (sym (append-nil h)) reached
reaches_from h (x ∷ rest) came reached =
    subst (λ l. IsReached (entries l)) (append_assoc h (x ∷ []) rest)
    (reaches_from (h ++ x ∷ []) rest (shifted IsReadable h rest x came) (reaches_one h x.0 x.1 (came h x.0 x.1 rest refl) reached))

pub read_reached : ReadHistoriesAreReached
read_reached h came = reaches_from [] h came opened
