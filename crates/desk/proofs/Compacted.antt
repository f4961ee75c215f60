-- Compactions of a server that a history gives.
use Rattle.std.proofs.Common.{◌≡◌, ℕ, ◌≤◌, List, [], ◌∷◌, ◌++◌, refl, sym, ap, ◌∙◌, subst, true, false, true≢false, Bool, nat_lt, if◌then◌else◌, Result, Ok, Err}
use Rattle.std.specs.Prelude.{Option, Some, IfSome}
use Rattle.std.proofs.lemmas.Bool.{ltb-false}
use Rattle.baton.specs.Marks.{entries, marked}
use Rattle.spec_api.specs.History.{History, Entry, compaction, present}
use Rattle.spec_api.specs.ObjectRequests.{Request}
use Rattle.spec_api.specs.Refusals.{Refusal, too_new}
use Rattle.spec_api.specs.Versions.{compacts, once_present}
use Rattle.spec_server.specs.Servers.{Server, opened_server, after_compaction, after_entries, compact_by}
use Rattle.desk.specs.Histories.{MayFollow}
use Rattle.desk.proofs.Answered.{IsAfter, same_present}
use Rattle.desk.proofs.Entering.{gives_entry}

abbrev ok_test : {X Y : Type 0} → Result X Y → Bool
ok_test (Ok x) = true
ok_test (Err e) = false

abbrev ok_or : {X Y : Type 0} → X → Result X Y → X
ok_or d (Ok x) = x
ok_or d (Err e) = d

done_so : {X Y : Type 0} (b : Bool) (f : Refusal) (x t : X) (y : Y) → (if b then Err f else Ok x) ≡ Ok t → ((if b then Err f else Ok y) ≡ Ok y) × (t ≡ x) × (b ≡ false)
done_so true f x t y e = absurd (true≢false (sym (ap ok_test e)))
done_so false f x t y e = (refl, sym (ap (ok_or x) e), refl)

abbrev err_or : {X : Type 0} → Refusal → Result X Refusal → Refusal
err_or d (Ok x) = d
err_or d (Err e) = e

refused_so : {X Y : Type 0} (b : Bool) (f g : Refusal) (x : X) (y : Y) → (if b then Err f else Ok x) ≡ Err g → (if b then Err f else Ok y) ≡ Err g
refused_so true f g x y e = ap (λ z. Err z) (ap (err_or f) e)
refused_so false f g x y e = absurd (true≢false (ap ok_test e))

pub compaction_done : (size : ℕ) (h : History) (s t : Server) (r : ℕ) → IsAfter size h s → compact_by s r ≡ Ok t → (compacts h r ≡ Ok (h ++ compaction r ∷ [])) × (t ≡ after_compaction s r) × (r ≤ present h)
compaction_done size h s t r is e =
    let now : s.snapshot.revision ≡ present h = same_present size h s is in
    let e' : once_present (present h) r (after_compaction s r) ≡ Ok t = subst (λ n. once_present n r (after_compaction s r) ≡ Ok t) now e in
    let d = done_so (nat_lt (present h) r) (too_new r (present h)) (after_compaction s r) t (h ++ compaction r ∷ []) e' in
    let low : nat_lt (present h) r ≡ false = d.2 in (d.0, d.1, ltb-false (present h) r low)

pub compaction_refused : (size : ℕ) (h : History) (s : Server) (r : ℕ) (f : Refusal) → IsAfter size h s → compact_by s r ≡ Err f → compacts h r ≡ Err f
compaction_refused size h s r f is e =
    let now : s.snapshot.revision ≡ present h = same_present size h s is in
    refused_so (nat_lt (present h) r) (too_new r (present h)) f (after_compaction s r) (h ++ compaction r ∷ []) (subst (λ n. once_present n r (after_compaction s r) ≡ Err f) now e)

pub gives_compaction : (size : ℕ) (h : List (ℕ × Entry)) (name : ℕ) (change : Option Entry) (s t opening : Server) (p : Option Server) (r : ℕ) → p ≡ Some (opened_server size) → IsAfter size (entries h) s
    → compact_by s r ≡ Ok t → change ≡ Some (compaction r) → p ≡ Some opening → t ≡ after_entries opening (entries (h ++ marked name change))
gives_compaction size h name change s t opening p r named is done entry so =
    gives_entry size h name change s t opening p named is ((compaction_done size (entries h) s t r is done).1 ∙ ap (λ c. after_entries s (entries (marked name c))) (sym entry)) so

pub compaction_follows : (may_ask : Request → Type 0) (size : ℕ) (h : List (ℕ × Entry)) (name : ℕ) (change : Option Entry) (s t : Server) (r : ℕ) → IsAfter size (entries h) s → compact_by s r ≡ Ok t → change ≡ Some (compaction r)
    → IfSome change (λ e. MayFollow may_ask h name e)
compaction_follows may_ask size h name change s t r is done entry =
    subst (λ (c : Option Entry). IfSome c (λ e. MayFollow may_ask h name e)) (sym entry) (compaction_done size (entries h) s t r is done).2
