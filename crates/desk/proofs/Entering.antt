-- The server that a history gives with one entry more.
use Rattle.std.proofs.Common.{◌≡◌, ℕ, List, [], ◌∷◌, ◌++◌, refl, sym, ap, ◌∙◌}
use Rattle.std.specs.Prelude.{Option, Some, None, unwrap_or}
use Rattle.baton.specs.Marks.{entries, marked}
use Rattle.spec_api.specs.History.{History, Write, Entry, write, compaction}
use Rattle.spec_api.specs.ObjectRequests.{Request}
use Rattle.spec_api.specs.Verbs.{write_of, accept, accept_at}
use Rattle.spec_server.specs.Servers.{Server, opened_server, after_write, after_writing, after_compaction, after_entries}
use Rattle.desk.specs.Histories.{written}
use Rattle.desk.proofs.Answered.{IsAfter, same_answer}

pub entries-append : (g h : List (ℕ × Entry)) → entries (g ++ h) ≡ entries g ++ entries h
entries-append [] h = refl
entries-append (x ∷ g) h = ap (λ l. x.1 ∷ l) (entries-append g h)

after_more : (s : Server) (h k : History) → after_entries s (h ++ k) ≡ after_entries (after_entries s h) k
after_more s [] k = refl
after_more s (write w ∷ h) k = after_more (after_write s w) h k
after_more s (compaction r ∷ h) k = after_more (after_compaction s r) h k

after_marked : (s : Server) (h : List (ℕ × Entry)) (name : ℕ) (change : Option Entry) → after_entries s (entries (h ++ marked name change)) ≡ after_entries (after_entries s (entries h)) (entries (marked name change))
after_marked s h name change = ap (after_entries s) (entries-append h (marked name change)) ∙ after_more s (entries h) (entries (marked name change))

written_after : (s : Server) (name : ℕ) (w : Option Write) → after_entries s (entries (marked name (written w))) ≡ after_writing s w
written_after s name None = refl
written_after s name (Some w) = refl

some_same : {X : Type 0} (x y : X) (p : Option X) → p ≡ Some x → p ≡ Some y → x ≡ y
some_same x y p a b = ap (λ q. unwrap_or q y) (sym a ∙ b)

-- the server that a pass gives back is the one that its history with the entry gives
pub gives_entry : (size : ℕ) (h : List (ℕ × Entry)) (name : ℕ) (change : Option Entry) (s t opening : Server) (p : Option Server) → p ≡ Some (opened_server size) → IsAfter size (entries h) s
    → t ≡ after_entries s (entries (marked name change)) → p ≡ Some opening → t ≡ after_entries opening (entries (h ++ marked name change))
gives_entry size h name change s t opening p named is changed so =
    changed ∙ ap (λ z. after_entries z (entries (marked name change))) is ∙ sym (after_marked (opened_server size) h name change)
    ∙ ap (λ o. after_entries o (entries (h ++ marked name change))) (some_same (opened_server size) opening p named so)

pub gives_write : (size : ℕ) (h : List (ℕ × Entry)) (name : ℕ) (change : Option Entry) (s t opening : Server) (p : Option Server) (q : Request) (moment : List ℕ) → p ≡ Some (opened_server size) → IsAfter size (entries h) s
    → t ≡ after_writing s (write_of (accept_at q s.snapshot.members s.snapshot.revision moment)) → change ≡ written (write_of (accept q (entries h) moment)) → p ≡ Some opening
    → t ≡ after_entries opening (entries (h ++ marked name change))
gives_write size h name change s t opening p q moment named is changed entry so =
    gives_entry size h name change s t opening p named is
    (changed ∙ ap (λ o. after_writing s (write_of o)) (same_answer size (entries h) s q moment is) ∙ sym (written_after s name (write_of (accept q (entries h) moment)))
    ∙ ap (λ c. after_entries s (entries (marked name c))) (sym entry)) so
