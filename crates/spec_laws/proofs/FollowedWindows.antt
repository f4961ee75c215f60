-- Windows that follow what happens.
use Rattle.std.proofs.Common.{◌≡◌, ℕ, ◌-◌, List, [], ◌∷◌, ◌++◌, length, take, drop, max, true, false, refl, sym, ap, ap₂, ◌∙◌, subst, arith, append-nil, length-append, length-drop}
use Rattle.std.proofs.lemmas.List.{take-append-le, take_all, drop-append-le, drop_all, drop-drop}
use Rattle.std.proofs.Math.Seq.{take-add}
use Rattle.spec_api.specs.declared.kinds.Kind.{Kind}
use Rattle.spec_api.specs.History.{History, Write, write, compaction, writes}
use Rattle.spec_laws.specs.WindowLaws.{WindowsOpen, WindowsRecord, WindowsStay, WindowsCompact}
use Rattle.spec_api.specs.Windows.{Change, is_of, change_of, changes_after, changes_of, all_but, last_n, last_revision, IsRising, compacted}
use Rattle.spec_laws.proofs.Past.{writes-append}
use Rattle.spec_laws.proofs.RecordedChanges.{rising, rising_least, rising_take, kept_after-append}

last-append : (r : ℕ) (xs ys : List Change) → last_revision r (xs ++ ys) ≡ last_revision (last_revision r xs) ys
last-append r [] ys = refl
last-append r (x ∷ xs) ys = last-append x.revision xs ys

rising_end : (r : ℕ) (xs ys : List Change) → IsRising r (xs ++ ys) → IsRising (last_revision r xs) ys
rising_end r [] ys s = s
rising_end r (x ∷ xs) ys s = rising_end x.revision xs ys s.1

-- ---- one more entry

compacted-append : (h more : History) → compacted (h ++ more) ≡ max (compacted h) (compacted more)
compacted-append [] more = omega arith
compacted-append (write w ∷ h) more = compacted-append h more
compacted-append (compaction r ∷ h) more = let later = compacted-append h more in omega (arith, later)

compacted_still : (h : History) (w : Write) → compacted (h ++ write w ∷ []) ≡ compacted h
compacted_still h w = let all = compacted-append h (write w ∷ []) in omega (arith, all)

compacted_more : (h : History) (r : ℕ) → compacted (h ++ compaction r ∷ []) ≡ max (compacted h) r
compacted_more h r = let all = compacted-append h (compaction r ∷ []) in omega (arith, all)

written : (kind : Kind) (h : History) (w : Write) → changes_of kind (h ++ write w ∷ []) ≡ changes_of kind h ++ changes_after kind (writes h) (w ∷ [])
written kind h w = ap (changes_after kind []) (writes-append h (write w ∷ [])) ∙ kept_after-append kind [] (writes h) (w ∷ [])

kept_more : (kind : Kind) (h : History) (w : Write) → is_of kind w.key ≡ true → changes_of kind (h ++ write w ∷ []) ≡ changes_of kind h ++ change_of (writes h) w ∷ []
kept_more kind h w is = written kind h w ∙ ap (λ z. changes_of kind h ++ z) (rw is refl)

kept_still : (kind : Kind) (h : History) (w : Write) → is_of kind w.key ≡ false → changes_of kind (h ++ write w ∷ []) ≡ changes_of kind h
kept_still kind h w is = written kind h w ∙ ap (λ z. changes_of kind h ++ z) (rw is refl) ∙ append-nil (changes_of kind h)

kept_through : (kind : Kind) (h : History) (r : ℕ) → changes_of kind (h ++ compaction r ∷ []) ≡ changes_of kind h
kept_through kind h r = ap (changes_after kind []) (writes-append h (compaction r ∷ []) ∙ append-nil (writes h))

-- ---- the last n, and one more

window_more : (n : ℕ) (ks : List Change) (x : Change) → last_n n ks ++ x ∷ [] ≡ drop (length ks - n) (ks ++ x ∷ [])
window_more n ks x = sym (drop-append-le (length ks - n) ks (x ∷ []) (omega arith))

window_slid : (n : ℕ) (ks : List Change) (x : Change) → last_n n (last_n n ks ++ x ∷ []) ≡ last_n n (ks ++ x ∷ [])
window_slid n ks x =
    let all = length-append ks (x ∷ []) in
    let left = length-drop (length ks - n) (ks ++ x ∷ []) in
    ap (last_n n) (window_more n ks x) ∙ drop-drop (length (drop (length ks - n) (ks ++ x ∷ [])) - n) (length ks - n) (ks ++ x ∷ [])
    ∙ ap (λ i. drop i (ks ++ x ∷ [])) (omega (arith, all, left))

-- what goes is what went before, and what goes of the window now
older_more : (n : ℕ) (ks : List Change) (x : Change) → all_but n (ks ++ x ∷ []) ≡ all_but n ks ++ all_but n (last_n n ks ++ x ∷ [])
older_more n ks x =
    let all = length-append ks (x ∷ []) in
    let left = length-drop (length ks - n) (ks ++ x ∷ []) in
    ap (λ i. take i (ks ++ x ∷ [])) (omega (arith, all, left))
    ∙ take-add (length ks - n) (length (drop (length ks - n) (ks ++ x ∷ [])) - n) (ks ++ x ∷ [])
    ∙ ap₂ (λ a b. a ++ b) (take-append-le (length ks - n) ks (x ∷ []) (omega arith)) (ap (all_but n) (sym (window_more n ks x)))

greater : (c : ℕ) (xs ys : List Change) → IsRising 1 (xs ++ ys) → max (max (last_revision 1 xs) c) (last_revision 1 ys) ≡ max (last_revision 1 (xs ++ ys)) c
greater c xs [] s = let least = rising_least 1 xs (subst (IsRising 1) (append-nil xs) s) in let same = ap (last_revision 1) (append-nil xs) in omega (arith, least, same)
greater c xs (y ∷ ys) s =
    let tail = rising_end 1 xs (y ∷ ys) s in
    let more = rising_least y.revision ys tail.1 in
    let first = tail.0 in
    let is = last-append 1 xs (y ∷ ys) in
    omega (arith, more, first, is)

max_three : (a b c : ℕ) → max (max a b) c ≡ max a (max b c)
max_three a b c = omega arith

-- ---- windows

pub follows_new : WindowsOpen
follows_new kind size = (sym (drop_all (0 - size) [] (omega arith)), sym (ap (λ z. max (last_revision 1 z) 0) (take_all (0 - size) [] (omega arith))))

pub follows_recorded : WindowsRecord
follows_recorded s h w f is =
    let ks = changes_of s.kind h in
    let x = change_of (writes h) w in
    let more = kept_more s.kind h w is in
    let split = older_more s.size ks x in
    let up = rising s.kind (writes (h ++ write w ∷ [])) [] 1 (omega arith) in
    let rises = subst (IsRising 1) (ap (all_but s.size) more ∙ split) (rising_take (length (changes_of s.kind (h ++ write w ∷ [])) - s.size) 1 (changes_of s.kind (h ++ write w ∷ [])) up) in (
      ap (λ z. last_n s.size (z ++ x ∷ [])) f.0 ∙ window_slid s.size ks x ∙ ap (last_n s.size) (sym more),
      ap₂ (λ z l. max z (last_revision 1 (all_but s.size (l ++ x ∷ [])))) f.1 f.0
          ∙ greater (compacted h) (all_but s.size ks) (all_but s.size (last_n s.size ks ++ x ∷ [])) rises
          ∙ ap₂ (λ z c. max (last_revision 1 z) c) (sym (ap (all_but s.size) more ∙ split)) (sym (compacted_still h w)),
    )

pub follows_still : WindowsStay
follows_still s h w f is =
    let same = kept_still s.kind h w is in
    (f.0 ∙ ap (last_n s.size) (sym same), f.1 ∙ ap₂ (λ z c. max (last_revision 1 (all_but s.size z)) c) (sym same) (sym (compacted_still h w)))

pub follows_compacted : WindowsCompact
follows_compacted s h r f =
    let same = kept_through s.kind h r in (
      f.0 ∙ ap (last_n s.size) (sym same),
      ap (λ z. max z r) f.1 ∙ max_three (last_revision 1 (all_but s.size (changes_of s.kind h))) (compacted h) r
          ∙ ap₂ (λ z c. max (last_revision 1 (all_but s.size z)) c) (sym same) (sym (compacted_more h r)),
    )
