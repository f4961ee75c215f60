-- Uids of the future are those of later revisions.
use Rattle.std.proofs.Common.{◌≡◌, ℕ, ◌<◌, ◌^◌, List, true, ◌&&◌, nat_lt, bytes_eq, arith, sym, subst}
use Rattle.std.proofs.lemmas.Bool.Decides.{nat_tests}
use Rattle.std.proofs.lemmas.Slice.Eq.{bytes_eq-Decides}
use Rattle.spec_api.proofs.Truths.{and_true, left_true, right_true}
use Rattle.spec_api.specs.Checks.{is_of_the_future}
use Rattle.spec_laws.specs.UidLaws.{IsUidAbove, FutureUidsAreLater}
use Rattle.spec_api.specs.Uids.{uid_text, uid_revision, cluster_word}
use Rattle.spec_api.proofs.Uids.{existing}

below : (a b : ℕ) → nat_lt a b ≡ true → a < b
below a b h = grind (arith, nat_tests)

below_back : (a b : ℕ) → a < b → nat_lt a b ≡ true
below_back a b h = grind (arith, nat_tests)

later_from : (present : ℕ) (t : List ℕ) → is_of_the_future present t ≡ true → IsUidAbove present t
later_from present t h =
    let r = uid_revision t in
    let is = bytes_eq t (uid_text cluster_word r) in
    let fits = nat_lt r (2 ^ 62) in
    let both = left_true (is && fits) (nat_lt present r) h in
    (r, below present r (right_true (is && fits) (nat_lt present r) h), below r (2 ^ 62) (right_true is fits both), (bytes_eq-Decides t (uid_text cluster_word r)).0 (left_true is fits both))

future_at : (present r : ℕ) (t : List ℕ) → uid_revision t ≡ r → present < r → r < 2 ^ 62 → t ≡ uid_text cluster_word r → is_of_the_future present t ≡ true
future_at present r t back above fits is =
    rw back
    (and_true (bytes_eq t (uid_text cluster_word r) && nat_lt r (2 ^ 62)) (nat_lt present r)
    (and_true (bytes_eq t (uid_text cluster_word r)) (nat_lt r (2 ^ 62)) ((bytes_eq-Decides t (uid_text cluster_word r)).1 is) (below_back r (2 ^ 62) fits)) (below_back present r above))

future_from : (present : ℕ) (t : List ℕ) → IsUidAbove present t → is_of_the_future present t ≡ true
future_from present t u = future_at present u.0 t (subst (λ s. uid_revision s ≡ u.0) (sym u.3) (existing cluster_word u.0 u.2)) u.1 u.2 u.3

pub future_uids : FutureUidsAreLater
future_uids present t = (later_from present t, future_from present t)
