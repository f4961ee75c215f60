-- What is found among JSON members that were set or taken out.
use Rattle.std.proofs.Common.{◌≡◌, ℕ, List, Bool, true, false, true≢false, cond, Option, Some, option_and_then, codes, Ordering, Less, Equal, Greater, nat_cmp, is_eq, bytes_eq, refl, sym, ap, ◌∙◌}
use Rattle.std.proofs.lemmas.Map.Text.{is_eq-slice_cmp}
use Rattle.std.proofs.lemmas.Slice.Eq.{bytes_eq-Decides}
use Rattle.std.specs.Cmp.Lexicographic.{slice_cmp}
use Rattle.std.specs.Ordering.{match_ordering}
use Rattle.serde_json.specs.Data.{Data, string, object, Members, no_members, member, put}
use Rattle.serde_json.specs.Find.{get_member, as_str}
use Rattle.serde_json.proofs.Views.{get_member-put, get_member-put_other}
use Rattle.spec_api.specs.Values.{members_of, inner_of, without}
use Rattle.spec_api.specs.Metadata.{metadata_of, with_metadata, metadata_text}

-- a text among members
abbrev pub text_in : List ℕ → Members → Option (List ℕ)
text_in k ms = option_and_then as_str (get_member k ms)

-- two texts of which the test says that they differ
pub apart : (a b : List ℕ) → bytes_eq a b ≡ false → a ≡ b → ⊥
apart a b other is = true≢false (sym ((bytes_eq-Decides a b).1 is) ∙ other)

other_cond : (o : Ordering) (a b : Option Data) → is_eq o ≡ false → match_ordering o a b a ≡ a
other_cond Less a b e = refl
other_cond Equal a b e = absurd (true≢false e)
other_cond Greater a b e = refl

skips : (q l : List ℕ) (e : Data) (ms : Members) → bytes_eq q l ≡ false → get_member q (member l e ms) ≡ get_member q ms
skips q l e ms other = other_cond (slice_cmp nat_cmp q l) _ _ (is_eq-slice_cmp q l ∙ other)

without_at : (b c : Bool) (q k l : List ℕ) (e : Data) (ms : Members) → bytes_eq k l ≡ b → bytes_eq q k ≡ false → get_member q (without k ms) ≡ get_member q ms
    → get_member q (cond b ms (member l e (without k ms))) ≡ get_member q (member l e ms)
without_at true c q k l e ms here other later =
    let same : k ≡ l = (bytes_eq-Decides k l).0 here in
    sym (skips q l e ms (ap (bytes_eq q) (sym same) ∙ other))
without_at false c q k l e ms here other later = ap (λ r. match_ordering (slice_cmp nat_cmp q l) r (Some e) r) later

-- taking one member out leaves the others
pub get_member-without_other : (q k : List ℕ) (ms : Members) → bytes_eq q k ≡ false → get_member q (without k ms) ≡ get_member q ms
get_member-without_other q k no_members other = refl
get_member-without_other q k (member l e ms) other =
    ap (λ b. get_member q (cond b ms (member l e (without k ms)))) (is_eq-slice_cmp k l) ∙ without_at (bytes_eq k l) true q k l e ms refl other (get_member-without_other q k ms other)

-- the metadata that was set is the metadata
pub metadata_of-with : (meta : Members) (d : Data) → metadata_of (with_metadata meta d) ≡ meta
metadata_of-with meta d = ap inner_of (get_member-put (codes "metadata") (object meta) (members_of d))

pub text_in-put : (k s : List ℕ) (ms : Members) → text_in k (put k (string s) ms) ≡ Some s
text_in-put k s ms = ap (option_and_then as_str) (get_member-put k (string s) ms)

pub text_in-put_other : (q k : List ℕ) (d : Data) (ms : Members) → bytes_eq q k ≡ false → text_in q (put k d ms) ≡ text_in q ms
text_in-put_other q k d ms other = ap (option_and_then as_str) (get_member-put_other q k d ms (apart q k other))

pub text_in-without_other : (q k : List ℕ) (ms : Members) → bytes_eq q k ≡ false → text_in q (without k ms) ≡ text_in q ms
text_in-without_other q k ms other = ap (option_and_then as_str) (get_member-without_other q k ms other)

-- a text of the metadata that was set
pub metadata_text-with : (q : List ℕ) (meta : Members) (d : Data) → metadata_text q (with_metadata meta d) ≡ text_in q meta
metadata_text-with q meta d = ap (text_in q) (metadata_of-with meta d)
