-- The finalizers that a delete leaves, as sets.
use Rattle.std.proofs.Common.{◌≡◌, ℕ, List, Bool, true, false, true≢false, ◌&&◌, ◌||◌, cond, bytes_eq, refl, sym, subst, ap, ap₂, ◌∙◌}
use Rattle.std.proofs.lemmas.Slice.Eq.{bytes_eq-Decides}
use Rattle.serde_json.specs.Data.{Data, null, boolean, number, string, array, object, Items, no_items, item}
use Rattle.spec_api.proofs.Truths.{and_true, both_false, left_true, right_true}
use Rattle.spec_api.specs.declared.policies.Policy.{Policy}
use Rattle.spec_api.specs.declared.policies.Policy.TheVariants.{Orphan, Foreground, Background}
use Rattle.spec_api.specs.Checks.{has_text, text_is}
use Rattle.spec_api.specs.Deletion.{orphan, foreground, is_of_policy, of_policy, others_then, are_of}
use Rattle.spec_laws.specs.FinalizerLaws.{without_policies, followed_by, replaced_by, are_among, NoPolicyLeavesAll, PoliciesReplaceFinalizers, is_text}
use Rattle.spec_api.specs.SelectorValues.{all_items}

-- ---- the others, and one after them

replaced_at : (b : Bool) (last : Items) (d : Data) (ds : Items) → others_then last ds ≡ followed_by (without_policies ds) last
    → cond b (others_then last ds) (item d (others_then last ds)) ≡ followed_by (cond b (without_policies ds) (item d (without_policies ds))) last
replaced_at true last d ds h = h
replaced_at false last d ds h = ap (item d) h

others_are : (last ds : Items) → others_then last ds ≡ followed_by (without_policies ds) last
others_are last no_items = refl
others_are last (item d ds) = replaced_at (is_of_policy d) last d ds (others_are last ds)

or_assoc : (a b c : Bool) → (a || (b || c)) ≡ ((a || b) || c)
or_assoc true b c = refl
or_assoc false b c = refl

has_text-followed : (ds last : Items) (t : List ℕ) → has_text (followed_by ds last) t ≡ (has_text ds t || has_text last t)
has_text-followed no_items last t = refl
has_text-followed (item d ds) last t = ap (λ b. text_is (bytes_eq t) d || b) (has_text-followed ds last t) ∙ or_assoc (text_is (bytes_eq t) d) (has_text ds t) (has_text last t)

and_assoc : (a b c : Bool) → (a && (b && c)) ≡ ((a && b) && c)
and_assoc true b c = refl
and_assoc false b c = refl

among-followed : (ds last es : Items) → are_among (followed_by ds last) es ≡ (are_among ds es && are_among last es)
among-followed no_items last es = refl
among-followed (item d ds) last es = ap (λ b. text_is (has_text es) d && b) (among-followed ds last es) ∙ and_assoc (text_is (has_text es) d) (are_among ds es) (are_among last es)

-- ---- what one list has, another has

itself : (s : List ℕ) → bytes_eq s s ≡ true
itself s = (bytes_eq-Decides s s).1 refl

or_first : (a b : Bool) → a ≡ true → (a || b) ≡ true
or_first true b h = refl
or_first false b h = absurd (true≢false (sym h))

or_second : (a b : Bool) → b ≡ true → (a || b) ≡ true
or_second true b h = refl
or_second false b h = h

pub among_from : (ds es : Items) → all_items is_text ds ≡ true → ((t : List ℕ) → has_text ds t ≡ true → has_text es t ≡ true) → are_among ds es ≡ true
among_from no_items es texts h = refl
among_from (item null ds) es texts h = absurd (true≢false (sym texts))
among_from (item (boolean b) ds) es texts h = absurd (true≢false (sym texts))
among_from (item (number n) ds) es texts h = absurd (true≢false (sym texts))
among_from (item (array xs) ds) es texts h = absurd (true≢false (sym texts))
among_from (item (object ms) ds) es texts h = absurd (true≢false (sym texts))
among_from (item (string s) ds) es texts h =
    and_true (has_text es s) (are_among ds es) (h s (or_first (bytes_eq s s) (has_text ds s) (itself s))) (among_from ds es texts (λ t g. h t (or_second (bytes_eq t s) (has_text ds t) g)))

-- and what one lacks, it is not among
lacks : (d : Data) (ds es : Items) (t : List ℕ) → are_among (item d ds) es ≡ true → (has_text ds t ≡ true → has_text es t ≡ true) → (b : Bool) → text_is (bytes_eq t) d ≡ b → (b || has_text ds t) ≡ true → has_text es t ≡ true
lacks d ds es t h later false is g = later g
lacks null ds es t h later true is g = absurd (true≢false (sym is))
lacks (boolean b) ds es t h later true is g = absurd (true≢false (sym is))
lacks (number n) ds es t h later true is g = absurd (true≢false (sym is))
lacks (array xs) ds es t h later true is g = absurd (true≢false (sym is))
lacks (object ms) ds es t h later true is g = absurd (true≢false (sym is))
lacks (string s) ds es t h later true is g = ap (has_text es) ((bytes_eq-Decides t s).0 is) ∙ left_true (has_text es s) (are_among ds es) h

has_from : (ds es : Items) (t : List ℕ) → are_among ds es ≡ true → has_text ds t ≡ true → has_text es t ≡ true
has_from no_items es t h g = absurd (true≢false (sym g))
has_from (item d ds) es t h g = lacks d ds es t h (has_from ds es t (right_true (text_is (has_text es) d) (are_among ds es) h)) (text_is (bytes_eq t) d) refl g

not_among : (ds es : Items) (t : List ℕ) → has_text ds t ≡ true → has_text es t ≡ false → are_among ds es ≡ false
not_among ds es t has none = by (are_among ds es) refl
  where
    by : (b : Bool) → are_among ds es ≡ b → b ≡ false
    by true is = absurd (true≢false (sym (has_from ds es t is has) ∙ none))
    by false is = refl

-- ---- without those of policies

neither_at : (b : Bool) (t : List ℕ) (d : Data) (ds : Items) → is_of_policy d ≡ b → (is_of_policy d ≡ false → text_is (bytes_eq t) d ≡ false) → has_text (without_policies ds) t ≡ false
    → has_text (cond b (without_policies ds) (item d (without_policies ds))) t ≡ false
neither_at true t d ds is other later = later
neither_at false t d ds is other later = ap₂ (λ x y. x || y) (other is) later

neither : (t : List ℕ) → ((d : Data) → is_of_policy d ≡ false → text_is (bytes_eq t) d ≡ false) → (ds : Items) → has_text (without_policies ds) t ≡ false
neither t other no_items = refl
neither t other (item d ds) = neither_at (is_of_policy d) t d ds refl (other d) (neither t other ds)

no_orphan : (ds : Items) → has_text (without_policies ds) orphan ≡ false
no_orphan = neither orphan (λ d h. (both_false (text_is (bytes_eq orphan) d) (text_is (bytes_eq foreground) d) h).0)

no_foreground : (ds : Items) → has_text (without_policies ds) foreground ≡ false
no_foreground = neither foreground (λ d h. (both_false (text_is (bytes_eq orphan) d) (text_is (bytes_eq foreground) d) h).1)

other_text : (s t : List ℕ) (a b : Bool) → bytes_eq orphan s ≡ a → bytes_eq foreground s ≡ b → (a || b) ≡ true → bytes_eq t orphan ≡ false → bytes_eq t foreground ≡ false → bytes_eq t s ≡ false
other_text s t true b is is' h p q = ap (bytes_eq t) (sym ((bytes_eq-Decides orphan s).0 is)) ∙ p
other_text s t false b is is' h p q = ap (bytes_eq t) (sym ((bytes_eq-Decides foreground s).0 (is' ∙ h))) ∙ q

module _ (t : List ℕ) (p : bytes_eq t orphan ≡ false) (q : bytes_eq t foreground ≡ false) where
  other_than : (d : Data) → is_of_policy d ≡ true → text_is (bytes_eq t) d ≡ false
  other_than null h = refl
  other_than (boolean b) h = refl
  other_than (number n) h = refl
  other_than (string s) h = other_text s t (bytes_eq orphan s) (bytes_eq foreground s) refl refl h p q
  other_than (array ds) h = refl
  other_than (object ms) h = refl

  stays_at : (b : Bool) (d : Data) (ds : Items) → is_of_policy d ≡ b → has_text (without_policies ds) t ≡ has_text ds t
      → has_text (cond b (without_policies ds) (item d (without_policies ds))) t ≡ (text_is (bytes_eq t) d || has_text ds t)
  stays_at true d ds is later = later ∙ ap (λ x. x || has_text ds t) (sym (other_than d is))
  stays_at false d ds is later = ap (λ x. text_is (bytes_eq t) d || x) later

  -- every other finalizer stays
  stays : (ds : Items) → has_text (without_policies ds) t ≡ has_text ds t
  stays no_items = refl
  stays (item d ds) = stays_at (is_of_policy d) d ds refl (stays ds)

text_unless : (b : Bool) (d : Data) (ds : Items) → (is_text d && all_items is_text ds) ≡ true → all_items is_text (without_policies ds) ≡ true → all_items is_text (cond b (without_policies ds) (item d (without_policies ds))) ≡ true
text_unless true d ds h later = later
text_unless false d ds h later = and_true (is_text d) (all_items is_text (without_policies ds)) (left_true (is_text d) (all_items is_text ds) h) later

still_texts : (ds : Items) → all_items is_text ds ≡ true → all_items is_text (without_policies ds) ≡ true
still_texts no_items h = refl
still_texts (item d ds) h = text_unless (is_of_policy d) d ds h (still_texts ds (right_true (is_text d) (all_items is_text ds) h))

fewer_at : (b x y z : Bool) → (y ≡ true → z ≡ true) → cond b y (x || y) ≡ true → (x || z) ≡ true
fewer_at true x y z f h = or_second x z (f h)
fewer_at false true y z f h = refl
fewer_at false false y z f h = f h

fewer_cond : (b : Bool) (t : List ℕ) (d : Data) (ds : Items) → has_text (cond b (without_policies ds) (item d (without_policies ds))) t ≡ cond b (has_text (without_policies ds) t) (text_is (bytes_eq t) d || has_text (without_policies ds) t)
fewer_cond true t d ds = refl
fewer_cond false t d ds = refl

fewer : (ds : Items) (t : List ℕ) → has_text (without_policies ds) t ≡ true → has_text ds t ≡ true
fewer no_items t h = h
fewer (item d ds) t h = fewer_at (is_of_policy d) (text_is (bytes_eq t) d) (has_text (without_policies ds) t) (has_text ds t) (fewer ds t) (sym (fewer_cond (is_of_policy d) t d ds) ∙ h)

-- ---- the same set

module _ (p : Policy) (ds : Items) (texts : all_items is_text ds ≡ true) where
  new_has : (t : List ℕ) → has_text (replaced_by p ds) t ≡ (has_text (without_policies ds) t || has_text (of_policy p) t)
  new_has t = has_text-followed (without_policies ds) (of_policy p) t

  new_orphan : has_text (replaced_by p ds) orphan ≡ has_text (of_policy p) orphan
  new_orphan = new_has orphan ∙ ap (λ b. b || has_text (of_policy p) orphan) (no_orphan ds)

  new_foreground : has_text (replaced_by p ds) foreground ≡ has_text (of_policy p) foreground
  new_foreground = new_has foreground ∙ ap (λ b. b || has_text (of_policy p) foreground) (no_foreground ds)

  new_among : are_among (replaced_by p ds) ds ≡ are_among (of_policy p) ds
  new_among = among-followed (without_policies ds) (of_policy p) ds ∙ ap (λ b. b && are_among (of_policy p) ds) (among_from (without_policies ds) ds (still_texts ds texts) (fewer ds))

  abbrev Kept : List ℕ → Type 0
  Kept t = has_text ds t ≡ true → has_text (replaced_by p ds) t ≡ true

  kept_at : (t : List ℕ) (a b : Bool) → bytes_eq t orphan ≡ a → bytes_eq t foreground ≡ b → Kept orphan → Kept foreground → Kept t
  kept_at t true b is is' f g = let same : t ≡ orphan = (bytes_eq-Decides t orphan).0 is in subst Kept (sym same) f
  kept_at t false true is is' f g = let same : t ≡ foreground = (bytes_eq-Decides t foreground).0 is' in subst Kept (sym same) g
  kept_at t false false is is' f g = λ has. new_has t ∙ or_first (has_text (without_policies ds) t) (has_text (of_policy p) t) (stays t is is' ds ∙ has)

  -- no finalizer is lost where that of no other policy is there
  none_lost : Kept orphan → Kept foreground → are_among ds (replaced_by p ds) ≡ true
  none_lost f g = among_from ds (replaced_by p ds) texts (λ t. kept_at t (bytes_eq t orphan) (bytes_eq t foreground) refl refl f g)

  orphan_lost : has_text ds orphan ≡ true → has_text (of_policy p) orphan ≡ false → are_among ds (replaced_by p ds) ≡ false
  orphan_lost has none = not_among ds (replaced_by p ds) orphan has (new_orphan ∙ none)

  foreground_lost : has_text ds foreground ≡ true → has_text (of_policy p) foreground ≡ false → are_among ds (replaced_by p ds) ≡ false
  foreground_lost has none = not_among ds (replaced_by p ds) foreground has (new_foreground ∙ none)

never : (b : Bool) → b ≡ false → b ≡ true → ⊥
never b is h = true≢false (sym h ∙ is)

of_set : (p : Policy) (ds : Items) → all_items is_text ds ≡ true → (o f : Bool) → has_text ds orphan ≡ o → has_text ds foreground ≡ f → are_of p ds ≡ (are_among (of_policy p) ds && are_among ds (replaced_by p ds))
of_set Orphan ds texts false f is is' = rw is refl
of_set Orphan ds texts true true is is' = rw (is, is', foreground_lost Orphan ds texts is' refl) refl
of_set Orphan ds texts true false is is' = rw (is, is', none_lost Orphan ds texts (λ h. new_orphan Orphan ds texts) (λ h. absurd (never (has_text ds foreground) is' h))) refl
of_set Foreground ds texts o false is is' = rw is' refl
of_set Foreground ds texts true true is is' = rw (is, is', orphan_lost Foreground ds texts is refl) refl
of_set Foreground ds texts false true is is' = rw (is, is', none_lost Foreground ds texts (λ h. absurd (never (has_text ds orphan) is h)) (λ h. new_foreground Foreground ds texts)) refl
of_set Background ds texts true f is is' = rw (is, orphan_lost Background ds texts is refl) refl
of_set Background ds texts false true is is' = rw (is, is', foreground_lost Background ds texts is' refl) refl
of_set Background ds texts false false is is' = rw (is, is', none_lost Background ds texts (λ h. absurd (never (has_text ds orphan) is h)) (λ h. absurd (never (has_text ds foreground) is' h))) refl

pub no_policy : NoPolicyLeavesAll
no_policy ds = refl

pub policies_replace : PoliciesReplaceFinalizers
policies_replace p ds texts =
    ap₂ (λ b es. cond b ds es)
    (of_set p ds texts (has_text ds orphan) (has_text ds foreground) refl refl ∙ ap (λ b. b && are_among ds (replaced_by p ds)) (sym (new_among p ds texts)))
    (others_are (of_policy p) ds)
