-- Passes that come of others, and passes that meet, keep the law.
use Rattle.std.proofs.Common.{◌≡◌, ◌≢◌, ◌⊎◌, ℕ, ◌+◌, ◌<◌, true, false, true≢false, List, [], ◌∷◌, ◌++◌, length, set, sym, refl, ap, ◌∙◌, subst, inl, inr, ⊎_elim, if◌then◌else◌, arith}
use Rattle.std.specs.Prelude.{is_some}
use mathlib.Core.Option.{some}
use lib.ListN.{get_elem?}
use Rattle.crossbeam_queue.specs.Fifo.{Forks, Merges, Learns}
use Rattle.crossbeam_queue.proofs.Lists.{at_set}
use Rattle.baton.specs.declared.views.Known.{Known}
use Rattle.baton.specs.declared.views.PassView.{PassView}
use Rattle.baton.specs.Marks.{StartsWith, CanHappen}
use Rattle.baton.specs.Passes.{blank, alone, unopened, owns, NoneAbove, Fits, Stands, Placed, hosting, settled, heir, Knows, Open, Kept, Met}
use Rattle.baton.proofs.Seats.{All, all_set, only, at_longer_cases, if_true, if_false, if_either, not_true, owned, owns_self, owns_heir, elsewhere, keeper_set, keeper_snoc}
use Rattle.baton.proofs.Entries.{none_in_front, between, prefixes, happened_in_front}
use Rattle.baton.proofs.Somebody.{some_fork, some_merge, still_signed}
use Rattle.baton.proofs.Keeps.{blank_stands}

module _ {T E : Type 0} where
  -- the seat of a name, once those of a pass have moved
  abbrev moved : Known T E → ℕ → (ℕ → ℕ) → ℕ → ℕ
  moved k seat seat_of n = if owns k n then seat else seat_of n

  -- who owns none of the moved names stays where it is
  stays : (opening : T) (h : List (ℕ × E)) (seat_of : ℕ → ℕ) (seat to : ℕ) (k r : Known T E) → ((n : ℕ) → owns k n ≡ true → owns r n ≡ false) → Stands opening h seat_of seat k → Stands opening h (moved r to seat_of) seat k
  stays opening h seat_of seat to k r apart s = (s.0, λ n q. if_false (owns r n) to (seat_of n) (apart n q) ∙ s.1 n q)

  stays_placed : (opening : T) (h : List (ℕ × E)) (seat_of : ℕ → ℕ) (seat to : ℕ) (v : PassView T E) (r : Known T E) → ((n : ℕ) → seat_of n ≡ seat → owns r n ≡ false) → Placed opening h seat_of seat v → Placed opening h (moved r to seat_of) seat v
  stays_placed opening h seat_of seat to v r free p = record {
    own = stays opening h seat_of seat to v.own r (λ n q. free n (p.own.1 n q)) p.own;
    guest = stays opening h seat_of seat to v.guest r (λ n q. free n (p.guest.1 n q)) p.guest;
    apart = p.apart;
    alive = p.alive;
    waits = p.waits;
  }

  -- a pass that knows this and nothing else
  placed_alone : (opening : T) (h : List (ℕ × E)) (seat_of : ℕ → ℕ) (seat : ℕ) (k : Known T E) → k.holds ≡ false → Stands opening h seat_of seat k → Placed opening h seat_of seat (alone k)
  placed_alone opening h seat_of seat k still s = record { own = s; guest = blank_stands opening h seat_of seat; apart = λ n q. refl; alive = λ q. absurd (true≢false (sym q ∙ still)); waits = refl }

  -- who is known stays so, with the name and with what was seen
  abbrev GoesOn : Known T E → Known T E → Type 0
  GoesOn k l = is_some k.opening ≡ true → (is_some l.opening ≡ true) × (k.name ≡ l.name) × (k.seen ≡ l.seen)

  goes : (Q : ℕ → List (ℕ × E) → Type 0) (k l : Known T E) → GoesOn k l → Knows Q k → Knows Q l
  goes Q k l on q = let o = on q.0 in (o.0, subst (λ (z : ℕ × List (ℕ × E)). Q z.0 z.1) (λ i. (o.1 i, o.2 i)) q.1)

  blank_goes : (k l : Known T E) → k ≡ blank → GoesOn k l
  blank_goes k l is q = absurd (true≢false (sym q ∙ ap (λ (z : Known T E). is_some z.opening) is))

  -- what two parts of a view have to be
  pub record Splits (opening : T) (h : List (ℕ × E)) (v : PassView T E) (l r : Known T E) : Type 0 where
    pub left : is_some l.opening ≡ true → Fits opening h l
    pub right : is_some r.opening ≡ true → Fits opening h r
    pub of_left : (n : ℕ) → owns l n ≡ true → (owns v.own n ≡ true) ⊎ (owns v.guest n ≡ true)
    pub of_right : (n : ℕ) → owns r n ≡ true → (owns v.own n ≡ true) ⊎ (owns v.guest n ≡ true)
    pub apart : (n : ℕ) → owns l n ≡ true → owns r n ≡ false
    pub own_goes : GoesOn v.own l
    pub guest_goes : GoesOn v.guest r

module _ {T E : Type 0} (opens : T → Type 0) (gives : T → List E → T) (follows : List (ℕ × E) → ℕ → E → Type 0) where
  still_open : (items : List T) (views : List (PassView T E)) (pass : ℕ) (v : PassView T E) → v.own.holds ≡ false → get_elem? views pass ≡ some v → Kept opens gives follows items views → Open opens gives follows items views
  still_open items views pass v still at k = ⊎_elim
      (λ (t : (items ≡ []) × (views ≡ unopened ∷ [])). absurd (true≢false (sym (ap (λ (z : PassView T E). z.own.holds) (only views unopened pass v t.1 at).1) ∙ still)))
      (λ (o : Open opens gives follows items views). o) k

  forks_open : (pass : ℕ) (v : PassView T E) (l r : Known T E) (items : List T) (views : List (PassView T E)) → v.own.holds ≡ false → l.holds ≡ false → r.holds ≡ false
      → ((opening : T) (h : List (ℕ × E)) (seat_of : ℕ → ℕ) → Placed opening h seat_of pass v → Splits opening h v l r)
      → get_elem? views pass ≡ some v → Open opens gives follows items views → Open opens gives follows items (set views pass (alone l) ++ alone r ∷ [])
  forks_open pass v l r items views still still_l still_r splits at k =
      let opening = k.0 in let h = k.1 in let mine = k.7 pass v at in let s = splits opening h k.2 mine in
      let views' = set views pass (alone l) in let last = length views' in let seat_of' = moved r last k.2 in
      let of_pass : (n : ℕ) → (owns v.own n ≡ true) ⊎ (owns v.guest n ≡ true) → k.2 n ≡ pass = λ n q. ⊎_elim (λ o. mine.own.1 n o) (λ o. mine.guest.1 n o) q in
      let left : Placed opening h seat_of' pass (alone l) = placed_alone opening h seat_of' pass l still_l (s.left, λ n q. if_false (owns r n) last (k.2 n) (s.apart n q) ∙ of_pass n (s.of_left n q)) in
      let right : Placed opening h seat_of' last (alone r) = placed_alone opening h seat_of' last r still_r (s.right, λ n q. if_true (owns r n) last (k.2 n) q) in
      let placed : All (Placed opening h seat_of') views' = all_set (Placed opening h seat_of') views pass (alone l) left
      (λ j u other e. stays_placed opening h k.2 j last u r (λ n here. not_true (owns r n) (λ q. other (sym here ∙ of_pass n (s.of_right n q)))) (k.7 j u e)) in (
        opening,
        h,
        seat_of',
        k.3,
        k.4,
        k.5,
        keeper_snoc items views' (alone r) still_r (keeper_set items views pass v (alone l) at still still_l k.6),
        λ j u e. ⊎_elim (λ t. placed j u t) (λ (t : (j ≡ last) × (alone r ≡ u)). subst (λ (z : ℕ × PassView T E). Placed opening h seat_of' z.0 z.1) (λ i. (sym t.0 i, t.1 i)) right)
            (at_longer_cases views' (alone r) u j e),
        some_fork (λ name seen. seen ≡ h) views pass v l r at (goes (λ name seen. seen ≡ h) v.own l s.own_goes) (goes (λ name seen. seen ≡ h) v.guest r s.guest_goes) k.8,
        still_signed h views (views' ++ alone r ∷ [])
            (λ n. some_fork (λ other seen. other ≡ n) views pass v l r at (goes (λ other seen. other ≡ n) v.own l s.own_goes) (goes (λ other seen. other ≡ n) v.guest r s.guest_goes)) k.9,
      )

  forks : (pass : ℕ) (v : PassView T E) (l r : Known T E) → v.own.holds ≡ false → l.holds ≡ false → r.holds ≡ false
      → ((opening : T) (h : List (ℕ × E)) (seat_of : ℕ → ℕ) → Placed opening h seat_of pass v → Splits opening h v l r)
      → Forks (Kept opens gives follows) pass v (alone l) (alone r)
  forks pass v l r still still_l still_r splits items views k at = inr (forks_open pass v l r items views still still_l still_r splits at (still_open items views pass v still at k))

  -- ---- a pass for the next name

  pub bequeaths : (pass : ℕ) (v : PassView T E) → is_some v.own.opening ≡ true → v.own.holds ≡ false → v.own.heirs ≡ true → v.guest ≡ blank → Forks (Kept opens gives follows) pass v (settled v) (heir v)
  bequeaths pass v named still heirs lone =
      let l : Known T E = record v.own { heirs = false } in let r : Known T E = record v.own { name = v.own.name + 1; made = []; holds = false } in
      let from_right : (n : ℕ) → owns r n ≡ true → v.own.name < n = λ n q. ⊎_elim (λ (e : n ≡ v.own.name + 1). omega arith) (λ (e : (v.own.heirs ≡ true) × (v.own.name + 1 < n)). let m = e.1 in omega arith) (owned r n q) in
      let from_left : (n : ℕ) → owns l n ≡ true → n ≡ v.own.name = λ n q. ⊎_elim (λ (e : n ≡ v.own.name). e) (λ (e : (false ≡ true) × (v.own.name < n)). absurd (true≢false (sym e.0))) (owned l n q) in
      subst (λ (g : Known T E). Forks (Kept opens gives follows) pass v (record { own = l; guest = g }) (alone r)) (sym lone)
      (forks pass v l r still still refl
      (λ opening h seat_of p.
      let f : Fits opening h v.own = p.own.0 named in
      record {
        left = λ _. record { opened = f.opened; seen = f.seen; made = f.made; told = f.told; whole = f.whole; unmade = λ n q above. absurd (true≢false (sym q)) };
        right = λ _.
            record {
              opened = f.opened;
              seen = f.seen;
              made = f.unmade (v.own.name + 1) heirs (omega arith);
              told = none_in_front (v.own.name + 1) h v.own.seen f.seen (f.unmade (v.own.name + 1) heirs (omega arith));
              whole = λ q. absurd (true≢false (sym q));
              unmade = λ n q above. f.unmade n heirs (omega arith);
            };
        of_left = λ n q. inl (subst (λ (m : ℕ). owns v.own m ≡ true) (sym (from_left n q)) (owns_self v.own named));
        of_right = λ n q. inl (owns_heir v.own n named heirs (from_right n q));
        apart = λ n q. not_true (owns r n) (λ p. let a = from_left n q in let b = from_right n p in absurd (omega arith));
        own_goes = λ q. (q, refl, refl);
        guest_goes = blank_goes v.guest r lone;
      }))

  -- ---- meetings

  pub spares : (pass : ℕ) (v : PassView T E) → v.own.holds ≡ false → v.guest ≡ blank → Forks (Kept opens gives follows) pass v (alone v.own) (alone blank)
  spares pass v still lone = forks pass v v.own blank still still refl
      (λ opening h seat_of p. record { left = p.own.0; right = λ q. absurd (true≢false (sym q)); of_left = λ n q. inl q; of_right = λ n q. absurd (true≢false (sym q)); apart = λ n q. refl; own_goes = λ q. (q, refl, refl); guest_goes = blank_goes v.guest blank lone })

  pub parts : (pass : ℕ) (v : PassView T E) → v.own.holds ≡ false → v.guest.holds ≡ false → Forks (Kept opens gives follows) pass v (alone v.own) (alone v.guest)
  parts pass v still still' = forks pass v v.own v.guest still still still'
      (λ opening h seat_of p. record { left = p.own.0; right = p.guest.0; of_left = λ n q. inl q; of_right = λ n q. inr q; apart = p.apart; own_goes = λ q. (q, refl, refl); guest_goes = λ q. (q, refl, refl) })

  hosts_open : (pass : ℕ) (v : PassView T E) (other : ℕ) (w : PassView T E) (items : List T) (views : List (PassView T E)) → v.own.holds ≡ false → w.own.holds ≡ false → v.guest ≡ blank → w.guest ≡ blank → ¬ (other ≡ pass)
      → get_elem? views pass ≡ some v → get_elem? (set views pass (hosting v w)) other ≡ some w → Open opens gives follows items views → Open opens gives follows items (set (set views pass (hosting v w)) other (alone blank))
  hosts_open pass v other w items views still still' lone lone' two at at' k =
      let opening = k.0 in let h = k.1 in let mine = k.7 pass v at in let seat_of' = moved w.own pass k.2 in let views' = set views pass (hosting v w) in
      let was : get_elem? views other ≡ some w = ⊎_elim (λ x. absurd (two x.0)) (λ x. x.1) (at_set views pass other (hosting v w) w at') in let theirs = k.7 other w was in
      let both : Placed opening h seat_of' pass (hosting v w) = record {
        own = (mine.own.0, λ n q. if_either (owns w.own n) pass (k.2 n) pass refl (mine.own.1 n q));
        guest = (theirs.own.0, λ n q. if_true (owns w.own n) pass (k.2 n) q);
        apart = λ n q. elsewhere k.2 other pass w.own n theirs.own.1 (mine.own.1 n q) two;
        alive = mine.alive;
        waits = still';
      } in (
        opening,
        h,
        seat_of',
        k.3,
        k.4,
        k.5,
        keeper_set items views' other w (alone blank) at' still' refl (keeper_set items views pass v (hosting v w) at still still k.6),
        all_set (Placed opening h seat_of') views' other (alone blank) (placed_alone opening h seat_of' other blank refl (blank_stands opening h seat_of' other))
            (λ j u away e. ⊎_elim (λ (t : (j ≡ pass) × (hosting v w ≡ u)). subst (λ (z : ℕ × PassView T E). Placed opening h seat_of' z.0 z.1) (λ i. (sym t.0 i, t.1 i)) both)
            (λ (t : (j ≢ pass) × (get_elem? views j ≡ some u)).
            stays_placed opening h k.2 j pass u w.own (λ n here. not_true (owns w.own n) (λ q. away (sym here ∙ theirs.own.1 n q))) (k.7 j u t.1)) (at_set views pass j (hosting v w) u e)),
        some_merge (λ name seen. seen ≡ h) views pass v other w at two at' lone lone' k.8,
        still_signed h views (set views' other (alone blank)) (λ n. some_merge (λ name seen. name ≡ n) views pass v other w at two at' lone lone') k.9,
      )

  pub hosts : (pass : ℕ) (v : PassView T E) (other : ℕ) (w : PassView T E) → v.own.holds ≡ false → w.own.holds ≡ false → v.guest ≡ blank → w.guest ≡ blank → Merges (Kept opens gives follows) pass v other w (hosting v w) (alone blank)
  hosts pass v other w still still' lone lone' items views k at two at' = inr (hosts_open pass v other w items views still still' lone lone' two at at' (still_open items views pass v still at k))

  none_above : (h front : List (ℕ × E)) (k : Known T E) → StartsWith h front → NoneAbove k h → NoneAbove k front
  none_above h front k s none n heirs above = none_in_front n h front s (none n heirs above)

  met : (opening : T) (h : List (ℕ × E)) (k l : Known T E) → k.name ≢ l.name → CanHappen follows h → Fits opening h k → Fits opening h l → Met opens gives follows k l
  met opening h k l apart can a b = (
    apart,
    ⊎_elim (λ (p : StartsWith k.seen l.seen). inl (p, a.told, between l.name h k.seen l.seen l.made a.seen p b.made b.told, happened_in_front follows h k.seen a.seen can, none_above h k.seen k a.seen a.unmade, none_above h k.seen l a.seen b.unmade))
        (λ (p : StartsWith l.seen k.seen). inr (p, b.told, between k.name h l.seen k.seen k.made b.seen p a.made a.told, happened_in_front follows h l.seen b.seen can, none_above h l.seen l b.seen b.unmade, none_above h l.seen k b.seen a.unmade))
        (prefixes h k.seen l.seen a.seen b.seen),
  )

  pub meets : (pass : ℕ) (v : PassView T E) → v.own.holds ≡ false → is_some v.own.opening ≡ true → is_some v.guest.opening ≡ true → Learns (Kept opens gives follows) pass v (λ items. Met opens gives follows v.own v.guest)
  meets pass v still named named' items views kept at =
      let k = still_open items views pass v still at kept in let p = k.7 pass v at in
      met k.0 k.1 v.own v.guest (λ e. true≢false (sym (owns_self v.guest named') ∙ ap (owns v.guest) (sym e) ∙ p.apart v.own.name (owns_self v.own named))) k.4 (p.own.0 named) (p.guest.0 named')
