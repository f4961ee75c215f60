-- Each move of a pass keeps the law.
use Rattle.std.proofs.Common.{◌≡◌, ◌≢◌, ℕ, true, false, true≢false, List, [], ◌∷◌, ◌++◌, set, sym, refl, ap, ◌∙◌, subst, inl, inr, ⊎_elim, append-nil, append_assoc, arith}
use Rattle.std.specs.Prelude.{Option, Some, None, is_some, unwrap_or, IfSome}
use mathlib.Core.Option.{some}
use lib.ListN.{get_elem?}
use Rattle.crossbeam_queue.specs.Fifo.{Pushes, Pops, Learns}
use Rattle.crossbeam_queue.proofs.Lists.{at_set, set_here}
use Rattle.baton.specs.declared.views.Known.{Known}
use Rattle.baton.specs.declared.views.PassView.{PassView}
use Rattle.baton.specs.Marks.{entries, marked}
use Rattle.baton.specs.Passes.{blank, alone, unopened, newcomer, owns, Fits, Stands, Placed, given, holding, SomePass, Open, Kept, Taken}
use Rattle.baton.proofs.Seats.{all_set, within, nil_ne_cons, only, not_true, owns_self, owns_heir, elsewhere}
use Rattle.baton.proofs.Somebody.{some_set, still_signed}
use Rattle.baton.proofs.Entries.{made_here_one, made_else_one, made_none, nothing_happened, happens}

module _ {T E : Type 0} where
  pub blank_stands : (opening : T) (h : List (ℕ × E)) (seat_of : ℕ → ℕ) (seat : ℕ) → Stands opening h seat_of seat (blank {T = T} {E = E})
  blank_stands opening h seat_of seat = ((λ q. absurd (true≢false (sym q))), λ n q. absurd (true≢false (sym q)))

  -- an entry of another name changes nothing of what is known
  later : (opening : T) (h : List (ℕ × E)) (seat_of : ℕ → ℕ) (seat : ℕ) (k : Known T E) (name : ℕ) (change : Option E) → owns k name ≡ false → k.holds ≡ false → Stands opening h seat_of seat k
      → Stands opening (h ++ marked name change) seat_of seat k
  later opening h seat_of seat k name change free still s = (
    (λ named.
        let f = s.0 named in
        record {
          opened = f.opened;
          seen = (f.seen.0 ++ marked name change, ap (λ z. z ++ marked name change) f.seen.1 ∙ append_assoc k.seen f.seen.0 (marked name change));
          made = made_else_one k.name name h change (λ e. true≢false (sym (owns_self k named) ∙ sym (ap (owns k) e) ∙ free)) ∙ f.made;
          told = f.told;
          whole = λ q. absurd (true≢false (sym q ∙ still));
          unmade = λ n heirs above. made_else_one n name h change (λ e. true≢false (sym (owns_heir k n named heirs above) ∙ sym (ap (owns k) e) ∙ free)) ∙ f.unmade n heirs above;
        }),
    s.1,
  )

module _ {T E : Type 0} (opens : T → Type 0) (gives : T → List E → T) (follows : List (ℕ × E) → ℕ → E → Type 0) where
  -- ---- take

  takes_open : (pass : ℕ) (v : PassView T E) (x : T) (views : List (PassView T E)) → is_some v.own.opening ≡ true → Open opens gives follows (x ∷ []) views → get_elem? views pass ≡ some v
      → (w : PassView T E) × Kept opens gives follows [] (set views pass w) × Taken opens gives follows v x w
  takes_open pass v x views named k at =
      let opening = k.0 in let h = k.1 in let mine = k.7 pass v at in let fits : Fits opening h v.own = mine.own.0 named in let w : PassView T E = holding h v in (
        w,
        inr (
          opening,
          h,
          k.2,
          k.3,
          k.4,
          tt,
          (
            pass,
            w,
            set_here views pass w (within views pass v at),
            refl,
            λ seat u e. ⊎_elim (λ (t : (seat ≡ pass) × (w ≡ u)) (_ : u.own.holds ≡ true). t.0)
                (λ (t : (seat ≢ pass) × (get_elem? views seat ≡ some u)) (q : u.own.holds ≡ true). absurd (true≢false (sym q ∙ (k.6).1 seat u t.1))) (at_set views pass seat w u e),
          ),
          all_set (Placed opening h k.2) views pass w
              (record {
                own = ((λ _. record { opened = fits.opened; seen = ([], sym (append-nil h)); made = fits.made; told = fits.made; whole = λ _. refl; unmade = fits.unmade }), mine.own.1);
                guest = mine.guest;
                apart = mine.apart;
                alive = λ _. named;
                waits = mine.waits;
              }) (λ j u other e. k.7 j u e),
          (pass, w, set_here views pass w (within views pass v at), inl (named, refl)),
          still_signed h views (set views pass w) (λ n. some_set (λ other seen. other ≡ n) views pass v w at (λ q. q) (λ q. q)) k.9,
        ),
        record {
          history = h;
          knows = refl;
          later = fits.seen;
          made = fits.made;
          unmade = fits.unmade;
          happened = k.4;
          state = λ o is. subst (λ (z : T). opens z × (x ≡ gives z (entries h))) (ap (λ p. unwrap_or p o) (sym fits.opened ∙ is)) (k.3, k.5);
        },
      )

  pub takes : (pass : ℕ) (v : PassView T E) → is_some v.own.opening ≡ true → Pops (Kept opens gives follows) pass v (Taken opens gives follows v)
  takes pass v named x items views h at = ⊎_elim (λ (t : ((x ∷ items) ≡ []) × (views ≡ unopened ∷ [])). absurd (nil_ne_cons x items t.0))
      (λ (k : Open opens gives follows (x ∷ items) views). subst (λ (l : List T). (w : PassView T E) × Kept opens gives follows l (set views pass w) × Taken opens gives follows v x w) (sym (k.6).0)
      (takes_open pass v x views named (subst (λ (l : List T). Open opens gives follows (x ∷ l) views) (k.6).0 k) at)) h

  -- ---- give

  -- who gives an entry is there
  signs : (change : Option E) (views : List (PassView T E)) (name : ℕ) → SomePass (λ other seen. other ≡ name) views → IfSome change (λ e. SomePass (λ other seen. other ≡ name) views)
  signs None views name s = tt
  signs (Some e) views name s = s

  gives_open : (pass : ℕ) (v : PassView T E) (x : T) (change : Option E) (views : List (PassView T E)) → Open opens gives follows [] views → get_elem? views pass ≡ some v → is_some v.own.opening ≡ true → v.own.holds ≡ true
      → IfSome change (λ e. follows v.own.seen v.own.name e)
      → ((o : T) → v.own.opening ≡ Some o → x ≡ gives o (entries (given change v).own.seen))
      → Open opens gives follows (x ∷ []) (set views pass (given change v))
  gives_open pass v x change views k at named holds may value =
      let opening = k.0 in let h = k.1 in let mine = k.7 pass v at in let fits : Fits opening h v.own = mine.own.0 named in let w : PassView T E = given change v in
      let name = v.own.name in let same : v.own.seen ≡ h = fits.whole holds in let h' = h ++ marked name change in
      let here : k.2 name ≡ pass = mine.own.1 name (owns_self v.own named) in
      let keeper : pass ≡ (k.6).0 = (k.6).4 pass v at holds in (
        opening,
        h',
        k.2,
        k.3,
        happens follows h name change k.4 (subst (λ (z : List (ℕ × E)). IfSome change (λ e. follows z name e)) same may),
        subst (λ (z : List (ℕ × E)). x ≡ gives opening (entries (z ++ marked name change))) same (value opening fits.opened),
        (
          refl,
          λ seat u e. ⊎_elim (λ (t : (seat ≡ pass) × (w ≡ u)). ap (λ (z : PassView T E). z.own.holds) (sym t.1))
              (λ (t : (seat ≢ pass) × (get_elem? views seat ≡ some u)). not_true u.own.holds (λ q. t.0 ((k.6).4 seat u t.1 q ∙ sym keeper))) (at_set views pass seat w u e),
        ),
        all_set (Placed opening h' k.2) views pass w
            (record {
              own = (
                (λ _.
                    record {
                      opened = fits.opened;
                      seen = ([], ap (λ z. z ++ marked name change) (sym same) ∙ sym (append-nil (v.own.seen ++ marked name change)));
                      made = made_here_one name h change ∙ ap (λ l. l ++ entries (marked name change)) fits.made;
                      told = made_here_one name v.own.seen change ∙ ap (λ l. l ++ entries (marked name change)) fits.told;
                      whole = λ q. absurd (true≢false (sym q));
                      unmade = λ n heirs above. made_else_one n name h change (λ e. omega arith) ∙ fits.unmade n heirs above;
                    }),
                mine.own.1,
              );
              guest = later opening h k.2 pass v.guest name change (mine.apart name (owns_self v.own named)) mine.waits mine.guest;
              apart = mine.apart;
              alive = λ q. absurd (true≢false (sym q));
              waits = mine.waits;
            })
            (λ j u other e.
            let f = k.7 j u e in
            record {
              own = later opening h k.2 j u.own name change (elsewhere k.2 j pass u.own name f.own.1 here other) (not_true u.own.holds (λ q. other ((k.6).4 j u e q ∙ sym keeper))) f.own;
              guest = later opening h k.2 j u.guest name change (elsewhere k.2 j pass u.guest name f.guest.1 here other) f.waits f.guest;
              apart = f.apart;
              alive = f.alive;
              waits = f.waits;
            }),
        (pass, w, set_here views pass w (within views pass v at), inl (named, ap (λ z. z ++ marked name change) same)),
        happens (λ before n e. SomePass (λ other seen. other ≡ n) (set views pass w)) h name change
            (still_signed h views (set views pass w) (λ n. some_set (λ other seen. other ≡ n) views pass v w at (λ q. q) (λ q. q)) k.9)
            (signs change (set views pass w) name (pass, w, set_here views pass w (within views pass v at), inl (named, refl))),
      )

  unopened_has_none : (views : List (PassView T E)) (pass : ℕ) (v : PassView T E) → views ≡ unopened ∷ [] → get_elem? views pass ≡ some v → is_some v.own.opening ≡ true → ⊥
  unopened_has_none views pass v is at named = true≢false (sym named ∙ ap (λ (z : PassView T E). is_some z.own.opening) (only views unopened pass v is at).1)

  pub gives_back : (n pass : ℕ) (v : PassView T E) (x : T) (change : Option E) → is_some v.own.opening ≡ true → v.own.holds ≡ true
      → IfSome change (λ e. follows v.own.seen v.own.name e)
      → ((o : T) → v.own.opening ≡ Some o → x ≡ gives o (entries (given change v).own.seen))
      → Pushes (Kept opens gives follows) n pass v x (λ w. w ≡ given change v)
  gives_back n pass v x change named holds may value [] views room h at = (
    given change v,
    ⊎_elim (λ (t : ([] ≡ []) × (views ≡ unopened ∷ [])). absurd (unopened_has_none views pass v t.1 at named)) (λ (k : Open opens gives follows [] views). inr (gives_open pass v x change views k at named holds may value)) h,
    refl,
  )
  gives_back n pass v x change named holds may value (y ∷ items) views room h at = ⊎_elim (λ (t : ((y ∷ items) ≡ []) × (views ≡ unopened ∷ [])). absurd (nil_ne_cons y items t.0))
      (λ (k : Open opens gives follows (y ∷ items) views). absurd (true≢false (sym holds ∙ (k.6).1 pass v at))) h

  pub finds_none : (pass : ℕ) (v : PassView T E) → v.own.holds ≡ true → Learns (Kept opens gives follows) pass v (λ items. items ≡ [])
  finds_none pass v holds [] views h at = refl
  finds_none pass v holds (y ∷ items) views h at = ⊎_elim (λ (t : ((y ∷ items) ≡ []) × (views ≡ unopened ∷ [])). absurd (nil_ne_cons y items t.0))
      (λ (k : Open opens gives follows (y ∷ items) views). absurd (true≢false (sym holds ∙ (k.6).1 pass v at))) h

  -- ---- open

  opened : (x : T) → opens x → x ≡ gives x [] → Open opens gives follows (x ∷ []) (alone (newcomer 0 true x) ∷ [])
  opened x may begins = (
    x,
    [],
    (λ _. 0),
    may,
    nothing_happened follows,
    begins,
    (refl, λ seat u e. ap (λ (z : PassView T E). z.own.holds) (only (alone (newcomer 0 true x) ∷ []) (alone (newcomer 0 true x)) seat u refl e).1),
    λ seat u e.
        let o = only (alone (newcomer 0 true x) ∷ []) (alone (newcomer 0 true x)) seat u refl e in
        let first : Placed x [] (λ _. 0) 0 (alone (newcomer {T = T} {E = E} 0 true x)) = record {
          own = ((λ _. record { opened = refl; seen = ([], refl); made = made_none 0; told = made_none 0; whole = λ q. refl; unmade = λ n heirs above. made_none n }), λ n q. refl);
          guest = blank_stands x [] (λ _. 0) 0;
          apart = λ n q. refl;
          alive = λ q. refl;
          waits = refl;
        } in
        subst (λ (z : ℕ × PassView T E). Placed x [] (λ _. 0) z.0 z.1) (λ i. (sym o.0 i, sym o.1 i)) first,
    (0, alone (newcomer 0 true x), refl, inl (refl, refl)),
    nothing_happened (λ before n e. SomePass (λ other seen. other ≡ n) (alone (newcomer 0 true x) ∷ [])),
  )

  pub begins_so : (n : ℕ) (x : T) → opens x → x ≡ gives x [] → Pushes (Kept opens gives follows) n 0 unopened x (λ w. w ≡ alone (newcomer 0 true x))
  begins_so n x may begins [] views room h at = (
    alone (newcomer 0 true x),
    ⊎_elim (λ (t : ([] ≡ []) × (views ≡ unopened ∷ [])). subst (λ (l : List (PassView T E)). Kept opens gives follows (x ∷ []) (set l 0 (alone (newcomer 0 true x)))) (sym t.1) (inr (opened x may begins)))
        (λ (k : Open opens gives follows [] views). absurd (true≢false (sym ((k.7 0 unopened at).alive refl)))) h,
    refl,
  )
  begins_so n x may begins (y ∷ items) views room h at = ⊎_elim (λ (t : ((y ∷ items) ≡ []) × (views ≡ unopened ∷ [])). absurd (nil_ne_cons y items t.0))
      (λ (k : Open opens gives follows (y ∷ items) views). absurd (true≢false (sym ((k.7 0 unopened at).alive refl)))) h
