-- What is made of passes, the last of them first, and then turned round.
use Rattle.std.proofs.Common.{◌≡◌, List, [], ◌∷◌, ◌++◌, All, length, map, reverse, refl, ap, sym, subst, ◌∙◌, append_assoc}
use Rattle.std.proofs.lemmas.List.{length-map, length-reverse, map-append, reverse-append, reverse-reverse}
use Rattle.std.proofs.lemmas.List.Elements.{All-head, All-push, All-tail}
use Rattle.desk.specs.Desks.{IsPassAt}
use Rattle.desk.specs.Seats.{desk_at, known_at}
use Rattle.desk.specs.declared.askings.Readable.{Readable}
use Rattle.desk.specs.declared.desks.Desk.{Desk}
use Rattle.kcp_loopback.specs.Serving.{IsNewOf, seat_of}
use Rattle.http_event_loop.specs.declared.event_loop.EventLoop.{EventLoop}
use Rattle.desk.specs.declared.seats.Seat.{Seat}
use Rattle.kcp_loopback.specs.declared.ringing.Ringer.{Ringer}

module _ {A B : Type 0} (f : A → B) where
  map_reversed : (xs : List A) → map f (reverse xs) ≡ reverse (map f xs)
  map_reversed [] = refl
  map_reversed (x ∷ xs) =
      ap (map f) (reverse-append (x ∷ []) xs) ∙ map-append f (reverse xs) (x ∷ []) ∙ ap (λ ys. ys ++ f x ∷ []) (map_reversed xs) ∙ sym (reverse-append (f x ∷ []) (map f xs))

-- what is so of each is so of each in the other order
pub all_reversed : {A : Type 0} (is_so : A → Type 0) (xs : List A) → All is_so xs → All is_so (reverse xs)
all_reversed is_so [] all = all
all_reversed is_so (x ∷ xs) all =
    subst (All is_so) (sym (reverse-append (x ∷ []) xs)) (All-push is_so (reverse xs) x (all_reversed is_so xs (All-tail is_so x xs all)) (All-head is_so x xs all))

module _ {P C K : Type 0} (known : P → K) (knows : C → K) where
  -- one more is made of the last pass that was left
  pub made_more : (all before left : List P) (made : List C) (p : P) (c : C) → before ≡ left ++ p ∷ [] → knows c ≡ known p
      → map known all ≡ map known before ++ reverse (map knows made) → map known all ≡ map known left ++ reverse (map knows (made ++ c ∷ []))
  made_more all before left made p c last same so =
      let passes : map known before ≡ map known left ++ known p ∷ [] = ap (map known) last ∙ map-append known left (p ∷ []) in
      let more : reverse (map knows (made ++ c ∷ [])) ≡ known p ∷ reverse (map knows made) =
      ap reverse (map-append knows made (c ∷ [])) ∙ reverse-append (map knows made) (knows c ∷ []) ∙ ap (λ k. k ∷ reverse (map knows made)) same in
      so ∙ ap (λ ks. ks ++ reverse (map knows made)) passes ∙ append_assoc (map known left) (known p ∷ []) (reverse (map knows made)) ∙ sym (ap (λ ks. map known left ++ ks) more)

  -- of all passes one is made, the last first
  pub made_all : (all left : List P) (made : List C) → left ≡ [] → map known all ≡ map known left ++ reverse (map knows made) → map knows made ≡ reverse (map known all)
  made_all all left made none so = sym (reverse-reverse (map knows made)) ∙ ap reverse (sym (so ∙ ap (λ ps. map known ps ++ reverse (map knows made)) none))

  pub made_count : (all : List P) (made : List C) → map knows made ≡ reverse (map known all) → length made ≡ length all
  made_count all made so = sym (length-map made knows) ∙ ap length so ∙ length-reverse (map known all) ∙ length-map all known

  -- turned round, they are in the order of the passes
  pub made_in_order : (all : List P) (made : List C) → map knows made ≡ reverse (map known all) → map knows (reverse made) ≡ map known all
  made_in_order all made so = map_reversed knows made ∙ ap reverse so ∙ reverse-reverse (map known all)

-- a loop whose seat is at this desk, with a pass that has seen and made nothing, and which has taken and asked nothing, is new there
pub new_of : {R L : Type 0} (d : Desk Readable) (e : EventLoop (Seat Readable Ringer R) L) → desk_at (seat_of e) ≡ d → (known_at (seat_of e)).seen ≡ [] → (known_at (seat_of e)).made ≡ []
    → e.asker.taken.count ≡ 0 → e.asker.asked ≡ 0 → IsNewOf d e
new_of d e there seen made taken asked = ((there, (subst (λ x. IsPassAt x (seat_of e).pass) there (seat_of e).sits, seen, made)), taken, asked)
