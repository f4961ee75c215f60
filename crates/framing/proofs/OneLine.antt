-- What one line says.
use Rattle.std.proofs.Common.{◌≡◌, ◌<◌, ◌≤◌, ◌-◌, ◌+◌, ℕ, List, [], ◌∷◌, ◌++◌, length, take, drop, nat_lt, Bool, true, false, Option, Some, None, Ok, Err, refl, sym, ap, ◌∙◌, arith, append-nil, append_assoc, length-drop}
use Rattle.std.specs.Str.{IsUtf8, is_utf8}
use Rattle.std.proofs.lemmas.Str.{IsUtf8-from_is_utf8, is_utf8-from_IsUtf8}
use Rattle.std.proofs.lemmas.List.{drop-drop, drop_all, map-append}
use Rattle.serde_json.specs.Data.{Data}
use Rattle.serde_json.specs.Read.{read}
use Rattle.framing.specs.Lines.{IsPartial}
use Rattle.spec_api.specs.Frames.{Frame as Event}
use Rattle.spec_client_go.specs.ReadFrames.{frame_in, frame_of_line, line_read, frame_or_fault, longest_frame, reading, onto, next}
use Rattle.framing.specs.Decoders.{given, event_of, events_of}
use Rattle.framing.specs.declared.frames.Frame.{Frame}
use Rattle.spec_client_go.specs.declared.frame_fault.FrameFault.{FrameFault}
use Rattle.spec_client_go.specs.declared.frame_fault.FrameFault.TheVariants.{NotAFrame, TooLong}
use Rattle.framing.proofs.Reading.{reading-line, reading-short, reading-long}

pub line_read_is : (l : List ℕ) (d : Data) (o : Option Event) → length l < longest_frame → IsUtf8 l → read l ≡ Some d → o ≡ frame_in d → frame_or_fault o ≡ line_read l
line_read_is l d o k u r e = let b : nat_lt (length l) longest_frame ≡ true = grind arith in rw (b, is_utf8-from_IsUtf8 l u, r, e) refl

none_at : (l : List ℕ) (b : Bool) → is_utf8 l ≡ b → (IsUtf8 l → read l ≡ None) → frame_of_line l ≡ None
none_at l true e h = rw (e, h (IsUtf8-from_is_utf8 l e)) refl
none_at l false e h = rw e refl

pub line_read_none : (l : List ℕ) → length l < longest_frame → (IsUtf8 l → read l ≡ None) → Err NotAFrame ≡ line_read l
line_read_none l k h = let b : nat_lt (length l) longest_frame ≡ true = grind arith in rw (b, none_at l (is_utf8 l) refl h) refl

-- ---- one line of several

-- what is left after a line and its newline
pub end_after : (bytes rest after rest' : List ℕ) (n : ℕ) → rest ≡ drop (length bytes - length rest) bytes → length rest ≤ length bytes → n < length rest → after ≡ drop n rest → rest' ≡ drop 1 after
    → (rest' ≡ drop (n + 1) rest) × (length rest' < length rest) × (rest' ≡ drop (length bytes - length rest') bytes)
end_after bytes rest after rest' n e short k a b =
    let here : rest' ≡ drop (n + 1) rest = b ∙ ap (drop 1) a ∙ drop-drop 1 n rest in
    let long : length rest' ≡ length rest - (n + 1) = ap length here ∙ length-drop (n + 1) rest in
    let place : length bytes - length rest + (n + 1) ≡ length bytes - length rest' = omega (arith, long) in (
      here,
      omega (arith, long),
      here ∙ ap (drop (n + 1)) e ∙ drop-drop (n + 1) (length bytes - length rest) bytes ∙ ap (λ m. drop m bytes) place,
    )

pub events_of-push : (fs new : List Frame) (f : Frame) → new ≡ fs ++ f ∷ [] → events_of new ≡ events_of fs ++ event_of f ∷ []
events_of-push fs new f e = ap events_of e ∙ map-append event_of fs (f ∷ [])

module _ (es : List Event) (bytes rest : List ℕ) (so_far : onto es (reading rest) ≡ reading bytes) where
  all_left : (n : ℕ) → n ≡ 0 → drop (length bytes - n) bytes ≡ []
  all_left n e = drop_all (length bytes - n) bytes (omega (arith, e))

  pub reads_fault : (n : ℕ) (line : List ℕ) (f : FrameFault) → (n < length rest) × IsPartial (take n rest) × (rest ≡ take n rest ++ 10 ∷ drop (n + 1) rest) → line ≡ take n rest → Err f ≡ line_read line
      → given es (drop (length bytes - 0) bytes) (Some f) ≡ reading bytes
  reads_fault n line f h e r =
      rw (all_left 0 refl) (ap (λ fs. given fs [] (Some f)) (sym (append-nil es))
      ∙ ap (λ o. onto es (next o (reading (drop (n + 1) rest)))) (r ∙ ap line_read e) ∙ ap (onto es) (sym (reading-line (take n rest) (drop (n + 1) rest) h.1) ∙ ap reading (sym h.2)) ∙ so_far)

  pub reads_frame : (n : ℕ) (line rest' : List ℕ) (e : Event) → (n < length rest) × IsPartial (take n rest) × (rest ≡ take n rest ++ 10 ∷ drop (n + 1) rest) → line ≡ take n rest → Ok e ≡ line_read line → rest' ≡ drop (n + 1) rest
      → onto (es ++ e ∷ []) (reading rest') ≡ reading bytes
  reads_frame n line rest' e h l r t =
      ap (λ fs. record { events = fs; buffered = (reading rest').buffered; fault = (reading rest').fault }) (append_assoc es (e ∷ []) (reading rest').events)
      ∙ ap (λ z. onto es (onto (e ∷ []) (reading z))) t ∙ ap (λ o. onto es (next o (reading (drop (n + 1) rest)))) (r ∙ ap line_read l)
      ∙ ap (onto es) (sym (reading-line (take n rest) (drop (n + 1) rest) h.1) ∙ ap reading (sym h.2)) ∙ so_far

  pub reads_short : IsPartial rest → length rest < longest_frame → rest ≡ drop (length bytes - length rest) bytes → given es (drop (length bytes - length rest) bytes) None ≡ reading bytes
  reads_short p k e = rw (sym e) (ap (λ fs. given fs rest None) (sym (append-nil es)) ∙ ap (onto es) (sym (reading-short rest p k)) ∙ so_far)

  pub reads_long : IsPartial rest → longest_frame ≤ length rest → given es (drop (length bytes - 0) bytes) (Some TooLong) ≡ reading bytes
  reads_long p k = rw (all_left 0 refl) (ap (λ fs. given fs [] (Some TooLong)) (sym (append-nil es)) ∙ ap (onto es) (sym (reading-long rest p k)) ∙ so_far)
