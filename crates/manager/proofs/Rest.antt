-- Changes that are handled, and then others; keys that are added, and then others.
use Rattle.std.proofs.Common.{◌≡◌, ◌++◌, ◌+◌, ◌<◌, ◌≤◌, ℕ, List, [], ◌∷◌, map, take, drop, length, get_or, ap, ◌∙◌, refl, sym, subst, arith, append_assoc, append-nil}
use Rattle.std.proofs.lemmas.List.{drop_more, drop-map, drop-drop, get_or-map, length-map, take-append-drop, map-append}
use Rattle.baton.specs.declared.views.Known.{Known}
use Rattle.spec_client_go.specs.Shifts.{Shift}
use Rattle.spec_client_go.specs.WorkQueues.{WorkKey}
use Rattle.spec_server.specs.Snapshots.{Snapshot}
use Rattle.control_desk.specs.Calls.{IsCall, Nothing}
use Rattle.control_desk.specs.Steps.{Step, changing}
use Rattle.control_desk.specs.declared.states.WorkState.{WorkState}
use Rattle.object_keys.specs.declared.per_kind.PerKind.{PerKind}
use Rattle.manager.specs.Handled.{Handles, IsPiece, AddsPieces, joined, step_of, again_of}
use Rattle.manager.specs.declared.origins.Origin.{Origin}

-- one more change is handled
pub handles_more :
    (origin : Origin) (maps : PerKind Snapshot) (ss : List Shift) (s : Shift) (v u w : Known WorkState Step)
    → Handles origin maps ss v u → IsCall u (changing (step_of origin maps s)) Nothing w → Handles origin maps (ss ++ s ∷ []) v w
handles_more origin maps [] s v u w same call = (w, subst (λ x. IsCall x (changing (step_of origin maps s)) Nothing w) same call, refl)
handles_more origin maps (t ∷ ss) s v u w (x, first, rest) call = (x, first, handles_more origin maps ss s x u w rest call)

-- so far changes are handled, and these are left
abbrev pub IsAsFar : Origin → PerKind Snapshot → List Shift → List Shift → Known WorkState Step → Known WorkState Step → Type 0
IsAsFar origin maps shifts left v w = (handled : List Shift) × (shifts ≡ handled ++ left) × Handles origin maps handled v w

-- the next of them is handled too
pub as_far_more :
    {X : Type 0} (f : X → Shift) (origin : Origin) (maps : PerKind Snapshot) (xs : List X) (from i : ℕ) (x : X) (v u w : Known WorkState Step)
    → i < length xs → x ≡ get_or xs i x → IsAsFar origin maps (drop from (map f xs)) (drop i (map f xs)) v u
    → IsCall u (changing (step_of origin maps (f x))) Nothing w → IsAsFar origin maps (drop from (map f xs)) (drop (i + 1) (map f xs)) v w
as_far_more f origin maps xs from i x v u w inside at far call =
    let within : i < length (map f xs) = omega (arith, length-map xs f) in
    let first : get_or (map f xs) i (f x) ≡ f x = get_or-map f xs i x (f x) inside ∙ ap f (sym at) in
    let next : drop i (map f xs) ≡ f x ∷ drop (i + 1) (map f xs) = drop_more (map f xs) i (f x) within ∙ ap (λ y. y ∷ drop (i + 1) (map f xs)) first in
    let whole = far.1 ∙ ap (λ l. far.0 ++ l) next ∙ sym (append_assoc far.0 (f x ∷ []) (drop (i + 1) (map f xs))) in
    (far.0 ++ f x ∷ [], whole, handles_more origin maps far.0 (f x) v u w far.2 call)

-- ---- keys that are added

-- one more piece is added
adds_more : (origin : Origin) (ps : List (List WorkKey)) (p : List WorkKey) (v u w : Known WorkState Step) → AddsPieces origin ps v u → IsPiece p
    → IsCall u (changing (again_of origin p)) Nothing w → AddsPieces origin (ps ++ p ∷ []) v w
adds_more origin [] p v u w same piece call = (w, piece, subst (λ x. IsCall x (changing (again_of origin p)) Nothing w) same call, refl)
adds_more origin (q ∷ ps) p v u w (x, first, now, rest) piece call = (x, first, now, adds_more origin ps p x u w rest piece call)

joined_more : (ps : List (List WorkKey)) (p : List WorkKey) → joined (ps ++ p ∷ []) ≡ joined ps ++ p
joined_more [] p = append-nil p
joined_more (q ∷ ps) p = ap (λ l. q ++ l) (joined_more ps p) ∙ sym (append_assoc q (joined ps) p)

-- so far keys are added, and these are left
abbrev pub IsAddedSoFar : Origin → List WorkKey → List WorkKey → Known WorkState Step → Known WorkState Step → Type 0
IsAddedSoFar origin keys left v w = (pieces : List (List WorkKey)) × (keys ≡ joined pieces ++ left) × AddsPieces origin pieces v w

pub added_more : (origin : Origin) (keys left more : List WorkKey) (p : List WorkKey) (v u w : Known WorkState Step) → left ≡ p ++ more → IsPiece p
    → IsAddedSoFar origin keys left v u → IsCall u (changing (again_of origin p)) Nothing w → IsAddedSoFar origin keys more v w
added_more origin keys left more p v u w next piece far call =
    let whole = far.1 ∙ ap (λ l. joined far.0 ++ l) next ∙ sym (append_assoc (joined far.0) p more) ∙ ap (λ l. l ++ more) (sym (joined_more far.0 p)) in
    (far.0 ++ p ∷ [], whole, adds_more origin far.0 p v u w far.2 piece call)

-- a first part of what follows the first so many, and what follows that
pub parted : {X : Type 0} (f : X → WorkKey) (xs p : List X) (i : ℕ) → p ≡ take (length p) (drop i xs) → drop i (map f xs) ≡ map f p ++ drop (i + length p) (map f xs)
parted f xs p i is =
    drop-map f i xs
    ∙ ap (map f) (sym (take-append-drop (length p) (drop i xs)) ∙ ap (λ l. l ++ drop (length p) (drop i xs)) (sym is) ∙ ap (λ l. p ++ l) (drop-drop (length p) i xs))
    ∙ map-append f p (drop (i + length p) xs)
    ∙ ap (λ l. map f p ++ l) (sym (drop-map f (i + length p) xs))

pub is_piece : {X : Type 0} (f : X → WorkKey) (p : List X) → 0 < length p → length p ≤ 256 → IsPiece (map f p)
is_piece f p some few = let same = length-map p f in (omega arith, omega arith)
