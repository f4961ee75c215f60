-- What a reflector asks for after whatever comes.
use Rattle.std.proofs.Common.{◌≡◌, ◌⊎◌, inl, inr, List, [], ◌∷◌, ◌++◌, ℕ, Bool, true, false, Option, Some, None, refl, ap, ◌∙◌}
use Rattle.std.specs.List.{AllByRecursion}
use Rattle.spec_api.specs.declared.kinds.Kind.{Kind}
use Rattle.spec_client_go.specs.declared.reflectors.Phase.{Phase}
use Rattle.spec_client_go.specs.declared.reflectors.Phase.TheVariants.{Listing, Streaming, Watching}
use Rattle.spec_client_go.specs.Reflectors as reflectors
use Rattle.spec_client_go.specs.Reflectors.{Reflector, Listed, list_of, with_list, first_phase, anew, asks, ask_at, fed, fed_in}
use Rattle.reflector.specs.Laws.{IsAt}
use Rattle.sim_cluster_laws.specs.StreamingLaws.{Step, list, bytes, cut, expired, refused, after_step, after_steps, IsNoList, OnlyListsEndRefusals, ExpiriesStreamAgain, CutsDropInitialEvents, StepsKeepStreaming}

-- ---- what stays

-- of a kind, streaming or not
abbrev IsOf : Kind → Bool → Reflector → Type 0
IsOf k b s = (s.is_streaming ≡ b) × (s.kind ≡ k)

listed_keeps : (o : Option Listed) (s : Reflector) → IsOf s.kind s.is_streaming (with_list o s)
listed_keeps None s = (refl, refl)
listed_keeps (Some l) s = (refl, refl)

fed_keeps : (p : Phase) (xs : List ℕ) (s : Reflector) → IsOf s.kind s.is_streaming (fed_in p xs s).after
fed_keeps Listing xs s = (refl, refl)
fed_keeps Streaming xs s = (refl, refl)
fed_keeps Watching xs s = (refl, refl)

step_keeps : (t : Step) (s : Reflector) → IsOf s.kind s.is_streaming (after_step t s)
step_keeps (list body) s = listed_keeps (list_of s.kind body) s
step_keeps (bytes piece) s = fed_keeps s.phase (s.buffered ++ piece) s
step_keeps cut s = (refl, refl)
step_keeps expired s = (refl, refl)
step_keeps refused s = (refl, refl)

pub steps_keep : StepsKeepStreaming
steps_keep s [] = (refl, refl)
steps_keep s (t ∷ ts) =
    let first = step_keeps t s in
    let others = steps_keep (after_step t s) ts in
    (others.0 ∙ first.0, others.1 ∙ first.1)

-- ---- refusals

-- a list is asked for, at a revision
abbrev Lists : Kind → ℕ → Reflector → Type 0
Lists k r s = (s.phase ≡ Listing) × (s.revision ≡ r) × (s.kind ≡ k)

none_listed : (o : Option Listed) (s : Reflector) → o ≡ None → with_list o s ≡ s
none_listed None s none = refl
none_listed (Some l) s none = cc

step_lists : (t : Step) (k : Kind) (r : ℕ) (s : Reflector) → IsNoList k t → Lists k r s → Lists k r (after_step t s)
step_lists (list body) k r s none is =
    let nothing = none_listed (list_of s.kind body) s (ap (λ j. list_of j body) is.2 ∙ none) in
    (ap (λ (z : Reflector). z.phase) nothing ∙ is.0, ap (λ (z : Reflector). z.revision) nothing ∙ is.1, ap (λ (z : Reflector). z.kind) nothing ∙ is.2)
step_lists (bytes piece) k r s none is =
    let nothing : (fed s piece).after ≡ s = rw is.0 refl in
    (ap (λ (z : Reflector). z.phase) nothing ∙ is.0, ap (λ (z : Reflector). z.revision) nothing ∙ is.1, ap (λ (z : Reflector). z.kind) nothing ∙ is.2)
step_lists cut k r s none is = (is.0, is.1, is.2)
step_lists expired k r s none is = (ap (λ p. anew p s.is_streaming) is.0, is.1, is.2)
step_lists refused k r s none is = (refl, is.1, is.2)

all_list : (ts : List Step) (k : Kind) (r : ℕ) (s : Reflector) → AllByRecursion (IsNoList k) ts → Lists k r s → Lists k r (after_steps ts s)
all_list [] k r s none is = is
all_list (t ∷ ts) k r s none is = all_list ts k r (after_step t s) none.1 (step_lists t k r s none.0 is)

watches_from : (o : Option Listed) (l : Listed) (s : Reflector) → o ≡ Some l → IsAt (with_list o s) l.revision
watches_from None l s is = cc
watches_from (Some m) l s is = let same : m ≡ l = cc in record { watches = refl; revision = ap (λ (z : Listed). z.revision) same; holds = refl }

pub lists_end : OnlyListsEndRefusals
lists_end s ts none =
    let t = after_steps ts (reflectors.refused s) in
    let is = all_list ts s.kind s.revision (reflectors.refused s) none (refl, refl, refl) in (
      is.0,
      ap (λ p. ask_at p t.revision) is.0,
      is.1,
      λ body l read. watches_from (list_of t.kind body) l t (ap (λ k. list_of k body) is.2 ∙ read),
    )

-- ---- streams

streams_first : (b : Bool) → b ≡ true → first_phase b ≡ Streaming
streams_first true is = refl
streams_first false is = cc

streams_anew : (p : Phase) (b : Bool) → b ≡ true → (p ≡ Streaming) ⊎ (p ≡ Watching) → anew p b ≡ Streaming
streams_anew Listing b is (inl x) = cc
streams_anew Listing b is (inr x) = cc
streams_anew Streaming b is x = streams_first b is
streams_anew Watching b is x = streams_first b is

pub stream_again : ExpiriesStreamAgain
stream_again s streams at =
    let phase = streams_anew s.phase s.is_streaming streams at in
    (record { streams = phase; initial = refl; holds = refl }, ap (λ p. ask_at p s.revision) phase, refl)

pub cuts_drop : CutsDropInitialEvents
cuts_drop s at = (record { streams = at; initial = refl; holds = refl }, ap (λ p. ask_at p s.revision) at, refl)
