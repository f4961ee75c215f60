-- Where the bookmark stands that closes initial events.
use Rattle.std.proofs.Common.{◌≡◌, ℕ, List, [], ◌∷◌, ◌++◌, refl, sym, ap, ◌∙◌, subst}
use Rattle.serde_json.specs.Data.{Data}
use Rattle.spec_api.specs.Events.{Event, events}
use Rattle.spec_api.specs.History.{Entries, list}
use Rattle.spec_api.specs.Keys.{Key}
use Rattle.spec_api.specs.Streams.{Line, event, bookmark, initial, initial_end, added_lines, AreEventsWithBookmarks}
use Rattle.sim_cluster_laws.specs.ServedStreamLaws.{ClosingsFollowTheList, NoneClosesEarly}

-- none among changes
none_closes : (xs later : List Line) (at b c : ℕ) (cs : List Event) → AreEventsWithBookmarks at b cs (xs ++ initial_end c ∷ later) → ⊥
none_closes [] later at b c [] g = g
none_closes [] later at b c (d ∷ ds) g = g
none_closes (event e ∷ xs) later at b c [] g = g
none_closes (event e ∷ xs) later at b c (d ∷ ds) g = none_closes xs later d.revision b c ds g.1
none_closes (bookmark r ∷ xs) later at b c [] g = none_closes xs later r b c [] g.2
none_closes (bookmark r ∷ xs) later at b c (d ∷ ds) g = none_closes xs later r b c (d ∷ ds) g.3
none_closes (initial n d ∷ xs) later at b c [] g = g
none_closes (initial n d ∷ xs) later at b c (e ∷ es) g = g
none_closes (initial_end r ∷ xs) later at b c [] g = g
none_closes (initial_end r ∷ xs) later at b c (e ∷ es) g = g

closes_after : (ms : Entries) (before later more : List Line) (a b c : ℕ) (cs : List Event) → AreEventsWithBookmarks a b cs more
    → before ++ initial_end c ∷ later ≡ added_lines ms ++ initial_end a ∷ more → (before ≡ added_lines ms) × (c ≡ a) × (later ≡ more)
closes_after [] [] later more a b c cs g is =
    let same : c ≡ a = cc in
    let rest : later ≡ more = cc in (refl, same, rest)
closes_after [] (x ∷ xs) later more a b c cs g is =
    let rest : more ≡ xs ++ initial_end c ∷ later = cc in
    absurd (none_closes xs later a b c cs (subst (AreEventsWithBookmarks a b cs) rest g))
closes_after (m ∷ ms) [] later more a b c cs g is = cc
closes_after (m ∷ ms) (x ∷ xs) later more a b c cs g is =
    let first : x ≡ initial m.0 m.1 = cc in
    let rest : xs ++ initial_end c ∷ later ≡ added_lines ms ++ initial_end a ∷ more = cc in
    let others = closes_after ms xs later more a b c cs g rest in
    ((λ i. first i ∷ others.0 i), others.1, others.2)

pub closings_follow : ClosingsFollowTheList
closings_follow h v a b c before later is =
    let at = closes_after (list h v a) before later is.0 a b c (events h v a b) is.2 is.1 in
    (at.0, at.1, subst (AreEventsWithBookmarks a b (events h v a b)) (sym at.2) is.2)

-- a beginning of a list is not all of it
not_all : (ms ns : Entries) (m : Key × Data) → added_lines ms ≡ added_lines (ms ++ m ∷ ns) → ⊥
not_all [] ns m is = cc
not_all (x ∷ ms) ns m is = let rest : added_lines ms ≡ added_lines (ms ++ m ∷ ns) = cc in not_all ms ns m rest

pub none_early : NoneClosesEarly
none_early h v a b c ms ns m more listed is = not_all ms ns m ((closings_follow h v a b c (added_lines ms) more is).0 ∙ ap added_lines listed)
