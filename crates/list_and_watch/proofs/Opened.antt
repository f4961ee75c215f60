-- Followers that take in pieces of a stream of initial events, and publish after each.
use Rattle.std.proofs.Common.{◌≡◌, ◌≤◌, ◌⊎◌, ◌++◌, inl, inr, ℕ, List, flat_map, None, refl, sym, ap, subst, ◌∙◌}
use Rattle.spec_api.specs.declared.kinds.Kind.{Kind}
use Rattle.spec_api.specs.History.{History, list}
use Rattle.spec_api.specs.Streams.{Line, text_of_lines}
use Rattle.spec_server.specs.Snapshots.{Snapshot}
use Rattle.spec_client_go.specs.Informers.{all_applied}
use Rattle.spec_client_go.specs.Reflectors.{Reflector, all_fed}
use Rattle.spec_laws.specs.SentLaws.{whole}
use Rattle.reflector.specs.Laws.{IsAtStart, IsServedInitial, Waits, Replaces}
use Rattle.reflector.proofs.Opened.{initial_streams, cuts_open_again}
use Rattle.informer_laws.proofs.Publishing.{all_fed_names, applied_members}
use Rattle.list_and_watch.specs.Followers.{Follower, after_cut}
use Rattle.list_and_watch.proofs.Followed.{kind_of_all, with_pieces, at_rest, all_taken}
use Rattle.list_and_watch.specs.FollowerLaws.{Shows, Starts, after_pieces, InitialStreamsAreShown}

-- what a follower that took in pieces shows, where this was published before
abbrev Result : History → Kind → ℕ → ℕ → Snapshot → Follower → Type 0
Result h k a b m g =
    ((g.informer.published ≡ m) × Starts k (after_cut g))
    ⊎ ((a ≤ g.reflector.revision) × (g.reflector.revision ≤ b)
    × (g.informer.published ≡ record { members = list h (whole k) g.reflector.revision; revision = g.reflector.revision })
    × Shows h k g.reflector.revision (after_cut g))

abbrev IsShown : History → Kind → ℕ → ℕ → Snapshot → List (List ℕ) → Reflector → Type 0
IsShown h k a b m pieces s = ((all_fed s pieces).ended ≡ None) × Result h k a b m (with_pieces (all_fed s pieces) m)

waiting : (h : History) (a b : ℕ) (s : Reflector) (m : Snapshot) (pieces : List (List ℕ)) → m.revision ≡ s.revision → Waits s.revision (all_fed s pieces) → IsShown h s.kind a b m pieces s
waiting h a b s m pieces named waits =
    let d = all_fed s pieces in
    let same : all_applied m d.deltas ≡ m = ap (λ ds. all_applied m ds) waits.deltas in
    let again = cuts_open_again s pieces waits in
    (waits.ended, inl (same, record { kind = kind_of_all pieces s; at = again.0; named = ap (λ (n : Snapshot). n.revision) same ∙ named ∙ sym waits.revision; pending = refl }))

replacing : (h : History) (a b : ℕ) (s : Reflector) (m : Snapshot) (pieces : List (List ℕ)) → m.revision ≡ s.revision → Replaces h s.kind a b (all_fed s pieces) → IsShown h s.kind a b m pieces s
replacing h a b s m pieces named replaces =
    let on = replaces.goes_on in
    let d = all_fed s pieces in
    let members : (all_applied m d.deltas).members ≡ list h (whole s.kind) d.after.revision = applied_members m d.deltas ∙ replaces.applies m.members in
    let names : (all_applied m d.deltas).revision ≡ d.after.revision = all_fed_names pieces s m named in
    let shown : all_applied m d.deltas ≡ record { members = list h (whole s.kind) d.after.revision; revision = d.after.revision } = (λ i. record { members = members i; revision = names i }) in
    (on.ended, inr (on.above, on.below, shown, record { kind = kind_of_all pieces s; at = record { watches = on.watches; revision = refl; holds = refl }; published = shown; pending = refl }))

fed_shown : (h : History) (a b : ℕ) (ls : List Line) (s : Reflector) (m : Snapshot) (pieces : List (List ℕ)) (more : List ℕ) → IsAtStart s → m.revision ≡ s.revision
    → IsServedInitial h s.kind a b ls → flat_map (λ p. p) pieces ++ more ≡ text_of_lines s.kind ls → IsShown h s.kind a b m pieces s
fed_shown h a b ls s m pieces more at named served e = by (initial_streams h a b ls s pieces more at served e)
  where
    by : {M N : Type 0} → (M × Waits s.revision (all_fed s pieces)) ⊎ (N × Replaces h s.kind a b (all_fed s pieces)) → IsShown h s.kind a b m pieces s
    by (inl w) = waiting h a b s m pieces named w.1
    by (inr r) = replacing h a b s m pieces named r.1

pub initial_streams_shown : InitialStreamsAreShown
initial_streams_shown h k a b ls f pieces more starts served e =
    let s = f.reflector in
    let m = f.informer.published in
    let rest : f ≡ at_rest s m = (λ i. record { reflector = f.reflector; informer = record { published = f.informer.published; pending = starts.pending i } }) in
    let at_kind : IsShown h k a b m pieces s =
    subst (λ k. IsServedInitial h k a b ls → flat_map (λ p. p) pieces ++ more ≡ text_of_lines k ls → IsShown h k a b m pieces s)
    starts.kind (λ served e. fed_shown h a b ls s m pieces more starts.at starts.named served e) served e in
    let taken : Result h k a b m (after_pieces (at_rest s m) pieces) = subst (λ (g : Follower). Result h k a b m g) (sym (all_taken pieces s m at_kind.0)) at_kind.1 in
    subst (λ (g : Follower). Result h k a b m (after_pieces g pieces)) (sym rest) taken
