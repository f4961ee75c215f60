-- Followers that take in lists and pieces of watches, and publish after each.
use Rattle.std.proofs.Common.{◌≡◌, ◌≤◌, ◌++◌, ℕ, List, [], ◌∷◌, flat_map, Option, Some, None, refl, sym, ap, subst, ◌∙◌}
use Rattle.spec_api.specs.declared.kinds.Kind.{Kind}
use Rattle.spec_api.specs.History.{History, list}
use Rattle.spec_api.specs.Streams.{Line, text_of_lines}
use Rattle.spec_server.specs.Snapshots.{Snapshot}
use Rattle.spec_client_go.specs.declared.reflectors.End.{End}
use Rattle.spec_client_go.specs.declared.reflectors.Phase.{Phase}
use Rattle.spec_client_go.specs.declared.reflectors.Phase.TheVariants.{Listing, Streaming, Watching}
use Rattle.spec_client_go.specs.Informers.{all_applied}
use Rattle.spec_client_go.specs.Reflectors.{Reflector, Fed, list_of, list_delta, fed, fed_in, joined, all_fed, apply_deltas}
use Rattle.spec_laws.specs.SentLaws.{whole, listed_at}
use Rattle.spec_laws.proofs.SentLists.{lists_put, lists_read}
use Rattle.reflector.specs.Laws.{IsAt, IsServed}
use Rattle.reflector.proofs.Served.{cut_served}
use Rattle.informer_laws.proofs.Publishing.{applied_both, applied_members, all_fed_names}
use Rattle.list_and_watch.specs.Followers.{Follower, after_list, after_cut, published}
use Rattle.list_and_watch.specs.FollowerLaws.{Shows, after_pieces, ListsAreShown, PiecesAreShown}

-- ---- a list

pub lists_shown : ListsAreShown
lists_shown h k a f body happened is text =
    let l = listed_at h k a in
    let read : list_of f.reflector.kind body ≡ Some l = ap (λ k. list_of k body) is ∙ lists_read h k a body happened text in
    let all = applied_both f.informer.published f.informer.pending (list_delta l ∷ []) in
    let members = lists_put h k a happened in
    let shows : Shows h k a (published (after_list (Some l) f)) =
    record { kind = is; at = record { watches = refl; revision = refl; holds = refl }; published = all ∙ (λ i. record { members = members i; revision = a }); pending = refl } in
    subst (λ o. Shows h k a (published (after_list o f))) (sym read) shows

-- ---- pieces

kind_of_fed : (s : Reflector) (p : List ℕ) → (fed s p).after.kind ≡ s.kind
kind_of_fed s p = by s.phase
  where
    by : (x : Phase) → (fed_in x (s.buffered ++ p) s).after.kind ≡ s.kind
    by Listing = refl
    by Streaming = refl
    by Watching = refl

pub kind_of_all : (ps : List (List ℕ)) (s : Reflector) → (all_fed s ps).after.kind ≡ s.kind
kind_of_all [] s = refl
kind_of_all (p ∷ ps) s = by (fed s p) (all_fed (fed s p).after ps) (fed s p).ended (kind_of_fed s p) (kind_of_all ps (fed s p).after)
  where
    by : (f g : Fed) (e : Option End) → f.after.kind ≡ s.kind → g.after.kind ≡ f.after.kind → (joined e f g).after.kind ≡ s.kind
    by f g (Some x) here more = here
    by f g None here more = more ∙ here

abbrev pub with_pieces : Fed → Snapshot → Follower
with_pieces d m = record { reflector = d.after; informer = record { published = all_applied m d.deltas; pending = [] } }

abbrev pub at_rest : Reflector → Snapshot → Follower
at_rest s m = record { reflector = s; informer = record { published = m; pending = [] } }

-- with a publish after each, the same is published as with one at the end, where they come to no end
pub all_taken : (ps : List (List ℕ)) (s : Reflector) (m : Snapshot) → (all_fed s ps).ended ≡ None → after_pieces (at_rest s m) ps ≡ with_pieces (all_fed s ps) m
all_taken [] s m none = refl
all_taken (p ∷ ps) s m none = by (fed s p) (all_fed (fed s p).after ps) (fed s p).ended refl (all_taken ps (fed s p).after (all_applied m (fed s p).deltas)) none
  where
    by : (f g : Fed) (e : Option End) → f.ended ≡ e → (g.ended ≡ None → after_pieces (at_rest f.after (all_applied m f.deltas)) ps ≡ with_pieces g (all_applied m f.deltas)) → (joined e f g).ended ≡ None
        → after_pieces (at_rest f.after (all_applied m f.deltas)) ps ≡ with_pieces (joined e f g) m
    by f g (Some x) is more none = let both : Some x ≡ None = sym is ∙ none in cc
    by f g None is more none = more none ∙ ap (λ n. record { reflector = g.after; informer = record { published = n; pending = [] } }) (sym (applied_both m f.deltas g.deltas))

-- what a follower that took in pieces shows
abbrev Result : History → Kind → ℕ → ℕ → Follower → Type 0
Result h k a b g =
    (a ≤ g.reflector.revision) × (g.reflector.revision ≤ b) × (g.informer.published ≡ record { members = list h (whole k) g.reflector.revision; revision = g.reflector.revision })
    × Shows h k g.reflector.revision (after_cut g)

fed_shown : (h : History) (a b : ℕ) (ls : List Line) (s : Reflector) (m : Snapshot) (pieces : List (List ℕ)) (more : List ℕ) → IsAt s a → m ≡ record { members = list h (whole s.kind) a; revision = a }
    → IsServed h s.kind a b ls → flat_map (λ p. p) pieces ++ more ≡ text_of_lines s.kind ls → ((all_fed s pieces).ended ≡ None) × Result h s.kind a b (with_pieces (all_fed s pieces) m)
fed_shown h a b ls s m pieces more at is served e =
    let on = cut_served h a b ls s pieces more at served e in
    let d = all_fed s pieces in
    let members : (all_applied m d.deltas).members ≡ list h (whole s.kind) d.after.revision = applied_members m d.deltas ∙ ap (λ (n : Snapshot). apply_deltas n.members d.deltas) is ∙ on.applies in
    let named : (all_applied m d.deltas).revision ≡ d.after.revision = all_fed_names pieces s m (ap (λ (n : Snapshot). n.revision) is ∙ sym at.revision) in
    let shown : all_applied m d.deltas ≡ record { members = list h (whole s.kind) d.after.revision; revision = d.after.revision } = (λ i. record { members = members i; revision = named i }) in
    (on.ended, (on.above, on.below, shown, record { kind = kind_of_all pieces s; at = record { watches = on.watches; revision = refl; holds = refl }; published = shown; pending = refl }))

pub pieces_shown : PiecesAreShown
pieces_shown h k a b ls f pieces more shows served e =
    let s = f.reflector in
    let m = f.informer.published in
    let rest : f ≡ at_rest s m = (λ i. record { reflector = f.reflector; informer = record { published = f.informer.published; pending = shows.pending i } }) in
    let at_kind : ((all_fed s pieces).ended ≡ None) × Result h k a b (with_pieces (all_fed s pieces) m) =
    subst (λ k. m ≡ record { members = list h (whole k) a; revision = a } → IsServed h k a b ls → flat_map (λ p. p) pieces ++ more ≡ text_of_lines k ls → ((all_fed s pieces).ended ≡ None) × Result h k a b (with_pieces (all_fed s pieces) m))
    shows.kind (fed_shown h a b ls s m pieces more shows.at) shows.published served e in
    let taken : Result h k a b (after_pieces (at_rest s m) pieces) = subst (λ (g : Follower). Result h k a b g) (sym (all_taken pieces s m at_kind.0)) at_kind.1 in
    subst (λ (g : Follower). Result h k a b (after_pieces g pieces)) (sym rest) taken
