-- What is read of a link leads on from where the reflector is.
use Rattle.std.proofs.Common.{◌≡◌, ◌≤◌, ℕ, List, [], ◌∷◌, ◌++◌, take, drop, Option, Some, None, refl, sym, ap, ◌∙◌, subst, arith, append_assoc}
use Rattle.std.proofs.lemmas.List.{take-append-drop}
use Rattle.std.specs.List.{AllByRecursion}
use Rattle.spec_api.specs.declared.kinds.Kind.{Kind}
use Rattle.spec_api.specs.History.{History, present}
use Rattle.spec_api.specs.Reached.{IsReached}
use Rattle.spec_api.specs.Streams.{Line, text_of_lines}
use Rattle.spec_client_go.specs.declared.reflectors.End.{End}
use Rattle.spec_client_go.specs.Informers.{all_applied}
use Rattle.spec_client_go.specs.Reflectors.{Reflector, Fed, fed, joined}
use Rattle.informer_laws.proofs.Publishing.{applied_both, fed_names}
use Rattle.spec_laws.proofs.Limited.{limited}
use Rattle.spec_laws.proofs.SentChanges.{changes_told}
use Rattle.reflector.specs.Laws.{IsSent, IsReadBack}
use Rattle.reflector.proofs.Cutting.{fed_twice}
use Rattle.spec_sim.specs.Followers.{Link, Follower}
use Rattle.spec_sim.specs.Moves.{left_open, deliver_from}
use Rattle.sim_cluster_laws.specs.FollowerLaws.{list_at, IsLinked, IsOpen, IsFollowing}
use Rattle.sim_cluster_laws.specs.LeadLaws.{Leads}
use Rattle.sim_cluster_laws.proofs.Feeding.{same_kind, end_clears}
use Rattle.sim_cluster_laws.proofs.Leading.{Ends, lead_to, further_leads}

module _ (k : Kind) (h : History) (reached : IsReached h) where
  pub sendable : (s : Reflector) (l : Link) → (was : IsOpen h k s l) → IsSent h k was.from l.stands was.lines
  sendable s l was =
      let few : present h ≤ 9007199254740991 = (limited h reached).1 in
      record {
        forward = was.forward;
        low = omega (arith, was.reached, few);
        stream = was.stream;
        told = (changes_told h k was.from l.stands reached was.forward).0;
        read = later_read was.opening was.lines was.lines_read;
      }
    where
      later_read : (opening ls : List Line) → AllByRecursion (IsReadBack k) (opening ++ ls) → AllByRecursion (IsReadBack k) ls
      later_read [] ls all = all
      later_read (l ∷ opening) ls all = later_read opening ls all.1

  -- what the next bytes give leads on from where the reflector is
  pub gives_leads : (s : Reflector) (l : Link) (n : ℕ) → IsOpen h k s l → (s.revision ≤ present h) × Leads h k (list_at h k s.revision) (fed s (take n l.unread)).deltas
  gives_leads s l n was =
      let x = take n l.unread in
      let y = drop n l.unread in
      let rest = text_of_lines k l.initial in
      let parts : x ++ (y ++ rest) ≡ l.unread ++ rest = sym (append_assoc x y rest) ∙ ap (λ t. t ++ rest) (take-append-drop n l.unread) in
      subst (λ (t : Reflector). (t.revision ≤ present h) × Leads h k (list_at h k t.revision) (fed t x).deltas) (sym was.taken)
      (further_leads h k was.from l.stands was.start was.opening was.lines was.refusal reached was.kind was.begins (sendable s l was) was.lines_read was.refusal_read was.reached was.read x (y ++ rest)
      was.goes_on (ap (λ t. was.read ++ t) parts ∙ was.bytes))

  -- the link after more was read, if it came to no end
  still_linked : (e : Option End) (n : ℕ) (l : Link) (s : Reflector) → IsOpen h k s l
      → (let g = fed s (take n l.unread) in g.ended ≡ e → IsLinked h k g.after (left_open e (record l { unread = drop n l.unread })))
  still_linked (Some e) n l s was ended = end_clears s (take n l.unread) e ended
  still_linked None n l s was ended =
      let x = take n l.unread in
      let y = drop n l.unread in
      let rest = text_of_lines k l.initial in
      let first = fed was.start was.read in
      let twice : joined None first (fed first.after x) ≡ fed was.start (was.read ++ x) = ap (λ z. joined z first (fed first.after x)) (sym was.goes_on) ∙ fed_twice was.start was.read x in
      record {
        from = was.from;
        start = was.start;
        opening = was.opening;
        lines = was.lines;
        refusal = was.refusal;
        read = was.read ++ x;
        kind = was.kind;
        begins = was.begins;
        forward = was.forward;
        reached = was.reached;
        stream = was.stream;
        lines_read = was.lines_read;
        refusal_read = was.refusal_read;
        is_refused = was.is_refused;
        bytes = append_assoc was.read x (y ++ rest) ∙ ap (λ t. was.read ++ t) (sym (append_assoc x y rest) ∙ ap (λ t. t ++ rest) (take-append-drop n l.unread)) ∙ was.bytes;
        goes_on = ap (λ (z : Fed). z.ended) (sym twice) ∙ ap (λ t. (fed t x).ended) (sym was.taken) ∙ ended;
        taken = ap (λ t. (fed t x).after) was.taken ∙ ap (λ (z : Fed). z.after) twice;
      }

  pub delivers : (n : ℕ) (l : Link) (f : Follower) → IsOpen h k f.reflector l → IsFollowing h k f → IsFollowing h k (deliver_from k n l f).follower
  delivers n l f was is =
      let x = take n l.unread in
      let g = fed f.reflector x in
      let at = list_at h k f.reflector.revision in
      let leads = gives_leads f.reflector l n was in
      let on : Ends h k f.reflector.revision (all_applied at g.deltas) = lead_to h k at g.deltas leads.0 refl leads.1 in
      let named : (all_applied at g.deltas).revision ≡ g.after.revision = fed_names f.reflector x at refl in
      record {
        kind = same_kind f.reflector x ∙ is.kind;
        reached = omega (arith, named, on.below);
        published = is.published;
        passed = omega (arith, is.passed, named, on.above);
        pending = applied_both f.informer.published f.informer.pending g.deltas ∙ ap (λ z. all_applied z g.deltas) is.pending ∙ on.lists ∙ ap (list_at h k) named;
        linked = still_linked g.ended n l f.reflector was refl;
      }
