-- Steps keep that what was taken, and what is owed, are the changes of what was published.
use Rattle.std.proofs.Common.{◌≡◌, List, [], ◌∷◌, ◌++◌, Option, Some, None, refl, sym, ap, ◌∙◌, subst, append_assoc, append-nil}
use Rattle.spec_api.specs.History.{Entries}
use Rattle.spec_client_go.specs.Informers.{Informer, all_applied}
use Rattle.spec_client_go.specs.Reflectors.{Delta, apply_delta, apply_deltas}
use Rattle.spec_client_go.specs.Shifts.{Shift, shifts_of, all_shifts}
use Rattle.informer_laws.proofs.Publishing.{applied_both, applied_members}
use Rattle.list_and_watch.specs.Exchanged.{Dealings}
use Rattle.list_and_watch.specs.Followers.{Follower, changes_in, published_unless, owed_after}
use Rattle.list_and_watch.specs.Told.{Told, Step, exchange, cut, publish, give, keep, ask, tell, clock, wait, cause_published, after_step, after_steps, owed_in, taken_at, taken_in, told_nothing}
use Rattle.list_and_watch.specs.GivenLaws.{IsGivenOnce, ChangesAreGivenOnce}
use Rattle.list_and_watch.specs.declared.causes.Cause.{Cause}
use Rattle.list_and_watch.proofs.Published.{exchange_publishes}

shifts_both : (ms : Entries) (ds es : List Delta) → all_shifts ms (ds ++ es) ≡ all_shifts ms ds ++ all_shifts (apply_deltas ms ds) es
shifts_both ms [] es = refl
shifts_both ms (d ∷ ds) es =
    ap (λ r. shifts_of ms d ++ r) (shifts_both (apply_delta ms d) ds es)
    ∙ sym (append_assoc (shifts_of ms d) (all_shifts (apply_delta ms d) ds) (all_shifts (apply_deltas (apply_delta ms d) ds) es))

owed_are : (ms : Entries) (ds : List Delta) → owed_in (changes_in ms ds) ≡ all_shifts ms ds
owed_are ms [] = refl
owed_are ms (d ∷ ds) = refl

published_kept : (i : Informer) (f : Follower) (owed : Option (List Shift)) (cause : Cause) (d : Dealings) (taken : List Shift) (ds : List Delta) → f.informer.published ≡ all_applied i.published ds
    → taken ++ owed_in owed ≡ all_shifts i.published.members ds
    → IsGivenOnce i taken (record { follower = published_unless owed f; owed = owed_after owed f.informer; cause = cause; dealings = d })
published_kept i f None cause d taken ds at are =
    let members : f.informer.published.members ≡ apply_deltas i.published.members ds = ap (λ m. m.members) at ∙ applied_members i.published ds in
    record {
      deltas = ds ++ f.informer.pending;
      published = ap (λ m. all_applied m f.informer.pending) at ∙ sym (applied_both i.published ds f.informer.pending);
      changes =
          ap (λ cs. taken ++ cs) (owed_are f.informer.published.members f.informer.pending)
          ∙ ap (λ ts. ts ++ all_shifts f.informer.published.members f.informer.pending) (sym (append-nil taken) ∙ are)
          ∙ ap (λ ms. all_shifts i.published.members ds ++ all_shifts ms f.informer.pending) members
          ∙ sym (shifts_both i.published.members ds f.informer.pending);
    }
published_kept i f (Some changes) cause d taken ds at are = record { deltas = ds; published = at; changes = are }

-- at a step at which nothing is taken, and as much is owed
same : (taken owed all : List Shift) → taken ++ owed ≡ all → (taken ++ []) ++ owed ≡ all
same taken owed all are = ap (λ ts. ts ++ owed) (append-nil taken) ∙ are

kept : (i : Informer) (s : Step) (taken : List Shift) (t : Told) → IsGivenOnce i taken t → IsGivenOnce i (taken ++ taken_at s t) (after_step s t)
kept i (exchange e memory) taken t is = record { deltas = is.deltas; published = exchange_publishes e memory t.follower ∙ is.published; changes = same taken (owed_in t.owed) (all_shifts i.published.members is.deltas) is.changes }
kept i cut taken t is = record { deltas = is.deltas; published = is.published; changes = same taken (owed_in t.owed) (all_shifts i.published.members is.deltas) is.changes }
kept i publish taken t is =
    published_kept i t.follower t.owed (cause_published t.owed t.follower.informer t.cause) t.dealings (taken ++ []) is.deltas is.published (same taken (owed_in t.owed) (all_shifts i.published.members is.deltas) is.changes)
kept i give taken t is = record { deltas = is.deltas; published = is.published; changes = append-nil (taken ++ owed_in t.owed) ∙ is.changes }
kept i keep taken t is = record { deltas = is.deltas; published = is.published; changes = same taken (owed_in t.owed) (all_shifts i.published.members is.deltas) is.changes }
kept i (ask onward) taken t is = record { deltas = is.deltas; published = is.published; changes = same taken (owed_in t.owed) (all_shifts i.published.members is.deltas) is.changes }
kept i tell taken t is = record { deltas = is.deltas; published = is.published; changes = same taken (owed_in t.owed) (all_shifts i.published.members is.deltas) is.changes }
kept i (clock n) taken t is = record { deltas = is.deltas; published = is.published; changes = same taken (owed_in t.owed) (all_shifts i.published.members is.deltas) is.changes }
kept i (wait n onward) taken t is = record { deltas = is.deltas; published = is.published; changes = same taken (owed_in t.owed) (all_shifts i.published.members is.deltas) is.changes }

all_kept : (i : Informer) (ss : List Step) (taken : List Shift) (t : Told) → IsGivenOnce i taken t → IsGivenOnce i (taken ++ taken_in ss t) (after_steps ss t)
all_kept i [] taken t is = subst (λ ts. IsGivenOnce i ts t) (sym (append-nil taken)) is
all_kept i (s ∷ ss) taken t is =
    subst (λ ts. IsGivenOnce i ts (after_steps ss (after_step s t))) (append_assoc taken (taken_at s t) (taken_in ss (after_step s t)))
    (all_kept i ss (taken ++ taken_at s t) (after_step s t) (kept i s taken t is))

pub given_once : ChangesAreGivenOnce
given_once f ss = all_kept f.informer ss [] (told_nothing f) (record { deltas = []; published = refl; changes = refl })
