-- Deltas that a reflector gave, applied one after another, name the revision that it names.
use Rattle.std.proofs.Common.{◌≡◌, ◌++◌, ℕ, List, [], ◌∷◌, Bool, true, false, cond, nat_lt, Option, Some, None, option_map, option_and_then, unwrap_or, Result, Ok, Err, refl, ap, subst, ◌∙◌}
use Rattle.serde_json.specs.Data.{Data}
use Rattle.spec_api.specs.declared.kinds.Kind.{Kind}
use Rattle.spec_api.specs.declared.refusals.Part.{Part}
use Rattle.spec_api.specs.declared.frames.FrameKind.{FrameKind}
use Rattle.spec_api.specs.declared.frames.FrameKind.TheVariants.{Added, Modified, Deleted, Bookmark, Error}
use Rattle.spec_api.specs.Frames.{Frame}
use Rattle.spec_api.specs.Reading.{reading}
use Rattle.spec_server.specs.Snapshots.{Snapshot}
use Rattle.spec_client_go.specs.declared.reflectors.End.{End}
use Rattle.spec_client_go.specs.declared.reflectors.Phase.{Phase}
use Rattle.spec_client_go.specs.declared.reflectors.Phase.TheVariants.{Listing, Streaming, Watching}
use Rattle.spec_client_go.specs.Informers.{revision_after, applied, all_applied}
use Rattle.spec_client_go.specs.ReadFrames as frames
use Rattle.spec_client_go.specs.Reflectors.{Reflector, Delta, replace, objects_of, Shown, Step, revision, has_identity, shown, shown_read, shown_above, if_above, or_unreadable, put_step, remove_step, mark_step, marked, step, step_by, run, going_on, Initial, Opening, under_way, closed, opening_step, opens_on, open_run, Fed, fed, fed_in, joined, all_fed, apply_deltas, list_delta, with_list}
use Rattle.reflector.proofs.Served.{list_served}
use Rattle.informer_laws.specs.PublishLaws.{InformersShowLists}

-- ---- what is shown names its revision

identified : (k : Kind) (d : Data) (b : Bool) (o : Option ℕ) (s : Shown) → revision d ≡ o → cond b (option_map (λ (r : ℕ). record { object = record { kind = k; value = d }; revision = r }) o) None ≡ Some s → revision s.object.value ≡ Some s.revision
identified k d false o s named is = cc
identified k d true None s named is = cc
identified k d true (Some r) s named is =
    let this : record { object = record { kind = k; value = d }; revision = r } ≡ s = cc in subst (λ (s : Shown). revision s.object.value ≡ Some s.revision) this named

read_names : (k : Kind) (p : Result Data Part) (s : Shown) → shown_read k p ≡ Some s → revision s.object.value ≡ Some s.revision
read_names k (Err p) s is = cc
read_names k (Ok d) s is = identified k d (has_identity d) (revision d) s refl is

above_names : (last : ℕ) (o : Option Shown) (s : Shown) → ((t : Shown) → o ≡ Some t → revision t.object.value ≡ Some t.revision) → option_and_then (if_above last) o ≡ Some s → revision s.object.value ≡ Some s.revision
above_names last None s names is = cc
above_names last (Some t) s names is = by (nat_lt last t.revision) is
  where
    by : (b : Bool) → cond b (Some t) None ≡ Some s → revision s.object.value ≡ Some s.revision
    by true is = let this : t ≡ s = cc in subst (λ (s : Shown). revision s.object.value ≡ Some s.revision) this (names t refl)
    by false is = cc

-- ---- a step names its revision

put_names : (q : ℕ) (o : Option Shown) (t : Step) → ((s : Shown) → o ≡ Some s → revision s.object.value ≡ Some s.revision) → or_unreadable (option_map put_step o) ≡ Ok t → revision_after q t.delta ≡ t.revision
put_names q None t names is = cc
put_names q (Some s) t names is = let this : put_step s ≡ t = cc in subst (λ (t : Step). revision_after q t.delta ≡ t.revision) this (ap (λ o. unwrap_or o q) (names s refl))

remove_names : (q : ℕ) (o : Option Shown) (t : Step) → or_unreadable (option_map remove_step o) ≡ Ok t → revision_after q t.delta ≡ t.revision
remove_names q None t is = cc
remove_names q (Some s) t is = let this : remove_step s ≡ t = cc in subst (λ (t : Step). revision_after q t.delta ≡ t.revision) this refl

mark_names : (q : ℕ) (o : Option ℕ) (t : Step) → or_unreadable (option_map mark_step o) ≡ Ok t → revision_after q t.delta ≡ t.revision
mark_names q None t is = cc
mark_names q (Some r) t is = let this : mark_step r ≡ t = cc in subst (λ (t : Step). revision_after q t.delta ≡ t.revision) this refl

pub step_names : (f : FrameKind) (k : Kind) (last : ℕ) (d : Data) (q : ℕ) (t : Step) → step_by f k last d ≡ Ok t → revision_after q t.delta ≡ t.revision
step_names Added k last d q t is = put_names q (shown_above k last d) t (λ s. above_names last (shown k d) s (read_names k (reading k d))) is
step_names Modified k last d q t is = put_names q (shown_above k last d) t (λ s. above_names last (shown k d) s (read_names k (reading k d))) is
step_names Deleted k last d q t is = remove_names q (shown_above k last d) t is
step_names Bookmark k last d q t is = mark_names q (marked k last d) t is
step_names Error k last d q t is = cc

-- ---- frames, and pieces

run_names : (es : List Frame) (k : Kind) (last : ℕ) (m : Snapshot) → m.revision ≡ last → (all_applied m (run k last es).deltas).revision ≡ (run k last es).revision
run_names [] k last m at = at
run_names (e ∷ es) k last m at = by (λ (t : Step) (named : revision_after m.revision t.delta ≡ t.revision). run_names es k t.revision (applied m t.delta) named) (step k last e) refl
  where
    by : ((t : Step) → revision_after m.revision t.delta ≡ t.revision → (all_applied (applied m t.delta) (run k t.revision es).deltas).revision ≡ (run k t.revision es).revision)
        → (o : Result Step End) → step k last e ≡ o → (all_applied m (going_on last (λ r. run k r es) o).deltas).revision ≡ (going_on last (λ r. run k r es) o).revision
    by more (Err x) is = at
    by more (Ok t) is = more t (step_names e.kind k last e.object m.revision t is)

-- until the closing bookmark nothing is named, and then its revision
opened_names : (es : List Frame) (k : Kind) (last : ℕ) (i : Initial) (m : Snapshot) → m.revision ≡ last → (all_applied m (open_run k last i es).run.deltas).revision ≡ (open_run k last i es).run.revision
opened_names [] k last i m at = at
opened_names (e ∷ es) k last i m at = by (opening_step k i e) (λ j. opened_names es k last j m at)
  where
    by : (o : Result Opening End) → ((j : Initial) → (all_applied m (open_run k last j es).run.deltas).revision ≡ (open_run k last j es).run.revision)
        → (let c = opens_on last i (λ j. open_run k last j es) (λ r. run k r es) o in (all_applied m c.run.deltas).revision ≡ c.run.revision)
    by (Err x) more = at
    by (Ok (under_way j)) more = more j
    by (Ok (closed r)) more = run_names es k r (applied m (replace r (objects_of i.members))) refl

pub fed_names : (s : Reflector) (piece : List ℕ) (m : Snapshot) → m.revision ≡ s.revision → (all_applied m (fed s piece).deltas).revision ≡ (fed s piece).after.revision
fed_names s piece m at = by s.phase
  where
    by : (p : Phase) → (all_applied m (fed_in p (s.buffered ++ piece) s).deltas).revision ≡ (fed_in p (s.buffered ++ piece) s).after.revision
    by Listing = at
    by Streaming = opened_names (frames.reading (s.buffered ++ piece)).events s.kind s.revision s.initial m at
    by Watching = run_names (frames.reading (s.buffered ++ piece)).events s.kind s.revision m at

pub applied_both : (m : Snapshot) (ds es : List Delta) → all_applied m (ds ++ es) ≡ all_applied (all_applied m ds) es
applied_both m [] es = refl
applied_both m (d ∷ ds) es = applied_both (applied m d) ds es

pub all_fed_names : (ps : List (List ℕ)) (s : Reflector) (m : Snapshot) → m.revision ≡ s.revision → (all_applied m (all_fed s ps).deltas).revision ≡ (all_fed s ps).after.revision
all_fed_names [] s m at = at
all_fed_names (p ∷ ps) s m at = by (fed s p) (all_fed (fed s p).after ps) (fed s p).ended (fed_names s p m at) (λ n there. all_fed_names ps (fed s p).after n there)
  where
    by : (f g : Fed) (e : Option End) → (all_applied m f.deltas).revision ≡ f.after.revision → ((n : Snapshot) → n.revision ≡ f.after.revision → (all_applied n g.deltas).revision ≡ g.after.revision)
        → (all_applied m (joined e f g).deltas).revision ≡ (joined e f g).after.revision
    by f g (Some e) here more = here
    by f g None here more = ap (λ (m : Snapshot). m.revision) (applied_both m f.deltas g.deltas) ∙ more (all_applied m f.deltas) here

pub applied_members : (m : Snapshot) (ds : List Delta) → (all_applied m ds).members ≡ apply_deltas m.members ds
applied_members m [] = refl
applied_members m (d ∷ ds) = applied_members (applied m d) ds

pub lists_are_shown : InformersShowLists
lists_are_shown h a b ls s before body pieces more text served e =
    let got = list_served h a b ls s before.members body pieces more text served e in
    let l = got.0 in
    let f = all_fed (with_list (Some l) s) pieces in
    let members = applied_members before (list_delta l ∷ f.deltas) ∙ got.3 in
    let named = all_fed_names pieces (with_list (Some l) s) (applied before (list_delta l)) refl in (l, got.1, λ i. record { members = members i; revision = named i })
