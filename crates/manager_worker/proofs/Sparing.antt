-- The collector deletes what was found to have no live owner.
use Rattle.std.proofs.Common.{◌≡◌, ◌∙◌, ◌⊎◌, inl, inr, ◌++◌, ◌||◌, ℕ, zero, suc, List, [], ◌∷◌, Bool, true, false, cond, not, Option, Some, None, slice_get, filter, filter_map, refl, sym, ap, subst}
use Rattle.std.specs.List.{cons_option}
use Rattle.std.specs.Prelude.{drop, length, IfSome}
use Rattle.object_keys.specs.declared.per_kind.PerKind.{PerKind}
use Rattle.serde_json.specs.Data.{Data}
use Rattle.spec_api.specs.Keys.{Key, is_same_key}
use Rattle.spec_api.specs.Metadata.{Owner, owners}
use Rattle.spec_api.specs.ObjectRequests as words
use Rattle.spec_api.specs.declared.kinds.Kind.{Kind}
use Rattle.spec_api.proofs.PutLaws.{same_name}
use Rattle.spec_client_go.specs.Commands.{Command, create, update, update_status, delete}
use Rattle.spec_client_go.specs.Hands.{Hand, Read, live, is_read, each_once, unread}
use Rattle.spec_client_go.specs.OwnerReferences.{owner_key, owner_keys, namespace_of}
use Rattle.spec_client_go.specs.WorkQueues.{WorkKey}
use Rattle.spec_client_go.specs.declared.controller.Controller.{Controller}
use Rattle.spec_client_go.specs.declared.controller.Controller.TheVariants.{Collector}
use Rattle.spec_laws.specs.CollectorLaws.{IsGone, WasGone, IsOfGarbage}
use Rattle.spec_laws.specs.IdentityLaws.{Each}
use Rattle.spec_laws.proofs.Garbage.{garbage}
use Rattle.spec_reconcile.specs.GarbageCollection as garbage_collection
use Rattle.spec_server.specs.Snapshots.{Snapshot}
use Rattle.spec_sim.specs.Managers.{requested}
use Rattle.spec_sim.specs.NextSteps.{NextStep, next, look, ask_satisfied, read, expect, issue, finish, first}
use Rattle.spec_sim.specs.Turns.{Turn, hand, left, asks_by, plan_by, begun, with_read}
use Rattle.http_client.specs.declared.answer.Answer as client
use Rattle.live_reads.specs.Finding.{can_be}
use Rattle.live_reads.specs.declared.found.FoundObject.{FoundObject}
use Rattle.live_reads.specs.declared.found.FoundObject.TheVariants as object
use Rattle.request_encoding.specs.Texts.{can_be_told}
use Rattle.manager_worker.specs.Finding.{Adds, FoundBy, FoundIf}
use Rattle.manager_worker.specs.Learning.{AsksIf, AsksOnce, AsksAtMost}
use Rattle.manager_worker.specs.Patience.{Heard, Hears}
use Rattle.manager_worker.specs.Sparing.{AreAnswered, begins, asked, found, unasked, WasFound, OwnerWasGone, DeletesGarbage, SparesLiveOwners}
use Rattle.manager_worker.specs.Stepping.{InTurn, Takes, Reaches, none, more, sees}
use Rattle.manager_worker.specs.declared.answers.Learnt.{Learnt}
use Rattle.manager_worker.specs.declared.answers.Learnt.TheVariants as learnt
use Rattle.manager_worker.specs.declared.steps.Progress.{Progress}
use Rattle.manager_worker.specs.declared.steps.Progress.TheVariants as progress
use Rattle.manager_worker.proofs.Repeated.{next_issued}
use Rattle.manager_worker.proofs.Untouched.{IsPlanned, planned, given_up, noted}

-- ---- of lists

-- what is true of each is true of the one that comes next
of_first : {A : Type 0} (P : A → Type 0) (n : ℕ) (xs : List A) (x : A) → Each P xs → first (drop n xs) ≡ Some x → P x
of_first P zero [] x all at = absurd (cc)
of_first P (suc n) [] x all at = absurd (cc)
of_first P zero (y ∷ ys) x all at = let same : y ≡ x = search in subst P same all.0
of_first P (suc n) (y ∷ ys) x all at = of_first P n ys x all.1 at

-- ---- what is read live was answered

module _ {A : Type 0} (answers : A → words.Request → client.Answer → A → Type 0) (begin : A) where
  abbrev Answered : Turn → Heard A → Type 0
  Answered t s = AreAnswered answers begin t.reads s.api

  -- a turn with the same key, whose live reads are answered if those before were
  record Kept (t : Turn) (s : Heard A) (u : Turn) (z : Heard A) : Type 0 where
    key : u.work_key ≡ t.work_key
    all : Answered t s → Answered u z

  asked_one : (rs : List Read) (s z : Heard A) (q : words.Request) (a : client.Answer) → Hears answers s q a z → AreAnswered answers begin rs s.api → AreAnswered answers begin rs z.api
  asked_one rs s z q a is so = asked rs s.api z.api q a so is.0

  not_asked : (rs : List Read) (s z : Heard A) → z ≡ s → AreAnswered answers begin rs s.api → AreAnswered answers begin rs z.api
  not_asked rs s z same so = subst (λ (h : Heard A). AreAnswered answers begin rs h.api) (sym same) so

  asked_if : (b : Bool) (rs : List Read) (s z : Heard A) (q : words.Request) (l : Learnt) → AsksIf (Hears answers) b s q l z → AreAnswered answers begin rs s.api → AreAnswered answers begin rs z.api
  asked_if false rs s z q l is so = not_asked rs s z is.1 so
  asked_if true rs s z q l is so = asked_one rs s z q is.0 is.1 so

  asked_again : (rs : List Read) (s z : Heard A) (q : words.Request) (l : Learnt) → (z ≡ s) ⊎ AsksOnce (Hears answers) s q l z → AreAnswered answers begin rs s.api
      → AreAnswered answers begin rs z.api
  asked_again rs s z q l (inl same) so = not_asked rs s z same so
  asked_again rs s z q l (inr is) so = asked_if (can_be_told q) rs s z q l is so

  asked_at_most : (rs : List Read) (s z : Heard A) (q : words.Request) → AsksAtMost (Hears answers) s q z → AreAnswered answers begin rs s.api → AreAnswered answers begin rs z.api
  asked_at_most rs s z q (inl same) so = not_asked rs s z same so
  asked_at_most rs s z q (inr is) so = asked_one rs s z q is.0 is.1 so

  asked_found : (b : Bool) (rs : List Read) (k : Key) (s z : Heard A) (f : FoundObject) → FoundIf (Hears answers) b k s f z → AreAnswered answers begin rs s.api
      → AreAnswered answers begin rs z.api
  asked_found false rs k s z f is so = not_asked rs s z is.1 so
  asked_found true rs k s z f is so = asked_one rs s z (words.get_object k) is.0 is.1 so

  -- the turn is another one, with the same key and the same live reads
  kept_as : (t u w : Turn) (s z : Heard A) → (Answered t s → AreAnswered answers begin t.reads z.api) → u ≡ w → w.work_key ≡ t.work_key → w.reads ≡ t.reads → Kept t s u z
  kept_as t u w s z on is key reads =
      record {
        key = ap (λ (v : Turn). v.work_key) is ∙ key;
        all = λ so. subst (λ rs. AreAnswered answers begin rs z.api) (sym (ap (λ (v : Turn). v.reads) is ∙ reads)) (on so);
      }

  found_read : (b : Bool) (k : Key) (s z : Heard A) (f : FoundObject) (t u : Turn) → can_be k ≡ b → FoundIf (Hears answers) b k s f z → Adds f k t u progress.Went
      → (o : Option Data) × (u ≡ with_read (record { key = k; found = o }) t) × (Answered t s → AreAnswered answers begin (t.reads ++ record { key = k; found = o } ∷ []) z.api)
  found_read false k s z f t u not is adds =
      let now : Adds object.Absent k t u progress.Went = subst (λ g. Adds g k t u progress.Went) is.0 adds in
      (None, now.1, λ so. unasked t.reads z.api (record { key = k; found = None }) (not_asked t.reads s z is.1 so) not refl)
  found_read true k s z (object.Present o) t u can is adds =
      (Some o.value, adds.1, λ so. found t.reads s.api z.api (record { key = k; found = Some o.value }) is.0 (object.Present o) so is.1.0 is.2 refl)
  found_read true k s z object.Absent t u can is adds = (None, adds.1, λ so. found t.reads s.api z.api (record { key = k; found = None }) is.0 object.Absent so is.1.0 is.2 refl)
  found_read true k s z object.Refused t u can is adds = let other : progress.Went ≡ progress.GivenUp = adds.0 in absurd (cc)
  found_read true k s z object.Unanswered t u can is adds = let other : progress.Went ≡ progress.Again = adds.0 in absurd (cc)

  kept_read : (k : Key) (s z : Heard A) (f : FoundObject) (t u : Turn) → FoundBy (Hears answers) k s f z → Adds f k t u progress.Went → Kept t s u z
  kept_read k s z f t u is adds =
      let what = found_read (can_be k) k s z f t u refl is adds in
      record {
        key = ap (λ (v : Turn). v.work_key) what.1;
        all = λ so. subst (λ rs. AreAnswered answers begin rs z.api) (sym (ap (λ (v : Turn). v.reads) what.1)) (what.2 so);
      }

module _ {L A : Type 0} (shows : L → Kind → Option Snapshot → L → Type 0) (answers : A → words.Request → client.Answer → A → Type 0) (handled : PerKind ℕ) (begin : A) where
  abbrev KeptAt : InTurn L A → InTurn L A → Type 0
  KeptAt s z = Kept answers begin s.turn s.server z.turn z.server

  same : (s z : InTurn L A) (w : Turn) → z.server ≡ s.server → z.turn ≡ w → w.work_key ≡ s.turn.work_key → w.reads ≡ s.turn.reads → KeptAt s z
  same s z w server is key reads = kept_as answers begin s.turn z.turn w s.server z.server (not_asked answers begin s.turn.reads s.server z.server server) is key reads

  asking : (s z : InTurn L A) (w : Turn) → (Answered answers begin s.turn s.server → AreAnswered answers begin s.turn.reads z.server.api) → z.turn ≡ w
      → w.work_key ≡ s.turn.work_key → w.reads ≡ s.turn.reads → KeptAt s z
  asking s z w on is key reads = kept_as answers begin s.turn z.turn w s.server z.server on is key reads

  kept_at : (s z : InTurn L A) (n : NextStep) (p : Progress) → Takes shows answers handled n s z p → KeptAt s z
  kept_at s z (look k) progress.Went takes = same s z _ takes.1 takes.0.3 refl refl
  kept_at s z (look k) progress.Again takes = same s z s.turn takes.1 takes.0.3 refl refl
  kept_at s z (look k) progress.GivenUp takes = same s z s.turn takes.1 takes.0.3 refl refl
  kept_at s z (look k) progress.AtEnd takes = absurd takes.0
  kept_at s z (look k) progress.CutShort takes = absurd takes.0
  kept_at s z ask_satisfied progress.Went takes = same s z _ takes.2 takes.0.1 refl refl
  kept_at s z ask_satisfied progress.Again takes = same s z s.turn takes.2 takes.0.0 refl refl
  kept_at s z ask_satisfied progress.GivenUp takes = absurd takes.0
  kept_at s z ask_satisfied progress.AtEnd takes = absurd takes.0
  kept_at s z ask_satisfied progress.CutShort takes = absurd takes.0
  kept_at s z (read k) progress.Went takes = kept_read answers begin k s.server z.server takes.0.0 s.turn z.turn takes.0.1 takes.0.2
  kept_at s z (read k) progress.Again takes = asking s z s.turn (asked_at_most answers begin s.turn.reads s.server z.server (words.get_object k) takes.0.1) takes.0.0 refl refl
  kept_at s z (read k) progress.GivenUp takes =
      asking s z s.turn (asked_found answers begin (can_be k) s.turn.reads k s.server z.server takes.0.0 takes.0.1) (given_up takes.0.0 k s.turn z.turn takes.0.2) refl refl
  kept_at s z (read k) progress.AtEnd takes = absurd takes.0
  kept_at s z (read k) progress.CutShort takes = absurd takes.0
  kept_at s z (expect e) progress.Went takes = same s z _ takes.2 takes.0.0 refl refl
  kept_at s z (expect e) progress.Again takes = same s z s.turn takes.2 takes.0.0 refl refl
  kept_at s z (expect e) progress.GivenUp takes = absurd takes.0
  kept_at s z (expect e) progress.AtEnd takes = absurd takes.0
  kept_at s z (expect e) progress.CutShort takes = absurd takes.0
  kept_at s z (issue x) progress.Went takes =
      let what = noted x takes.0.0 s.turn z.turn takes.0.2 in
      let q = requested s.turn x in
      asking s z _ (asked_if answers begin (can_be_told q) s.turn.reads s.server z.server q (learnt.Known takes.0.0) takes.0.1) what.1 refl refl
  kept_at s z (issue x) progress.Again takes =
      asking s z s.turn (asked_again answers begin s.turn.reads s.server z.server (requested s.turn x) learnt.Again takes.0.1) takes.0.0 refl refl
  kept_at s z (issue x) progress.GivenUp takes = absurd takes.0
  kept_at s z (issue x) progress.AtEnd takes = absurd takes.0
  kept_at s z (issue x) progress.CutShort takes =
      let q = requested s.turn x in
      asking s z s.turn (asked_if answers begin (can_be_told q) s.turn.reads s.server z.server q (learnt.Known takes.0.0) takes.0.1) takes.0.2 refl refl
  kept_at s z finish p takes = same s z s.turn (ap (λ (v : InTurn L A). v.server) takes.1) (ap (λ (v : InTurn L A). v.turn) takes.1) refl refl

  kept : {s z : InTurn L A} → Reaches shows answers handled s z → KeptAt s z
  kept {s = s} none = same s s s.turn refl refl refl refl
  kept {s = s} (more m z p reached takes going) =
      let before = kept reached in
      let then = kept_at m z (next m.turn) p takes in
      record { key = then.key ∙ before.key; all = λ so. then.all (before.all so) }
  kept (sees m w reached seen) = kept reached

-- ---- what was asked for was read

first_read : (b : Bool) (k : Key) (ks : List Key) → each_once (cond (not b) (k ∷ ks) ks) ≡ [] → (b ≡ true) × (each_once ks ≡ [])
first_read true k ks all_read = (refl, all_read)
first_read false k ks all_read = cc

abbrev IsFound : List Read → Key → Type 0
IsFound reads k = WasFound reads k (live reads k)

found_by : (b : Bool) (x : Read) (rs : List Read) (k : Key) → is_same_key k x.key ≡ b → (is_read rs k ≡ true → IsFound rs k) → (b || is_read rs k) ≡ true
    → WasFound (x ∷ rs) k (cond b x.found (live rs k))
found_by true x rs k equal later is = (x, (zero, refl), sym (same_name k x.key equal), refl)
found_by false x rs k equal later is = let one = later is in (one.0, (suc one.1.0, one.1.1), one.2, one.3)

found_in_all : (rs : List Read) (k : Key) → is_read rs k ≡ true → IsFound rs k
found_in_all [] k is = cc
found_in_all (x ∷ rs) k is = found_by (is_same_key k x.key) x rs k refl (found_in_all rs k) is

all_found : (reads : List Read) (ks : List Key) → unread reads ks ≡ [] → Each (IsFound reads) ks
all_found reads [] all_read = tt
all_found reads (k ∷ ks) all_read =
    let both = first_read (is_read reads k) k (filter (λ j. not (is_read reads j)) ks) all_read in
    (found_in_all reads k both.0, all_found reads ks both.1)

-- the first of some keys, if there is one, and the others
cut : (P : Key → Type 0) (key : Option Key) (ks : List Key) → Each P (cons_option key ks) → IfSome key P × Each P ks
cut P None ks all = (tt, all)
cut P (Some k) ks all = all

owner_gone : (reads : List Read) (ns : List ℕ) (o : Owner) → IfSome (owner_key ns o) (IsFound reads) → WasGone reads ns o → OwnerWasGone reads ns o
owner_gone reads ns o is gone = (gone.0, gone.1, (live reads gone.0, subst (λ x. IfSome x (IsFound reads)) gone.1 is, gone.2))

owners_gone : (reads : List Read) (ns : List ℕ) (os : List Owner) → Each (IsFound reads) (filter_map (owner_key ns) os) → Each (WasGone reads ns) os → Each (OwnerWasGone reads ns) os
owners_gone reads ns [] is gone = tt
owners_gone reads ns (o ∷ os) is gone =
    let both = cut (IsFound reads) (owner_key ns o) (filter_map (owner_key ns) os) is in
    (owner_gone reads ns o both.0 gone.0, owners_gone reads ns os both.1 gone.1)

-- ---- a command of a plan

one_garbage : (h : Hand) (d : Data) (c : Command) → WasFound h.reads h.key (Some d) → Each (IsFound h.reads) (owner_keys d) → IsOfGarbage h d c → DeletesGarbage h.key h.reads c
one_garbage h d (create k ns e) is owned g = tt
one_garbage h d (update k e) is owned g = tt
one_garbage h d (update_status k e) is owned g = tt
one_garbage h d (delete k u v p) is owned g = (g.0, (d, is, g.1, g.2, g.3, owners_gone h.reads (namespace_of d) (owners d) owned g.4))

planned_by : (h : Hand) (o : Option Data) (n : ℕ) (x : Command) → live h.reads h.key ≡ o → Each (IsFound h.reads) (h.key ∷ garbage_collection.owner_keys_if o)
    → first (drop n (garbage_collection.plan_for h o)) ≡ Some x → DeletesGarbage h.key h.reads x
planned_by h None zero x is all at = absurd (cc)
planned_by h None (suc n) x is all at = absurd (cc)
planned_by h (Some d) n x is all at =
    let each : Each (IsOfGarbage h d) (garbage_collection.plan_for h (Some d)) = subst (λ o. Each (IsOfGarbage h d) (garbage_collection.plan_for h o)) is (garbage h d is) in
    let one : IsOfGarbage h d x = of_first (IsOfGarbage h d) n (garbage_collection.plan_for h (Some d)) x each at in
    one_garbage h d x (subst (WasFound h.reads h.key) is all.0) all.1 one

of_plan : (h : Hand) (n : ℕ) (x : Command) → garbage_collection.asks h ≡ [] → first (drop n (garbage_collection.plan h)) ≡ Some x → DeletesGarbage h.key h.reads x
of_plan h n x all_read at = planned_by h (live h.reads h.key) n x refl (all_found h.reads (h.key ∷ garbage_collection.owner_keys_if (live h.reads h.key)) all_read) at

of_collector : (c : Controller) (h : Hand) (n : ℕ) (x : Command) → c ≡ Collector → asks_by c h ≡ [] → first (drop n (plan_by c h)) ≡ Some x → DeletesGarbage h.key h.reads x
unfolding asks_by plan_by
of_collector c h n x is all_read at = of_plan h n x (subst (λ c. asks_by c h ≡ []) is all_read) (subst (λ c. first (drop n (plan_by c h)) ≡ Some x) is at)

-- ---- a turn of the collector

module _ {L A : Type 0} (shows : L → Kind → Option Snapshot → L → Type 0) (answers : A → words.Request → client.Answer → A → Type 0) where
  all_answered : (handled : PerKind ℕ) (s z : InTurn L A) → s.turn ≡ begun s.turn.work_key → Reaches shows answers handled s z → AreAnswered answers s.server.api z.turn.reads z.server.api
  all_answered handled s z begin reached =
      (kept shows answers handled s.server.api reached).all (subst (λ rs. AreAnswered answers s.server.api rs s.server.api) (sym (ap (λ (v : Turn). v.reads) begin)) begins)

  spared : (handled : PerKind ℕ) (s z : InTurn L A) (x : Command) → s.turn ≡ begun s.turn.work_key → s.turn.work_key.controller ≡ Collector
      → Reaches shows answers handled s z → next z.turn ≡ issue x → DeletesGarbage s.turn.work_key.key z.turn.reads x
  spared handled s z x begin own reached at =
      let key = (kept shows answers handled s.server.api reached).key in
      let unread = (planned z.turn (issue x) at refl).asked in
      let is = of_collector z.turn.work_key.controller (hand z.turn) (length z.turn.issues) x (ap (λ (w : WorkKey). w.controller) key ∙ own) unread (next_issued z.turn x at).0 in
      subst (λ (w : WorkKey). DeletesGarbage w.key z.turn.reads x) key is

  pub spares_live_owners : SparesLiveOwners shows answers
  spares_live_owners = record { answered = all_answered; spares = spared }
