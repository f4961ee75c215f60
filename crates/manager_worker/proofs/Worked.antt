-- What a worker has done.
use Rattle.std.proofs.Common.{◌≡◌, ◌∙◌, Option, Some, None, ap, refl, sym, subst}
use Rattle.baton.specs.declared.views.Known.{Known}
use Rattle.object_keys.specs.WorkKeys.{work_key_of}
use Rattle.object_keys.specs.declared.work_key.WorkKey.{WorkKey}
use Rattle.spec_api.specs.ObjectRequests as words
use Rattle.spec_api.specs.declared.kinds.Kind.{Kind}
use Rattle.spec_server.specs.Snapshots.{Snapshot}
use Rattle.spec_sim.specs.Turns.{Turn, begun}
use Rattle.http_client.specs.declared.answer.Answer as client
use Rattle.control_desk.specs.Calls.{IsCall}
use Rattle.control_desk.specs.Steps.{Step, taking}
use Rattle.control_desk.specs.Taken.{IsNext}
use Rattle.control_desk.specs.declared.states.WorkState.{WorkState}
use Rattle.control_desk.specs.declared.taken_key.TakenKey.{TakenKey}
use Rattle.manager_worker.specs.Ending.{IsTakenUntilOver, IsCutShort}
use Rattle.manager_worker.specs.Patience.{heard}
use Rattle.manager_worker.specs.Stepping.{in_turn, Sees}
use Rattle.manager_worker.specs.Working.{AtBoard, at_board, Does, takes, sees, turns, IsLeft, Works, none, more}

module _ {L A : Type 0} (shows : L → Kind → Option Snapshot → L → Type 0) (answers : A → words.Request → client.Answer → A → Type 0) where
  pub one : (b a : AtBoard L A) → Does shows answers b a → Works shows answers b a
  one b a does = more b a none does

  pub took : (b : AtBoard L A) (found key : Option TakenKey) (w : Known WorkState Step) → b.hand ≡ None → found ≡ key
      → IsCall b.known taking (λ s. IsNext found s) w → Works shows answers b (at_board key b.listers b.api w)
  took b found key w free is call =
      let works : Option TakenKey → Type 0 = λ k. Works shows answers b (at_board k b.listers b.api w) in
      subst works is (one b (at_board found b.listers b.api w) (takes found w free call))

  pub saw : (b : AtBoard L A) (w : Known WorkState Step) → b.hand ≡ None → Sees b.known w → Works shows answers b (at_board b.hand b.listers b.api w)
  saw b w free seen =
      let works : Option TakenKey → Type 0 = λ k. Works shows answers b (at_board k b.listers b.api w) in
      subst works (sym free) (one b (at_board None b.listers b.api w) (sees w free seen))

  pub still : (b : AtBoard L A) (k : TakenKey) → b.hand ≡ Some k → Works shows answers b (at_board (Some k) b.listers b.api b.known)
  still b k is = let works : Option TakenKey → Type 0 = λ h. Works shows answers b (at_board h b.listers b.api b.known) in subst works is none

  pub over : (b : AtBoard L A) (k : TakenKey) (copy : WorkKey) (t : Turn) (listers : L) (api : A) (w : Known WorkState Step) → b.hand ≡ Some k
      → work_key_of copy ≡ work_key_of k.key → t ≡ begun (work_key_of copy)
      → IsTakenUntilOver shows answers k.handled k.key (in_turn t b.listers (heard b.api 0) b.known) listers api w → Works shows answers b (at_board None listers api w)
  over b k copy t listers api w is same begins taken =
      let at : Turn → Type 0 = λ x. IsTakenUntilOver shows answers k.handled k.key (in_turn x b.listers (heard b.api 0) b.known) listers api w in
      one b (at_board None listers api w) (turns k listers api w is (subst at (begins ∙ ap begun same) taken))

  pub left : (b : AtBoard L A) (k : TakenKey) (copy : WorkKey) (t : Turn) (listers : L) (api : A) (w : Known WorkState Step) → b.hand ≡ Some k
      → work_key_of copy ≡ work_key_of k.key → t ≡ begun (work_key_of copy)
      → IsCutShort shows answers k.handled (in_turn t b.listers (heard b.api 0) b.known) listers api w → IsLeft shows answers b (at_board (Some k) listers api w)
  left b k copy t listers api w is same begins cut =
      let at : Turn → Type 0 = λ x. IsCutShort shows answers k.handled (in_turn x b.listers (heard b.api 0) b.known) listers api w in
      record { taken = k; before = is; after = refl; cut = subst at (begins ∙ ap begun same) cut }

  pub joined : {b u a : AtBoard L A} → Works shows answers b u → Works shows answers u a → Works shows answers b a
  joined first none = first
  joined first (more m a worked does) = more m a (joined first worked) does
