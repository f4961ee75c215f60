use Rattle.std.proofs.Common.{refl}
use Rattle.shared_keyed_board.specs.Passes.{sight}
use Rattle.controller_runtime.proofs.Added.{none_added}
use Rattle.controller_runtime.proofs.BoardTold.{board_told}
use Rattle.controller_runtime.proofs.following.KindFollower.run.Goals as goal

pub returns-clause-board : goal.returns-clause-board
returns-clause-board g c = let h = c.args.self.now.handler in (c.follow.ensures.stays h (refl, refl, none_added g.C.Reconciler.owes g.K.Named.says (sight g.K.Named.says h.pass))).0

pub returns-clause-key : goal.returns-clause-key
returns-clause-key g c = let h = c.args.self.now.handler in (c.follow.ensures.stays h (refl, refl, none_added g.C.Reconciler.owes g.K.Named.says (sight g.K.Named.says h.pass))).1

pub returns-clause-adds : goal.returns-clause-adds
returns-clause-adds g c = let h = c.args.self.now.handler in (c.follow.ensures.stays h (refl, refl, none_added g.C.Reconciler.owes g.K.Named.says (sight g.K.Named.says h.pass))).2

pub returns-clause-told : goal.returns-clause-told
returns-clause-told g c =
    board_told g.K.Named.order g.K.Named.says g.C.Reconciler.owes (λ h. h.revision) (λ h. sight g.K.Named.says h.pass) (λ h. h.listers.listers) g.A.Api.exchanges _ _ c.args.self.now.kind _ c.args.self.now.follower c.follow.new.follower c.args.self.now.handler c.follow.new.sink _ _ _ _ c.follow.ensures.follows
