use Rattle.control_desk.specs.Desks.{known}
use Rattle.manager.proofs.BoardTold.{board_told}
use Rattle.manager.proofs.reflecting.Reflecting.run.Goals as goal

pub returns : goal.returns
returns g c looks handled added =
    board_told (λ h. record { kind = h.kind; handled = h.handled; added = h.added; revision = h.revision; looks = h.looks }) (λ h. known h.pass) (λ h. h.listers.listers) g.A.Api.exchanges _ _ c.args.self.now.kind _ c.args.self.now.follower c.follow.new.follower c.args.self.now.handler c.follow.new.sink _ _ _ _ looks handled added c.follow.ensures.follows
