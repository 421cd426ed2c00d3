use Rattle.turn_lock.specs.Passes.{IsBelow, PassView}
use Rattle.turn_lock.proofs.Seating.{seated_kept, seated_new}
use Rattle.std.proofs.Common.{subst, ◌∙◌, ap, sym, arith}
use Rattle.turn_lock.proofs.Parting.{splitting}
use Rattle.turn_lock.proofs.lock.TurnLock.split_by.Goals as goal

pub split_seat-seat-requires : goal.split_seat-seat-requires
split_seat-seat-requires g c = let i = c.pass.inside in let e = c.pass.view_is in
    (ap (λ t. t.lock) e ∙ (c.requires.own ∙ sym c.self.view_is), omega (arith, c.self.invariant.0), splitting g.T.Logged.list g.T.Logged.answers i.seat.id g.K.Amount.share i.seat.me.0 c.pass.invariant.1.idle c.pass.invariant.1.live (omega (arith, c.requires.enough.0, c.requires.enough.1, ap (λ t. t.left) e)))

pub invariant_of-pass : goal.invariant_of-pass
invariant_of-pass g c =
    let e = c.split_seat-seat.ensures in
    (omega (arith, c.pass.invariant.0, ap (λ m. m.0.left) e.2), seated_kept g.K.Amount.share c.pass.inside.seat.me _ c.pass.invariant.1 e.2)

pub returns-clause-below : goal.returns-clause-below
returns-clause-below g c =
    let e = c.split_seat-seat.ensures in (
      subst (λ (u : PassView _). IsBelow u) c.pass.view_is c.pass.invariant.1.below,
      (seated_kept g.K.Amount.share c.pass.inside.seat.me _ c.pass.invariant.1 e.2).below,
      (seated_new g.K.Amount.share c.pass.inside.seat.me c.split_seat-seat.result.me c.pass.invariant.1 e.4).below,
    )
