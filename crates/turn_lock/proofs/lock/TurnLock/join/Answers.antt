use Rattle.std.proofs.Common.{◌∙◌, ◌++◌, ◌∷◌, [], ap, subst, sym, arith}
use Rattle.turn_lock.proofs.Parting.{joining, telling_at}
use Rattle.turn_lock.specs.Logs.{Rises}
use Rattle.turn_lock.specs.Steps.{Holding}
use Rattle.turn_lock.proofs.Seating.{seated_joined}
use Rattle.turn_lock.proofs.lock.TurnLock.join.Goals as goal

pub join_seat-requires : goal.join_seat-requires
join_seat-requires g c = let p = c.pass.inside in let o = c.other.inside in let e = c.pass.view_is in let f = c.other.view_is in (
  ap (λ t. t.lock) e ∙ (c.requires.own.0 ∙ sym c.self.view_is),
  ap (λ t. t.lock) f ∙ (c.requires.own.1 ∙ sym c.self.view_is),
  c.other.invariant.1.empty,
  omega (arith, c.self.invariant.0),
  joining g.T.Logged.list g.T.Logged.answers p.seat.id o.seat.id c.requires.name.0 p.seat.me.0 o.seat.me.0 c.pass.invariant.1.idle c.pass.invariant.1.live c.other.invariant.1.idle c.other.invariant.1.live
      (ap (λ t. t.name) f ∙ (c.requires.name.1 ∙ ap (λ t. t.name ++ c.requires.name.0 ∷ []) (sym e))) (ap (λ t. t.out) f ∙ c.requires.back),
)

pub load-requires : goal.load-requires
load-requires g c = let p = c.pass.inside in let o = c.other.inside in
    (c.join_seat.ensures.0 ∙ (ap (λ t. t.lock) c.pass.view_is ∙ (c.requires.own.0 ∙ sym c.self.view_is)), omega (arith, c.self.invariant.0), telling_at g.T.Logged.list g.T.Logged.answers _ _ _ p.seat.me.0 o.seat.me.0 _ c.join_seat.ensures.2)

pub invariant_of-pass : goal.invariant_of-pass
invariant_of-pass g c =
    let t = c.load.ensures.2 in
    let is = t.0 ∙ c.join_seat.ensures.2 in
    (omega (arith, c.pass.invariant.0, c.other.invariant.0, ap (λ m. m.0.left) is), seated_joined c.pass.inside.seat.me c.other.inside.seat.me _ c.pass.invariant.1 is (subst (λ (z : Holding _ _). Rises z.0.mine) (sym t.0) t.4))

pub returns-clause-below : goal.returns-clause-below
returns-clause-below g c =
    let t = c.load.ensures.2 in
    let rises = subst (λ (z : Holding _ _). Rises z.0.mine) (sym t.0) t.4 in
    (seated_joined c.pass.inside.seat.me c.other.inside.seat.me _ c.pass.invariant.1 (t.0 ∙ c.join_seat.ensures.2) rises).below
