use Rattle.std.proofs.Common.{ap, ◌≡◌, ◌∙◌, sym, subst, refl, Some}
use mathlib.Core.Option.{some-injective}
use Rattle.std.specs.Option.{IsSome}
use Rattle.turn_lock.specs.Passes.{Closed}
use Rattle.turn_lock.proofs.Ending.{ends}
use Rattle.turn_lock.proofs.Keeping.{Some-injective}
use Rattle.turn_lock.proofs.lock.TurnLock.close.Goals as goal

pub unwrap-requires : goal.unwrap-requires
unwrap-requires g c = let p = c.pass.inside in let w = c.pass.view_is in
    let e = ends g.T.Logged.list g.T.Logged.answers p.seat.table_id p.seat.id p.seat.me.0 _ _ c.pass.invariant.1.live c.pass.invariant.1.idle (ap (λ t. t.name) w ∙ c.requires.last.0) (ap (λ t. t.out) w ∙ c.requires.last.1) c.close_with-closed.ensures.values.2 in
    let is : c.take-slot.result ≡ Some e.0 = some-injective _ _ (sym c.take-slot.ensures.value ∙ e.1) in
    subst (λ z. IsSome z) (sym is) refl

pub returns : goal.returns
returns g c = let p = c.pass.inside in let w = c.pass.view_is in
    let e = ends g.T.Logged.list g.T.Logged.answers p.seat.table_id p.seat.id p.seat.me.0 _ _ c.pass.invariant.1.live c.pass.invariant.1.idle (ap (λ t. t.name) w ∙ c.requires.last.0) (ap (λ t. t.out) w ∙ c.requires.last.1) c.close_with-closed.ensures.values.2 in
    let is : Some e.0 ≡ Some c.unwrap.result = sym (some-injective _ _ (sym c.take-slot.ensures.value ∙ e.1)) ∙ c.unwrap.ensures in
    subst (λ t. Closed g.T.Logged.list t c.unwrap.result) w (subst (Closed g.T.Logged.list _) (Some-injective g.T.Logged.list g.T.Logged.answers _ _ is) e.2)
