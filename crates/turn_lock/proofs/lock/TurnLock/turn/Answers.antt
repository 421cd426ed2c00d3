use Rattle.turn_lock.specs.Passes.{AppendsOne, MayTurn, Turned}
use Rattle.std.proofs.Common.{subst, ◌≡◌, ◌∙◌, ◌∷◌, Some, None, ap, sym, refl, arith}
use Rattle.atomic_table.specs.Table.{rest}
use Rattle.std.specs.Fn.{FnOnceReturnsAtMut}
use Rattle.turn_lock.specs.Seats.{pass_view}
use Rattle.turn_lock.proofs.Keeping.{Some-injective, serving_at, swapped, turned_at}
use Rattle.turn_lock.proofs.Seating.{seated_wrote}
use Rattle.turn_lock.proofs.lock.TurnLock.turn.Goals as goal

pub exchange-requires : goal.exchange-requires
exchange-requires g c = let t = c.enter.ensures.entered in let p = ap (λ m. m.1) t.2 in
    (c.enter.ensures.same.0 ∙ (ap (λ z. z.lock) c.pass.view_is ∙ (c.requires.own ∙ sym c.self.view_is)), (Some t.0, p ∙ ap (λ l. (0, Some t.0) ∷ rest l) (sym p)))

pub fetch_add-requires : goal.fetch_add-requires
fetch_add-requires g c =
    let list = g.T.Logged.list in
    let answers = g.T.Logged.answers in
    let v = c.pass.inside.seat.me.0 in
    let t = c.enter.ensures.entered in
    let a = swapped list answers _ _ _ _ _ None t.2 c.exchange.ensures.2 c.exchange.ensures.3 in
    let b = swapped list answers _ _ _ _ _ (Some c.f-answer.new.arg2) a.1 c.exchange-left.ensures.2 c.exchange-left.ensures.3 in
    let x : c.unwrap-value.result ≡ t.0 = Some-injective list answers _ _ (sym c.unwrap-value.ensures ∙ sym a.0) in
    let call : FnOnceReturnsAtMut g.F.FnOnce c.args.f t.0 c.f-answer.result c.f-answer.new.arg2 = record { shown = _; shows = x; left = _; met = c.f-answer.ensures; leaves = refl } in
    let e = c.pass.view_is in
    let adds = subst (λ z. AppendsOne list answers g.F.FnOnce c.args.f z) (sym e) c.requires.appends t.0 _ _ (t.1 _) call in (
      c.exchange-left.ensures.0 ∙ (c.exchange.ensures.0 ∙ (c.enter.ensures.same.0 ∙ (ap (λ z. z.lock) c.pass.view_is ∙ (c.requires.own ∙ sym c.self.view_is)))),
      omega (arith, c.self.invariant.0),
      serving_at list answers g.T.Logged.earlier g.T.Logged.stays _ _ _ v t.0 c.f-answer.new.arg2 adds.0 b.1 c.pass.invariant.1.live adds.1 adds.2,
    )

pub returns : goal.returns
returns g c =
    let list = g.T.Logged.list in
    let answers = g.T.Logged.answers in
    let v = c.pass.inside.seat.me.0 in
    let t = c.enter.ensures.entered in
    let a = swapped list answers _ _ _ _ _ None t.2 c.exchange.ensures.2 c.exchange.ensures.3 in
    let b = swapped list answers _ _ _ _ _ (Some c.f-answer.new.arg2) a.1 c.exchange-left.ensures.2 c.exchange-left.ensures.3 in
    let x : c.unwrap-value.result ≡ t.0 = Some-injective list answers _ _ (sym c.unwrap-value.ensures ∙ sym a.0) in
    let call : FnOnceReturnsAtMut g.F.FnOnce c.args.f t.0 c.f-answer.result c.f-answer.new.arg2 = record { shown = _; shows = x; left = _; met = c.f-answer.ensures; leaves = refl } in
    record { turned = subst (λ z. Turned list answers g.F.FnOnce c.args.f z (pass_view c.fetch_add.new.seat.table_id c.fetch_add.new.seat.me.0) c.f-answer.result) c.pass.view_is (turned_at list answers g.F.FnOnce c.args.f c.f-answer.result c.pass.inside.seat.table_id c.fetch_add.new.seat.table_id (c.fetch_add.ensures.0 ∙ (c.exchange-left.ensures.0 ∙ (c.exchange.ensures.0 ∙ c.enter.ensures.same.0))) 1 c.fetch_add.result v _ _ t.0 c.f-answer.new.arg2 b.1 c.fetch_add.ensures.2 t.1 call) }

pub f-answer-requires : goal.f-answer-requires
f-answer-requires g c =
    let list = g.T.Logged.list in
    let answers = g.T.Logged.answers in
    let t = c.enter.ensures.entered in
    let a = swapped list answers _ _ _ _ _ None t.2 c.exchange.ensures.2 c.exchange.ensures.3 in
    let x : c.unwrap-value.result ≡ t.0 = Some-injective list answers _ _ (sym c.unwrap-value.ensures ∙ sym a.0) in
    subst (λ z. MayTurn list answers g.F.FnOnce c.args.f z) (sym c.pass.view_is) c.requires.may t.0 (t.1 _) _ x

pub invariant_of-pass : goal.invariant_of-pass
invariant_of-pass g c =
    let list = g.T.Logged.list in
    let answers = g.T.Logged.answers in
    let t = c.enter.ensures.entered in
    let a = swapped list answers _ _ _ _ _ None t.2 c.exchange.ensures.2 c.exchange.ensures.3 in
    let b = swapped list answers _ _ _ _ _ (Some c.f-answer.new.arg2) a.1 c.exchange-left.ensures.2 c.exchange-left.ensures.3 in
    let s = seated_wrote list answers c.pass.inside.seat.table_id c.fetch_add.result 1 c.pass.inside.seat.me _ _ t.0 c.f-answer.new.arg2 c.pass.invariant.1 b.1 c.fetch_add.ensures.2 t.1 in
    (omega (arith, c.pass.invariant.0, s.0), s.1)
