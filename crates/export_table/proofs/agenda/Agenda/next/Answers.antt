use Rattle.std.proofs.Common.{◌≡◌, ◌<◌, ◌∙◌, List, length, ap, refl, sym, subst, arith}
use Rattle.export_table.specs.declared.agenda.Row.{Row}
use Rattle.export_table.specs.declared.agenda.Agenda.TheInside.{Inside}
use Rattle.export_table.specs.contracts.agenda.Agenda.{the_view}
use Rattle.export_table.specs.Agendas.{AgendaValue, EndedExactly, IsLeastEnded, IsInRound, Finds, row_at}
use Rattle.export_table.proofs.Rows.{Looked, looked_on, looked_next, looked_finds}
use Rattle.export_table.proofs.agenda.Agenda.next.Goals as goal
use Rattle.export_table.proofs.agenda.Agenda.next.Goals.{then-self-len+then-self-len-2, else-self-len, else-self-len-via-then-self-len+else-self-len-2, else-self-len-via-else-self-len}
use Rattle.export_table.proofs.agenda.Agenda.next.Goals.{After-in_round}

-- an agenda that looked in the rows of another one
abbrev LookedIn : Inside → Inside → Type 0
LookedIn old s = Looked (the_view s) s.round s.first × (the_view s ≡ the_view old)

looks : (c : After-in_round) → LookedIn c.self.inside c.if-self-len.self-inside
looks c =
    let old = c.self.inside in
    let here = c.first_ready-self-inside.ensures in
    let behind = c.first_behind-self-inside.result in
    let exact = subst (λ (l : List Row). behind < length l → EndedExactly old.round (row_at l behind)) c.deref-2.ensures.value c.first_behind-self-inside.ensures.behind in
    elim c.if-self-len.branch [
      | then-self-len+then-self-len-2 w ↦ let next = w.first_ready-self-inside-then-self-len-2.ensures in
          subst (LookedIn old) (sym w.self-inside-is) (
            looked_next (the_view old) w.least_ended-self-inside.result w.first_ready-self-inside-then-self-len-2.result w.deref-then-self-len-2-2.result.now w.deref-then-self-len-2-2.ensures.value next.before next.within next.ready
                (subst (λ (l : List Row). IsLeastEnded w.least_ended-self-inside.result l old.rounds) w.deref-then-self-len-2.ensures.value w.least_ended-self-inside.ensures),
            refl,
          )
      | else-self-len w ↦ subst (LookedIn old) (sym w.self-inside-is) (
        looked_on (the_view old) old.round c.first_ready-self-inside.result c.deref.result.now c.deref.ensures.value here.before here.within here.ready behind c.self.invariant.most c.self.invariant.each exact
            (λ full. elim w.else-self-len.branch [
              | else-self-len-via-then-self-len+else-self-len-2 v ↦
                  let other = v.if-self-len-2.false in let long = v.len-then-self-len.ensures in let low = c.first_behind-self-inside.ensures.within in let same = ap length c.deref-2.ensures.value in
                  omega (arith, other, long, low, same, old.rows.ok.0)
              | else-self-len-via-else-self-len v ↦ let other = v.if-self-len.false in let long = c.len.ensures in absurd (omega (arith, full, other, long, old.rows.ok.0))
            ]),
        refl,
      )
    ]

pub returns-clause-found : goal.returns-clause-found
returns-clause-found c = let s = c.if-self-len.self-inside in
    subst (λ (a : AgendaValue). Finds a c.in_round.result) ((looks c).1 ∙ c.self.view_is)
    (looked_finds (the_view s) s.round s.first (looks c).0 c.in_round.result
    (subst (λ n. IsInRound s.first n s.round s.rounds c.in_round.result) (c.len-2.ensures ∙ s.rows.ok.0) c.in_round.ensures))
