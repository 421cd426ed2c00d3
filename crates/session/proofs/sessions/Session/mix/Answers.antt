use Rattle.std.proofs.Common.{length, refl, ap, ap₂, sym, ◌∙◌, ◌-◌}
use Rattle.firing_core.specs.Entries.{edit_of}
use Rattle.session.proofs.Places.{last_fits, last_length}
use Rattle.session.proofs.Rows.{after_mix}
use Rattle.session.proofs.sessions.Session.mix.Goals as goal

pub overflow_sub-from : goal.overflow_sub-from
overflow_sub-from g c =
    last_fits c.after_last_edit.result.now c.log-2.result.now c.log.result.now c.after_last_edit.ensures (c.log-2.ensures.value ∙ sym c.log.ensures.value)

pub returns : goal.returns
returns g c =
    after_mix _ _ c.args.line c.args.rounds (length c.log.result.now - length c.after_last_edit.result.now) (length c.in_ok-book.book.log)
    (edit_of c.args.edit) c.requires.mixed c.in_ok-book.ensures.mixed
    (ap₂ (λ a n. a - n) (ap length c.log.ensures.value) (last_length c.after_last_edit.result.now c.log-2.result.now c.in_ok-book.book.log c.after_last_edit.ensures c.log-2.ensures.value))
    refl c.in_ok-add_part.ensures refl
