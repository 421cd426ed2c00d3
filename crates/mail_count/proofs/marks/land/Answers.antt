use Rattle.std.proofs.Common.{◌∙◌, sym, ap, true, refl}
use Rattle.std.specs.Prelude.{not, ◌&&◌, if◌then◌else◌, slice_set, ◌+◌}
use Rattle.mail_count.specs.Seen.{missing}
use Rattle.mail_count.proofs.Tables.{missing_set}
use Rattle.mail_count.proofs.marks.land.Goals as goal

pub returns-clause-missing : goal.returns-clause-missing
returns-clause-missing c =
    ap (λ b. missing (slice_set c.args.fired.now c.args.place true) + (if not b && true then 1 else 0)) (sym c.if-fired-place.false)
    ∙ missing_set c.args.fired.now c.args.place true c.requires (λ q. refl)
