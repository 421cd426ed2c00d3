-- Where bounds leave one value, each mail log with so many rounds leads to it.
use Rattle.std.proofs.Common.{◌≡◌, ◌+◌, refl, subst, arith}
use Rattle.fc_nodes.specs.Program.{unfolding_of}
use Rattle.firing_core.specs.Laws.{StepsKeepGood, CopiesFit, RunsCut}
use Rattle.converge_laws.specs.CoreLevels.{MaybeAt}
use Rattle.converge_laws.proofs.RisingLevels.{good_start, levels_of_steps}
use Rattle.message_links.specs.MailRounds.{posts_of}
use Rattle.mail_laws.proofs.Rounds.{start_at, run_rounds}
use Rattle.settle_rounds.specs.Mail.{BoundsReachMail}
use Rattle.settle_rounds.specs.Rounds.{Within}
use Rattle.settle_rounds.proofs.Rising.{bounds_raise, has_left}

pub bounds_reach_mail : StepsKeepGood → CopiesFit → RunsCut → BoundsReachMail
bounds_reach_mail keeps fit cuts P N program net same k d l h m g start last log s n run rounds =
    let r = bounds_raise fit P N program net same in
    let begins = good_start keeps fit cuts (Within (unfolding_of P) N) P N program net same r in
    let steps = levels_of_steps keeps fit cuts (Within (unfolding_of P) N) P N program net same r in
    let at = start_at keeps fit (Within (unfolding_of P) N) P N program net same r begins steps start n s in
    let end = run_rounds keeps fit (Within (unfolding_of P) N) P N program net same r begins steps m 0 0
    (posts_of start) log start last at.0 at.1 (λ a b. refl) run rounds in
    let z : 0 + m ≡ m = omega arith in
    has_left (unfolding_of P) N k m d (last.core.exports d) g h
    (subst (λ i. MaybeAt (Within (unfolding_of P) N) i d (last.core.exports d)) z (end.exports d l))
