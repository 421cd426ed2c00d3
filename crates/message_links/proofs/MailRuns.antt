-- Crates above cite this module: a mail log keeps the network, and one with so many rounds has fewer as well.
use Rattle.std.proofs.Common.{◌≡◌, ◌≤◌, ◌+◌, ℕ, zero, suc, List, [], ◌∷◌, length, ◌∙◌, ap, arith}
use Rattle.fc_nodes.specs.Program.{Unfolding}
use Rattle.topology.specs.Networks.{Network}
use Rattle.firing_core.specs.Cores.{Core}
use Rattle.message_links.specs.MailCores.{MailCore, MailEntryValue, MailBegin, MailEnd, MailIdle, MailDeliver, MailAgain, MailLose, MailStep, MailRun}
use Rattle.message_links.specs.MailRounds.{Posts, posts_along, HasMailRounds}

pub step_net : (U : Unfolding) (at : ℕ) (c next : MailCore) (e : MailEntryValue) → MailStep U at c e next → next.core.net ≡ c.core.net
step_net U at c next (MailBegin d) s = ap (λ (x : MailCore). x.core.net) s.2 ∙ ap (λ (x : Core). x.net) s.1.2
step_net U at c next (MailEnd d) s = ap (λ (x : Core). x.net) s.ends.after
step_net U at c next MailIdle s = ap (λ (x : MailCore). x.core.net) s
step_net U at c next (MailDeliver a b) s = ap (λ (x : MailCore). x.core.net) s.after
step_net U at c next (MailAgain a b) s = ap (λ (x : MailCore). x.core.net) s.after
step_net U at c next (MailLose a b i) s = ap (λ (x : MailCore). x.core.net) s.after

pub run_net : (U : Unfolding) (at : ℕ) (c last : MailCore) (es : List MailEntryValue) → MailRun U at c es last → last.core.net ≡ c.core.net
run_net U at c last [] s = ap (λ (x : MailCore). x.core.net) s
run_net U at c last (e ∷ es) s = run_net U (suc at) s.0 last es s.2 ∙ step_net U at c s.0 e s.1

pub fewer_rounds : (N : Network) (at : ℕ) (p : Posts) (log : List MailEntryValue) (j k : ℕ) → j ≤ k → HasMailRounds N at p log k → HasMailRounds N at p log j
fewer_rounds N at p log zero k few h = tt
fewer_rounds N at p log (suc j) zero few h = absurd (omega arith)
fewer_rounds N at p log (suc j) (suc k) few h =
    (h.0, h.1, h.2, h.3, fewer_rounds N (at + length h.0) (posts_along N at p h.0) h.1 j k (omega arith) h.4)
