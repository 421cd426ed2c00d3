use Rattle.std.proofs.Common.{sym, subst, OnOk}
use Rattle.changes.specs.Hand.{said_first}
use Rattle.changes.specs.Kept.{IsHandOf}
use Rattle.changes.proofs.Lines.{says_at}
use Rattle.changes.proofs.hands.Hand.add_line.Goals as goal

pub returns-in-Some : goal.returns-in-Some
returns-in-Some g c =
    subst (λ o. OnOk c.add.result (IsHandOf c.args.network.now (said_first o g.told) c.add.new.self)) (sym (says_at c.args.lines.now c.args.at c.index-lines-at.result _ c.requires.0 c.in-Some.is)) c.add.ensures

pub returns-in-None : goal.returns-in-None
returns-in-None g c =
    subst (λ o. IsHandOf c.args.network.now (said_first o g.told) c.args.self.now) (sym (says_at c.args.lines.now c.args.at c.index-lines-at.result _ c.requires.0 c.in-None.is)) c.requires.1.1
