use Rattle.mail_laws.proofs.laws.mail_stabilises.Goals as goal

pub returns : goal.returns
returns c = λ k h.
    c.yes_stabilises_mail.ensures c.args.program.now c.args.net.now k c.declared.ensures.program c.declared-2.ensures.network c.requires.declared h
