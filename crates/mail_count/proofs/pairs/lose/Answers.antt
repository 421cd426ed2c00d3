use Rattle.std.proofs.Common.{◌≡◌, ◌≤◌, ℕ, zero, suc, List, [], ◌∷◌, length, refl, ◌∙◌, ap, arith}
use Rattle.message_links.specs.MailCores.{without}
use Rattle.mail_book.proofs.MessageSteps.{without_remove}
use Rattle.mail_count.proofs.pairs.lose.Goals as goal

pub returns-then-place-len-clause-own : goal.returns-then-place-len-clause-own
returns-then-place-len-clause-own c = c.remove.ensures.items ∙ without_remove c.args.bringing.now.own.items c.args.place

none_there : {X : Type 0} (xs : List X) (i : ℕ) → length xs ≤ i → xs ≡ without i xs
none_there [] i h = refl
none_there (x ∷ xs) zero h = absurd (omega arith)
none_there (x ∷ xs) (suc i) h = ap (λ ys. x ∷ ys) (none_there xs i (omega arith))

pub returns-else-place-len-clause-own : goal.returns-else-place-len-clause-own
returns-else-place-len-clause-own c = none_there c.args.bringing.now.own.items c.args.place (omega (arith, c.if-place-len.false, c.len.ensures, c.args.bringing.now.own.ok.0))
