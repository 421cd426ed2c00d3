use Rattle.std.proofs.Common.{◌≡◌, arith, refl, subst, sym}
use Rattle.firing_core.specs.CoreViews.{program_of}
use Rattle.mail_book.specs.declared.letters.Letters.{Letters}
use Rattle.mail_book.specs.Letters.{AreLetters}
use Rattle.mail_book.proofs.MessageSteps.{repeats_letters}
use Rattle.mail_book.proofs.PairWrites.{row_in, item_in, old_letters, keeps, repeats, empties}
use Rattle.mail_book.proofs.mails.Mail.again.Goals as goal
use Rattle.mail_book.proofs.mails.Mail.again.Goals.{in-Ok-true, in-Ok-false, in-Err}

pub index_mut-requires : goal.index_mut-requires
index_mut-requires c =
    let w = row_in c.self.inside.core c.net.ensures.core.net c.self.inside.rows.items c.self.invariant c.net.result.now c.net.ensures.value c.args.from c.args.to c.in-Some.row c.in-Some.at c.in-Some.ensures.place in
    omega (arith, w, c.self.inside.rows.ok.0)

pub index_mut-requires-2 : goal.index_mut-requires-2
index_mut-requires-2 c =
    let w = item_in c.self.inside.core c.net.ensures.core.net c.self.inside.rows.items c.self.invariant c.net.result.now c.net.ensures.value c.args.from c.args.to c.in-Some.row c.in-Some.at c.in-Some.ensures.place c.index_mut.result.now c.index_mut.ensures.value in
    omega (arith, w, c.index_mut.result.now.ok.0)

old : (c : goal.Joined-repeat) → AreLetters (program_of c.self.inside.core) c.index_mut-2.result.now
old c = old_letters c.self.inside.core c.net.ensures.core.net c.self.inside.rows.items c.self.invariant c.net.result.now c.net.ensures.value c.args.from c.args.to c.in-Some.row c.in-Some.at c.in-Some.ensures.place c.index_mut.result.now c.index_mut.ensures.value c.index_mut-2.result.now c.index_mut-2.ensures.value

same : (c : goal.Joined-repeat) → c.repeat.new.letters ≡ c.index_mut-2.result.now → AreLetters (program_of c.self.inside.core) c.repeat.new.letters
same c q = subst (λ (l : Letters). AreLetters (program_of c.self.inside.core) l) (sym q) (old c)

pub invariant_of-self : goal.invariant_of-self
invariant_of-self c =
    keeps c.self.inside.core c.net.ensures.core.net c.self.inside.rows.items c.self.invariant c.net.result.now c.net.ensures.value c.args.from c.args.to c.in-Some.row c.in-Some.at c.in-Some.ensures.place c.index_mut.result.now c.index_mut.ensures.value c.index_mut-2.result.now c.index_mut-2.ensures.value c.repeat.new.letters
    (elim c.match-repeat.branch [
      | in-Ok-true w ↦ repeats_letters (program_of c.self.inside.core) c.index_mut-2.result.now c.repeat.new.letters (w.in-Ok-true.ensures.some w.in-Ok-true.field-0-test) (old c)
      | in-Ok-false w ↦ same c (w.in-Ok-false.ensures.none w.in-Ok-false.field-0-test)
      | in-Err w ↦ same c w.in-Err.ensures.err
    ])

pub returns-clause-ok : goal.returns-clause-ok
returns-clause-ok c = elim c.match-repeat.branch [
  | in-Ok-true w ↦ rw w.result-is (repeats c.self.inside.core c.net.ensures.core.net c.self.inside.rows.items c.self.invariant c.net.result.now c.net.ensures.value c.args.from c.args.to c.in-Some.row c.in-Some.at c.in-Some.ensures.place c.index_mut.result.now c.index_mut.ensures.value c.index_mut-2.result.now c.index_mut-2.ensures.value c.repeat.new.letters c.args.self.now c.self.view_is (w.in-Ok-true.ensures.some w.in-Ok-true.field-0-test))
  | in-Ok-false w ↦ rw w.result-is tt
  | in-Err w ↦ rw w.result-is tt
]

pub returns-clause-refused : goal.returns-clause-refused
returns-clause-refused c = elim c.match-repeat.branch [
  | in-Ok-true w ↦ rw w.result-is tt
  | in-Ok-false w ↦ rw w.result-is (refl, empties c.self.inside.core c.net.ensures.core.net c.self.inside.rows.items c.self.invariant c.net.result.now c.net.ensures.value c.args.from c.args.to c.in-Some.row c.in-Some.at c.in-Some.ensures.place c.index_mut.result.now c.index_mut.ensures.value c.index_mut-2.result.now c.index_mut-2.ensures.value c.args.self.now c.self.view_is (w.in-Ok-false.ensures.empty w.in-Ok-false.field-0-test))
  | in-Err w ↦ rw w.result-is tt
]
