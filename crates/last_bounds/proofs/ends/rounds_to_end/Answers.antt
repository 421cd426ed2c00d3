use Rattle.std.proofs.Common.{suc, ◌<◌, length, refl, sym, ◌∙◌, subst, arith, add-one, inl, inr}
use Rattle.std.proofs.lemmas.Bool.{cases_eq}
use Rattle.fc_nodes.specs.Program.{unfolding_of}
use Rattle.bound_rounds.specs.declared.rounds.RoundKind.TheVariants as kind
use Rattle.bound_rounds.specs.Rounds.{BoundTable, rounds_within, next_within, IsFixedWithin}
use Rattle.bound_rounds.specs.Tables.{Stand}
use Rattle.bound_rounds.proofs.Tabled.{stand_as}
use Rattle.last_bounds.specs.References.{AreNoted, AllChanges}
use Rattle.last_bounds.proofs.Noting.{all_none, all_next}
use Rattle.last_bounds.proofs.ends.rounds_to_end.Goals as goal

pub loop-rounds-init : goal.loop-rounds-init
loop-rounds-init c =
    let U = unfolding_of c.args.program.now in
    let E = c.args.envelope.now in
    let ready = c.requires.ready in
    let bs = c.args.table.now.bounds.items in
    let old = c.args.changes.now in
    let new = c.note_bounds.new.changes in
    let noted = subst (λ xs. AreNoted E 0 xs (length E.devices) old new) c.deref.ensures.value
    c.in_ok-note_bounds.ensures in
    record {
      ready = ready;
      many = c.note_bounds.auto.changes ∙ c.requires.many;
      most = omega arith;
      after = λ t s. stand_as U E t (rounds_within U E t 0) bs (λ d l. refl) s;
      changes = λ t s. all_next U E t 0 bs old new ready.fits.many
          (stand_as U E t (rounds_within U E t 0) bs (λ d l. refl) s)
          (all_none U E t old c.requires.many c.requires.none) noted;
      moves = λ t s i l. absurd (omega (arith, l));
    }

pub returns-then-not-goes_on-clause-ended : goal.returns-then-not-goes_on-clause-ended
returns-then-not-goes_on-clause-ended c t s =
    let U = unfolding_of c.args.program.now in
    let E = c.args.envelope.now in
    let inv = c.loop-rounds.invariant in
    let j = c.loop-rounds.rounds in
    let r = c.in_ok-goes_on.ensures.round in
    let fixed : IsFixedWithin kind.Firing U E (rounds_within U E t j) =
    r.fixed c.if-not-goes_on.true (rounds_within U E t j) (inv.after t s) in
    record {
      ends = record { within = inv.most; fixed = λ l. fixed; first = inv.moves t s };
      stands = stand_as U E (next_within kind.Firing U E (rounds_within U E t j)) (rounds_within U E t j)
          c.round.new.table.bounds.items fixed (r.next (rounds_within U E t j) (inv.after t s));
      changes = inv.changes t s;
    }

pub loop-rounds-preserved : goal.loop-rounds-preserved
loop-rounds-preserved c =
    let U = unfolding_of c.args.program.now in
    let E = c.args.envelope.now in
    let inv = c.loop-rounds.invariant in
    let j = c.loop-rounds.rounds in
    let l : j < c.args.cap = c.loop-rounds-test.true in
    let r = c.in_ok-goes_on.ensures in
    let bs = c.round.new.table.bounds.items in
    let old = c.loop-rounds.changes in
    let new = c.note_bounds-in-loop-rounds.new.changes in
    let more = add-one j in
    let after : (t : BoundTable) → Stand U E t c.args.table.now.bounds.items → Stand U E (rounds_within U E t (suc j)) bs =
    λ t s. stand_as U E (next_within kind.Firing U E (rounds_within U E t j)) (rounds_within U E t (suc j)) bs
    (λ d l. refl) (r.round.next (rounds_within U E t j) (inv.after t s)) in
    let noted : AreNoted E (suc j) bs (length E.devices) old new =
    subst (λ xs. AreNoted E (suc j) xs (length E.devices) old new) c.deref-in-loop-rounds.ensures.value
    (subst (λ i. AreNoted E i c.deref-in-loop-rounds.result.now (length E.devices) old new) more
    c.in_ok-note_bounds-2.ensures) in
    record {
      ready = r.ready;
      many = c.note_bounds-in-loop-rounds.auto.changes ∙ inv.many;
      most = omega (arith, l);
      after = λ t s. subst (λ i. Stand U E (rounds_within U E t i) bs) (sym more) (after t s);
      changes = λ t s. subst (λ i. AllChanges U E t (suc i) new) (sym more)
          (all_next U E t (suc j) bs old new r.ready.fits.many (after t s) (inv.changes t s) noted);
      moves = λ t s i b fixed. elim (cases_eq i j) [
        | inl q ↦ r.round.moves c.if-not-goes_on.false (rounds_within U E t j) (inv.after t s)
            (subst (λ x. IsFixedWithin kind.Firing U E (rounds_within U E t x)) q fixed)
        | inr q ↦ inv.moves t s i (omega (arith, b, q)) fixed
      ];
    }

pub returns-clause-ended : goal.returns-clause-ended
returns-clause-ended c t s =
    let inv = c.loop-rounds.invariant in
    let last = c.loop-rounds-test.false in
    record {
      ends = record { within = inv.most; fixed = λ l. absurd (omega (arith, l, last)); first = inv.moves t s };
      stands = inv.after t s;
      changes = inv.changes t s;
    }
