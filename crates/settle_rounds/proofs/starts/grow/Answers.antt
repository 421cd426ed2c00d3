use Rattle.std.proofs.Common.{suc, ◌≡◌, refl, sym, subst, arith, add-one, inl, inr}
use Rattle.std.proofs.lemmas.Bool.{cases_eq}
use Rattle.fc_nodes.specs.Program.{unfolding_of}
use Rattle.bound_rounds.specs.declared.rounds.RoundKind.TheVariants as kind
use Rattle.bound_rounds.specs.Rounds.{BoundTable, grown_within, next_within, IsFullWithin}
use Rattle.bound_rounds.specs.Tables.{Stand}
use Rattle.bound_rounds.proofs.Tabled.{stand_as}
use Rattle.settle_rounds.proofs.starts.grow.Goals as goal

pub loop-table-init : goal.loop-table-init
loop-table-init c =
    let U = unfolding_of c.args.program.now in
    let E = c.args.envelope.now in
    record {
      ready = c.in_ok-table.ensures.ready kind.Growing;
      stands = λ t s. stand_as U E t (grown_within U E t 0) c.in_ok-table.table.bounds.items (λ d l. refl)
          (c.in_ok-table.ensures.bounds t s);
      before = λ t s i l. absurd (omega (arith, l));
      most = omega arith;
    }

pub returns-then-not-grows-clause-grown : goal.returns-then-not-grows-clause-grown
returns-then-not-grows-clause-grown c =
    let U = unfolding_of c.args.program.now in
    let E = c.args.envelope.now in
    let inv = c.loop-table.invariant in
    let j = c.loop-table.rounds in
    let r = c.in_ok-grows.ensures in
    let full : (t : BoundTable) → Stand U E t c.args.first.items → IsFullWithin U E (grown_within U E t j) =
    λ t s. r.round.fixed c.if-not-grows.true (grown_within U E t j) (inv.stands t s) in
    record {
      fits = r.ready.fits;
      rounds = j;
      few = inv.most;
      full = full;
      stands = λ t s. stand_as U E (next_within kind.Growing U E (grown_within U E t j)) (grown_within U E t j)
          c.round.new.table.bounds.items (full t s) (r.round.next (grown_within U E t j) (inv.stands t s));
    }

pub returns-then-rounds-most-clause-longer : goal.returns-then-rounds-most-clause-longer
returns-then-rounds-most-clause-longer c e t s i l full =
    let U = unfolding_of c.args.program.now in
    let E = c.args.envelope.now in
    let inv = c.loop-table.invariant in
    let j = c.loop-table.rounds in
    let last : j ≡ c.args.most = c.if-rounds-most.true in
    elim (cases_eq i j) [
      | inl q ↦ c.in_ok-grows.ensures.round.moves c.if-not-grows.false (grown_within U E t j) (inv.stands t s)
          (subst (λ k. IsFullWithin U E (grown_within U E t k)) q full)
      | inr q ↦ inv.before t s i (omega (arith, l, q, last)) full
    ]

pub loop-table-preserved : goal.loop-table-preserved
loop-table-preserved c =
    let U = unfolding_of c.args.program.now in
    let E = c.args.envelope.now in
    let inv = c.loop-table.invariant in
    let j = c.loop-table.rounds in
    let r = c.in_ok-grows.ensures in
    let more = add-one j in
    record {
      ready = r.ready;
      stands = λ t s. subst (λ k. Stand U E (grown_within U E t k) c.round.new.table.bounds.items) (sym more)
          (stand_as U E (next_within kind.Growing U E (grown_within U E t j)) (grown_within U E t (suc j))
          c.round.new.table.bounds.items (λ d l. refl) (r.round.next (grown_within U E t j) (inv.stands t s)));
      before = λ t s i l full. elim (cases_eq i j) [
        | inl q ↦ r.round.moves c.if-not-grows.false (grown_within U E t j) (inv.stands t s)
            (subst (λ k. IsFullWithin U E (grown_within U E t k)) q full)
        | inr q ↦ inv.before t s i (omega (arith, l, q)) full
      ];
      most = omega (arith, inv.most, c.if-rounds-most.false);
    }
