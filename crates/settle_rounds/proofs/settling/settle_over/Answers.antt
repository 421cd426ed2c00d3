use Rattle.std.proofs.Common.{ℕ, suc, ◌≡◌, ◌<◌, ◌∙◌, List, length, map, option_map, IsSome, Option, refl, sym}
use Rattle.std.proofs.Common.{ap, subst, arith, add-one}
use Rattle.std.specs.Vec.{with_items}
use Rattle.std.proofs.lemmas.List.{with_items_is}
use Rattle.std.proofs.lemmas.List.Elements.{All-same}
use Rattle.fc_nodes.specs.Program.{unfolding_of}
use Rattle.bound_firing.specs.declared.firing.ExportBound.{ExportBound as FlatBound}
use Rattle.bound_rounds.specs.declared.rounds.RoundKind.TheVariants as kind
use Rattle.bound_rounds.specs.Rounds.{BoundTable, rounds_within, next_within}
use Rattle.bound_rounds.specs.Tables.{Stand}
use Rattle.bound_rounds.proofs.Tabled.{stand_as}
use Rattle.settle_rounds.specs.declared.settling.Settled.{Settled}
use Rattle.settle_rounds.specs.References.{AreNoted, IsSettling, settled_in}
use Rattle.settle_rounds.proofs.Settles.{first_settle, more_settle, still_settle, all_settle}
use Rattle.settle_rounds.proofs.settling.settle_over.Goals as goal

-- of equal lists
of_noted : (j k : ℕ) (bs cs : List FlatBound) (xs ys zs : List (Option Settled)) → j ≡ k → bs ≡ cs → xs ≡ ys
    → AreNoted j bs (length xs) xs zs → AreNoted k cs (length ys) ys zs
of_noted j k bs cs xs ys zs r p q n =
    subst (λ i. AreNoted i cs (length ys) ys zs) r (subst (λ us. AreNoted j us (length ys) ys zs) p
    (subst (λ us. AreNoted j bs (length us) us zs) q n))

pub note_reached-requires : goal.note_reached-requires
note_reached-requires c =
    ap length c.deref.ensures.value ∙ (c.in_ok-table.ensures.ready kind.Firing).fits.many
    ∙ sym c.in_ok-settled.ensures.many ∙ sym (ap length c.deref_mut.ensures.value)

pub loop-rounds-init : goal.loop-rounds-init
loop-rounds-init c =
    let U = unfolding_of c.args.program.now in
    let E = c.args.envelope.now in
    let envelope = c.in_ok-table.ensures.envelope in
    let ready = c.in_ok-table.ensures.ready kind.Firing in
    let bs = c.in_ok-table.table.bounds.items in
    let xs = c.in_ok-settled.settled.items in
    let ys = c.note_reached.new.settled in
    let e = with_items_is c.in_ok-settled.settled ys (c.note_reached.auto.settled ∙ c.deref_mut.ensures.len) in
    let many : length ys ≡ length E.devices =
    c.note_reached.auto.settled ∙ ap length c.deref_mut.ensures.value ∙ c.in_ok-settled.ensures.many in
    let noted = of_noted 0 0 c.deref.result.now bs c.deref_mut.result.now xs ys refl c.deref.ensures.value
    c.deref_mut.ensures.value c.in_ok-note_reached.ensures in
    record {
      settling = record {
        ready = ready;
        many = ap length e ∙ many;
        after = λ t s. stand_as U E t (rounds_within U E t 0) bs (λ d l. refl) (c.in_ok-table.ensures.bounds t s);
        settled = λ t s. ap (map (option_map settled_in)) e ∙ first_settle U E envelope t bs xs ys ready.fits.many
            c.in_ok-settled.ensures.many many (c.in_ok-table.ensures.bounds t s) c.in_ok-settled.ensures.none noted;
      };
      most = omega arith;
    }

pub returns-then-all_settled : goal.returns-then-all_settled
returns-then-all_settled c t s =
    let U = unfolding_of c.args.program.now in
    let E = c.args.envelope.now in
    let inv = c.loop-rounds.invariant.settling in
    let l : c.loop-rounds.rounds < c.args.cap = c.loop-rounds-test.true in
    let all = All-same (λ (o : Option Settled). IsSome o) c.loop-rounds.settled.items c.deref-in-loop-rounds.result.now
    (sym c.deref-in-loop-rounds.ensures.value) (c.all_settled.ensures c.if-all_settled.true) in
    inv.settled t s ∙ all_settle U E c.in_ok-table.ensures.envelope t c.loop-rounds.rounds c.args.cap
    c.loop-rounds.settled.items inv.many (inv.settled t s) all (omega (arith, l))

pub returns-then-not-changes : goal.returns-then-not-changes
returns-then-not-changes c t s =
    let U = unfolding_of c.args.program.now in
    let E = c.args.envelope.now in
    let inv = c.loop-rounds.invariant.settling in
    let j = c.loop-rounds.rounds in
    let l : j < c.args.cap = c.loop-rounds-test.true in
    let still = c.in_ok-changes.ensures.round.fixed c.if-not-changes.true (rounds_within U E t j) (inv.after t s) in
    inv.settled t s ∙ still_settle U E c.in_ok-table.ensures.envelope t j j c.args.cap still (omega arith)
    (omega (arith, l))

pub loop-rounds-preserved : goal.loop-rounds-preserved
loop-rounds-preserved c =
    let U = unfolding_of c.args.program.now in
    let E = c.args.envelope.now in
    let envelope = c.in_ok-table.ensures.envelope in
    let inv = c.loop-rounds.invariant.settling in
    let j = c.loop-rounds.rounds in
    let l : j < c.args.cap = c.loop-rounds-test.true in
    let T = c.round.new.table in
    let bs = T.bounds.items in
    let xs = c.loop-rounds.settled.items in
    let ys = c.note_reached-in-loop-rounds.new.settled in
    let e = with_items_is c.loop-rounds.settled ys
    (c.note_reached-in-loop-rounds.auto.settled ∙ c.deref_mut-in-loop-rounds.ensures.len) in
    let many : length ys ≡ length E.devices =
    c.note_reached-in-loop-rounds.auto.settled ∙ ap length c.deref_mut-in-loop-rounds.ensures.value ∙ inv.many in
    let r = c.in_ok-changes.ensures in
    let noted = of_noted _ (suc j) c.deref-in-loop-rounds-2.result.now bs
    c.deref_mut-in-loop-rounds.result.now xs ys (add-one j)
    c.deref-in-loop-rounds-2.ensures.value c.deref_mut-in-loop-rounds.ensures.value c.in_ok-note_reached-2.ensures in
    let after : (t : BoundTable) → Stand U E t c.args.start.items → Stand U E (rounds_within U E t (suc j)) bs =
    λ t s. stand_as U E (next_within kind.Firing U E (rounds_within U E t j)) (rounds_within U E t (suc j)) bs
    (λ d l. refl) (r.round.next (rounds_within U E t j) (inv.after t s)) in
    record {
      settling = subst (λ i. IsSettling U E c.args.start.items i T (with_items c.loop-rounds.settled ys).items)
          (sym (add-one j)) (record {
            ready = r.ready;
            many = ap length e ∙ many;
            after = after;
            settled = λ t s. ap (map (option_map settled_in)) e ∙ more_settle U E envelope t j bs xs ys r.ready.fits.many
                inv.many many (after t s) noted (inv.settled t s);
          });
      most = omega (arith, l);
    }
