use Rattle.std.proofs.Common.{◌≡◌, ◌<◌, ◌+◌, ◌∙◌, ℕ, false, List, length, replicate, drop, map, sym, ap, subst, arith}
use Rattle.firing_core.specs.Entries.{EntryValue, entry_of, entries_of}
use Rattle.firing_core.specs.Rounds.{HasRounds, has_edit}
use Rattle.round_count.specs.Marks.{wanting}
use Rattle.round_count.proofs.Logs.{after_plain}
use Rattle.round_count.proofs.Wants.{wanting_fresh}
use Rattle.round_count.proofs.Counts.{Counted, counted_first, counted_round, counted_has, counted_all, counted_entry, counted_done, counted_at, left_less, left_same}
use Rattle.round_count.proofs.counting.rounds.Goals as goal
use Rattle.round_count.proofs.counting.rounds.Goals.{then-fires, else-fires, then-left-eq0, else-left-eq0}

pub loop-entry-init : goal.loop-entry-init
loop-entry-init c =
    let live = c.args.live.now in
    let part = c.after_last_edit-entry-items.result.now in
    let fresh : c.fill.new.self ≡ replicate (length live) 0 = c.fill.ensures.after (λ y h. h) ∙ ap (λ n. replicate n 0) c.requires.marks in
    record {
      few = omega arith;
      left = sym (ap wanting fresh ∙ wanting_fresh (length live));
      some = c.requires.some;
      counted = subst (λ (ms : List ℕ). Counted live (map entry_of part) 0 ms (map entry_of part)) (sym fresh) (counted_first live (map entry_of part));
    }

pub loop-entry-preserved : goal.loop-entry-preserved
loop-entry-preserved c =
    let live = c.args.live.now in
    let part = c.after_last_edit-entry-items.result.now in
    let i = c.loop-entry.entry-index in
    let was = c.loop-entry.invariant in
    let plain : has_edit (map entry_of part) ≡ false = subst (λ (l : List EntryValue). has_edit l ≡ false) (sym c.after_last_edit-entry-items.ensures) (after_plain (entries_of c.args.log.now)) in
    let marks = c.loop-entry.marks in
    let new = c.fires.new.marks in
    let long : length marks ≡ length live = omega arith in
    let long_new : length new ≡ length live = omega arith in
    let some : 0 < wanting marks = omega (arith, was.left, was.some) in
    let read : Counted live (map entry_of part) c.loop-entry.count new (map entry_of (drop (i + 1) part)) = subst (λ (ms : List ℕ). Counted live (map entry_of part) c.loop-entry.count ms (map entry_of (drop (i + 1) part))) (sym c.fires.ensures.marks) (counted_entry live part c.loop-entry.count marks i c.entry-item.result plain c.loop-entry-test.true c.entry-item.is long some was.counted) in
    let left : c.if-fires.left ≡ wanting new = elim c.if-fires.branch [
      | then-fires w ↦ left_less c.fires.result _ _ _ _ c.fires.ensures.wanting was.left w.if-fires.true w.left-is
      | else-fires w ↦ left_same c.fires.result _ _ _ _ c.fires.ensures.wanting was.left w.if-fires.false w.left-is
    ] in
    elim c.if-left-eq0.branch [
      | then-left-eq0 w ↦
          let full : wanting new ≡ 0 = sym left ∙ w.if-left-eq0.true in
          let fresh : c.if-left-eq0.marks ≡ replicate (length live) 0 = w.marks-is ∙ w.fill-then-left-eq0.ensures.after (λ y h. h) ∙ ap (λ n. replicate n 0) long_new in
          record {
            few = omega (arith, w.count-is, was.few);
            left = w.left-is ∙ sym (ap wanting fresh ∙ wanting_fresh (length live));
            some = omega (arith, w.left-is, c.requires.some);
            counted = counted_at _ _ (counted_round read long_new full) w.count-is fresh;
          }
      | else-left-eq0 w ↦ record {
        few = omega (arith, w.count-is, was.few);
        left = w.left-is ∙ left ∙ sym (ap wanting w.marks-is);
        some = omega (arith, w.left-is, w.if-left-eq0.false);
        counted = counted_at _ _ read w.count-is w.marks-is;
      }
    ]

pub returns-clause-has : goal.returns-clause-has
returns-clause-has c =
    subst (λ (l : List EntryValue). HasRounds c.args.live.now l c.loop-entry.count) c.after_last_edit-entry-items.ensures (counted_has (counted_done _ _ _ _ _ c.loop-entry-test.false c.loop-entry.invariant.counted))

pub returns-clause-greatest : goal.returns-clause-greatest
returns-clause-greatest c = λ k h.
    let live = c.args.live.now in
    let was = c.loop-entry.invariant in
    let long : length c.loop-entry.marks ≡ length live = omega arith in
    let some : 0 < wanting c.loop-entry.marks = omega (arith, was.left, was.some) in
    counted_all (counted_done _ _ _ _ _ c.loop-entry-test.false was.counted) long some k (subst (λ (l : List EntryValue). HasRounds live l k) (sym c.after_last_edit-entry-items.ensures) h)
