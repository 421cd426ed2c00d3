use Rattle.std.proofs.Common.{ap, ◌∙◌, ◌++◌}
use Rattle.fc_replay.proofs.Replaying.{is_text}
use Rattle.fc_replay.proofs.texts.shown.Goals as goal

pub returns : goal.returns
returns c =
    let held = c.core.ensures.book in
    record {
      rounds = c.in_ok-rounds.rounds.items;
      counted = c.in_ok-rounds.ensures;
      is = is_text c.args.options c.args.book.now c.core-2.result.now c.core.result.now c.in_ok-rounds.rounds.items
          c.in_ok-table.table.items _ c.values.new.out.items
          c.extend_from_slice.new.self.items c.extend_from_slice-2.new.self.items
          c.core-2.ensures.value c.core.ensures.value held.held c.new-text.ensures.items c.in_ok-values.ensures.ok
          c.in_ok-rounds.ensures c.in_ok-table.ensures
          (c.in_ok-extend_from_slice.ensures.items ∙ ap (λ l. c.values.new.out.items ++ l) c.deref.ensures.value)
          (c.in_ok-extend_from_slice-2.ensures.items
          ∙ ap (λ l. c.extend_from_slice.new.self.items ++ l) c.deref-2.ensures.value);
    }
