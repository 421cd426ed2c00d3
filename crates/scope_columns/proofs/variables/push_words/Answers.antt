use Rattle.std.proofs.Common.{ℕ, ◌-◌, ◌<◌, length, take, drop, ap, ◌∙◌, arith}
use Rattle.std.proofs.lemmas.List.{get_or_read, length-append}
use Rattle.scope_columns.proofs.VariableSteps.{word_again}
use Rattle.scope_columns.proofs.variables.push_words.Goals as goal

pub loop-i-preserved : goal.loop-i-preserved
loop-i-preserved c =
    let at : ℕ = c.args.at in
    let i : ℕ = c.loop-i.i in
    let ws = c.reserve.new.self.items in
    let mid = c.loop-i.words.items in
    let so_far = c.loop-i.invariant.so_far in
    let low = c.loop-i.invariant.from in
    let same = ap length c.in_ok-reserve.ensures.items in
    let inside : i < length ws = omega (arith, same, c.requires) in
    let long = ap length so_far ∙ length-append ws (take (i - at) (drop at ws)) in
    let read = get_or_read mid i c.index.result.now (omega (arith, long, inside)) c.index.ensures 0 in
    record {
      from = omega (arith, low);
      so_far = word_again ws at i low inside so_far read c.in_ok-push.ensures.items;
    }
