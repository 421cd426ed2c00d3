use Rattle.std.proofs.Common.{◌≡◌, ◌<◌, [], length, map, get_or, sym, ◌∙◌, ap, arith, false, Vec, Global, vec_len}
use Rattle.std.specs.Vec.{with_items}
use Rattle.std.proofs.lemmas.List.{length-map, with_items_is}
use Rattle.mail_count.specs.declared.pairs.Bringing.{Bringing}
use Rattle.mail_count.specs.Marks.{own_row, brought_row, own_rows, brought_rows}
use Rattle.mail_count.proofs.Rewriting.{one_mapped, all_mapped, set_mapped, read_mapped}
use Rattle.mail_count.proofs.pairs.clear_rows.Goals as goal

pub loop-row-preserved : goal.loop-row-preserved
loop-row-preserved c =
    let rows = c.loop-row.rows in
    let i = c.loop-row.row-index in
    let was = c.loop-row.invariant in
    let v : Vec Bringing Global = c.row-item.result in
    let h : i < length rows = omega (arith, c.loop-row-test.true, c.loop-row.auto.rows) in
    let k : i < length (own_rows c.args.rows.now) = omega (arith, c.loop-row-test.true, length-map c.args.rows.now (λ (r : Vec Bringing Global). own_row r.items)) in
    let l : i < length (brought_rows c.args.rows.now) = omega (arith, c.loop-row-test.true, length-map c.args.rows.now (λ (r : Vec Bringing Global). brought_row r.items)) in
    let there : c.deref_mut.result.now ≡ v.items = c.deref_mut.ensures.value ∙ ap (λ (r : Vec Bringing Global). r.items) (sym c.row-item.is) in
    let long : length c.clear_row.new.row ≡ vec_len (get_or rows i v) = c.clear_row.auto.row ∙ c.deref_mut.ensures.len in
    let items = with_items_is (get_or rows i v) c.clear_row.new.row long in
    record {
      own = set_mapped (λ (r : Vec Bringing Global). own_row r.items) rows i (with_items (get_or rows i v) c.clear_row.new.row)
          ∙ one_mapped (λ r. map (λ fs. map (λ f. false) fs) r) i (own_rows c.args.rows.now) (own_rows rows) (own_row v.items) (own_row (with_items (get_or rows i v) c.clear_row.new.row).items) [] was.own k
          (read_mapped (λ (r : Vec Bringing Global). own_row r.items) rows i v [] h c.row-item.is)
          (ap own_row items ∙ c.clear_row.ensures.own ∙ ap (λ xs. map (λ fs. map (λ f. false) fs) (own_row xs)) there);
      brought = set_mapped (λ (r : Vec Bringing Global). brought_row r.items) rows i (with_items (get_or rows i v) c.clear_row.new.row)
          ∙ one_mapped (λ r. map (λ b. false) r) i (brought_rows c.args.rows.now) (brought_rows rows) (brought_row v.items) (brought_row (with_items (get_or rows i v) c.clear_row.new.row).items) [] was.brought l
          (read_mapped (λ (r : Vec Bringing Global). brought_row r.items) rows i v [] h c.row-item.is)
          (ap brought_row items ∙ c.clear_row.ensures.brought ∙ ap (λ xs. map (λ b. false) (brought_row xs)) there);
    }

pub returns-clause-own : goal.returns-clause-own
returns-clause-own c =
    c.loop-row.invariant.own
    ∙ all_mapped (λ r. map (λ fs. map (λ f. false) fs) r) c.loop-row.row-index (own_rows c.args.rows.now) (omega (arith, c.loop-row-test.false, length-map c.args.rows.now (λ (r : Vec Bringing Global). own_row r.items)))

pub returns-clause-brought : goal.returns-clause-brought
returns-clause-brought c =
    c.loop-row.invariant.brought
    ∙ all_mapped (λ r. map (λ b. false) r) c.loop-row.row-index (brought_rows c.args.rows.now) (omega (arith, c.loop-row-test.false, length-map c.args.rows.now (λ (r : Vec Bringing Global). brought_row r.items)))
