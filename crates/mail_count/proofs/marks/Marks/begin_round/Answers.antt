use Rattle.std.proofs.Common.{◌≡◌, length, map, sym, ◌∙◌, ap, Bool, false, vec_len}
use Rattle.std.specs.Vec.{with_items}
use Rattle.std.proofs.lemmas.List.{length-map, with_items_is}
use Rattle.topology.specs.Networks.{numbers}
use Rattle.mail_count.specs.Seen.{missing}
use Rattle.mail_count.specs.Marks.{own_rows, brought_rows, pair_rows, many, missing_rows}
use Rattle.mail_count.proofs.Tables.{all_false, all_missing, rows_map, many_same, all_rows_missing}
use Rattle.mail_count.proofs.marks.Marks.begin_round.Goals as goal

pub returns : goal.returns
returns c = λ N s t.
    let rows = c.args.self.now.rows in
    let long : length c.clear_rows.new.rows ≡ vec_len rows = c.clear_rows.auto.rows ∙ c.deref_mut.ensures.len in
    let items = with_items_is rows c.clear_rows.new.rows long in
    let flies : vec_len c.args.self.now.flies ≡ length (numbers N.devices) = c.args.self.now.flies.ok.0 ∙ ap (length {A = Bool}) t.flies ∙ length-map (numbers N.devices) s.flies in
    let fired : vec_len c.args.self.now.fired ≡ length (numbers N.devices) = c.args.self.now.fired.ok.0 ∙ ap (length {A = Bool}) t.fired ∙ length-map (numbers N.devices) s.fired in
    let cleared = c.fill-2.ensures.items (λ y h. h) in
    let own : own_rows (with_items rows c.clear_rows.new.rows).items ≡ pair_rows N (λ a b. map (λ f. false) (s.own a b)) =
    ap own_rows items ∙ c.clear_rows.ensures.own ∙ ap (λ rs. map (λ r. map (λ fs. map (λ f. false) fs) r) (own_rows rs)) c.deref_mut.ensures.value ∙ ap (λ rs. map (λ r. map (λ fs. map (λ f. false) fs) r) rs) t.rows.own
    ∙ rows_map N (λ fs. map (λ f. false) fs) s.own in
    let brought_as : brought_rows (with_items rows c.clear_rows.new.rows).items ≡ map (λ r. map (λ b. false) r) (pair_rows N s.brought) =
    ap brought_rows items ∙ c.clear_rows.ensures.brought ∙ ap (λ rs. map (λ r. map (λ b. false) r) (brought_rows rs)) c.deref_mut.ensures.value ∙ ap (λ rs. map (λ r. map (λ b. false) r) rs) t.rows.brought in
    let brought : brought_rows (with_items rows c.clear_rows.new.rows).items ≡ pair_rows N (λ a b. false) = brought_as ∙ rows_map N (λ b. false) s.brought in
    let before : c.args.self.now.pairs ≡ many (pair_rows N s.brought) = t.pairs ∙ ap many t.rows.brought in
    record {
      flies = c.fill.ensures.items (λ y h. h) ∙ all_false (vec_len c.args.self.now.flies) (numbers N.devices) flies;
      fired = cleared ∙ all_false (vec_len c.args.self.now.fired) (numbers N.devices) fired;
      rows = record { own = own; brought = brought };
      pairs = before ∙ many_same N s.brought (λ a b. false) ∙ sym (ap many brought);
      devices_left = c.len-self.ensures ∙ c.fill-2.ensures.len ∙ fired ∙ sym (ap missing (cleared ∙ all_false (vec_len c.args.self.now.fired) (numbers N.devices) fired) ∙ all_missing (numbers N.devices));
      pairs_left = before ∙ sym (ap missing_rows brought_as ∙ all_rows_missing (pair_rows N s.brought));
    }
