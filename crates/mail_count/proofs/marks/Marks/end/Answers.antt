use Rattle.std.proofs.Common.{◌≡◌, ◌<◌, [], length, map, get_or, sym, ◌∙◌, ap, arith, false, Vec, Global, vec_len}
use Rattle.std.specs.Prelude.{slice_set, ◌||◌}
use Rattle.std.specs.Vec.{with_items}
use Rattle.std.proofs.lemmas.List.{length-map, with_items_is}
use Rattle.message_links.specs.MailCores.{posted, pushed}
use Rattle.mail_book.proofs.Answered.{ok_both}
use Rattle.mail_count.specs.declared.pairs.Bringing.{Bringing}
use Rattle.mail_count.specs.Seen.{missing}
use Rattle.mail_count.specs.Marks.{own_row, brought_row, own_rows, brought_rows, pair_rows, many, missing_rows}
use Rattle.mail_count.proofs.CodeRows.{told_row, told_written}
use Rattle.mail_count.proofs.Tables.{flag_write, flag_away, flag_read, both_write, both_away, none_sent, row_sent, set_same}
use Rattle.mail_count.proofs.MarkSteps.{many_rows}
use Rattle.mail_count.proofs.marks.Marks.end.Goals as goal

pub returns-in_default : goal.returns-in_default
returns-in_default c = λ s t. record {
  flies = t.flies ∙ flag_away s.flies c.args.net.now c.in_default.ensures.network c.args.device false c.in_default.ensures.none;
  fired = t.fired ∙ both_away s.fired c.args.net.now c.in_default.ensures.network c.args.device s.flies c.in_default.ensures.none;
  rows = record { own = t.rows.own ∙ sym (none_sent c.args.net.now c.in_default.ensures.network s.own c.args.device (s.flies c.args.device) c.in_default.ensures.none); brought = t.rows.brought };
  pairs = t.pairs;
  devices_left = t.devices_left;
  pairs_left = t.pairs_left;
}

pub returns : goal.returns
returns c = λ s t.
    let N = c.args.net.now in
    let net = c.in-Some.ensures.network in
    let d = c.args.device in
    let p = c.in-Some.place in
    let rows = c.args.self.now.rows.items in
    let v : Vec Bringing Global = c.index_mut-2.result.now in
    let row = c.send_row.new.row in
    let own : c.index-own.result.now ≡ s.flies d = c.index-own.ensures ∙ ap (λ xs. get_or xs p c.index-own.result.now) t.flies ∙ flag_read s.flies N net d p c.index-own.result.now c.in-Some.ensures.within c.in-Some.ensures.there in
    let was : get_or c.deref_mut.result.now p false ≡ s.fired d = ap (λ xs. get_or xs p false) (c.deref_mut.ensures.value ∙ t.fired) ∙ flag_read s.fired N net d p false c.in-Some.ensures.within c.in-Some.ensures.there in
    let lands : (c.index-own.result.now || get_or c.deref_mut.result.now p false) ≡ (s.flies d || s.fired d) = ap (λ x. x || get_or c.deref_mut.result.now p false) own ∙ ap (λ x. s.flies d || x) was in
    let many_fired : length c.land.new.fired ≡ vec_len c.args.self.now.fired = c.land.auto.fired ∙ c.deref_mut.ensures.len in
    let fired_is = with_items_is c.args.self.now.fired c.land.new.fired many_fired in
    let fired = fired_is ∙ c.land.ensures.fired ∙ ap (λ xs. slice_set xs p (c.index-own.result.now || get_or c.deref_mut.result.now p false)) (c.deref_mut.ensures.value ∙ t.fired)
    ∙ both_write s.fired N net d s.flies p (c.index-own.result.now || get_or c.deref_mut.result.now p false) c.in-Some.ensures.within c.in-Some.ensures.there lands in
    let h : p < length rows = omega (arith, c.in-Some.ensures.within, many_rows N c.args.self.now s t) in
    let long : length row ≡ vec_len v = c.send_row.auto.row ∙ c.deref_mut-2.ensures.len in
    ok_both c.send_row.result (λ sent kept.
    let brought : brought_rows (slice_set rows p (with_items v row)) ≡ brought_rows rows =
    told_written (λ (b : Bringing). b.brought) rows p v h c.index_mut-2.ensures.value row long
    ∙ ap (slice_set (brought_rows rows) p) (kept ∙ ap brought_row c.deref_mut-2.ensures.value ∙ told_row (λ (b : Bringing). b.brought) rows p v h c.index_mut-2.ensures.value)
    ∙ set_same (brought_rows rows) p [] (omega (arith, h, length-map rows (λ (r : Vec Bringing Global). brought_row r.items))) in
    let own_new : own_rows (slice_set rows p (with_items v row)) ≡ pair_rows N (posted N s.own d (s.flies d)) =
    told_written (λ (b : Bringing). b.own.items) rows p v h c.index_mut-2.ensures.value row long
    ∙ ap (slice_set (own_rows rows) p) (sent ∙ ap (map (λ fs. pushed fs c.index-own.result.now)) (ap own_row c.deref_mut-2.ensures.value ∙ told_row (λ (b : Bringing). b.own.items) rows p v h c.index_mut-2.ensures.value))
    ∙ ap (λ x. slice_set (own_rows rows) p (map (λ fs. pushed fs x) (get_or (own_rows rows) p []))) own
    ∙ ap (λ rs. slice_set rs p (map (λ fs. pushed fs (s.flies d)) (get_or rs p []))) t.rows.own
    ∙ row_sent N net s.own d (s.flies d) p (record { within = c.in-Some.ensures.within; is = c.in-Some.ensures.there }) in
    record {
      flies = ap (λ xs. slice_set xs p false) t.flies ∙ flag_write s.flies N net d p false c.in-Some.ensures.within c.in-Some.ensures.there;
      fired = fired;
      rows = record { own = own_new; brought = brought ∙ t.rows.brought };
      pairs = t.pairs ∙ sym (ap many brought);
      devices_left = omega (arith, t.devices_left, c.land.ensures.missing, ap missing c.deref_mut.ensures.value, ap missing fired_is);
      pairs_left = t.pairs_left ∙ sym (ap missing_rows brought);
    })
    c.send_row.ensures.own c.send_row.ensures.brought
