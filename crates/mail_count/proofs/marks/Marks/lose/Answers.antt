use Rattle.std.proofs.Common.{sym, ◌∙◌, ap, arith}
use Rattle.message_links.specs.MailCores.{without}
use Rattle.mail_count.specs.Marks.{missing_rows}
use Rattle.mail_count.proofs.Tables.{item_away}
use Rattle.mail_count.proofs.MarkSteps.{item_there, own_lost, brought_kept, many_kept}
use Rattle.mail_count.proofs.marks.Marks.lose.Goals as goal

pub index_mut-requires-in-Some : goal.index_mut-requires-in-Some
index_mut-requires-in-Some c =
    let w = item_there c.args.net.now c.in-Some.ensures.network c.args.self.now c.requires.0 c.requires.1 c.args.from c.args.to c.in-Some.row c.in-Some.at c.in-Some.ensures.place c.index_mut.result.now c.index_mut.ensures.value in
    omega (arith, w.1, c.index_mut.result.now.ok.0)

pub returns-in-Some : goal.returns-in-Some
returns-in-Some c = λ s t.
    let N = c.args.net.now in
    let net = c.in-Some.ensures.network in
    let m = c.args.self.now in
    let old = c.index_mut-in-Some.result.now in
    let x = c.lose.new.bringing in
    record {
      flies = t.flies;
      fired = t.fired;
      rows = record {
        own = own_lost N net m s t c.args.from c.args.to c.in-Some.row c.in-Some.at c.in-Some.ensures.place c.index_mut.result.now c.index_mut.ensures.value old x c.index_mut-in-Some.ensures.value c.args.place c.lose.ensures.own;
        brought = brought_kept N net m s t c.args.from c.args.to c.in-Some.row c.in-Some.at c.in-Some.ensures.place c.index_mut.result.now c.index_mut.ensures.value old x c.index_mut-in-Some.ensures.value c.lose.ensures.brought ∙ t.rows.brought;
      };
      pairs = t.pairs ∙ sym (many_kept N net m s t c.args.from c.args.to c.in-Some.row c.in-Some.at c.in-Some.ensures.place c.index_mut.result.now c.index_mut.ensures.value old x c.index_mut-in-Some.ensures.value);
      devices_left = t.devices_left;
      pairs_left = t.pairs_left ∙ sym (ap missing_rows (brought_kept N net m s t c.args.from c.args.to c.in-Some.row c.in-Some.at c.in-Some.ensures.place c.index_mut.result.now c.index_mut.ensures.value old x c.index_mut-in-Some.ensures.value c.lose.ensures.brought));
    }

pub returns-in_default : goal.returns-in_default
returns-in_default c = λ s t. record {
  flies = t.flies;
  fired = t.fired;
  rows = record { own = t.rows.own ∙ sym (item_away c.args.net.now c.in_default.ensures.network s.own c.args.from c.args.to (without c.args.place (s.own c.args.from c.args.to)) c.in_default.ensures.none); brought = t.rows.brought };
  pairs = t.pairs;
  devices_left = t.devices_left;
  pairs_left = t.pairs_left;
}
