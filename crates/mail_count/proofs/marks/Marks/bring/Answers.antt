use Rattle.std.proofs.Common.{◌≡◌, Bool, true, refl, sym, ◌∙◌, ap, arith, Vec, Global}
use Rattle.std.specs.Prelude.{nat_eq, ◌&&◌, ◌||◌}
use Rattle.mail_count.specs.Seen.{ready, oldest_own}
use Rattle.mail_count.proofs.Tables.{item_away}
use Rattle.mail_count.proofs.MarkSteps.{item_there, own_kept, heard, many_kept, fewer}
use Rattle.mail_count.proofs.marks.Marks.bring.Goals as goal

pub index_mut-requires-2 : goal.index_mut-requires-2
index_mut-requires-2 c =
    let w = item_there c.args.net.now c.in-Some.ensures.network c.args.self.now c.requires.0 c.requires.1 c.args.from c.args.to c.in-Some.row c.in-Some.at c.in-Some.ensures.place c.index_mut.result.now c.index_mut.ensures.value in
    omega (arith, w.1, c.index_mut.result.now.ok.0)

pub returns-in_default : goal.returns-in_default
returns-in_default c = λ s t. record {
  flies = t.flies;
  fired = t.fired;
  rows = record { own = t.rows.own; brought = t.rows.brought ∙ sym (item_away c.args.net.now c.in_default.ensures.network s.brought c.args.from c.args.to (s.brought c.args.from c.args.to || (ready c.args.net.now s && oldest_own (s.own c.args.from c.args.to))) c.in_default.ensures.none) };
  pairs = t.pairs;
  devices_left = t.devices_left;
  pairs_left = t.pairs_left;
}

on : (a b c : Bool) → c ≡ (a || b) → a ≡ true → c ≡ true
on a b c q p = q ∙ ap (λ x. x || b) p

pub overflow_sub-self : goal.overflow_sub-self
overflow_sub-self c =
    let few = fewer c.args.net.now c.in-Some.ensures.network c.args.self.now c.requires.0 c.requires.1 c.args.from c.args.to c.in-Some.row c.in-Some.at c.in-Some.ensures.place c.index_mut.result.now c.index_mut.ensures.value c.index_mut-2.result.now c.hear.new.bringing c.index_mut-2.ensures.value (on c.index_mut-2.result.now.brought (nat_eq c.args.self.now.devices_left 0 && oldest_own c.index_mut-2.result.now.own.items) c.hear.new.bringing.brought c.hear.ensures.brought) in
    omega (arith, few, c.requires.1.pairs_left, c.hear.ensures.anew)

pub returns : goal.returns
returns c = λ s t.
    let few = fewer c.args.net.now c.in-Some.ensures.network c.args.self.now s t c.args.from c.args.to c.in-Some.row c.in-Some.at c.in-Some.ensures.place c.index_mut.result.now c.index_mut.ensures.value c.index_mut-2.result.now c.hear.new.bringing c.index_mut-2.ensures.value (on c.index_mut-2.result.now.brought (nat_eq c.args.self.now.devices_left 0 && oldest_own c.index_mut-2.result.now.own.items) c.hear.new.bringing.brought c.hear.ensures.brought) in
    record {
      flies = t.flies;
      fired = t.fired;
      rows = record {
        own = own_kept c.args.net.now c.in-Some.ensures.network c.args.self.now s t c.args.from c.args.to c.in-Some.row c.in-Some.at c.in-Some.ensures.place c.index_mut.result.now c.index_mut.ensures.value c.index_mut-2.result.now c.hear.new.bringing c.index_mut-2.ensures.value (ap (λ (v : Vec Bool Global). v.items) c.hear.ensures.own) ∙ t.rows.own;
        brought = heard c.args.net.now c.in-Some.ensures.network c.args.self.now s t c.args.from c.args.to c.in-Some.row c.in-Some.at c.in-Some.ensures.place c.index_mut.result.now c.index_mut.ensures.value c.index_mut-2.result.now c.hear.new.bringing c.index_mut-2.ensures.value c.hear.ensures.own (nat_eq c.args.self.now.devices_left 0) refl c.hear.ensures.brought;
      };
      pairs = t.pairs ∙ sym (many_kept c.args.net.now c.in-Some.ensures.network c.args.self.now s t c.args.from c.args.to c.in-Some.row c.in-Some.at c.in-Some.ensures.place c.index_mut.result.now c.index_mut.ensures.value c.index_mut-2.result.now c.hear.new.bringing c.index_mut-2.ensures.value);
      devices_left = t.devices_left;
      pairs_left = omega (arith, few, t.pairs_left, c.hear.ensures.anew);
    }
