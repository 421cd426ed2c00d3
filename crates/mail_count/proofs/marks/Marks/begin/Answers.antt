use Rattle.std.proofs.Common.{◌∙◌, ap, true}
use Rattle.std.specs.Prelude.{slice_set}
use Rattle.mail_count.proofs.Tables.{flag_write, flag_away}
use Rattle.mail_count.proofs.marks.Marks.begin.Goals as goal

pub returns-in-Some : goal.returns-in-Some
returns-in-Some c = λ s t. record {
  flies = ap (λ xs. slice_set xs c.in-Some.place true) t.flies ∙ flag_write s.flies c.args.net.now c.in-Some.ensures.network c.args.device c.in-Some.place true c.in-Some.ensures.within c.in-Some.ensures.there;
  fired = t.fired;
  rows = record { own = t.rows.own; brought = t.rows.brought };
  pairs = t.pairs;
  devices_left = t.devices_left;
  pairs_left = t.pairs_left;
}

pub returns-in_default : goal.returns-in_default
returns-in_default c = λ s t. record {
  flies = t.flies ∙ flag_away s.flies c.args.net.now c.in_default.ensures.network c.args.device true c.in_default.ensures.none;
  fired = t.fired;
  rows = record { own = t.rows.own; brought = t.rows.brought };
  pairs = t.pairs;
  devices_left = t.devices_left;
  pairs_left = t.pairs_left;
}
