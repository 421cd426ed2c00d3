use Rattle.std.proofs.Common.{subst}
use Rattle.interval_facts.proofs.Lengths.{place_there}
use Rattle.fragment_check.specs.Forms.{IsFormOf}
use Rattle.fragment_check.proofs.judging.formed_pattern.Goals as goal

pub at-requires : goal.at-requires
at-requires c =
    let e = subst (IsFormOf c.args.program.now.nodes c.args.own c.args.body) c.in-Hood.is c.form.ensures in
    place_there c.args.program.now c.declared.ensures.program c.args.ranges.now c.requires.ranges c.in-Hood.l e.1.second.within

pub at-requires-in-Rise : goal.at-requires-in-Rise
at-requires-in-Rise c =
    let e = subst (IsFormOf c.args.program.now.nodes c.args.own c.args.body) c.in-Rise.is c.form.ensures in
    place_there c.args.program.now c.declared.ensures.program c.args.ranges.now c.requires.ranges c.in-Rise.l e.1.hood.second.within

pub at-requires-in-Rise-2 : goal.at-requires-in-Rise-2
at-requires-in-Rise-2 c =
    let e = subst (IsFormOf c.args.program.now.nodes c.args.own c.args.body) c.in-Rise.is c.form.ensures in
    place_there c.args.program.now c.declared.ensures.program c.args.ranges.now c.requires.ranges c.in-Rise.s e.1.third.within
