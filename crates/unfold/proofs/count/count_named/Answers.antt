use Rattle.fc_types.specs.Views.{known_of, function_of}
use Rattle.unfold.proofs.Firsts.{capped_found, capped_none}
use Rattle.unfold.proofs.count.count_named.Goals as goal

pub returns-in-Some : goal.returns-in-Some
returns-in-Some c =
    let f = c.in-Some.ensures.function in
    capped_found (known_of c.args.known.now) c.args.counts.now c.args.name.now.text.items c.in-Some.number (function_of f.0 c.in-Some.field-0-1) c.requires.capped f.1 c.in-Some.ensures.earlier

pub returns-in-None : goal.returns-in-None
returns-in-None c = capped_none (known_of c.args.known.now) c.args.counts.now c.args.name.now.text.items c.in-None.ensures.function
