use Rattle.std.proofs.Common.{◌∙◌, ap, sym, length, arith}
use Rattle.std.proofs.lemmas.List.{length-map}
use Rattle.fc_syntax.specs.Terms.{program_of, term_of, declaration_of}
use Rattle.fc_types.specs.Views.{known_of, function_entry}
use Rattle.unfold.proofs.Firsts.{counted_main}
use Rattle.unfold.proofs.Whole.{few_known, main_written}
use Rattle.unfold.proofs.unfolding.nodes_of.Goals as goal

pub write-requires-clause-inputs : goal.write-requires-clause-inputs
write-requires-clause-inputs c =
    let l = length-map c.args.program.now.decls.items declaration_of in
    let f = c.requires.few in
    few_known (program_of c.args.program.now) (known_of c.args.known.now) c.requires.known (omega (arith, l, f))

pub write-requires-clause-room : goal.write-requires-clause-room
write-requires-clause-room c =
    let n = c.len-functions.ensures.len ∙ sym (length-map c.args.known.now.functions.entries function_entry) in
    let e = counted_main (program_of c.args.program.now) (known_of c.args.known.now) c.len-functions.result (term_of c.main_of.result.now) c.requires.known n c.main_of.ensures in
    let none = ap length c.new-nodes.ensures.items in
    let small = c.requires.small in
    omega (arith, e, none, small)

pub returns : goal.returns
returns c =
    let n = c.len-functions.ensures.len ∙ sym (length-map c.args.known.now.functions.entries function_entry) in
    main_written (program_of c.args.program.now) (known_of c.args.known.now) c.len-functions.result (term_of c.main_of.result.now) c.new-nodes.result.items c.write.new.nodes.items c.write.new.ty c.requires.known n c.main_of.ensures c.new-nodes.ensures.items c.in_ok-write.ensures.written
