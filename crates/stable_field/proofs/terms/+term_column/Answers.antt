use Rattle.std.proofs.Common.{◌∙◌, map, sym, ap}
use Rattle.fc_values.specs.Types.{Declarations}
use Rattle.fc_values.specs.Fields.{entry_of}
use Rattle.fc_nodes.specs.Terms.{term_at}
use Rattle.stable_field.proofs.Joined.{read_column, have_local, joined_column}
use Rattle.stable_field.proofs.terms.+term_column.Goals as goal

pub joined-requires : goal.joined-requires
joined-requires t c = have_local c.args.program.now c.args.place c.args.end c.requires.term c.in-Some.join.builtin c.in-Some.join.first c.in-Some.join.second c.in-Some.ensures c.args.net.now
    (map entry_of c.deref.result.now) (map entry_of c.deref-2.result.now)
    (read_column c.args.net.now c.in-Some.join.first (term_at c.args.program.now.nodes c.in-Some.join.first) c.in_ok-first.field-0 c.in-Some-2.first c.deref.result.now c.in-Some-2.is c.deref.ensures.value c.in_ok-first.ensures.column)
    (read_column c.args.net.now c.in-Some.join.second (term_at c.args.program.now.nodes c.in-Some.join.second) c.in_ok-second.field-0 c.in-Some-3.second c.deref-2.result.now c.in-Some-3.is c.deref-2.ensures.value c.in_ok-second.ensures.column)
    c.declared.result.now.ceiling (ap (λ (D : Declarations). D.ceiling) (c.declared.ensures.value ∙ sym c.requires.declared))

pub returns-clause-column : goal.returns-clause-column
returns-clause-column t c = joined_column c.args.program.now c.args.place c.args.end c.requires.term c.in-Some.join.builtin c.in-Some.join.first c.in-Some.join.second c.in-Some.ensures c.args.net.now
    (map entry_of c.deref.result.now) (map entry_of c.deref-2.result.now)
    (read_column c.args.net.now c.in-Some.join.first (term_at c.args.program.now.nodes c.in-Some.join.first) c.in_ok-first.field-0 c.in-Some-2.first c.deref.result.now c.in-Some-2.is c.deref.ensures.value c.in_ok-first.ensures.column)
    (read_column c.args.net.now c.in-Some.join.second (term_at c.args.program.now.nodes c.in-Some.join.second) c.in_ok-second.field-0 c.in-Some-3.second c.deref-2.result.now c.in-Some-3.is c.deref-2.ensures.value c.in_ok-second.ensures.column)
    c.declared.result.now.ceiling (ap (λ (D : Declarations). D.ceiling) (c.declared.ensures.value ∙ sym c.requires.declared)) (map entry_of c.in_ok-joined.field-0.items) c.in_ok-joined.ensures
