use Rattle.std.proofs.Common.{◌∙◌, ◌+◌, ◌<◌, sym, ap, length, arith, add-one}
use Rattle.fc_syntax.specs.Terms.{declaration_of}
use Rattle.fc_types.specs.Before.{Earlier, with_declaration, nothing_declared}
use Rattle.fc_types.specs.Views.{known_of}
use Rattle.fc_types.proofs.Programs.{none_typed, some_fault, more_known, more_typed, fault_at}
use Rattle.fc_types.proofs.check.check_program.Goals as goal

pub declare-requires : goal.declare-requires
declare-requires c = none_typed (known_of c.loop-index.known) (declaration_of c.decl-item.result) c.in-Ok.ensures

pub returns-in-Err-Kind-clause-fault : goal.returns-in-Err-Kind-clause-fault
returns-in-Err-Kind-clause-fault c =
    let is = rw c.deref-decl-items.ensures.value at c.decl-item.is in
    let h = rw c.in-Err-Kind.field-0-is at c.in-Err-Kind.ensures in
    let f = some_fault (known_of c.loop-index.known) (declaration_of c.decl-item.result) c.in-Err-Kind.kind h in
    let g = rw c.loop-index.invariant.known at f in
    rw c.in-Err-Kind.kind-is
    (fault_at 1 (c.loop-index.index + 1) nothing_declared c.args.program.now.decls.items c.loop-index.index c.decl-item.result c.in-Err-Kind.kind (omega arith) is (omega arith) c.loop-index.invariant.typed g)

pub loop-index-preserved : goal.loop-index-preserved
loop-index-preserved c =
    let is = rw c.deref-decl-items.ensures.value at c.decl-item.is in
    let lt : c.loop-index.index < length c.args.program.now.decls.items = omega arith in
    let typed = rw c.loop-index.invariant.known at (none_typed (known_of c.loop-index.known) (declaration_of c.decl-item.result) c.in-Ok.ensures) in
    rw add-one (record {
      known = c.in_ok-declare-in-Ok.ensures
          ∙ ap (λ (B : Earlier). with_declaration B (declaration_of c.decl-item.result)) c.loop-index.invariant.known
          ∙ sym (more_known nothing_declared c.args.program.now.decls.items c.loop-index.index c.decl-item.result lt is);
      typed = more_typed nothing_declared c.args.program.now.decls.items c.loop-index.index c.decl-item.result lt is c.loop-index.invariant.typed typed;
    })
