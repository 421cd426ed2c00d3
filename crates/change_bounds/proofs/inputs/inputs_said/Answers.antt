use Rattle.std.proofs.Common.{◌∙◌, sym, ap, ℕ, map, List}
use Rattle.std.specs.Prelude.{Option, slice_get}
use Rattle.std.specs.BTreeMap.{BTreeMap}
use Rattle.std.proofs.lemmas.List.{take_all}
use Rattle.fc_values.specs.Types.{Declarations, input_of}
use Rattle.fc_values.specs.declared.types.InputDecl.{InputDecl}
use Rattle.value_bounds.specs.BoundValues.{BoundValue}
use Rattle.value_bounds.specs.declared.bounds.LocalBound.{LocalBound}
use Rattle.changes.specs.Code.{change_in, line_in}
use Rattle.changes.specs.Hand.{said}
use Rattle.change_bounds.specs.Bounds.{said_bound}
use Rattle.change_bounds.specs.Tables.{bound_at, input_said, widened_by}
use Rattle.change_bounds.proofs.Lines.{said_to, line_says, line_silent}
use Rattle.change_bounds.proofs.Widened.{input_more}
use Rattle.change_bounds.proofs.inputs.inputs_said.Goals.{in-Some+in_ok-say_change, in_default}
use Rattle.change_bounds.proofs.inputs.inputs_said.Goals as goal

pub loop-line-preserved : goal.loop-line-preserved
loop-line-preserved c =
    let n = c.args.network.now in
    let ls = c.args.lines.now in
    let k = c.loop-line.line-index in
    let l = c.line-item.result in
    elim c.match-line.branch [
      | in-Some+in_ok-say_change w ↦ λ d i x at.
          let change = change_in w.in-Some.change in
          ap (λ (m : BTreeMap (ℕ × ℕ) LocalBound). bound_at m d i) w.table-is
          ∙ w.in_ok-say_change.ensures d i x
          (ap (λ (xs : List InputDecl). slice_get (map input_of xs) i) w.deref.ensures.value ∙ ap (λ (D : Declarations). slice_get D.inputs i) w.declared.ensures.value ∙ at)
          ∙ ap (λ (o : Option BoundValue). widened_by o (said_bound d i x.type change)) (c.loop-line.invariant d i x at)
          ∙ input_more n (said_to ls k) d i x.type change
          ∙ ap (λ cs. input_said n cs d i x.type) (sym (line_says ls k l c.line-item.is c.loop-line-test.true w.in-Some.change w.in-Some.is))
      | in_default w ↦ λ d i x at.
          ap (λ (m : BTreeMap (ℕ × ℕ) LocalBound). bound_at m d i) w.table-is
          ∙ c.loop-line.invariant d i x at
          ∙ ap (λ cs. input_said n cs d i x.type) (sym (line_silent ls k l c.line-item.is c.loop-line-test.true w.in_default.is))
    ]

pub returns : goal.returns
returns c = λ d i x at.
    c.loop-line.invariant d i x at
    ∙ ap (λ xs. input_said c.args.network.now (said (map line_in xs)) d i x.type) (take_all c.loop-line.line-index c.args.lines.now c.loop-line-test.false)
