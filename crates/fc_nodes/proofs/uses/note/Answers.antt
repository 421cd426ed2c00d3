use Rattle.std.proofs.Common.{arith, ℕ, [], ◌∷◌, ◌++◌, ◌∙◌, ap}
use Rattle.std.specs.Prelude.{Vec}
use Rattle.std.specs.declared.alloc.Global.{Global}
use Rattle.fc_nodes.proofs.Counted.{noted_set, noted_past}
use Rattle.fc_nodes.proofs.uses.note.Goals as goal

pub returns-in_ok-push : goal.returns-in_ok-push
returns-in_ok-push c =
    let l = c.if-binder-len.true in
    let e = c.len.ensures in
    let v = ap (λ (w : Vec ℕ Global). w.items ++ c.args.place ∷ []) c.index_mut.ensures.value in
    noted_set c.args.uses.now.items c.args.binder c.args.place c.push.new.self _ (omega (arith, l, e)) (c.in_ok-push.ensures.items ∙ v)

pub returns-else-binder-len : goal.returns-else-binder-len
returns-else-binder-len c =
    let l = c.if-binder-len.false in
    let e = c.len.ensures in
    noted_past c.args.uses.now.items c.args.binder c.args.place (omega (arith, l, e))
