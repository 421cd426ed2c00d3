use Rattle.std.proofs.Common.{◌≡◌, ◌∙◌, sym, ap, subst, Option, Some, None, IfSome}
use Rattle.fc_nodes.specs.Program.{unfolding_of}
use Rattle.value_trees.specs.Snaps.{tree_of, snap_copy}
use Rattle.bound_firing.specs.ExportReferences.{export_bound_in}
use Rattle.export_bounds.specs.Exports.{exact_export, either_export}
use Rattle.settle_rounds.specs.References.{StateBound, standing, standing_and_landing, landing}
use Rattle.settle_rounds.proofs.starts.state_bound.Goals as goal

given : {A : Type 0} (P : A → Type 0) (o : Option A) (x : A) → o ≡ Some x → IfSome o P → P x
given P o x e h = subst (λ u. IfSome u P) e h

pub widen_bound-requires-clause-first : goal.widen_bound-requires-clause-first
widen_bound-requires-clause-first c =
    c.in_ok-stands-in-Some-Some.ensures.slots (unfolding_of c.args.program.now)
    (given _ c.args.export c.in-Some-Some.export c.in-Some-Some.is-0 c.requires.export)

pub returns-in_ok-widen_bound-in-Some-Some-clause-bound : goal.returns-in_ok-widen_bound-in-Some-Some-clause-bound
returns-in_ok-widen_bound-in-Some-Some-clause-bound c =
    let U = unfolding_of c.args.program.now in
    let e = tree_of U c.in-Some-Some.export.now in
    let s = snap_copy U c.in-Some-Some.snap.now in
    let first = c.in_ok-stands-in-Some-Some.ensures.bound U
    (given _ c.args.export c.in-Some-Some.export c.in-Some-Some.is-0 c.requires.export) in
    let l = c.in_ok-both-in-Some-Some.ensures.bound in
    let both = c.in_ok-widen_bound-in-Some-Some.ensures.bound
    ∙ ap (λ b. either_export U b (export_bound_in U c.in_ok-both-in-Some-Some.both)) first
    ∙ ap (either_export U (exact_export U c.args.sure e)) l.is in
    rw (c.in-Some-Some.is-0, c.in-Some-Some.is-1) (subst (StateBound U c.args.sure (Some e) (Some s)) (sym both)
    (standing_and_landing e s l.export l.evaluates))

pub returns-in_ok-stands-in-Some-None-clause-bound : goal.returns-in_ok-stands-in-Some-None-clause-bound
returns-in_ok-stands-in-Some-None-clause-bound c =
    let U = unfolding_of c.args.program.now in
    let e = tree_of U c.in-Some-None.export.now in
    let first = c.in_ok-stands-in-Some-None.ensures.bound U
    (given _ c.args.export c.in-Some-None.export c.in-Some-None.is-0 c.requires.export) in
    rw (c.in-Some-None.is-0, c.in-Some-None.is-1)
    (subst (StateBound U c.args.sure (Some e) None) (sym first) (standing e))

pub returns-in_ok-stands-in-Some-None-clause-slots : goal.returns-in_ok-stands-in-Some-None-clause-slots
returns-in_ok-stands-in-Some-None-clause-slots c =
    c.in_ok-stands-in-Some-None.ensures.slots (unfolding_of c.args.program.now)
    (given _ c.args.export c.in-Some-None.export c.in-Some-None.is-0 c.requires.export)

pub returns-in_ok-lands-in-None-Some-clause-bound : goal.returns-in_ok-lands-in-None-Some-clause-bound
returns-in_ok-lands-in-None-Some-clause-bound c =
    let U = unfolding_of c.args.program.now in
    let s = snap_copy U c.in-None-Some.snap.now in
    let l = c.in_ok-lands-in-None-Some.ensures.bound in
    rw (c.in-None-Some.is-0, c.in-None-Some.is-1) (subst (StateBound U c.args.sure None (Some s)) (sym l.is)
    (landing s l.export l.evaluates))
