use Rattle.std.proofs.Common.{ap}
use Rattle.fc_values.specs.Types.{local_type_of, Declarations}
use Rattle.fc_values.specs.Values.{local_of}
use Rattle.value_trees.proofs.WalkSteps.{root_stands, main_fits, fits_main as fits_it}
use Rattle.value_trees.proofs.walks.fits_main.Goals as goal

pub node-main-requires : goal.node-main-requires
node-main-requires c = let s = root_stands c.args.program.now c.declared.ensures.program in s.within

pub returns-clause-value : goal.returns-clause-value
returns-clause-value c =
    let f = c.fits.ensures in
    let e = ap (λ (d : Declarations). d.ceiling) c.declared.ensures.value in (
      λ b. fits_it c.args.program.now c.declared.ensures.program _ _ _ c.node-main.ensures.node c.declared.result.now.ceiling e (local_type_of c.inner.result.now) c.inner.ensures (local_of c.args.value.now) (f.0 b),
      λ q. f.1 (main_fits c.args.program.now c.declared.ensures.program _ _ _ c.node-main.ensures.node c.declared.result.now.ceiling e (local_type_of c.inner.result.now) c.inner.ensures (local_of c.args.value.now) q),
    )
