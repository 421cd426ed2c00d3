use Rattle.std.proofs.Common.{◌≡◌, List, map, length, ap, subst, sym, ◌∙◌, arith}
use Rattle.std.specs.Prelude.{true}
use Rattle.fc_values.specs.Types.{Declarations, Input, input_of}
use Rattle.fc_values.specs.Values.{LocalValue, local_of}
use Rattle.fc_nodes.specs.Program.{unfolding_of}
use Rattle.value_trees.specs.declared.copies.Near.{Near}
use Rattle.fc_values.specs.Inputs.{InputsFit}
use Rattle.value_trees.specs.Fitting.{NearRises}
use Rattle.value_trees.proofs.Fits.{parts_fit, near_part}
use Rattle.value_trees.proofs.fitting.snap_fits.Goals as goal

pub returns : goal.returns
returns c =
    let U = unfolding_of c.args.program.now in
    let s = c.args.s.now in
    let given : c.inputs_fit.result ≡ true = c.if-not-inputs_fit.false in
    let own : c.own_fits.result ≡ true = c.if-not-own_fits.false in
    let names : map input_of c.deref.result.now ≡ U.declared.inputs = ap (map input_of) c.deref.ensures.value ∙ ap (λ (d : Declarations). d.inputs) c.declared.ensures.value in
    let values : map local_of c.deref-2.result.now ≡ map local_of s.inputs.items = ap (map local_of) c.deref-2.ensures.value in
    let inputs : InputsFit U.declared.inputs (map local_of s.inputs.items) = subst (λ (is : List Input). InputsFit is (map local_of s.inputs.items)) names (subst (λ (vs : List LocalValue). InputsFit (map input_of c.deref.result.now) vs) values (c.inputs_fit.ensures.0 given)) in
    let few = c.if-len-gt-MOST_LINKS.false in
    let near = c.deref-3.ensures.value in
    let same = ap (length {A = Near}) near in (
      λ b. parts_fit U s inputs (c.own_fits.ensures.0 own) (subst (λ (ns : List Near). NearRises U s.device ns) near (c.near_fit.ensures.0 b)) (omega (arith, few, same)),
      λ h. c.near_fit.ensures.1 (subst (λ (ns : List Near). NearRises U s.device ns) (sym near) (near_part U s h)),
    )
