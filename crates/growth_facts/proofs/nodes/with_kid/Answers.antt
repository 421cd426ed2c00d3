use Rattle.std.proofs.Common.{arith, refl}
use Rattle.growth_facts.proofs.KidLists.{added_second, added_third, added_later}
use Rattle.growth_facts.proofs.nodes.with_kid.Goals as goal

pub returns-in-1 : goal.returns-in-1
returns-in-1 c = λ fs h. added_second c.args.kids.now c.args.facts _ refl fs h (let i = c.in-1.is in omega (arith, i))

pub returns-in-2 : goal.returns-in-2
returns-in-2 c = λ fs h. added_third c.args.kids.now c.args.facts _ refl fs h (let i = c.in-2.is in omega (arith, i))

pub returns-in_default : goal.returns-in_default
returns-in_default c = λ fs h. added_later c.args.kids.now c.args.facts _ refl fs h (let i = c.in_default in omega (arith, i))
