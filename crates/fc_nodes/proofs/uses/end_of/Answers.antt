use Rattle.std.proofs.Common.{arith, sym, ◌∙◌, ◌≡◌, ◌-◌, ℕ, List, length, subst, Some, None}
use Rattle.std.specs.Prelude.{slice_get}
use Rattle.fc_nodes.proofs.Counted.{last_end, no_kid_end}
use Rattle.fc_nodes.proofs.uses.end_of.Goals as goal

last_of : {js ks : List ℕ} (k : ℕ) → js ≡ ks → Some k ≡ slice_get js (length js - 1) → slice_get ks (length ks - 1) ≡ Some k
last_of k e f = subst (λ is. slice_get is (length is - 1) ≡ Some k) e (sym f)

none_last : {js ks : List ℕ} → js ≡ ks → None ≡ slice_get js (length js - 1) → slice_get ks (length ks - 1) ≡ None
none_last e f = subst (λ is. slice_get is (length is - 1) ≡ None) e (sym f)

pub bounds-ends-kid : goal.bounds-ends-kid
bounds-ends-kid c =
    let e = last_end c.args.nodes.now c.requires.formed c.args.place c.requires.within _ _ _ c.node_at.ensures c.in-Some.kid.now (last_of c.in-Some.kid.now c.deref.ensures.value c.in-Some.ensures.value) in
    let w = e.within in
    let m = c.requires.later.many in
    omega (arith, w, m)

pub returns-in-Some : goal.returns-in-Some
returns-in-Some c =
    let e = last_end c.args.nodes.now c.requires.formed c.args.place c.requires.within _ _ _ c.node_at.ensures c.in-Some.kid.now (last_of c.in-Some.kid.now c.deref.ensures.value c.in-Some.ensures.value) in
    let b = e.behind in
    c.requires.later.each c.in-Some.kid.now (omega (arith, b)) e.within ∙ e.end

pub returns-in-None : goal.returns-in-None
returns-in-None c =
    let e = no_kid_end c.args.nodes.now c.requires.formed c.args.place c.requires.within _ _ _ c.node_at.ensures (none_last c.deref.ensures.value c.in-None.ensures.value) in
    omega (arith, e)
