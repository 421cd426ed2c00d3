use Rattle.std.proofs.Common.{List, sym, subst, ℕ}
use Rattle.std.specs.List.{All}
use Rattle.std.proofs.lemmas.List.Elements.{All-push}
use Rattle.walks.specs.declared.types.Evidence.{Evidence}
use Rattle.walks.specs.Walks.{costs_of, IsLeastCost, IsBestWalk}
use Rattle.walks.specs.Tables.{AreLeast, AreParents}
use Rattle.walks.proofs.Parents.{more_devices, are_traced}
use Rattle.walks.proofs.traces.trace.Goals as goal

pub parents-requires-clause-values : goal.parents-requires-clause-values
parents-requires-clause-values c = subst (λ (vs : List ℕ). AreLeast (costs_of c.args.costs.now) vs) (sym c.deref.ensures.value) c.in_ok-values.ensures

pub evidence_of-requires-clause-values : goal.evidence_of-requires-clause-values
evidence_of-requires-clause-values c = subst (λ (vs : List ℕ). AreLeast (costs_of c.args.costs.now) vs) (sym c.deref-in-loop-one.ensures.value) c.in_ok-values.ensures

pub evidence_of-requires-clause-parents : goal.evidence_of-requires-clause-parents
evidence_of-requires-clause-parents c = subst (λ (vs : List ℕ). AreParents (costs_of c.args.costs.now) vs) (sym c.deref-in-loop-one-2.ensures.value) c.in_ok-parents.ensures

pub loop-one-preserved : goal.loop-one-preserved
loop-one-preserved c =
    let C = costs_of c.args.costs.now in
    let ts = c.loop-one.traced.items in
    let e = c.in_ok-evidence_of.field-0 in
    let is = c.in_ok-evidence_of.ensures in
    let was = c.loop-one.invariant in
    let L : Evidence → Type 0 = λ (f : Evidence). IsLeastCost C f.device f.value in
    let B : Evidence → Type 0 = λ (f : Evidence). IsBestWalk C f.device f.walk.items in
    record {
      devices = more_devices c.deref-one-items.result.now ts c.push.new.self.items c.loop-one.one-index e c.loop-one-test.true is.device c.in_ok-push.ensures.items was.devices;
      least = subst (λ (us : List Evidence). All L us) (sym c.in_ok-push.ensures.items) (All-push L ts e was.least (subst (λ d. IsLeastCost C d e.value) (sym is.device) is.least));
      best = subst (λ (us : List Evidence). All B us) (sym c.in_ok-push.ensures.items) (All-push B ts e was.best (subst (λ d. IsBestWalk C d e.walk.items) (sym is.device) is.best));
    }

pub returns : goal.returns
returns c =
    are_traced (costs_of c.args.costs.now) c.deref-one-items.result.now c.loop-one.traced.items c.loop-one.one-index c.deref-one-items.ensures.value c.loop-one-test.false
    c.loop-one.invariant.devices c.loop-one.invariant.least c.loop-one.invariant.best
