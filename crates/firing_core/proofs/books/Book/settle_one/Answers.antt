use Rattle.std.proofs.Common.{◌≡◌, ℕ, Option, Some, None, is_some, true, refl, sym, ap₂, subst}
use Rattle.std.specs.Prelude.{option_map}
use Rattle.fc_values.specs.Trees.{Copy}
use Rattle.firing_core.specs.Entries.{EndEntry}
use Rattle.firing_core.specs.Cores.{Core}
use Rattle.firing_core.specs.CoreViews.{CoreValue, core_of}
use Rattle.firing_core.specs.Replays.{end_fault, fault_of}
use Rattle.firing_core.proofs.Steps.{FlyThere, good_fly}
use Rattle.firing_core.proofs.Views.{good_of}
use Rattle.firing_core.proofs.books.Book.settle_one.Goals as goal

-- a device that flies may end
may_end : (c : Core) → FlyThere c → (d : ℕ) (o : Option Copy) → o ≡ c.flying d → is_some o ≡ true → fault_of c (EndEntry d) ≡ None
may_end c fly d None e s = absurd cc
may_end c fly d (Some x) e s = ap₂ end_fault (fly.there d x (sym e)) (sym e)

mapped : {X Y : Type 0} (g : X → Y) (o : Option X) → is_some o ≡ true → is_some (option_map g o) ≡ true
mapped g None e = absurd cc
mapped g (Some x) e = refl

pub unreachable-requires : goal.unreachable-requires
unreachable-requires c =
    let flown = mapped _ c.flying.result c.if-is_none.ensures in
    let faultless = may_end (core_of c.core.result.now) (good_fly _ _ (good_of c.core.result.now c.flying.ensures.core)) c.args.device _ c.flying.ensures.value flown in
    let e = subst (λ (k : CoreValue). fault_of (core_of k) (EndEntry c.args.device) ≡ None) c.core.ensures.value faultless in
    let r = (rw c.in-Err-At.field-0-is at c.in-Err-At.ensures.refused).1 in
    absurd cc
