use Rattle.std.proofs.Common.{◌≡◌, ◌∙◌, refl, sym, ap, false, Option, Some, None, option_map, is_some}
use Rattle.firing_core.specs.Cores.{Core, copy_of}
use Rattle.firing_core.specs.CoreViews.{core_of}
use Rattle.firing_core.proofs.Maps.{put_same}
use Rattle.settle_rounds.specs.References.{began}
use Rattle.settle_rounds.proofs.starts.take_off.Goals as goal

none_map : {A B : Type 0} (f : A → B) (o : Option A) → is_some o ≡ false → option_map f o ≡ None
none_map f None e = refl
none_map f (Some x) e = absurd cc

pub returns-in-Ok-clause-state : goal.returns-in-Ok-clause-state
returns-in-Ok-clause-state c =
    let d = c.args.device in
    let step = c.in-Ok.ensures.ok in
    let none = sym c.export.ensures.value ∙ none_map _ c.export.result (sym c.is_some.ensures ∙ c.if-is_some.false) in
    began none step.1 (ap (λ (x : Core). x.flying d) step.2 ∙ put_same (core_of c.args.core.now).flying d
    (Some (copy_of c.args.core.now.net (core_of c.args.core.now).exports d)))

pub returns-in-Ok-clause-same : goal.returns-in-Ok-clause-same
returns-in-Ok-clause-same c =
    let step = c.in-Ok.ensures.ok in record {
      same = c.begin.ensures.same;
      exports = ap (λ (x : Core). x.exports) step.2;
      flying = λ e q. ap (λ (x : Core). x.flying e) step.2 ∙ rw q refl;
    }
