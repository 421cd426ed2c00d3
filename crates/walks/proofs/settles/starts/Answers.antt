use Rattle.std.proofs.Common.{◌≡◌, ℕ, ◌-◌, List, length, get_or, vec_len, refl, sym, ◌∙◌, ap, subst, arith, map}
use Rattle.fc_values.specs.Fields.{Rises}
use Rattle.std.proofs.lemmas.List.{get_or_default}
use Rattle.walks.proofs.Growing.{more_values, more_short}
use Rattle.walks.proofs.settles.starts.Goals as goal

pub loop-one-preserved : goal.loop-one-preserved
loop-one-preserved c =
    let xs = c.deref-one-items.result.now in
    let i = c.loop-one.one-index in
    let d = (get_or xs i (0, 0)).0 in
    let s = (get_or xs i (0, 0)).1 in
    let rises = subst (λ (ys : List (ℕ × ℕ)). Rises (map (λ (x : ℕ × ℕ). x.0) ys)) (sym c.deref-one-items.ensures.value) c.requires.rising in
    let long : length c.resize.new.self.items ≡ d = omega (arith, c.in_ok-resize.ensures.len, c.resize.new.self.ok) in
    record {
      values = more_values (λ x v. v ≡ x.1) xs c.loop-one.values.items c.resize.new.self.items c.push.new.self.items i d s (d - vec_len c.loop-one.values) rises c.loop-one-test.true refl
          c.in_ok-resize.ensures.items long c.in_ok-push.ensures.items c.loop-one.invariant.short
          (λ x e. ap (λ (y : ℕ × ℕ). y.1) (get_or_default xs i (0, 0) x c.loop-one-test.true ∙ sym e)) c.loop-one.invariant.values;
      short = more_short (λ x v. v ≡ x.1) xs c.loop-one.values.items c.resize.new.self.items c.push.new.self.items i d s (d - vec_len c.loop-one.values) rises c.loop-one-test.true refl
          c.in_ok-resize.ensures.items long c.in_ok-push.ensures.items c.loop-one.invariant.short;
    }
