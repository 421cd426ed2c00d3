use Rattle.std.proofs.Common.{◌≡◌, ◌≤◌, ◌∙◌, length, sym, ap, subst, Option, Some, IfSome}
use Rattle.std.specs.declared.alloc.Global.{Global}
use Rattle.std.specs.declared.vec.Vec.{Vec}
use Rattle.std.proofs.lemmas.List.{length-map}
use Rattle.fc_nodes.specs.Program.{unfolding_of}
use Rattle.bound_firing.specs.declared.firing.ExportBound.{ExportBound}
use Rattle.envelopes.specs.Code.{maybe_device_of}
use Rattle.bound_rounds.specs.Rounds.{grown_within}
use Rattle.settle_rounds.specs.Rounds.{any_table}
use Rattle.settle_rounds.specs.Within.{grows, any_start}
use Rattle.settle_rounds.specs.Starts.{growing_cap}
use Rattle.settle_rounds.specs.References.{IsGrown}
use Rattle.settle_rounds.proofs.starts.grown_bounds.Goals as goal

given : {A : Type 0} (P : A → Type 0) (o : Option A) (x : A) → o ≡ Some x → IfSome o P → P x
given P o x e h = subst (λ u. IfSome u P) e h

pub returns-in-Some : goal.returns-in-Some
returns-in-Some c n e f =
    let U = unfolding_of c.args.program.now in
    let E = c.args.envelope.now in
    let most : c.growing_cap-most.result ≡ growing_cap (length E.devices) = c.growing_cap-most.ensures.value
    ∙ ap growing_cap (sym (length-map c.devices.result.now maybe_device_of) ∙ ap length c.devices.ensures.value) in
    let g = given (λ (v : Vec ExportBound Global). IsGrown U E c.growing_cap-most.result c.args.first.items v.items)
    c.in_ok-grown.field-0 c.in-Some.grown c.in-Some.is c.in_ok-grown.ensures.grown in
    record {
      fits = g.fits;
      table = grown_within U E f.table g.rounds;
      starts = grows f.table g.rounds f.first (subst (λ k. g.rounds ≤ k) most g.few) (g.full f.table f.stands);
      stands = g.stands f.table f.stands;
    }

pub returns : goal.returns
returns c n e f =
    let U = unfolding_of c.args.program.now in
    let E = c.args.envelope.now in
    let most : c.growing_cap-most.result ≡ growing_cap (length E.devices) = c.growing_cap-most.ensures.value
    ∙ ap growing_cap (sym (length-map c.devices.result.now maybe_device_of) ∙ ap length c.devices.ensures.value) in
    record {
      fits = c.in_ok-any.ensures.fits;
      table = any_table U;
      starts = any_start f.table f.first (λ i l. c.in_ok-grown.ensures.longer c.in_default.is f.table f.stands i
          (subst (λ k. i ≤ k) (sym most) l));
      stands = c.in_ok-any.ensures.any;
    }
