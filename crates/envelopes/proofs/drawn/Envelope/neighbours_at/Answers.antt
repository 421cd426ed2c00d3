use Rattle.std.proofs.Common.{◌∙◌, sym, ap, subst, ℕ, map, length, arith, ◌<◌, get_or}
use Rattle.std.specs.declared.vec.Vec.{Vec}
use Rattle.std.specs.declared.alloc.Global.{Global}
use Rattle.envelopes.specs.declared.types.LinkBound.{LinkBound}
use Rattle.envelopes.specs.Envelopes.{Envelope, ids, maybe_near}
use Rattle.envelopes.specs.Code.{neighbour_of}
use Rattle.envelopes.proofs.Placing.{near_at, ids_long}
use Rattle.envelopes.specs.contracts.drawn.Envelope.{the_view}
use Rattle.envelopes.proofs.drawn.Envelope.neighbours_at.Goals as goal

pub returns-clause-value : goal.returns-clause-value
returns-clause-value c =
    let E = the_view c.self.inside in
    let within : c.args.place < length (ids E.devices) =
    omega (
      arith,
      ids_long E.devices,
      subst (λ (v : Envelope). c.args.place < length v.devices) (sym c.self.view_is)
          c.requires,
    ) in
    ap (map neighbour_of) (c.deref.ensures.value ∙ ap (λ (v : Vec (ℕ × LinkBound) Global). v.items) c.index.ensures)
    ∙ near_at (ids E.devices) E.links c.self.inside.near.items c.args.place c.index.result.now c.self.invariant.near
    within
    ∙ ap (λ (v : Envelope). maybe_near (get_or (ids v.devices) c.args.place 0) v.links) c.self.view_is
