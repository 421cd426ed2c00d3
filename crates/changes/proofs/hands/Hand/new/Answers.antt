use Rattle.std.proofs.Common.{arith, refl}
use Rattle.std.proofs.lemmas.List.{length-map}
use Rattle.topology.specs.Networks.{NetDevice, near}
use Rattle.changes.proofs.AtHand.{first_length}
use Rattle.changes.proofs.hands.Hand.new.Goals as goal

pub returns : goal.returns
returns c = λ n.
    let e = c.new.ensures.empty in
    let f = c.new-2.ensures.empty in
    let g = c.new-3.ensures.empty in
    record {
      devices = λ d. rw e refl;
      count = let k = length-map n.devices (λ (x : NetDevice). x.id) in rw e (omega arith);
      pairs = λ a b. rw f refl;
      partners = λ d. let k = first_length (near n d) in rw g (omega arith);
      few = λ d. rw g (omega arith);
    }
