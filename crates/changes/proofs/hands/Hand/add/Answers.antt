use Rattle.std.proofs.lemmas.Result.{on_ok_weaker}
use Rattle.changes.proofs.hands.Hand.add.Goals as goal

pub returns-in-Link : goal.returns-in-Link
returns-in-Link g c = rw c.in-Link.is (on_ok_weaker c.add_pair.result (λ h. h c.in-Link.field-2) c.add_pair.ensures)

pub returns-in-Join : goal.returns-in-Join
returns-in-Join g c = rw c.in-Join.is (on_ok_weaker c.add_device.result (λ h. h c.in-Join.field-1.items) c.add_device.ensures)
