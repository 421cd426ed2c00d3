use Rattle.std.proofs.Common.{◌≡◌, ℕ, ◌+◌, List, [], ◌∷◌, ◌++◌, take, map, length, sym, ◌∙◌, ap, subst}
use Rattle.std.proofs.lemmas.List.{map-append}
use Rattle.topology.specs.declared.types.Device.{Device}
use Rattle.topology.specs.Networks.{NetDevice, net_device_of, numbers, near}
use Rattle.mail_book.specs.declared.letters.Letters.{Letters}
use Rattle.mail_book.specs.Pairs.{AreRows}
use Rattle.mail_book.specs.Rows.{lists_of, AreQuiet}
use Rattle.mail_book.proofs.Copying.{quiet_rows_more, shape_more}
use Rattle.mail_book.proofs.LetterWrites.{lists_more}
use Rattle.mail_book.proofs.Taking.{take_more}
use Rattle.mail_book.proofs.rows.no_rows.Goals as goal

pub loop-device-preserved : goal.loop-device-preserved
loop-device-preserved c =
    let net = c.args.net.now in
    let ds = c.devices-device-items.result.now in
    let i = c.loop-device.device-index in
    let new : lists_of c.push.new.self.items ≡ lists_of c.loop-device.rows.items ++ c.in_ok-no_row.field-0.items ∷ [] = ap lists_of c.in_ok-push.ensures.items ∙ lists_more c.loop-device.rows.items c.in_ok-no_row.field-0 in
    let more : numbers (map net_device_of (take (i + 1) ds)) ≡ numbers (map net_device_of (take i ds)) ++ c.device-item.result.id ∷ [] =
    ap (λ (l : List Device). numbers (map net_device_of l)) (take_more ds i c.device-item.result c.loop-device-test.true c.device-item.is)
    ∙ ap numbers (map-append net_device_of (take i ds) (c.device-item.result ∷ []))
    ∙ map-append (λ (n : NetDevice). n.id) (map net_device_of (take i ds)) (net_device_of c.device-item.result ∷ []) in
    let long : length c.in_ok-no_row.field-0.items ≡ length (near net c.device-item.result.id) =
    c.in_ok-no_row.ensures.long ∙ ap (length {A = ℕ × ℕ}) c.neighbours.ensures.value in
    record {
      shape = subst (λ (l : List ℕ). AreRows net l (lists_of c.push.new.self.items)) (sym more) (subst (λ (rows : List (List Letters)). AreRows net (numbers (map net_device_of (take i ds)) ++ c.device-item.result.id ∷ []) rows) (sym new)
          (shape_more net (numbers (map net_device_of (take i ds))) (lists_of c.loop-device.rows.items) c.device-item.result.id c.in_ok-no_row.field-0.items c.loop-device.invariant.shape long));
      quiet = subst AreQuiet (sym new) (quiet_rows_more (lists_of c.loop-device.rows.items) c.in_ok-no_row.field-0.items c.loop-device.invariant.quiet c.in_ok-no_row.ensures.quiet);
    }
