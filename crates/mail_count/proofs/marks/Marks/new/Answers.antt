use Rattle.std.proofs.Common.{◌≡◌, ◌≤◌, ◌+◌, ℕ, List, [], ◌∷◌, length, map, take, replicate, sym, ◌∙◌, ap, subst, arith, Bool, false, Vec, Global}
use Rattle.std.proofs.lemmas.List.{length-map, map-append}
use Rattle.topology.specs.declared.types.Device.{Device}
use Rattle.topology.specs.Networks.{Network, NetDevice, IsNetwork, net_device_of, numbers, near}
use Rattle.topology.specs.Nearby.{neighbour_numbers}
use Rattle.firing_core.specs.CoreViews.{CoreValue}
use Rattle.message_links.specs.MailCores.{Pairs}
use Rattle.mail_book.specs.MailViews.{mail_of}
use Rattle.mail_count.specs.declared.pairs.Bringing.{Bringing}
use Rattle.mail_count.specs.Seen.{missing}
use Rattle.mail_count.specs.Marks.{brought_row, own_rows, brought_rows, row_of, pair_rows, many, missing_rows}
use Rattle.mail_count.proofs.Rewriting.{take_all}
use Rattle.mail_count.proofs.Tables.{all_false, all_missing, rows_missing}
use Rattle.mail_count.proofs.NewMarks.{rows_more, many_more, fresh_own}
use Rattle.mail_count.proofs.marks.Marks.new.Goals as goal

pub loop-device-preserved : goal.loop-device-preserved
loop-device-preserved c =
    let N = c.args.mail.now.core.net in
    let ds = c.devices-devices.result.now in
    let i = c.loop-device.device-index in
    let x = c.device-item.result in
    let was = c.loop-device.invariant in
    let row = c.in_ok-row.row in
    let there : c.net.result.now ≡ N = c.net.ensures.value ∙ ap (λ (k : CoreValue). k.net) c.core.ensures.value in
    let net : IsNetwork N = subst IsNetwork there c.devices-devices.ensures.network in
    let long : length (brought_row row.items) ≤ 32 =
    let a = ap (length {A = Bool}) c.in_ok-row.ensures.brought in
    let b = length-map (neighbour_numbers (near N x.id)) (λ (to : ℕ). false) in
    let d = length-map (near N x.id) (λ (n : ℕ × ℕ). n.0) in
    let e = net.degree x.id in
    omega arith in
    let many_new : many (brought_rows c.push.new.self.items) ≡ many (brought_rows c.loop-device.rows.items) + length (brought_row row.items) =
    ap (λ (rs : List (Vec Bringing Global)). many (brought_rows rs)) c.in_ok-push.ensures.items
    ∙ ap many (map-append (λ (r : Vec Bringing Global). brought_row r.items) c.loop-device.rows.items (row ∷ []))
    ∙ many_more (brought_rows c.loop-device.rows.items) (brought_row row.items) in
    let items = length-map row.items (λ (b : Bringing). b.brought) in
    record {
      own = ap own_rows c.in_ok-push.ensures.items
          ∙ rows_more N (λ (b : Bringing). b.own.items) (λ a b. replicate (length ((mail_of c.args.mail.now).transit a b)) false) c.loop-device.rows.items row ds i x c.loop-device-test.true c.device-item.is was.own c.in_ok-row.ensures.own;
      brought = ap brought_rows c.in_ok-push.ensures.items
          ∙ rows_more N (λ (b : Bringing). b.brought) (λ a b. false) c.loop-device.rows.items row ds i x c.loop-device-test.true c.device-item.is was.brought c.in_ok-row.ensures.brought;
      pairs = omega (arith, was.pairs, c.len-pairs.ensures, many_new, items, row.ok.0);
      few = omega (arith, was.few, c.len-pairs.ensures, long, items, row.ok.0);
    }

pub returns : goal.returns
returns c =
    let N = c.args.mail.now.core.net in
    let ds = c.devices-devices.result.now in
    let was = c.loop-device.invariant in
    let there : c.net.result.now ≡ N = c.net.ensures.value ∙ ap (λ (k : CoreValue). k.net) c.core.ensures.value in
    let all : map net_device_of ds ≡ N.devices = c.devices-devices.ensures.value ∙ ap (λ (n : Network). n.devices) there in
    let ids : numbers (map net_device_of (take c.loop-device.device-index ds)) ≡ numbers N.devices = ap (λ (l : List Device). numbers (map net_device_of l)) (take_all ds c.loop-device.device-index c.loop-device-test.false) ∙ ap numbers all in
    let count : length ds ≡ length (numbers N.devices) = sym (length-map ds net_device_of) ∙ ap (length {A = NetDevice}) all ∙ sym (length-map N.devices (λ (n : NetDevice). n.id)) in
    let fired = c.in_ok-fired.ensures.items_if_clones_equal (λ y h. h) ∙ all_false (length ds) (numbers N.devices) count in
    let brought : brought_rows c.loop-device.rows.items ≡ pair_rows N (λ a b. false) = was.brought ∙ ap (map (row_of N (λ a b. false))) ids in
    record {
      flies = c.in_ok-flies.ensures.items_if_clones_equal (λ y h. h) ∙ all_false (length ds) (numbers N.devices) count;
      fired = fired;
      rows = record {
        own = was.own ∙ ap (map (row_of N (λ a b. replicate (length ((mail_of c.args.mail.now).transit a b)) false))) ids ∙ ap (λ (f : Pairs (List Bool)). pair_rows N f) (fresh_own (mail_of c.args.mail.now));
        brought = brought;
      };
      pairs = was.pairs;
      devices_left = count ∙ sym (ap missing fired ∙ all_missing (numbers N.devices));
      pairs_left = was.pairs ∙ ap many brought ∙ sym (ap missing_rows brought ∙ rows_missing N);
    }
