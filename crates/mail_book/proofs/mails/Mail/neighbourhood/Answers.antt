use Rattle.std.proofs.Common.{◌≡◌, ◌<◌, ◌∙◌, ℕ, List, [], length, map, get_or, sym, ap, subst, arith, Some}
use Rattle.std.specs.Prelude.{option_map}
use Rattle.std.proofs.lemmas.List.{length-map}
use Rattle.fc_values.specs.Values.{local_of}
use Rattle.fc_values.specs.Exports.{FlatExport, export_of}
use Rattle.fc_nodes.specs.Program.{Unfolding}
use Rattle.fc_nodes.specs.Flat.{tree_export, IsExport}
use Rattle.value_trees.specs.declared.copies.Snap.{Snap}
use Rattle.value_trees.specs.Copies.{WhereSome, FitsCopy}
use Rattle.value_trees.specs.Snaps.{snap_copy, near_copy, tree_of, IsSnap, IsExportOf}
use Rattle.topology.specs.declared.types.Device.{Device}
use Rattle.topology.specs.Networks.{Network, NetDevice, numbers, inputs_in, near, Lives}
use Rattle.topology.specs.Nearby.{AtPlace}
use Rattle.firing_core.specs.Cores.{copy_of, near_copies}
use Rattle.firing_core.specs.CoreViews.{core_of, program_of}
use Rattle.firing_core.proofs.Taken.{device_inputs, in_at}
use Rattle.message_links.specs.MailCores.{sees}
use Rattle.mail_book.specs.declared.letters.Letters.{Letters}
use Rattle.mail_book.specs.Letters.{AllLetters}
use Rattle.mail_book.specs.Rows.{lists_of, heard_copies}
use Rattle.mail_book.specs.MailViews.{MailValue, mail_with, mail_of, unfolded_of}
use Rattle.mail_book.proofs.LetterWrites.{lists_long, lists_get, row_letters}
use Rattle.mail_book.proofs.Sights.{row_in, row_is_long, near_seen, own_seen, seen_fits}
use Rattle.mail_book.proofs.mails.Mail.neighbourhood.Goals as goal
use Rattle.mail_book.proofs.mails.Mail.neighbourhood.Goals.{in-Some+in_ok-share-in-Some, in-None}

pub index-requires : goal.index-requires
index-requires c =
    let at : AtPlace c.self.inside.core.net c.args.device c.args.place = subst (λ (v : MailValue). AtPlace v.core.net c.args.device c.args.place) (sym c.self.view_is) (record { within = c.requires.within; is = c.requires.device }) in
    let w = row_in c.self.inside.core c.net.ensures.good (lists_of c.self.inside.rows.items) c.self.invariant.shape c.self.invariant.letters c.args.device c.args.place at in
    omega (arith, w, lists_long c.self.inside.rows.items, c.self.inside.rows.ok.0)

module _ (c : goal.After-deref-2) where
  at : AtPlace c.self.inside.core.net c.args.device c.args.place
  at = subst (λ (v : MailValue). AtPlace v.core.net c.args.device c.args.place) (sym c.self.view_is) (record { within = c.requires.within; is = c.requires.device })

  in_rows : c.args.place < length c.self.inside.rows.items
  in_rows =
      let w = row_in c.self.inside.core c.net.ensures.good (lists_of c.self.inside.rows.items) c.self.invariant.shape c.self.invariant.letters c.args.device c.args.place at in
      omega (arith, w, lists_long c.self.inside.rows.items)

  row : get_or (lists_of c.self.inside.rows.items) c.args.place [] ≡ c.deref-2.result.now
  row = lists_get c.self.inside.rows.items c.args.place c.index.result.now in_rows c.index.ensures ∙ sym c.deref-2.ensures.value

  neighbours : c.neighbours-neighbours.result.now ≡ near c.self.inside.core.net c.args.device
  neighbours = c.neighbours-neighbours.ensures.value ∙ ap (λ (N : Network). near N c.args.device) c.net-2.ensures.value

  long : length c.deref-2.result.now ≡ length c.neighbours-neighbours.result.now
  long =
      ap (length {A = Letters}) (sym row)
      ∙ row_is_long c.self.inside.core c.net.ensures.good (lists_of c.self.inside.rows.items) c.self.invariant.shape c.self.invariant.letters c.args.device c.args.place at
      ∙ ap (length {A = ℕ × ℕ}) (sym neighbours)

pub heard_in-requires : goal.heard_in-requires
heard_in-requires c = long c

module _ (c : goal.In_ok-near) where
  U : Unfolding
  U = program_of c.self.inside.core

  here : AtPlace c.self.inside.core.net c.args.device c.args.place
  here = subst (λ (v : MailValue). AtPlace v.core.net c.args.device c.args.place) (sym c.self.view_is) (record { within = c.requires.within; is = c.requires.device })

  in_list : c.args.place < length c.self.inside.rows.items
  in_list =
      let w = row_in c.self.inside.core c.net.ensures.good (lists_of c.self.inside.rows.items) c.self.invariant.shape c.self.invariant.letters c.args.device c.args.place here in
      omega (arith, w, lists_long c.self.inside.rows.items)

  the_row : get_or (lists_of c.self.inside.rows.items) c.args.place [] ≡ c.deref-2.result.now
  the_row = lists_get c.self.inside.rows.items c.args.place c.index.result.now in_list c.index.ensures ∙ sym c.deref-2.ensures.value

  the_near : c.neighbours-neighbours.result.now ≡ near c.self.inside.core.net c.args.device
  the_near = c.neighbours-neighbours.ensures.value ∙ ap (λ (N : Network). near N c.args.device) c.net-2.ensures.value

  inputs : map local_of c.in_ok-inputs.inputs.items ≡ inputs_in c.args.device c.self.inside.core.net.devices
  inputs =
      c.in_ok-inputs.ensures
      ∙ ap (map local_of) c.deref.ensures.value
      ∙ ap (λ (x : Device). map local_of x.inputs.items) (sym c.index-devices-place.is)
      ∙ device_inputs c.self.inside.core c.net.ensures.core c.args.place c.args.device c.devices.result.now c.index-devices-place.result
      (c.devices.ensures.value ∙ ap (λ (N : Network). N.devices) c.net.ensures.value) here.within here.is c.index-devices-place.is

  own : (option_map (tree_of (program_of c.self.inside.core)) c.match-published.own ≡ (core_of c.self.inside.core).exports c.args.device) × WhereSome (IsExportOf (program_of c.self.inside.core)) c.match-published.own
  own = elim c.match-published.branch [
    | in-Some+in_ok-share-in-Some w ↦
        let same = ap export_of w.in_ok-share-in-Some.ensures in (
          ap (option_map (tree_of (program_of c.self.inside.core))) w.own-is ∙ ap (λ (f : FlatExport). Some (tree_export (program_of c.self.inside.core) f)) same ∙ w.in-Some.ensures.value,
          subst (WhereSome (IsExportOf (program_of c.self.inside.core))) (sym w.own-is) (subst (IsExport (program_of c.self.inside.core)) (sym same) w.in-Some.ensures.export),
        )
    | in-None w ↦ (ap (option_map (tree_of (program_of c.self.inside.core))) w.own-is ∙ w.in-None.ensures.value, subst (WhereSome (IsExportOf (program_of c.self.inside.core))) (sym w.own-is) tt)
  ]

  heard : map (near_copy (program_of c.self.inside.core)) c.in_ok-near.near.items ≡ near_copies (sees (mail_of (mail_with c.self.inside.core (lists_of c.self.inside.rows.items))) c.args.device) (near c.self.inside.core.net c.args.device)
  heard =
      c.in_ok-near.ensures.near (program_of c.self.inside.core)
      ∙ ap (λ (ns : List (ℕ × ℕ)). heard_copies (program_of c.self.inside.core) ns c.deref-2.result.now) the_near
      ∙ ap (heard_copies (program_of c.self.inside.core) (near c.self.inside.core.net c.args.device)) (sym the_row)
      ∙ sym (near_seen c.self.inside.core c.net.ensures.good (lists_of c.self.inside.rows.items) c.self.invariant.shape c.self.invariant.letters c.args.device c.args.place here)

  s : Snap
  s = record { device = c.args.device; inputs = c.in_ok-inputs.inputs; own = c.match-published.own; near = c.in_ok-near.near }

  copy_is : snap_copy (program_of c.self.inside.core) s ≡ copy_of c.self.inside.core.net (sees (mail_of (mail_with c.self.inside.core (lists_of c.self.inside.rows.items))) c.args.device) c.args.device
  unfolding s
  copy_is =
      let seen = own.0 ∙ sym (own_seen c.self.inside.core c.net.ensures.good (lists_of c.self.inside.rows.items) c.self.invariant.shape c.self.invariant.letters c.args.device c.args.place here) in
      let i = inputs in
      let n = heard in
      cc

  there : Lives c.self.inside.core.net c.args.device
  there = let w = here.within in in_at (numbers c.self.inside.core.net.devices) c.args.place c.args.device (omega (arith, w, length-map c.self.inside.core.net.devices (λ (n : NetDevice). n.id))) here.is

  snap_is : IsSnap (program_of c.self.inside.core) s
  unfolding s
  snap_is = record {
    fits = subst (FitsCopy (program_of c.self.inside.core)) (sym copy_is)
        (seen_fits c.self.inside.core c.net.ensures.good (lists_of c.self.inside.rows.items) c.self.invariant.shape c.self.invariant.letters c.args.device c.args.place here c.faultless_steps.ensures.copy there);
    own = own.1;
    near = c.in_ok-near.ensures.exports (program_of c.self.inside.core)
        (subst (AllLetters (program_of c.self.inside.core)) the_row (row_letters (program_of c.self.inside.core) (lists_of c.self.inside.rows.items) c.args.place c.self.invariant.letters));
  }

  as_asked : (snap_copy (unfolded_of c.args.self.now) s ≡ copy_of c.args.self.now.core.net (sees (mail_of c.args.self.now) c.args.device) c.args.device) × IsSnap (unfolded_of c.args.self.now) s
  as_asked = (
    subst (λ (v : MailValue). snap_copy (unfolded_of v) s ≡ copy_of v.core.net (sees (mail_of v) c.args.device) c.args.device) c.self.view_is copy_is,
    subst (λ (v : MailValue). IsSnap (unfolded_of v) s) c.self.view_is snap_is,
  )

pub returns-clause-copy : goal.returns-clause-copy
unfolding s
returns-clause-copy c = (as_asked c).0

pub returns-clause-snap : goal.returns-clause-snap
unfolding s
returns-clause-snap c = (as_asked c).1
