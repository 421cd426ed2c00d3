-- What is written out of lists of what is said, as tables in code hold them, is the envelope.
use Rattle.std.proofs.Common.{ℕ, Bool, ◌≡◌, ◌≤◌, List, length, refl, sym, ap, ◌∙◌, arith}
use Rattle.std.specs.Prelude.{Option}
use Rattle.std.proofs.lemmas.List.{length-map}
use Rattle.std.specs.Ordering.{nat_cmp}
use Rattle.std.specs.List.Sorted.{IsStrictlySortedBy}
use Rattle.std.specs.Map.{lookup, keys_of}
use Rattle.std.specs.BTreeMap.{BTreeMap, get, is_at, IsOrdered}
use Rattle.fc_values.specs.Types.{Declarations}
use Rattle.fc_values.specs.Fields.{is_in}
use Rattle.topology.specs.declared.types.TheConstants.{MOST_DEVICES}
use Rattle.topology.specs.Networks.{Network, IsNetwork}
use Rattle.value_bounds.specs.BoundValues.{BoundValue}
use Rattle.value_bounds.specs.declared.bounds.LocalBound.{LocalBound}
use Rattle.envelopes.specs.Envelopes.{MaybeDevice, MaybeLink, Envelope, IsEnvelope, ids}
use Rattle.envelopes.specs.Code.{envelope_of}
use Rattle.changes.specs.Changes.{ChangeValue}
use Rattle.changes.specs.Hand.{said, at_hand, devices_at_hand}
use Rattle.changes.specs.Faults.{NoneRefused}
use Rattle.changes.proofs.AtHand.{in_devices, devices_rise, same_members}
use Rattle.changes.proofs.Few.{lines_are_few}
use Rattle.change_bounds.specs.declared.pairs.PairBound.{PairBound}
use Rattle.change_bounds.specs.Bounds.{bounds_of_device}
use Rattle.change_bounds.specs.Tables.{presence, by_pair, bound_at, input_said, pair_said, AreInputsSaid}
use Rattle.change_envelopes.specs.Envelopes.{IsEnvelopeOf}
use Rattle.change_envelopes.specs.Written.{told_to_stay, stays_by, links_by, row_by, devices_by}
use Rattle.change_envelopes.proofs.DevicesWritten.{devices_found, sure_devices_found, stays_found, row_found, row_is}
use Rattle.change_envelopes.proofs.DevicesWritten.{devices_rise as written_rise}
use Rattle.change_envelopes.proofs.PairTable.{Entry}
use Rattle.change_envelopes.proofs.LinksWritten.{AreTables, links_found, sure_links_found, links_fit, crowds}

-- lists of entries that say what a scene and lines say, with the rows of inputs and with which devices are always there
pub record AreSaid (n : Network) (ls : List (ℕ × Option ChangeValue)) (row : ℕ → List BoundValue) (es : List (ℕ × Bool)) (s : ℕ → Bool)
    (ps : List Entry) : Type 0 where
  pub network : IsNetwork n
  pub metric : n.declared.least ≤ n.declared.greatest
  pub accepted : NoneRefused n ls
  pub sorted : IsStrictlySortedBy nat_cmp (keys_of es)
  pub present : (d : ℕ) → lookup (is_at (nat_cmp d)) es ≡ presence n (said ls) d
  pub rows : (d : ℕ) → row d ≡ bounds_of_device n (said ls) d
  pub tables : AreTables n (said ls) ps s

module _ (n : Network) (ls : List (ℕ × Option ChangeValue)) (row : ℕ → List BoundValue) (es : List (ℕ × Bool)) (s : ℕ → Bool)
    (ps : List Entry) (t : AreSaid n ls row es s ps) where
  abbrev ms : List MaybeDevice
  ms = devices_by row es

  there : (d : ℕ) → is_in d (ids ms) ≡ at_hand n (said ls) d
  there = devices_found row n (said ls) es t.present

  few : length ms ≤ MOST_DEVICES
  few =
      let rise = written_rise row es t.sorted in
      let same = ap length (same_members (ids ms) (devices_at_hand n (said ls)) rise (devices_rise n t.network (said ls)) (λ d. there d ∙ sym (in_devices n (said ls) d))) in
      let bound = (lines_are_few n t.network ls t.accepted).devices in
      let long = length-map ms (λ (m : MaybeDevice). m.id) in
      omega (arith, same, bound, long)

  is_envelope : IsEnvelope (envelope_of n.declared ms (links_by s ps))
  is_envelope = record {
    rising = written_rise row es t.sorted;
    links = links_fit n t.network t.metric ls t.accepted ps s t.tables (ids ms) there;
  }

  pub assembled_lists : IsEnvelopeOf n (said ls) (envelope_of n.declared ms (links_by s ps))
  assembled_lists = record {
    declared = refl;
    envelope = is_envelope;
    few = few;
    crowds = crowds n t.network t.metric ls t.accepted ps s t.tables (ids ms) there;
    devices = there;
    sure = sure_devices_found row n (said ls) es t.present;
    inputs = λ d l. row_found row d es l ∙ t.rows d;
    links = λ a b two. links_found n (said ls) ps s t.tables a b;
    sure_links = λ a b two. sure_links_found n (said ls) ps s t.tables a b;
  }

-- tables of what a scene and lines say
pub record SaidInTables (n : Network) (ls : List (ℕ × Option ChangeValue)) (devices : BTreeMap ℕ Bool) (inputs : BTreeMap (ℕ × ℕ) LocalBound)
    (pairs : BTreeMap (ℕ × ℕ) PairBound) : Type 0 where
  pub network : IsNetwork n
  pub metric : n.declared.least ≤ n.declared.greatest
  pub accepted : NoneRefused n ls
  pub devices_order : IsOrdered nat_cmp devices
  pub pairs_order : IsOrdered by_pair pairs
  pub present : (d : ℕ) → get nat_cmp devices d ≡ presence n (said ls) d
  pub bounds : AreInputsSaid n (said ls) inputs
  pub paired : (x y : ℕ) → get by_pair pairs (x, y) ≡ pair_said n (said ls) x y

abbrev pub written : Network → BTreeMap ℕ Bool → BTreeMap (ℕ × ℕ) LocalBound → BTreeMap (ℕ × ℕ) PairBound → Envelope
written n devices inputs pairs = envelope_of n.declared (devices_by (row_by inputs n.declared.inputs) devices.entries) (links_by (stays_by devices) pairs.entries)

pub assembled : (n : Network) (ls : List (ℕ × Option ChangeValue)) (devices : BTreeMap ℕ Bool) (inputs : BTreeMap (ℕ × ℕ) LocalBound)
    (pairs : BTreeMap (ℕ × ℕ) PairBound) → SaidInTables n ls devices inputs pairs → IsEnvelopeOf n (said ls) (written n devices inputs pairs)
assembled n ls devices inputs pairs t = assembled_lists n ls (row_by inputs n.declared.inputs) devices.entries (stays_by devices) pairs.entries (record {
  network = t.network;
  metric = t.metric;
  accepted = t.accepted;
  sorted = t.devices_order;
  present = t.present;
  rows = λ d. row_is n (said ls) d (bound_at inputs d) 0 n.declared.inputs
      (λ j x at. ap (bound_at inputs d) (omega arith) ∙ t.bounds d j x at ∙ ap (λ k. input_said n (said ls) d k x.type) (omega arith));
  tables = record {
    sorted = t.pairs_order;
    pairs = t.paired;
    devices = λ d. ap told_to_stay (t.present d) ∙ stays_found (row_by inputs n.declared.inputs) n (said ls) devices.entries t.present d;
  };
})

pub written_same : (n : Network) (devices : BTreeMap ℕ Bool) (inputs : BTreeMap (ℕ × ℕ) LocalBound) (pairs : BTreeMap (ℕ × ℕ) PairBound)
    (D : Declarations) (ms : List MaybeDevice) (ks : List MaybeLink) → D ≡ n.declared → ms ≡ devices_by (row_by inputs D.inputs) devices.entries
    → ks ≡ links_by (stays_by devices) pairs.entries → envelope_of D ms ks ≡ written n devices inputs pairs
written_same n devices inputs pairs D ds ks d m k =
    ap (λ x. envelope_of D x ks) m
    ∙ ap (envelope_of D (devices_by (row_by inputs D.inputs) devices.entries)) k
    ∙ ap (λ (x : Declarations). envelope_of x (devices_by (row_by inputs x.inputs) devices.entries) (links_by (stays_by devices) pairs.entries)) d
