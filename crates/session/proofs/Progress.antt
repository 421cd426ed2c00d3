-- What a command asks of a core holds of each core to which the lines before lead.
use Rattle.std.proofs.Common.{ℕ, ◌≡◌, ◌+◌, ◌*◌, ◌≤◌, Bool, true, false, nat_eq, nat_le, not, List, [], ◌∷◌, ◌++◌, length, map, refl, sym, ap, subst, ◌∙◌, arith, Option, Some, None, is_some, if◌then◌else◌}
use Rattle.std.proofs.lemmas.Bool.{eqb-true}
use Rattle.fc_values.specs.Exports.{FlatExport}
use Rattle.fc_values.specs.Trees.{Copy}
use Rattle.fc_nodes.specs.Program.{Unfolding}
use Rattle.topology.specs.Networks.{Network, NetDevice, lives}
use Rattle.topology.specs.declared.types.NetFault.{NetFault}
use Rattle.topology.specs.declared.types.NetFault.TheVariants as fault
use Rattle.topology.specs.declared.types.TheConstants.{MOST_DEVICES}
use Rattle.topology.specs.Changes.{first_fault, join_fault}
use Rattle.topology.specs.Inputs.{or_fault, inputs_fault}
use Rattle.firing_core.specs.Entries.{EditValue, LinkEdit, UnlinkEdit, SetEdit, PokeEdit, JoinEdit, LeaveEdit, EntryValue, BeginEntry, EditEntry}
use Rattle.firing_core.specs.Cores.{Core, Run, Edits, IsGood, edited, edit_fault}
use Rattle.firing_core.specs.Laws.{PlainRunsKeepNet, RunsCut}
use Rattle.firing_core.specs.Stretches.{MixStretch}
use Rattle.edit_commands.specs.declared.scripts.TheConstants.{MOST_FIRINGS}
use Rattle.edit_commands.specs.Scripts.{Progress, CommandValue, RunCommand, EditCommand, ScrambleCommand, ShowCommand, MixCommand}
use Rattle.edit_commands.specs.JudgedCommands.{net_after, IsLeftBy, MayCome, after_command}
use Rattle.round_count.proofs.EditsInLogs.{plain_both}
use Rattle.session.specs.Conditions.{Allows}
use Rattle.session.specs.ScriptRuns.{Added, DoesLine, poke}

module _ (U : Unfolding) (start : Core) (p : Progress) (c : Core) (left : IsLeftBy start p c) where
  few : (rounds : ℕ) → p.firings + rounds * length p.net.devices ≤ MOST_FIRINGS → rounds * length c.net.devices ≤ MOST_FIRINGS
  few rounds h =
      let e : rounds * length c.net.devices ≡ rounds * length p.net.devices = ap (λ (n : Network). rounds * length n.devices) left.net in
      subst (λ n. n ≤ MOST_FIRINGS) (sym e) (omega (arith, h))

  -- a command that may come is allowed
  pub allowed : (k : CommandValue) → MayCome U start p k → Allows U c k
  allowed (RunCommand r) m = record { some = m.some; few = few r m.within }
  allowed (EditCommand e) m = record { fits = m.fits; allowed = m.allowed c left }
  allowed (ScrambleCommand n) m = tt
  allowed ShowCommand m = tt
  allowed (MixCommand r e) m = record {
    some = m.some;
    few = few (r + 1) m.within;
    mixed = m.mixed;
    edit = record { fits = m.edit.fits; allowed = m.edit.allowed c left };
  }

-- ---- networks and flights after an edit

edited_net : (U : Unfolding) (c : Core) (e : EditValue) → (edited U c e).net ≡ net_after c.net e
edited_net U c (LinkEdit a b w) = refl
edited_net U c (UnlinkEdit a b) = refl
edited_net U c (SetEdit d i v) = refl
edited_net U c (PokeEdit d x) = refl
edited_net U c (JoinEdit x) = refl
edited_net U c (LeaveEdit d) = refl

first_no : (b : Bool) (f : NetFault) (rest : List (Bool × NetFault)) → first_fault ((b, f) ∷ rest) ≡ None → b ≡ false
first_no false f rest h = refl
first_no true f rest h = absurd cc

first_none : {F : Type 0} (a b : Option F) → or_fault a b ≡ None → a ≡ None
first_none None b h = refl
first_none (Some x) b h = absurd cc

-- a device that may join isn't there
not_twice : (n : Network) (x : NetDevice) → join_fault n x ≡ None → lives n x.id ≡ false
not_twice n x h =
    let rest : List (Bool × NetFault) = (nat_le MOST_DEVICES (length n.devices), fault.Devices)
    ∷ (not (nat_eq (length x.inputs) (length n.declared.inputs)), fault.NoInput) ∷ [] in
    first_no (lives n x.id) fault.Twice rest (first_none (first_fault ((lives n x.id, fault.Twice) ∷ rest)) (inputs_fault n.declared.inputs x.inputs) h)

-- a device that isn't there doesn't fly
absent : (U : Unfolding) (c : Core) (d : ℕ) → IsGood U c → lives c.net d ≡ false → is_some (c.flying d) ≡ false
absent U c d g n = by_flight (c.flying d) refl
  where
    clash : (b : Bool) → b ≡ true → b ≡ false → ⊥
    clash true p q = absurd cc
    clash false p q = absurd cc

    by_flight : (o : Option Copy) → c.flying d ≡ o → is_some (c.flying d) ≡ false
    by_flight None e = ap is_some e
    by_flight (Some s) e = absurd (clash (lives c.net d) (g.flying d s e).there n)

joined_flies : (c : Core) (i d : ℕ) → is_some (c.flying i) ≡ false → is_some (if nat_eq d i then None else c.flying d) ≡ is_some (c.flying d)
joined_flies c i d n = by_test (nat_eq d i) refl
  where
    by_test : (b : Bool) → nat_eq d i ≡ b → is_some (if b then None else c.flying d) ≡ is_some (c.flying d)
    by_test false e = refl
    by_test true e = sym (ap (λ j. is_some (c.flying j)) (eqb-true d i e) ∙ n)

edited_flies : (U : Unfolding) (c : Core) (e : EditValue) → IsGood U c → edit_fault c e ≡ None → (d : ℕ) → is_some ((edited U c e).flying d) ≡ is_some (c.flying d)
edited_flies U c (LinkEdit a b w) g h d = refl
edited_flies U c (UnlinkEdit a b) g h d = refl
edited_flies U c (SetEdit i j v) g h d = refl
edited_flies U c (PokeEdit i x) g h d = refl
edited_flies U c (LeaveEdit i) g h d = refl
edited_flies U c (JoinEdit x) g h d = joined_flies c x.id d (absent U c x.id g (not_twice c.net x h))

-- ---- pokes

pokes_keep : (U : Unfolding) (c last : Core) (xs : List (ℕ × FlatExport)) → Run U c (map poke xs) last → (last.net ≡ c.net) × (last.flying ≡ c.flying)
pokes_keep U c last [] r = (ap (λ (k : Core). k.net) r, ap (λ (k : Core). k.flying) r)
pokes_keep U c last (x ∷ xs) r =
    let k = pokes_keep U r.0 last xs r.2 in
    (k.0 ∙ ap (λ (k : Core). k.net) r.1.after, k.1 ∙ ap (λ (k : Core). k.flying) r.1.after)

-- ---- an edit among firings

mixed_net : PlainRunsKeepNet → RunsCut → (U : Unfolding) (c last : Core) (rounds : ℕ) (e : EditValue) (part : List EntryValue)
    → MixStretch U c rounds e part last → last.net ≡ net_after c.net e
mixed_net plain cut U c last rounds e part m =
    let front : List EntryValue = m.before ++ BeginEntry m.first ∷ m.among in
    let two = (cut U c last front (EditEntry e ∷ m.after)).0 (subst (λ (l : List EntryValue). Run U c l last) m.cut m.leads) in
    let before = plain U c two.0 front (plain_both m.before (BeginEntry m.first ∷ m.among) m.plain_before m.plain_among) two.1 in
    let edits : Edits U two.0 e two.2.0 = two.2.1 in
    plain U two.2.0 last m.after m.plain_after two.2.2
    ∙ ap (λ (k : Core). k.net) edits.after ∙ edited_net U two.0 e ∙ ap (λ (n : Network). net_after n e) before

-- ---- after a line

module _ (plain : PlainRunsKeepNet) (cut : RunsCut) (U : Unfolding) (start : Core) (p : Progress) (c next : Core) (at line : ℕ) (a : Added)
    (left : IsLeftBy start p c) (good : IsGood U c) where
  made : (e : EditValue) → edit_fault c e ≡ None → Run U c (EditEntry e ∷ []) next → IsLeftBy start (after_command p (EditCommand e)) next
  made e h r =
      let is : next ≡ edited U c e = r.2 ∙ r.1.after in
      record {
        net = ap (λ (k : Core). k.net) is ∙ edited_net U c e ∙ ap (λ (n : Network). net_after n e) left.net;
        flights = λ d. ap (λ (k : Core). is_some (k.flying d)) is ∙ edited_flies U c e good h d ∙ left.flights d;
      }

  pub left_after : (k : CommandValue) → MayCome U start p k → DoesLine U c at (line, k) a next → IsLeftBy start (after_command p k) next
  left_after (RunCommand r) m d = record {
    net = plain U c next a.stretch d.runs.plain d.runs.leads ∙ left.net;
    flights = λ e. ap is_some (d.runs.rests e);
  }
  left_after (EditCommand e) m d =
      made e (m.allowed c left) (subst (λ (l : List EntryValue). Run U c l next) d.stretch d.leads)
  left_after (ScrambleCommand n) m d =
      let k = pokes_keep U c next d.rubbish (subst (λ (l : List EntryValue). Run U c l next) d.stretch d.leads) in
      record { net = k.0 ∙ left.net; flights = λ e. ap (λ (f : ℕ → Option Copy). is_some (f e)) k.1 ∙ left.flights e }
  left_after ShowCommand m d = record {
    net = ap (λ (k : Core). k.net) d.same ∙ left.net;
    flights = λ e. ap (λ (k : Core). is_some (k.flying e)) d.same ∙ left.flights e;
  }
  left_after (MixCommand r e) m d = record {
    net = mixed_net plain cut U c next r e a.stretch d.mixes ∙ ap (λ (n : Network). net_after n e) left.net;
    flights = λ i. ap is_some (d.mixes.rests i);
  }
