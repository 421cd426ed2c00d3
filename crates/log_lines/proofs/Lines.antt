-- An entry that has a step is read from its line.
use Rattle.std.proofs.Common.{ℕ, ◌≤◌, ◌∷◌, refl, sym, ap, arith}
use Rattle.std.specs.Prelude.{codes, option_map}
use Rattle.std.specs.Fmt.{decimal}
use Rattle.fc_nodes.specs.Program.{Unfolding, IsLawful}
use Rattle.topology.specs.Networks.{Lives}
use Rattle.firing_core.specs.Cores.{Core, IsGood, Step}
use Rattle.firing_core.specs.Entries.{EntryValue, BeginEntry, EndEntry, IdleEntry, EditEntry}
use Rattle.log_lines.specs.Logs.{BeginLine, EndLine, IdleLine}
use Rattle.edit_commands.specs.Values.{ValuesAreRead}
use Rattle.log_lines.specs.ReadingBack.{AreNamed}
use Rattle.log_lines.proofs.Edits.{IsSaid, edit_said}
use Rattle.log_lines.proofs.Inputs.{device_small}
use Rattle.log_lines.proofs.Numbers.{number_back, number_above}
use Rattle.log_lines.proofs.Words.{above_less}

module _ (law : ValuesAreRead) (U : Unfolding) (lawful : IsLawful U.declared) (named : AreNamed U.declared.inputs) (c next : Core) (good : IsGood U c) where
  small : (d : ℕ) → Lives c.net d → d ≤ 1000000
  small d h = let l = device_small c.net.declared c.net.devices d good.net.devices h in omega (arith, l)

  pub entry_said : (e : EntryValue) → Step U c e next → IsSaid U c.net e next.net
  entry_said (BeginEntry d) h =
      let device = small d h.0 in
      record {
        text = 66 ∷ decimal d;
        is = refl;
        some = omega arith;
        above = (omega arith, above_less 31 (decimal d) (number_above d device));
        line = BeginLine d;
        read = ap (option_map BeginLine) (number_back d device);
        allowed = refl;
        after = sym (ap (λ (k : Core). k.net) h.2);
        says = refl;
      }
  entry_said (EndEntry d) h =
      let device = small d (good.flying d h.copy h.flies).there in
      record {
        text = 69 ∷ decimal d;
        is = refl;
        some = omega arith;
        above = (omega arith, above_less 31 (decimal d) (number_above d device));
        line = EndLine d;
        read = ap (option_map EndLine) (number_back d device);
        allowed = refl;
        after = sym (ap (λ (k : Core). k.net) h.after);
        says = refl;
      }
  entry_said IdleEntry h = record {
    text = codes "I";
    is = refl;
    some = omega arith;
    above = (omega arith, tt);
    line = IdleLine;
    read = refl;
    allowed = refl;
    after = sym (ap (λ (k : Core). k.net) h);
    says = refl;
  }
  entry_said (EditEntry e) h = edit_said law U lawful named c next good e h
