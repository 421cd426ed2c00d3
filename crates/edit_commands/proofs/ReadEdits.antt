-- An edit that was read and judged is the edit that the words say.
use Rattle.std.proofs.Common.{ℕ, ◌≡◌, Bool, List, map, refl, sym, ap, subst, ◌∙◌, Some, None, Option}
use Rattle.std.specs.Prelude.{option_map}
use Rattle.fc_values.specs.declared.types.Declared.{Declared}
use Rattle.fc_values.specs.Types.{Input, input_of, declarations_of, Declarations}
use Rattle.fc_nodes.specs.Program.{Program, unfolding_of, IsProgram}
use Rattle.topology.specs.Networks.{Network}
use Rattle.firing_core.specs.Entries.{EditValue}
use Rattle.firing_core.specs.Cores.{EditFits}
use Rattle.edit_commands.specs.declared.edits.EditLine.{EditLine as Line}
use Rattle.edit_commands.specs.declared.types.LineFailure.{LineFailure}
use Rattle.edit_commands.specs.declared.types.LineFailure.TheVariants as line_fault
use Rattle.edit_commands.specs.EditLines.{EditLine}
use Rattle.edit_commands.specs.LineByLine.{Accepted, unless_fault, WhereAccepted}
use Rattle.edit_commands.specs.Judging.{edit_line_fault, edited_network, IsEdit, DoesEdit, words_judged}
use Rattle.edit_commands.specs.Narrow.{narrow_line}
use Rattle.edit_commands.specs.Code.{line_of, IsFaultOf, HasFault}
use Rattle.edit_commands.proofs.WideEdits.{program_narrow, fault_narrow, allowed_same}

-- what the code read is what the words say
pub record IsRead (o : Option EditLine) (read : EditLine) : Type 0 where
  pub line : EditLine
  pub says : o ≡ Some line
  pub narrow : read ≡ narrow_line line

-- the declared inputs are those of the network
pub same_inputs : (d : Declared) (inputs : List Input) (D : Declarations) (n : Network) → declarations_of d ≡ D → n.declared ≡ D → inputs ≡ map input_of d.inputs.items → inputs ≡ n.declared.inputs
same_inputs d inputs D n e f g = g ∙ ap (λ (E : Declarations). E.inputs) e ∙ sym (ap (λ (E : Declarations). E.inputs) f)

pub is_read : (f : List Input → Option EditLine) (is js : List Input) (o : Option Line) (line : Line) → is ≡ js → option_map line_of o ≡ option_map narrow_line (f is) → o ≡ Some line → IsRead (f js) (line_of line)
is_read f is js o line e g h = by_case (f js) refl (ap (option_map line_of) (sym h) ∙ g ∙ ap (λ ks. option_map narrow_line (f ks)) e)
  where
    by_case : (p : Option EditLine) → f js ≡ p → Some (line_of line) ≡ option_map narrow_line p → IsRead (f js) (line_of line)
    by_case None k i = absurd cc
    by_case (Some l) k i = record { line = l; says = k; narrow = cc }

module _ (p : Program) (h : IsProgram p) (n : Network) (flies : ℕ → Bool) where
  pub edit_refused : (o : Option EditLine) (read : EditLine) (f : LineFailure) → IsRead o read → IsFaultOf (edit_line_fault (unfolding_of p) n flies read) f → HasFault (words_judged (unfolding_of p) n flies o) f
  edit_refused o read line_fault.Memory r e = tt
  edit_refused o read (line_fault.Bad f) r e =
      let g : edit_line_fault (unfolding_of p) n flies r.line ≡ Some f =
      sym (fault_narrow (unfolding_of p) (program_narrow p h) n flies r.line) ∙ ap (edit_line_fault (unfolding_of p) n flies) (sym r.narrow) ∙ e in
      ap (words_judged (unfolding_of p) n flies) r.says ∙ ap (λ q. unless_fault q r.line) g

  pub edit_done : (o : Option EditLine) (read : EditLine) (next : Network) (e : EditValue) → IsRead o read → IsEdit (unfolding_of p) read e → EditFits (unfolding_of p) e
      → edit_line_fault (unfolding_of p) n flies read ≡ None → next ≡ edited_network n read → WhereAccepted (DoesEdit (unfolding_of p) n next e) (words_judged (unfolding_of p) n flies o)
  edit_done o read next e r says fits allowed after =
      let g : edit_line_fault (unfolding_of p) n flies r.line ≡ None =
      sym (fault_narrow (unfolding_of p) (program_narrow p h) n flies r.line) ∙ ap (edit_line_fault (unfolding_of p) n flies) (sym r.narrow) ∙ allowed in
      let same : read ≡ r.line = r.narrow ∙ allowed_same (unfolding_of p) (program_narrow p h) n flies r.line g in
      let done : DoesEdit (unfolding_of p) n next e r.line = record {
        says = subst (λ l. IsEdit (unfolding_of p) l e) same says;
        fits = fits;
        after_is = after ∙ ap (edited_network n) same;
      } in
      let judged : words_judged (unfolding_of p) n flies o ≡ Accepted r.line = ap (words_judged (unfolding_of p) n flies) r.says ∙ ap (λ q. unless_fault q r.line) g in
      subst (WhereAccepted (DoesEdit (unfolding_of p) n next e)) (sym judged) done
