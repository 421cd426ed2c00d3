use Rattle.std.proofs.Common.{map, ap, ◌+◌, subst, ◌≡◌, Some, None}
use Rattle.fc_values.specs.Types.{input_of}
use Rattle.firing_core.specs.Entries.{edit_of}
use Rattle.edit_commands.specs.Scripts.{mixed_edit, firings_fault, with_firings, OfFirings}
use Rattle.edit_commands.specs.Code.{texts, line_of}
use Rattle.edit_commands.specs.ScriptCode.{progress_of, start_in}
use Rattle.edit_commands.proofs.ReadEdits.{same_inputs, is_read}
use Rattle.edit_commands.proofs.ScriptEdits.{mix_past, mix_ok, mix_refused, edit_within}
use Rattle.edit_commands.proofs.scripts.mix_line.Goals as goal

pub returns-in-Err-clause-refused : goal.returns-in-Err-clause-refused
returns-in-Err-clause-refused c =
    let is = same_inputs c.declared.result.now _ c.args.context.now.program.now.declared c.args.progress.now.net c.declared.ensures.value c.requires.declared (ap (map input_of) c.deref.ensures.value) in
    let read = is_read (λ ks. mixed_edit ks (texts c.args.words.now)) _ c.args.progress.now.net.declared.inputs c.in_ok-line.field-0 c.in-Some.line is c.in_ok-line.ensures.says c.in-Some.is in
    mix_past c.args.context.now.program.now c.declared.ensures.program (start_in c.args.context.now) (progress_of c.args.progress.now) _ (line_of c.in-Some.line) read c.args.rounds c.in-Err.count
    (subst (λ n. firings_fault (progress_of c.args.progress.now) (n + 1) ≡ Some (OfFirings c.in-Err.count)) c.from.ensures c.in-Err.ensures.refused)

pub returns-in-Ok-clause-ok : goal.returns-in-Ok-clause-ok
returns-in-Ok-clause-ok c =
    let is = same_inputs c.declared.result.now _ c.args.context.now.program.now.declared c.args.progress.now.net c.declared.ensures.value c.requires.declared (ap (map input_of) c.deref.ensures.value) in
    let read = is_read (λ ks. mixed_edit ks (texts c.args.words.now)) _ c.args.progress.now.net.declared.inputs c.in_ok-line.field-0 c.in-Some.line is c.in_ok-line.ensures.says c.in-Some.is in
    record {
      does = mix_ok c.args.context.now.program.now c.declared.ensures.program (start_in c.args.context.now) (progress_of c.args.progress.now) _ (line_of c.in-Some.line) read c.args.rounds (edit_of c.in-Ok.edit)
          (progress_of c.add_firings.new.progress) (progress_of c.do_line.new.progress)
          (subst (λ n. firings_fault (progress_of c.args.progress.now) (n + 1) ≡ None) c.from.ensures c.in_default-add_firings.ensures.allowed)
          (subst (λ n. progress_of c.add_firings.new.progress ≡ with_firings (progress_of c.args.progress.now) (n + 1)) c.from.ensures c.in_default-add_firings.ensures.ok)
          c.in-Ok.ensures.says c.in-Ok.ensures.fits c.in-Ok.ensures.allowed c.in-Ok.ensures.after;
      within = edit_within _ _ _ c.in_default-add_firings.ensures.within c.in-Ok.ensures.after;
    }

pub returns-in-Err-do_line-clause-refused : goal.returns-in-Err-do_line-clause-refused
returns-in-Err-do_line-clause-refused c =
    let is = same_inputs c.declared.result.now _ c.args.context.now.program.now.declared c.args.progress.now.net c.declared.ensures.value c.requires.declared (ap (map input_of) c.deref.ensures.value) in
    let read = is_read (λ ks. mixed_edit ks (texts c.args.words.now)) _ c.args.progress.now.net.declared.inputs c.in_ok-line.field-0 c.in-Some.line is c.in_ok-line.ensures.says c.in-Some.is in
    mix_refused c.args.context.now.program.now c.declared.ensures.program (start_in c.args.context.now) (progress_of c.args.progress.now) _ (line_of c.in-Some.line) read c.args.rounds c.args.context.now.number
    (progress_of c.add_firings.new.progress) c.in-Err-do_line.fault
    (subst (λ n. firings_fault (progress_of c.args.progress.now) (n + 1) ≡ None) c.from.ensures c.in_default-add_firings.ensures.allowed)
    (subst (λ n. progress_of c.add_firings.new.progress ≡ with_firings (progress_of c.args.progress.now) (n + 1)) c.from.ensures c.in_default-add_firings.ensures.ok)
    c.in-Err-do_line.ensures.refused
