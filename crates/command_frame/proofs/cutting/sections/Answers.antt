use Rattle.std.proofs.Common.{ap, ◌∙◌, sym, subst, map, length}
use Rattle.std.proofs.lemmas.List.{map-append}
use Rattle.fc_values.specs.declared.limits.TheConstants.{MOST_BYTES}
use Rattle.command_frame.proofs.Cut.{IsCutTo, cut_first, cut_last, slice_separator, slice_line}
use Rattle.command_frame.proofs.SectionSizes.{more_room, within_input}
use Rattle.command_frame.proofs.cutting.sections.Goals as goal

pub lines-init : goal.lines-init
lines-init c = subst (λ f. IsCutTo c.args.input.now f 0 0) (sym (ap (map (λ s. s.now)) c.new-found.ensures.items)) (cut_first c.args.input.now)

pub lines-preserved-in_ok-push : goal.lines-preserved-in_ok-push
lines-preserved-in_ok-push c =
    slice_separator _ _ _ _ _ _ _ c.lines.invariant c.lines-test.true c.first_line.ensures.size c.first_line.ensures.within c.separates.ensures c.if-separates.true
    (ap (map (λ s. s.now)) c.in_ok-push.ensures.items ∙ map-append _ _ _)

pub lines-preserved : goal.lines-preserved
lines-preserved c =
    slice_line _ _ _ _ _ _ c.lines.invariant c.lines-test.true c.first_line.ensures.size c.first_line.ensures.within c.separates.ensures c.if-separates.false

pub returns-clause-sections : goal.returns-clause-sections
returns-clause-sections c = ap (map (λ s. s.now)) c.in_ok-push-2.ensures.items ∙ map-append _ _ _ ∙ cut_last _ _ _ _ c.lines.invariant c.lines-test.false

pub returns-clause-within : goal.returns-clause-within
returns-clause-within c =
    more_room (length c.args.input.now) MOST_BYTES _ c.requires
    (within_input c.args.input.now _ (returns-clause-sections c))
