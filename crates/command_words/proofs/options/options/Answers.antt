use Rattle.std.proofs.Common.{◌+◌, drop, fold, map, sym, ap, ap₂, ◌∙◌, arith}
use Rattle.std.proofs.lemmas.List.{drop_all}
use Rattle.std.proofs.lemmas.Bool.Decides.{nat_tests}
use Rattle.clap.specs.Words.{app_of, with_rule}
use Rattle.command_words.specs.Options.{options_of, rule_as, rule_for}
use Rattle.command_words.proofs.Taken.{front_at}
use Rattle.command_words.proofs.options.options.Goals as goal

pub kinds-init : goal.kinds-init
unfolding options_of
kinds-init c = ap₂ (λ a ks. fold with_rule a (map rule_for ks)) c.plain-command.ensures c.taken-kinds.ensures

pub kinds-preserved : goal.kinds-preserved
kinds-preserved c =
    let rest = map rule_for (drop (c.kinds.kind-index + 1) c.taken-kinds.result.now) in
    let rule = c.argument-argument.ensures.rule ∙ ap (rule_as _) c.id.ensures in
    let shape = c.in_ok-command.ensures.shape c.argument-argument.ensures.local
    ∙ ap (with_rule (app_of c.kinds.command)) rule in
    ap (λ a. fold with_rule a rest) shape
    ∙ ap (fold with_rule (app_of c.kinds.command))
    (sym (front_at rule_for c.taken-kinds.result.now c.kinds.kind-index _ c.kinds-test.true))
    ∙ c.kinds.invariant

pub returns : goal.returns
returns c =
    ap (λ ks. fold with_rule (app_of c.kinds.command) (map rule_for ks))
    (sym (drop_all c.kinds.kind-index c.taken-kinds.result.now (grind (arith, nat_tests))))
    ∙ c.kinds.invariant
