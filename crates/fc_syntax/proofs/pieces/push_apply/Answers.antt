use Rattle.std.proofs.Common.{◌≡◌, map, rules}
use Rattle.fc_syntax.specs.Terms.{term_of, terms}
use Rattle.fc_syntax.specs.Text.{all_written, apply_text, builtin_word, call_text}
use Rattle.fc_syntax.proofs.Stacks.{as_call}
use Rattle.fc_syntax.proofs.pieces.push_apply.Goals as goal
use Rattle.fc_syntax.proofs.pieces.push_apply.Goals.{in_default-via-then-args-lt1, in_default-via-in-len1+else-own-eq6, in_default-via-in-len2+else-own-lt6, in_default-via-else-args-lt1+else-args-lt2+else-args-lt3}

pub returns-in_default-clause-text : goal.returns-in_default-clause-text
returns-in_default-clause-text c =
    let written = all_written (terms (map term_of c.args.args.now)) in
    let called : apply_text c.args.builtin written ≡ call_text (builtin_word c.args.builtin) written =
    elim c.in_default.branch [
      | in_default-via-then-args-lt1 w ↦ as_call c.args.builtin c.args.args.now (λ len own. search rules) (λ len. search rules)
      | in_default-via-in-len1+else-own-eq6 w ↦ as_call c.args.builtin c.args.args.now (λ len own. search rules) (λ len. search rules)
      | in_default-via-in-len2+else-own-lt6 w ↦ as_call c.args.builtin c.args.args.now (λ len own. search rules) (λ len. search rules)
      | in_default-via-else-args-lt1+else-args-lt2+else-args-lt3 w ↦ as_call c.args.builtin c.args.args.now (λ len own. search rules) (λ len. search rules)
    ] in
    search (rules, called)
