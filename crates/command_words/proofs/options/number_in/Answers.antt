use Rattle.std.proofs.Common.{◌≡◌, rules, ap, option_and_then, ◌∙◌}
use Rattle.clap.specs.Words.{first_value, found_of}
use Rattle.clap.proofs.WalkLemmas.{first_value-rows}
use Rattle.fc_values.specs.Numbers.{number_of}
use Rattle.command_words.proofs.options.number_in.Goals as goal

pub returns-in_err-text : goal.returns-in_err-text
returns-in_err-text c =
    let found = found_of c.args.matches.now in
    let none : c.from_residual.result ≡ option_and_then number_of (first_value found c.args.id.now) = search rules in
    none ∙ ap (option_and_then number_of) (first_value-rows found c.args.id.now)

pub returns : goal.returns
returns c =
    let found = found_of c.args.matches.now in
    let some : c.number.result ≡ option_and_then number_of (first_value found c.args.id.now) = search rules in
    some ∙ ap (option_and_then number_of) (first_value-rows found c.args.id.now)
