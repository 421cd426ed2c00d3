-- What an answer of `parse` means.
use Rattle.std.proofs.Common.{◌≡◌, List, None, Result, Ok, Err}
use Rattle.std.specs.Prelude.{IfOk, IfErr}
use Rattle.fc_lexer.specs.Kinds.{TokenView}
use Rattle.fc_syntax.specs.declared.tree.Program.{Program}
use Rattle.fc_syntax.specs.Terms.{program_of}
use Rattle.fc_parser.specs.Programs.{pieces, First, Derives}
use Rattle.fc_parser.specs.Limits.{limit_passed}
use Rattle.fc_parser.specs.Faults.{Parses, Refuses}
use Rattle.fc_parser.specs.Places.{IsFault}
use Rattle.fc_parser.specs.Laws.{OneProgram, OneFault, NeverBoth, AlwaysOne}
use Rattle.fc_parser.specs.declared.faults.ParseFault.{ParseFault}
use Rattle.fc_parser.specs.declared.faults.ParseFault.TheVariants as fault
use Rattle.fc_parser.proofs.Order.{one_program, one_fault, never_both, outcome, either}

pub one_meaning : OneProgram
one_meaning tokens ds es f g = one_program (pieces tokens) First ds es f g

pub one_first : OneFault
one_first tokens number line other at f g = one_fault (pieces tokens) First 1 1 number line other at f g

pub not_both : NeverBoth
not_both tokens ds number line f g = never_both (pieces tokens) First 1 1 number line ds f g

pub one_of_them : AlwaysOne
one_of_them tokens = either First 1 1 (pieces tokens) (outcome (pieces tokens) First 1 1)

pub parses : (tokens : List TokenView) → limit_passed tokens ≡ None → (r : Result Program ParseFault) → IfOk r (λ p. Derives tokens (program_of p)) → IfOk r (λ p. Parses tokens (program_of p))
parses tokens within (Ok p) f = record { within = within; derives = f; only = λ others g. one_meaning tokens others (program_of p) g f }
parses tokens within (Err e) f = tt

refuses_as : (tokens : List TokenView) → limit_passed tokens ≡ None → (f : ParseFault) → IsFault tokens f → Refuses tokens f
refuses_as tokens within (fault.Tokens number count) h = absurd h
refuses_as tokens within (fault.Depth number) h = absurd h
refuses_as tokens within (fault.Syntax number line) h = record {
  within = within;
  at = h;
  only = λ n l g. one_first tokens n l number line g h;
  outside = λ ds g. not_both tokens ds number line g h;
}
refuses_as tokens within fault.Memory h = tt

pub refuses : (tokens : List TokenView) → limit_passed tokens ≡ None → (r : Result Program ParseFault) → IfErr r (λ f. IsFault tokens f) → IfErr r (λ f. Refuses tokens f)
refuses tokens within (Ok p) h = tt
refuses tokens within (Err f) h = refuses_as tokens within f h
