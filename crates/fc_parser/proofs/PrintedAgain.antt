-- The canonical text is read again, by the lexer's laws.
use Rattle.std.proofs.Common.{◌≡◌, List, [], subst, append-nil, ◌∙◌, refl, sym, None}
use Rattle.fc_lexer.specs.Kinds.{TokenView}
use Rattle.fc_lexer.specs.Lexes.{Lexes}
use Rattle.fc_lexer.specs.Apart.{ReadsBack, StandApart}
use Rattle.fc_lexer.specs.Laws.{OneList, NeverBoth}
use Rattle.fc_syntax.specs.Terms.{Declaration}
use Rattle.fc_syntax.specs.Text.{program_text}
use Rattle.fc_parser.specs.declared.faults.ParseFault.{ParseFault}
use Rattle.fc_parser.specs.declared.faults.ParseFault.TheVariants as fault
use Rattle.fc_parser.specs.Programs.{First, Derives}
use Rattle.fc_parser.specs.Limits.{limit_passed}
use Rattle.fc_parser.specs.Faults.{Refuses}
use Rattle.fc_parser.specs.RoundTrip.{RoundTrip, EachReading, NeverStops, SameProgram, RefusesNothing}
use Rattle.fc_parser.proofs.PrintedPrograms.{PrintedFrom, program_form}

read_from : (ds : List Declaration) → ReadsBack → PrintedFrom First ds → (tokens : List TokenView) × Lexes (program_text ds) tokens × Derives tokens ds
read_from ds back p =
    let apart : StandApart p.run.run = subst StandApart (append-nil p.run.run) (p.run.apart [] tt tt) in
    let read = back p.run.run apart in
    (read.0, subst (λ l. Lexes l read.0) p.run.text_is read.1, p.follows read.0 (read.2 ∙ p.run.kinds_are))

pub round : ReadsBack → RoundTrip
round back ds h = read_from ds back (program_form ds h)

pub each_reading : ReadsBack → OneList → EachReading
each_reading back one ds tokens h l =
    let read = round back ds h in
    subst (λ ts. Derives ts ds) (one (program_text ds) read.0 tokens read.1 l) read.2

pub never_stops : ReadsBack → NeverBoth → NeverStops
never_stops back both ds i h s = let read = round back ds h in both (program_text ds) i read.0 s read.1

pub same_program : ReadsBack → OneList → SameProgram
same_program back one ds others tokens h l p = sym (p.only ds (each_reading back one ds tokens h l))

no_refusal : (ds : List Declaration) (tokens : List TokenView) (f : ParseFault) → Derives tokens ds → limit_passed tokens ≡ None → Refuses tokens f → f ≡ fault.Memory
no_refusal ds tokens (fault.Tokens number count) d n r = cc
no_refusal ds tokens (fault.Depth number) d n r = cc
no_refusal ds tokens (fault.Syntax number line) d n r = absurd (r.outside ds d)
no_refusal ds tokens fault.Memory d n r = refl

pub refuses_nothing : ReadsBack → OneList → RefusesNothing
refuses_nothing back one ds tokens f h l n r = no_refusal ds tokens f (each_reading back one ds tokens h l) n r
