-- The inputs of a program's text have names of the language.
use Rattle.std.proofs.Common.{Bool, List, [], ◌∷◌, sym, subst}
use Rattle.std.specs.List.{All}
use Rattle.std.proofs.lemmas.List.Elements.{All-nil, All-push}
use Rattle.fc_values.specs.Names.{IsName}
use Rattle.fc_values.specs.Types.{Input}
use Rattle.fc_nodes.specs.Program.{Unfolding}
use Rattle.fc_syntax.specs.Printable.{IsPrintable, BeginWithCeiling, EndWithMain, IsInner}
use Rattle.fc_syntax.specs.Terms.{Declaration, LanguageIs, CeilingIs, InputIs, MetricIs, DefIs, MainIs}
use Rattle.fc_types.specs.Before.{Earlier, nothing_declared, with_declaration, with_declarations}
use Rattle.fc_parser.specs.Laws.{DerivedIsPrintable}
use Rattle.command_frame.specs.Inputs.{TextsNameInputs}

abbrev Named : Input → Type 0
Named i = IsName i.name

abbrev AreNamed : Earlier → Type 0
AreNamed B = All Named B.inputs

inner_named : (second : Bool) (B : Earlier) (d : Declaration) → IsInner second d → AreNamed B → AreNamed (with_declaration B d)
inner_named second B (LanguageIs n) h g = absurd h
inner_named second B (CeilingIs n) h g = absurd h
inner_named second B (InputIs x t) h g = All-push Named B.inputs (record { name = x; type = t }) g h.0
inner_named second B (MetricIs least greatest) h g = g
inner_named second B (DefIs f ps t e) h g = g
inner_named second B (MainIs e) h g = absurd h

end_named : (second : Bool) (B : Earlier) (ds : List Declaration) → EndWithMain second ds → AreNamed B → AreNamed (with_declarations B ds)
end_named second B [] h g = absurd h
end_named second B (LanguageIs n ∷ []) h g = absurd h
end_named second B (CeilingIs n ∷ []) h g = absurd h
end_named second B (InputIs x t ∷ []) h g = absurd h
end_named second B (MetricIs least greatest ∷ []) h g = absurd h
end_named second B (DefIs f ps t e ∷ []) h g = absurd h
end_named second B (MainIs e ∷ []) h g = g
end_named second B (d ∷ next ∷ ds) h g = end_named second (with_declaration B d) (next ∷ ds) h.1 (inner_named second B d h.0 g)

begin_named : (second : Bool) (B : Earlier) (ds : List Declaration) → BeginWithCeiling second ds → AreNamed B → AreNamed (with_declarations B ds)
begin_named second B [] h g = absurd h
begin_named second B (LanguageIs n ∷ ds) h g = absurd h
begin_named second B (CeilingIs n ∷ ds) h g = end_named second (with_declaration B (CeilingIs n)) ds h.1 g
begin_named second B (InputIs x t ∷ ds) h g = absurd h
begin_named second B (MetricIs least greatest ∷ ds) h g = absurd h
begin_named second B (DefIs f ps t e ∷ ds) h g = absurd h
begin_named second B (MainIs e ∷ ds) h g = absurd h

all_named : (B : Earlier) (ds : List Declaration) → IsPrintable ds → AreNamed B → AreNamed (with_declarations B ds)
all_named B [] h g = absurd h
all_named B (LanguageIs n ∷ ds) h g = begin_named _ B ds h.1 g
all_named B (CeilingIs n ∷ ds) h g = begin_named _ B (CeilingIs n ∷ ds) h g
all_named B (InputIs x t ∷ ds) h g = absurd h
all_named B (MetricIs least greatest ∷ ds) h g = absurd h
all_named B (DefIs f ps t e ∷ ds) h g = absurd h
all_named B (MainIs e ∷ ds) h g = absurd h

pub names_inputs : DerivedIsPrintable → TextsNameInputs
names_inputs printable text U h =
    let s = h.source in
    subst (λ (V : Unfolding). All Named V.declared.inputs) (sym h.unfolds)
    (all_named nothing_declared h.declarations (printable text s.tokens h.declarations s.lexes s.derives) (All-nil Named))
