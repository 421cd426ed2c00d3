-- The nodes of a whole program.
use Rattle.std.proofs.Common.{◌≡◌, refl, sym, ap, ◌∙◌, ℕ, ◌<◌, ◌≤◌, ◌^◌, arith, List, [], ◌++◌, length, map, take}
use Rattle.std.proofs.lemmas.List.{length-map, take_all}
use Rattle.fc_values.specs.declared.types.Ty.{Ty}
use Rattle.fc_values.specs.Types.{Declarations}
use Rattle.fc_syntax.specs.Printable.{IsPrintable}
use Rattle.fc_syntax.specs.Terms.{SourceTerm, Declaration}
use Rattle.fc_types.specs.Before.{Function, Earlier, nothing_declared, with_declarations, declared_by}
use Rattle.fc_types.specs.Typing.{IsTyped}
use Rattle.fc_nodes.specs.declared.nodes.Node.{Node}
use Rattle.fc_nodes.specs.Terms.{view_of, term_at}
use Rattle.fc_nodes.specs.Program.{IsProgram, unfolding_of}
use Rattle.unfold.specs.Nodes.{Nodes, listed}
use Rattle.unfold.specs.Laws.{ProgramsUnfold, UnfoldingIsProgram}
use Rattle.unfold.specs.Unfolding.{meanings, unfolded, main_expression, main_term}
use Rattle.unfold.specs.Writing.{IsWritten, unfolded_in}
use Rattle.unfold.proofs.Listing.{read_back, well_formed}
use Rattle.unfold.proofs.Made.{term_made}
use Rattle.unfold.proofs.Sizes.{listed_long}
use Rattle.unfold.proofs.Programs.{few_inputs, unfolding_typed, declared_lawful}

pub is_program : UnfoldingIsProgram
is_program ds ns h a few e short =
    let t = unfolding_typed ds h a in
    let r : term_at ns 0 ≡ main_term ds = read_back ns (main_term ds) e in
    record {
      lawful = declared_lawful ds h a few;
      formed = well_formed ns (main_term ds) e;
      typed = rw r t.1.0;
      root = (t.0, rw r t.1.1);
      short = short;
    }

-- with declarations that are those of the program
pub whole_program : (ds : List Declaration) (D : Declarations) (ns : List Node) → D ≡ declared_by ds → IsPrintable ds → IsTyped ds → length ds < 2 ^ 32 → map view_of ns ≡ Nodes ds → length (Nodes ds) ≤ 2048 →
    IsProgram (record { declared = D; nodes = ns })
whole_program ds D ns d h a few e short =
    let l : length ns ≡ length (Nodes ds) = sym (length-map ns view_of) ∙ ap length e in
    rw d (is_program ds ns h a few e (omega (arith, l, short)))

pub whole_unfolding : (ds : List Declaration) (D : Declarations) (ns : List Node) → D ≡ declared_by ds → map view_of ns ≡ Nodes ds →
    unfolding_of (record { declared = D; nodes = ns }) ≡ record { declared = declared_by ds; main = main_term ds }
whole_unfolding ds D ns d e = let r = read_back ns (main_term ds) e in rw (d, r) refl

pub few_known : (ds : List Declaration) (B : Earlier) → B ≡ with_declarations nothing_declared ds → length ds < 2 ^ 32 → length B.inputs < 2 ^ 32
few_known ds B b few = let f = few_inputs ds nothing_declared in rw b (omega (arith, f, few))

pub main_written : (ds : List Declaration) (B : Earlier) (n : ℕ) (e : SourceTerm) (N0 N1 : List Node) (t : Ty) → B ≡ with_declarations nothing_declared ds → n ≡ length B.functions → e ≡ main_expression ds → N0 ≡ [] →
    IsWritten N0 N1 t (unfolded_in B n [] (length N0) e) → map view_of N1 ≡ Nodes ds
main_written ds B n e N0 N1 t b l m z w =
    let all : take n B.functions ≡ B.functions = take_all n B.functions (omega arith) in
    w.nodes ∙ ap (λ (ns : List Node). map view_of ns ++ listed (length ns) (unfolded_in B n [] (length ns) e)) z
    ∙ ap (λ (fs : List Function). listed 0 (unfolded B.inputs (meanings B.inputs [] fs) [] 0 e)) all
    ∙ ap (λ (A : Earlier). listed 0 (unfolded A.inputs (meanings A.inputs [] A.functions) [] 0 e)) b
    ∙ ap (λ (x : SourceTerm). listed 0 (unfolded (with_declarations nothing_declared ds).inputs (meanings (with_declarations nothing_declared ds).inputs [] (with_declarations nothing_declared ds).functions) [] 0 x)) m

-- nodes in code that are those of the program
pub programs_unfold : ProgramsUnfold
programs_unfold ds h a few small =
    let long = listed_long (main_term ds) 0 in
    let made = term_made (main_term ds) (omega (arith, long, small)) in
    let many : length made.0 ≡ length (Nodes ds) = sym (length-map made.0 view_of) ∙ ap length made.1 in
    record {
      program = record { declared = declared_by ds; nodes = made.0 };
      is = is_program ds made.0 h a few made.1 (omega (arith, many, small));
      unfolds = whole_unfolding ds (declared_by ds) made.0 refl made.1;
    }
