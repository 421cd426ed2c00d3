-- What is left to print of an expression: a stack of pieces, the first of them on top.
use Rattle.std.specs.Prelude.{ℕ, ◌+◌, List, ◌++◌, codes, map, flat_map, reverse, sum_by, decimal}
use Rattle.fc_syntax.specs.Terms.{SourceTerm, IntTerm, TruthTerm, VarTerm, UidTerm, NbrLinkTerm, SenseTerm, ApplyTerm}
use Rattle.fc_syntax.specs.Terms.{NbrTerm, RepTerm, ShareTerm, IfTerm, LetTerm, CallTerm, SourceTerms, NoTerms, MoreTerms}
use Rattle.fc_syntax.specs.Terms.{terms, term_of}
use Rattle.fc_syntax.specs.Text.{text, operand_text, written, all_written, behind_commas}
use Rattle.fc_syntax.specs.declared.pieces.Piece.{Piece}
use Rattle.fc_syntax.specs.declared.pieces.Piece.TheVariants as piece

-- the text of a value that evolves, by the word and bracket that it begins with
abbrev pub evolution_text : List ℕ → SourceTerm → List ℕ → SourceTerm → List ℕ
evolution_text word e x b = word ++ text e ++ codes "){(" ++ x ++ codes ") => " ++ text b ++ codes "}"

-- the text of a piece
abbrev pub piece_text : Piece → List ℕ
piece_text (piece.Text bytes) = bytes.now
piece_text (piece.Number n) = decimal n
piece_text (piece.Whole e) = text (term_of e.now)
piece_text (piece.Operand e asks) = operand_text asks (written (term_of e.now))
piece_text (piece.Rest es) = behind_commas (map (λ w. w.text) (all_written (terms (map term_of es.now))))

-- the text of pieces, the first of them first
abbrev pub pieces_text : List Piece → List ℕ
pieces_text = flat_map piece_text

-- what is left to print, from the top of the stack
abbrev pub stack_text : List Piece → List ℕ
stack_text pieces = pieces_text (reverse pieces)

-- a bound on how many pieces an expression comes to
abbrev mutual
  pub weight : SourceTerm → ℕ
  weight (IntTerm n) = 2
  weight (TruthTerm b) = 2
  weight (VarTerm x) = 2
  weight UidTerm = 2
  weight NbrLinkTerm = 2
  weight (SenseTerm x) = 3
  weight (ApplyTerm b es) = 10 + weights es
  weight (NbrTerm e) = 3 + weight e
  weight (RepTerm e x b) = 6 + weight e + weight b
  weight (ShareTerm e x b) = 6 + weight e + weight b
  weight (IfTerm c a b) = 5 + weight c + weight a + weight b
  weight (LetTerm x a b) = 5 + weight a + weight b
  weight (CallTerm f es) = 10 + weights es

  pub weights : SourceTerms → ℕ
  weights NoTerms = 0
  weights (MoreTerms e es) = 2 + weight e + weights es

abbrev pub piece_weight : Piece → ℕ
piece_weight (piece.Text bytes) = 1
piece_weight (piece.Number n) = 1
piece_weight (piece.Whole e) = weight (term_of e.now)
piece_weight (piece.Operand e asks) = 3 + weight (term_of e.now)
piece_weight (piece.Rest es) = 1 + weights (terms (map term_of es.now))

abbrev pub pieces_weight : List Piece → ℕ
pieces_weight = sum_by piece_weight
