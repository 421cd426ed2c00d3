-- Types and parameters, as they are printed.
use Rattle.std.proofs.Common.{List, [], ◌∷◌, ◌++◌, map, codes, refl, ap, sym, append_assoc}
use Rattle.fc_values.specs.Types.{LocalType, IntType, BoolType, PairType, ValueType, TypeLocal, TypeField}
use Rattle.fc_lexer.specs.declared.tokens.Mark.TheVariants as mark
use Rattle.fc_values.specs.declared.names.Word.TheVariants as word
use Rattle.fc_lexer.specs.Kinds.{TokenKind, WordOf, NameOf, MarkOf}
use Rattle.fc_syntax.specs.Terms.{Parameter}
use Rattle.fc_syntax.specs.Text.{behind_commas, with_commas, local_type_text, type_text, parameter_text}
use Rattle.fc_values.specs.Names.{IsName}
use Rattle.fc_syntax.specs.Printable.{HaveNames}
use Rattle.fc_parser.specs.Grammar.{LocalIs, int_type, bool_type, pair_type, TypeIs, local_type, field_type, ParameterIs, parameter, MoreParametersAre, ParametersAre}
use Rattle.fc_parser.proofs.PrintedRuns.{InWord, InSpace, Free, Meets, Inner, join, loose, as_is, meets_more}
use Rattle.fc_parser.proofs.PrintedSeams.{seam_three, seam_four}
use Rattle.fc_parser.proofs.PrintedMarks.{open_round, close_round, comma, colon, space}
use Rattle.fc_parser.proofs.PrintedWords.{spelled}
use Rattle.fc_parser.proofs.PrintedNames.{name_run, name_starts}
use Rattle.fc_parser.proofs.PrintedForms.{Printed}

pub local_form : (t : LocalType) → Printed (λ ks. LocalIs ks t) (local_type_text t)
local_form IntType = record { ks = WordOf word.Int ∷ []; inner = spelled word.Int; starts = refl; derives = int_type }
local_form BoolType = record { ks = WordOf word.Bool ∷ []; inner = spelled word.Bool; starts = refl; derives = bool_type }
local_form (PairType s t) =
    let p = local_form s in
    let q = local_form t in
    let behind = join comma (join space (join q.inner close_round refl) (meets_more InSpace (local_type_text t) (codes ")") q.starts)) tt in
    record {
      ks = _;
      inner = loose (as_is (ap (λ l. codes "(" ++ l) (seam_four (local_type_text s) (codes ", ") (local_type_text t) (codes ")"))) refl (join open_round (join p.inner behind refl) tt));
      starts = refl;
      derives = pair_type p.ks q.ks s t p.derives q.derives;
    }

pub type_form : (t : ValueType) → Printed (λ ks. TypeIs ks t) (type_text t)
type_form (TypeLocal t) = let p = local_form t in record { ks = p.ks; inner = p.inner; starts = p.starts; derives = local_type p.ks t p.derives }
type_form (TypeField t) =
    let p = local_form t in
    record { ks = WordOf word.Field ∷ p.ks; inner = join (spelled word.Field) (join space p.inner p.starts) refl; starts = refl; derives = field_type p.ks t p.derives }

pub parameter_form : (p : Parameter) → IsName p.name → Printed (λ ks. ParameterIs ks p) (parameter_text p)
parameter_form p h =
    let t = type_form p.type in
    record {
      ks = NameOf p.name ∷ MarkOf mark.Colon ∷ t.ks;
      inner = as_is (seam_three p.name (codes ": ") (type_text p.type)) refl (join (name_run p.name h) (join colon (join space t.inner t.starts) tt) refl);
      starts = meets_more InSpace (p.name ++ codes ": ") (type_text p.type) (meets_more InSpace p.name (codes ": ") (name_starts p.name h));
      derives = parameter p.name t.ks p.type t.derives;
    }

-- what stands behind a parameter, up to the closing bracket
record Tail (ps : List Parameter) : Type 0 where
  ks : List TokenKind
  inner : Inner Free (behind_commas (map parameter_text ps) ++ codes ")") (ks ++ (MarkOf mark.CloseRound ∷ []))
  starts : Meets InWord (behind_commas (map parameter_text ps) ++ codes ")")
  derives : MoreParametersAre ks ps

tail : (ps : List Parameter) → HaveNames ps → Tail ps
tail [] h = record { ks = []; inner = close_round; starts = refl; derives = MoreParametersAre.no_more }
tail (p ∷ ps) h =
    let here = parameter_form p h.0 in
    let t = tail ps h.1 in
    record {
      ks = MarkOf mark.Comma ∷ (here.ks ++ t.ks);
      inner =
          as_is
          (ap (λ l. 44 ∷ 32 ∷ l) (sym (append_assoc (parameter_text p) (behind_commas (map parameter_text ps)) (codes ")"))))
          (ap (λ l. MarkOf mark.Comma ∷ l) (sym (append_assoc here.ks t.ks (MarkOf mark.CloseRound ∷ []))))
          (join comma (join space (join here.inner t.inner t.starts) (meets_more InSpace (parameter_text p) (behind_commas (map parameter_text ps) ++ codes ")") here.starts)) tt);
      starts = refl;
      derives = MoreParametersAre.more here.ks t.ks p ps here.derives t.derives;
    }

-- parameters, up to the closing bracket
pub record Opened (ps : List Parameter) : Type 0 where
  pub ks : List TokenKind
  pub inner : Inner Free (with_commas (map parameter_text ps) ++ codes ")") (ks ++ (MarkOf mark.CloseRound ∷ []))
  pub derives : ParametersAre ks ps

pub opened : (ps : List Parameter) → HaveNames ps → Opened ps
opened [] h = record { ks = []; inner = close_round; derives = ParametersAre.none }
opened (p ∷ ps) h =
    let here = parameter_form p h.0 in
    let t = tail ps h.1 in
    record {
      ks = here.ks ++ t.ks;
      inner =
          as_is
          (sym (append_assoc (parameter_text p) (behind_commas (map parameter_text ps)) (codes ")")))
          (sym (append_assoc here.ks t.ks (MarkOf mark.CloseRound ∷ [])))
          (join here.inner t.inner t.starts);
      derives = ParametersAre.some here.ks t.ks p ps here.derives t.derives;
    }
