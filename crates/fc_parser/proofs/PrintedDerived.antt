-- What a text's tokens derive can be printed.
use Rattle.std.proofs.Common.{ℕ, ◌≡◌, Bool, true, false, if◌then◌else◌, List, [], ◌∷◌, ◌++◌, refl, sym, subst, Some}
use Rattle.fc_values.specs.declared.builtins.Builtin.{Builtin}
use Rattle.fc_values.specs.declared.builtins.Builtin.TheVariants as b
use Rattle.fc_lexer.specs.declared.tokens.Mark.TheVariants as mark
use Rattle.fc_values.specs.declared.names.Word.TheVariants as word
use Rattle.fc_lexer.specs.Kinds.{TokenKind, WordOf, MarkOf, TokenView}
use Rattle.fc_lexer.specs.Lexes.{Lexes}
use Rattle.fc_syntax.specs.Terms.{SourceTerm, SourceTerms, Parameter, Declaration, LanguageIs, CeilingIs, InputIs, MetricIs, DefIs, MainIs}
use Rattle.fc_values.specs.BuiltinTypes.{arity}
use Rattle.fc_syntax.specs.Printable.{IsNumber, IsOfLanguage, IsExpression, AreExpressions, HaveNames, IsInner, EndWithMain, BeginWithCeiling, IsPrintable}
use Rattle.fc_parser.specs.Grammar.{Expression, Operation, Atom, Arguments, MoreArguments, ParameterIs, MoreParametersAre, ParametersAre, DeclarationIs, operator}
use Rattle.fc_parser.specs.Programs.{kinds, is_semi, onto_piece, pieces, Place, First, AfterLanguage, AfterCeiling, AfterMain, is_second, next_place, Follow, Derives}
use Rattle.fc_parser.proofs.PrintedLexed.{IsNamed, AreNamed, names_lexed}

-- the names among kinds are names
abbrev Named : List TokenKind → Type 0
Named [] = Unit {0}
Named (k ∷ ks) = IsNamed k × Named ks

front : (ks ls : List TokenKind) → Named (ks ++ ls) → Named ks
front [] ls h = tt
front (k ∷ ks) ls h = (h.0, front ks ls h.1)

back : (ks ls : List TokenKind) → Named (ks ++ ls) → Named ls
back [] ls h = h
back (k ∷ ks) ls h = back ks ls h.1

some_is : {A : Type 0} (a c : A) → Some a ≡ Some c → a ≡ c
some_is a c e = cc

-- an operator is of both languages, and has two operands
operator_is : (second : Bool) (k : TokenKind) (o : Builtin) → operator k ≡ Some o → IsOfLanguage second o × (2 ≡ arity o)
operator_is second (WordOf word.Or) o e = subst (λ p. IsOfLanguage second p × (2 ≡ arity p)) (some_is b.Or o e) (tt, refl)
operator_is second (WordOf word.And) o e = subst (λ p. IsOfLanguage second p × (2 ≡ arity p)) (some_is b.And o e) (tt, refl)
operator_is second (MarkOf mark.Less) o e = subst (λ p. IsOfLanguage second p × (2 ≡ arity p)) (some_is b.Less o e) (tt, refl)
operator_is second (MarkOf mark.Is) o e = subst (λ p. IsOfLanguage second p × (2 ≡ arity p)) (some_is b.Equal o e) (tt, refl)
operator_is second (MarkOf mark.Plus) o e = subst (λ p. IsOfLanguage second p × (2 ≡ arity p)) (some_is b.Add o e) (tt, refl)
operator_is second (MarkOf mark.Minus) o e = subst (λ p. IsOfLanguage second p × (2 ≡ arity p)) (some_is b.Sub o e) (tt, refl)
operator_is second (MarkOf mark.Star) o e = subst (λ p. IsOfLanguage second p × (2 ≡ arity p)) (some_is b.Mul o e) (tt, refl)
operator_is second k o e = cc

mutual
  of_expression : {second : Bool} {ks : List TokenKind} {e : SourceTerm} → Expression second ks e → Named ks → IsExpression second e
  of_expression (Expression.binding x ts us e f d g) h = (h.1.0, of_expression d (front ts _ h.1.1.1), of_expression g (back ts (WordOf word.In ∷ us) h.1.1.1).1)
  of_expression (Expression.operation ts e d) h = of_operation d h

  of_operation : {second : Bool} {n : ℕ} {ks : List TokenKind} {e : SourceTerm} → Operation second n ks e → Named ks → IsExpression second e
  of_operation {second} (Operation.between n k o ts us e f p q d g) h =
      let l = operator_is second k o p in
      (l.0, l.1, (of_operation d (front ts _ h), (of_operation g (back ts (k ∷ us) h).1, tt)))
  of_operation (Operation.negation n ts e p d) h = (tt, refl, (of_operation d h.1, tt))
  of_operation (Operation.stronger n ts e d) h = of_operation d h
  of_operation (Operation.atom n ts e p d) h = of_atom d h

  of_atom : {second : Bool} {ks : List TokenKind} {e : SourceTerm} → Atom second ks e → Named ks → IsExpression second e
  of_atom (Atom.number n l) h = l
  of_atom Atom.yes h = tt
  of_atom Atom.no h = tt
  of_atom Atom.uid h = tt
  of_atom Atom.nbr_link h = tt
  of_atom (Atom.variable x) h = h.0
  of_atom (Atom.sense x) h = h.1.0
  of_atom (Atom.call f ts es d) h = (h.0, of_arguments d (front ts _ h.1.1))
  of_atom (Atom.builtin w o ts es p l c d) h = (l, c, of_arguments d (front ts _ h.1.1))
  of_atom (Atom.nbr ts e d) h = of_expression d (front ts _ h.1.1)
  of_atom (Atom.rep x ts us e f d g) h =
      let behind = (back ts _ h.1.1).1.1.1 in
      (of_expression d (front ts _ h.1.1), behind.0, of_expression g (front us _ behind.1.1.1))
  of_atom (Atom.share x ts us e f s d g) h =
      let behind = (back ts _ h.1.1).1.1.1 in
      (s, of_expression d (front ts _ h.1.1), behind.0, of_expression g (front us _ behind.1.1.1))
  of_atom (Atom.choice ts us vs c e f a d g) h =
      let one = (back ts _ h.1.1).1.1 in
      let two = (back us _ one).1.1 in
      (of_expression a (front ts _ h.1.1), of_expression d (front us _ one), of_expression g (front vs _ two))
  of_atom (Atom.bracket ts e d) h = of_expression d (front ts _ h.1)
  of_atom (Atom.pair ts us e f d g) h = (tt, refl, (of_expression d (front ts _ h.1), (of_expression g (front us _ (back ts _ h.1).1), tt)))

  of_arguments : {second : Bool} {ks : List TokenKind} {es : SourceTerms} → Arguments second ks es → Named ks → AreExpressions second es
  of_arguments Arguments.none h = tt
  of_arguments (Arguments.some ts us e es d g) h = (of_expression d (front ts us h), of_more g (back ts us h))

  of_more : {second : Bool} {ks : List TokenKind} {es : SourceTerms} → MoreArguments second ks es → Named ks → AreExpressions second es
  of_more MoreArguments.no_more h = tt
  of_more (MoreArguments.more ts us e es d g) h = (of_expression d (front ts us h.1), of_more g (back ts us h.1))

of_more_parameters : {ks : List TokenKind} {ps : List Parameter} → MoreParametersAre ks ps → Named ks → HaveNames ps
of_more_parameters MoreParametersAre.no_more h = tt
of_more_parameters (MoreParametersAre.more ts us p ps (ParameterIs.parameter x vs t d) g) h = (h.1.0, of_more_parameters g (back ts us h.1))

of_parameters : {ks : List TokenKind} {ps : List Parameter} → ParametersAre ks ps → Named ks → HaveNames ps
of_parameters ParametersAre.none h = tt
of_parameters (ParametersAre.some ts us p ps (ParameterIs.parameter x vs t d) g) h = (h.0, of_more_parameters g (back ts us h))

-- a declaration of the grammar, at whatever place
abbrev IsDeclared : Bool → Declaration → Type 0
IsDeclared second (LanguageIs n) = n ≡ 2
IsDeclared second (CeilingIs n) = IsNumber n
IsDeclared second (InputIs x t) = IsInner second (InputIs x t)
IsDeclared second (MetricIs least greatest) = IsInner second (MetricIs least greatest)
IsDeclared second (DefIs f ps t e) = IsInner second (DefIs f ps t e)
IsDeclared second (MainIs e) = IsExpression second e

of_declaration : {second : Bool} {ks : List TokenKind} {d : Declaration} → DeclarationIs second ks d → Named ks → IsDeclared second d
of_declaration DeclarationIs.language h = refl
of_declaration (DeclarationIs.ceiling n l) h = l
of_declaration (DeclarationIs.truth_input x) h = (h.1.0, tt)
of_declaration (DeclarationIs.whole_input x least greatest l g) h = (h.1.0, (l, g))
of_declaration (DeclarationIs.metric least greatest l g) h = (l, g)
of_declaration (DeclarationIs.definition f ts us vs ps t e p q d) h =
    let behind = (back ts _ h.1.1.1).1.1 in
    (h.1.0, of_parameters p (front ts _ h.1.1.1), of_expression d (front vs _ (back us _ behind).1))
of_declaration (DeclarationIs.main ts e d) h = of_expression d (front ts _ h.1.1)

-- what may stand from a place on
abbrev Prints : Place → List Declaration → Type 0
Prints First ds = IsPrintable ds
Prints AfterLanguage ds = BeginWithCeiling true ds
Prints (AfterCeiling second) ds = EndWithMain second ds
Prints (AfterMain second) ds = ds ≡ []

place_is : (a c : Place) (ds : List Declaration) → Some a ≡ Some c → Prints c ds → Prints a ds
place_is a c ds e h = subst (λ p. Prints p ds) (sym (some_is a c e)) h

inner_then : (second : Bool) (d : Declaration) (ds : List Declaration) → IsInner second d → EndWithMain second ds → EndWithMain second (d ∷ ds)
inner_then second d [] i h = absurd h
inner_then second d (e ∷ ds) i h = (i, h)

main_then : (second : Bool) (e : SourceTerm) (ds : List Declaration) → IsExpression second e → ds ≡ [] → EndWithMain second (MainIs e ∷ ds)
main_then second e ds i h = subst (λ l. EndWithMain second (MainIs e ∷ l)) (sym h) i

of_then : (place after : Place) (d : Declaration) (ds : List Declaration) → next_place place d ≡ Some after → IsDeclared (is_second place) d → Prints after ds → Prints place (d ∷ ds)
of_then First after (LanguageIs n) ds o g h = (g, place_is AfterLanguage after ds o h)
of_then First after (CeilingIs n) ds o g h = (g, place_is (AfterCeiling false) after ds o h)
of_then First after (InputIs x t) ds o g h = cc
of_then First after (MetricIs least greatest) ds o g h = cc
of_then First after (DefIs f ps t e) ds o g h = cc
of_then First after (MainIs e) ds o g h = cc
of_then AfterLanguage after (LanguageIs n) ds o g h = cc
of_then AfterLanguage after (CeilingIs n) ds o g h = (g, place_is (AfterCeiling true) after ds o h)
of_then AfterLanguage after (InputIs x t) ds o g h = cc
of_then AfterLanguage after (MetricIs least greatest) ds o g h = cc
of_then AfterLanguage after (DefIs f ps t e) ds o g h = cc
of_then AfterLanguage after (MainIs e) ds o g h = cc
of_then (AfterCeiling second) after (LanguageIs n) ds o g h = cc
of_then (AfterCeiling second) after (CeilingIs n) ds o g h = cc
of_then (AfterCeiling second) after (InputIs x t) ds o g h = inner_then second (InputIs x t) ds g (place_is (AfterCeiling second) after ds o h)
of_then (AfterCeiling second) after (MetricIs least greatest) ds o g h = inner_then second (MetricIs least greatest) ds g (place_is (AfterCeiling second) after ds o h)
of_then (AfterCeiling second) after (DefIs f ps t e) ds o g h = inner_then second (DefIs f ps t e) ds g (place_is (AfterCeiling second) after ds o h)
of_then (AfterCeiling second) after (MainIs e) ds o g h = main_then second e ds g (place_is (AfterMain second) after ds o h)
of_then (AfterMain second) after d ds o g h = cc

-- the names of each piece are names
abbrev AllNamed : List (List TokenView) → Type 0
AllNamed [] = Unit {0}
AllNamed (piece ∷ more) = Named (kinds piece) × AllNamed more

onto_named : (t : TokenView) (ps : List (List TokenView)) → IsNamed t.kind → AllNamed ps → AllNamed (onto_piece t ps)
onto_named t [] h g = ((h, tt), tt)
onto_named t (piece ∷ more) h g = ((h, g.0), g.1)

cut_named : (s : Bool) (t : TokenView) (ps : List (List TokenView)) → IsNamed t.kind → AllNamed ps → AllNamed (if s then (t ∷ []) ∷ ps else onto_piece t ps)
cut_named true t ps h g = ((h, tt), g)
cut_named false t ps h g = onto_named t ps h g

pieces_named : (tokens : List TokenView) → AreNamed tokens → AllNamed (pieces tokens)
pieces_named [] h = tt
pieces_named (t ∷ ts) h = cut_named (is_semi t.kind) t (pieces ts) h.0 (pieces_named ts h.1)

of_follow : {place : Place} {ps : List (List TokenView)} {ds : List Declaration} → Follow place ps ds → AllNamed ps → Prints place ds
of_follow (Follow.ended second) h = refl
of_follow (Follow.then place after piece more d ds s f) h = of_then place after d ds s.order (of_declaration s.spells h.0) (of_follow f h.1)

pub derived_prints : (text : List ℕ) (tokens : List TokenView) (ds : List Declaration) → Lexes text tokens → Derives tokens ds → IsPrintable ds
derived_prints text tokens ds l d = of_follow d (pieces_named tokens (names_lexed text tokens l))
