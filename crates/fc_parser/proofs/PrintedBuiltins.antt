-- Builtins and their arguments: between operands, before one, or before arguments in brackets.
use Rattle.std.proofs.Common.{ℕ, zero, suc, ◌≡◌, ◌+◌, ◌<◌, ◌≤◌, ◌==◌, Bool, true, false, nat_lt, if◌then◌else◌, List, [], ◌∷◌, ◌++◌, codes, refl, ap, ◌∙◌, sym, subst, arith, append_assoc, append-nil, add-one, Some}
use Rattle.std.proofs.lemmas.Bool.Decides.{nat_tests}
use Rattle.fc_values.specs.declared.builtins.Builtin.{Builtin}
use Rattle.fc_values.specs.declared.builtins.Builtin.TheVariants as b
use Rattle.fc_lexer.specs.declared.tokens.Mark.TheVariants as mark
use Rattle.fc_values.specs.declared.names.Word.{Word}
use Rattle.fc_values.specs.declared.names.Word.TheVariants as word
use Rattle.fc_lexer.specs.Kinds.{TokenKind, MarkOf, WordOf}
use Rattle.fc_syntax.specs.Terms.{SourceTerm, ApplyTerm, SourceTerms, NoTerms, MoreTerms}
use Rattle.fc_syntax.specs.Text.{text, written, all_written, operand_text, builtin_strength, builtin_word, left_asks, apply_text, call_text, between_text, with_commas}
use Rattle.fc_values.specs.BuiltinTypes.{arity}
use Rattle.fc_syntax.specs.Printable.{IsOfLanguage, count}
use Rattle.fc_parser.specs.Grammar.{Operation, atom, between, negation, builtin, pair, operator, named, two}
use Rattle.fc_parser.proofs.PrintedRuns.{InWord, InSpace, Meets, Inner, join, as_is, loose, meets_more}
use Rattle.fc_parser.proofs.PrintedSeams.{seam_four, seam_between}
use Rattle.fc_parser.proofs.PrintedMarks.{open_round, close_round, comma, space, plus, minus, star, less, equals}
use Rattle.fc_parser.proofs.PrintedWords.{spelled}
use Rattle.fc_parser.proofs.PrintedForms.{Printed, PrintedTerm, At, placed_form, as_expression}
use Rattle.fc_parser.proofs.PrintedArguments.{AllPrinted, opened, texts}

at_operation : (second : Bool) (n : ℕ) (ks : List TokenKind) (e : SourceTerm) → 0 < n → At second n ks e → Operation second n ks e
at_operation second zero ks e h p = absurd (omega arith)
at_operation second (suc n) ks e h p = p

left_asks_low : (n : ℕ) → 0 < n → 0 < left_asks n
left_asks_low n h = go (n == 3)
  where
    go : (t : Bool) → 0 < (if t then 4 else n)
    go true = omega arith
    go false = h

left_asks_high : (n : ℕ) → n ≤ 7 → left_asks n ≤ 7
left_asks_high n h = go (n == 3)
  where
    go : (t : Bool) → (if t then 4 else n) ≤ 7
    go true = omega arith
    go false = h

-- an operator between its operands
between_form : (second : Bool) (o : Builtin) (k : TokenKind) (x y : SourceTerm) → operator k ≡ Some o → 0 < builtin_strength o → builtin_strength o < 6
    → Inner InSpace (builtin_word o ++ codes " ") (k ∷ []) → Meets InSpace (builtin_word o ++ codes " ") → PrintedTerm second x → PrintedTerm second y
    → Printed (λ ks. Operation second (builtin_strength o) ks (ApplyTerm o (two x y))) (between_text o (written x) (written y))
between_form second o k x y e low high word starts p q =
    let n : ℕ = builtin_strength o in
    let l = placed_form second (left_asks n) x (left_asks_high n (omega arith)) p in
    let r = placed_form second (n + 1) y (omega arith) q in
    let left : List ℕ = operand_text (left_asks n) (written x) in
    let right : List ℕ = operand_text (n + 1) (written y) in
    let behind = join word r.inner r.starts in
    let here = join l.inner (join space behind (meets_more InSpace (builtin_word o ++ codes " ") right starts)) refl in
    record {
      ks = l.ks ++ (k ∷ r.ks);
      inner = as_is (seam_between left (codes " ") (builtin_word o) (codes " ") right) refl here;
      starts =
          meets_more InSpace (left ++ codes " " ++ builtin_word o ++ codes " ") right
          (meets_more InSpace (left ++ codes " " ++ builtin_word o) (codes " ") (meets_more InSpace (left ++ codes " ") (builtin_word o) (meets_more InSpace left (codes " ") l.starts)));
      derives =
          between n k o l.ks r.ks x y e refl
          (at_operation second (left_asks n) l.ks x (left_asks_low n low) l.derives)
          (subst (λ m. At second m r.ks y) (add-one n) r.derives);
    }

pick : {A : Type 0} (t : Bool) (a c : A) → t ≡ true → (if t then a else c) ≡ a
pick true a c h = refl
pick false a c h = cc

under_six : (n : ℕ) → nat_lt n 6 ≡ true → n < 6
under_six n h = grind (arith, nat_tests)

-- an operator has two operands
operator_form : (second : Bool) (o : Builtin) (k : TokenKind) (es : SourceTerms) → operator k ≡ Some o → 0 < builtin_strength o → nat_lt (builtin_strength o) 6 ≡ true
    → Inner InSpace (builtin_word o ++ codes " ") (k ∷ []) → Meets InSpace (builtin_word o ++ codes " ") → count es ≡ 2 → AllPrinted second es
    → Printed (λ ks. Operation second (builtin_strength o) ks (ApplyTerm o es)) (apply_text o (all_written es))
operator_form second o k NoTerms e low high word starts c ps = absurd (omega arith)
operator_form second o k (MoreTerms x NoTerms) e low high word starts c ps = absurd (omega arith)
operator_form second o k (MoreTerms x (MoreTerms y NoTerms)) e low high word starts c ps =
    subst (λ t. Printed (λ ks. Operation second (builtin_strength o) ks (ApplyTerm o (two x y))) t)
    (sym (pick (nat_lt (builtin_strength o) 6) (between_text o (written x) (written y)) (call_text (builtin_word o) (written x ∷ written y ∷ [])) high))
    (between_form second o k x y e low (under_six (builtin_strength o) high) word starts ps.0 ps.1.0)
operator_form second o k (MoreTerms x (MoreTerms y (MoreTerms z zs))) e low high word starts c ps = absurd (omega arith)

-- what is no operator is written before its arguments
call_is : (o : Builtin) (es : SourceTerms) → builtin_strength o ≡ 7 → apply_text o (all_written es) ≡ call_text (builtin_word o) (all_written es)
call_is o NoTerms e = refl
call_is o (MoreTerms x NoTerms) e =
    ap (λ n. if n == 6 then builtin_word o ++ codes " " ++ operand_text 6 (written x) else call_text (builtin_word o) (written x ∷ [])) e
call_is o (MoreTerms x (MoreTerms y NoTerms)) e =
    ap (λ n. if nat_lt n 6 then between_text o (written x) (written y) else call_text (builtin_word o) (written x ∷ written y ∷ [])) e
call_is o (MoreTerms x (MoreTerms y (MoreTerms z zs))) e = refl

named_form : (second : Bool) (w : Word) (o : Builtin) (es : SourceTerms) → named w ≡ Some o → IsOfLanguage second o → count es ≡ arity o → builtin_strength o ≡ 7
    → Inner InWord (builtin_word o) (WordOf w ∷ []) → Meets InSpace (builtin_word o) → AllPrinted second es
    → Printed (λ ks. Operation second 7 ks (ApplyTerm o es)) (apply_text o (all_written es))
named_form second w o es e l c s word starts ps =
    let a = opened second es ps in
    subst (λ t. Printed (λ ks. Operation second 7 ks (ApplyTerm o es)) t) (sym (call_is o es s))
    (record {
      ks = WordOf w ∷ MarkOf mark.OpenRound ∷ (a.ks ++ (MarkOf mark.CloseRound ∷ []));
      inner = loose (as_is (seam_four (builtin_word o) (codes "(") (with_commas (texts es)) (codes ")")) refl (join word (join open_round a.inner tt) refl));
      starts =
          meets_more InSpace (builtin_word o ++ codes "(" ++ with_commas (texts es)) (codes ")")
          (meets_more InSpace (builtin_word o ++ codes "(") (with_commas (texts es)) (meets_more InSpace (builtin_word o) (codes "(") starts));
      derives = atom 7 _ (ApplyTerm o es) refl (builtin w o a.ks es e l c a.derives);
    })

not_form : (second : Bool) (es : SourceTerms) → count es ≡ 1 → AllPrinted second es → Printed (λ ks. Operation second 6 ks (ApplyTerm b.Not es)) (apply_text b.Not (all_written es))
not_form second NoTerms c ps = absurd (omega arith)
not_form second (MoreTerms x NoTerms) c ps =
    let p = placed_form second 6 x (omega arith) ps.0 in
    record {
      ks = WordOf word.Not ∷ p.ks;
      inner = join (spelled word.Not) (join space p.inner p.starts) refl;
      starts = refl;
      derives = negation 6 p.ks x refl p.derives;
    }
not_form second (MoreTerms x (MoreTerms y ys)) c ps = absurd (omega arith)

pair_form : (second : Bool) (es : SourceTerms) → count es ≡ 2 → AllPrinted second es → Printed (λ ks. Operation second 7 ks (ApplyTerm b.Pair es)) (apply_text b.Pair (all_written es))
pair_form second NoTerms c ps = absurd (omega arith)
pair_form second (MoreTerms x NoTerms) c ps = absurd (omega arith)
pair_form second (MoreTerms x (MoreTerms y NoTerms)) c ps =
    let p = ps.0 in
    let q = ps.1.0 in
    let end : text x ++ (44 ∷ 32 ∷ (text y ++ (41 ∷ []))) ≡ (text x ++ (44 ∷ 32 ∷ (text y ++ []))) ++ (41 ∷ []) =
    ap (λ l. text x ++ (44 ∷ 32 ∷ (l ++ (41 ∷ [])))) (sym (append-nil (text y))) ∙ sym (append_assoc (text x) (44 ∷ 32 ∷ (text y ++ [])) (41 ∷ [])) in
    let run = join open_round (join p.inner (join comma (join space (join q.inner close_round refl) (meets_more InSpace (text y) (41 ∷ []) q.starts)) tt) refl) tt in
    record {
      ks = MarkOf mark.OpenRound ∷ (p.ks ++ (MarkOf mark.Comma ∷ (q.ks ++ (MarkOf mark.CloseRound ∷ []))));
      inner = loose (as_is (ap (λ l. 40 ∷ l) end) refl run);
      starts = refl;
      derives = atom 7 _ (ApplyTerm b.Pair (two x y)) refl (pair p.ks q.ks x y (as_expression second x p) (as_expression second y q));
    }
pair_form second (MoreTerms x (MoreTerms y (MoreTerms z zs))) c ps = absurd (omega arith)

-- a builtin and as many arguments as it has
pub apply_form : (second : Bool) (o : Builtin) (es : SourceTerms) → IsOfLanguage second o → count es ≡ arity o → AllPrinted second es → PrintedTerm second (ApplyTerm o es)
apply_form second b.Add es l c ps = operator_form second b.Add (MarkOf mark.Plus) es refl (omega arith) refl (join plus space tt) refl c ps
apply_form second b.Sub es l c ps = operator_form second b.Sub (MarkOf mark.Minus) es refl (omega arith) refl (join minus space tt) refl c ps
apply_form second b.Mul es l c ps = operator_form second b.Mul (MarkOf mark.Star) es refl (omega arith) refl (join star space tt) refl c ps
apply_form second b.Less es l c ps = operator_form second b.Less (MarkOf mark.Less) es refl (omega arith) refl (join less space tt) refl c ps
apply_form second b.Equal es l c ps = operator_form second b.Equal (MarkOf mark.Is) es refl (omega arith) refl (join equals space refl) refl c ps
apply_form second b.And es l c ps = operator_form second b.And (WordOf word.And) es refl (omega arith) refl (join (spelled word.And) space refl) refl c ps
apply_form second b.Or es l c ps = operator_form second b.Or (WordOf word.Or) es refl (omega arith) refl (join (spelled word.Or) space refl) refl c ps
apply_form second b.Not es l c ps = not_form second es c ps
apply_form second b.Pair es l c ps = pair_form second es c ps
apply_form second b.Min es l c ps = named_form second word.Min b.Min es refl l c refl (spelled word.Min) refl ps
apply_form second b.Max es l c ps = named_form second word.Max b.Max es refl l c refl (spelled word.Max) refl ps
apply_form second b.Mux es l c ps = named_form second word.Mux b.Mux es refl l c refl (spelled word.Mux) refl ps
apply_form second b.Fst es l c ps = named_form second word.Fst b.Fst es refl l c refl (spelled word.Fst) refl ps
apply_form second b.Snd es l c ps = named_form second word.Snd b.Snd es refl l c refl (spelled word.Snd) refl ps
apply_form second b.MinHoodLoc es l c ps = named_form second word.MinHoodLoc b.MinHoodLoc es refl l c refl (spelled word.MinHoodLoc) refl ps
apply_form second b.MaxHoodLoc es l c ps = named_form second word.MaxHoodLoc b.MaxHoodLoc es refl l c refl (spelled word.MaxHoodLoc) refl ps
apply_form second b.SumHood es l c ps = named_form second word.SumHood b.SumHood es refl l c refl (spelled word.SumHood) refl ps
apply_form second b.AnyHood es l c ps = named_form second word.AnyHood b.AnyHood es refl l c refl (spelled word.AnyHood) refl ps
apply_form second b.AllHood es l c ps = named_form second word.AllHood b.AllHood es refl l c refl (spelled word.AllHood) refl ps
apply_form second b.Rise es l c ps = named_form second word.Rise b.Rise es refl l c refl (spelled word.Rise) refl ps
