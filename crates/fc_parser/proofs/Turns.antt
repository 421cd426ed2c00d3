-- Turns of the loops over pieces.
use Rattle.std.proofs.Common.{ℕ, suc, ◌≡◌, ◌≤◌, ◌+◌, ◌-◌, ◌==◌, zero, get_or, Bool, true, List, [], ◌∷◌, ◌++◌, length, refl, ap, ◌∙◌, sym, subst, arith, append_assoc, append-nil}
use Rattle.fc_lexer.specs.declared.tokens.Token.{Token}
use Rattle.std.proofs.lemmas.Bool.{eqb-true}
use Rattle.std.proofs.lemmas.List.{length-map}
use Rattle.fc_lexer.specs.Apart.{view_kind}
use Rattle.fc_lexer.specs.Kinds.{TokenKind, token_view, tokens_of}
use Rattle.fc_syntax.specs.Terms.{Declaration}
use Rattle.fc_parser.specs.Programs.{kinds, is_second, pieces, Place, First, AfterMain, Stands, Follow, ended, then, Derives}
use Rattle.fc_parser.specs.Limits.{first_passed, limit_passed}
use Rattle.fc_parser.specs.Faults.{line_of, last_line, IsOpen, FaultFrom, here, later, missing}
use Rattle.fc_parser.specs.declared.places.Position.{Position}
use Rattle.fc_parser.specs.declared.places.Position.TheVariants as position
use Rattle.fc_parser.specs.Places.{StandsNever, place_at}
use Rattle.fc_parser.specs.Grammar.{DeclarationIs, language, ceiling, truth_input, whole_input, metric, definition, main}

-- so many declarations come before the rest, and the rest passes the limits as the whole does
pub record LimitsAlike (tokens rest : List Token) (number : ℕ) : Type 0 where
  pub counted : 1 ≤ number
  pub few : number + length rest ≤ length tokens + 1
  pub same : first_passed number (pieces (tokens_of rest)) ≡ limit_passed (tokens_of tokens)

-- what follows from the rest on, behind the declarations so far, is what follows from the whole
pub record DerivesAlike (tokens rest : List Token) (ds : List Declaration) (place : Place) (number line : ℕ) : Type 0 where
  pub counted : 1 ≤ number
  pub few : number + number + length rest ≤ length tokens + 2
  pub follows : (es : List Declaration) → Follow place (pieces (tokens_of rest)) es → Follow First (pieces (tokens_of tokens)) (ds ++ es)
  pub faults : (n l : ℕ) → FaultFrom place number line (pieces (tokens_of rest)) n l → FaultFrom First 1 1 (pieces (tokens_of tokens)) n l

pub derives_next : (tokens rest piece after : List Token) (ds : List Declaration) (d : Declaration) (place next : Place) (number line : ℕ) → DerivesAlike tokens rest ds place number line
    → pieces (tokens_of rest) ≡ tokens_of piece ∷ pieces (tokens_of after) → length piece + length after ≡ length rest → 2 ≤ length piece
    → Stands place (tokens_of piece) d next → DerivesAlike tokens after (ds ++ d ∷ []) next (number + 1) (last_line line (tokens_of piece))
derives_next tokens rest piece after ds d place next number line l cut sizes some s = record {
  counted = omega (arith, l.counted);
  few = omega (arith, l.few, sizes, some);
  follows = λ es f. subst (λ all. Follow First (pieces (tokens_of tokens)) all) (sym (append_assoc ds (d ∷ []) es))
      (l.follows (d ∷ es) (subst (λ ps. Follow place ps (d ∷ es)) (sym cut) (then place next (tokens_of piece) (pieces (tokens_of after)) d es s f)));
  faults = λ n k f. l.faults n k (subst (λ ps. FaultFrom place number line ps n k) (sym cut) (later place next number line (tokens_of piece) (pieces (tokens_of after)) d n k s f));
}

pub derives_fault : (tokens rest piece after : List Token) (ds : List Declaration) (place : Place) (number line : ℕ) → DerivesAlike tokens rest ds place number line → pieces (tokens_of rest) ≡ tokens_of piece ∷ pieces (tokens_of after)
    → StandsNever place (tokens_of piece) → FaultFrom First 1 1 (pieces (tokens_of tokens)) number (line_of (tokens_of piece))
derives_fault tokens rest piece after ds place number line l cut never =
    l.faults number (line_of (tokens_of piece)) (subst (λ ps. FaultFrom place number line ps number (line_of (tokens_of piece))) (sym cut) (here place number line (tokens_of piece) (pieces (tokens_of after)) never))

pub derives_missing : (tokens rest : List Token) (ds : List Declaration) (place : Place) (number line : ℕ) → DerivesAlike tokens rest ds place number line → rest ≡ [] → IsOpen place
    → FaultFrom First 1 1 (pieces (tokens_of tokens)) number line
derives_missing tokens rest ds place number line l none is = l.faults number line (subst (λ ts. FaultFrom place number line (pieces (tokens_of ts)) number line) (sym none) (missing place number line is))

pub derives_done : (tokens rest : List Token) (ds : List Declaration) (place : Place) (number line : ℕ) (second : Bool) → DerivesAlike tokens rest ds place number line → rest ≡ [] → place ≡ AfterMain second
    → Derives (tokens_of tokens) ds
derives_done tokens rest ds place number line second l none at =
    let end : Follow place (pieces (tokens_of rest)) [] = subst (λ ts. Follow place (pieces (tokens_of ts)) []) (sym none) (subst (λ p. Follow p [] []) (sym at) (ended second)) in
    subst (λ all. Follow First (pieces (tokens_of tokens)) all) (append-nil ds) (l.follows [] end)

declaration_size : (second : Bool) (ts : List TokenKind) (d : Declaration) → DeclarationIs second ts d → 2 ≤ length ts
declaration_size second _ _ language = omega arith
declaration_size second _ _ (ceiling n h) = omega arith
declaration_size second _ _ (truth_input x) = omega arith
declaration_size second _ _ (whole_input x m n h k) = omega arith
declaration_size second _ _ (metric m n h k) = omega arith
declaration_size second _ _ (definition f ts us vs ps t e p h x) = omega arith
declaration_size second _ _ (main ts e x) = omega arith

pub standing_size : (place after : Place) (piece : List Token) (d : Declaration) → Stands place (tokens_of piece) d after → 2 ≤ length piece
standing_size place after piece d s =
    let size = declaration_size (is_second place) (kinds (tokens_of piece)) d s.spells in
    let same = length-map (tokens_of piece) view_kind ∙ length-map piece token_view in
    omega (arith, size, same)

-- where the code stands
pub nil_of : (ts : List Token) (b : Bool) → b ≡ (length ts == 0) → b ≡ true → ts ≡ []
nil_of [] b e h = refl
nil_of (t ∷ ts) b e h = let none = eqb-true (length (t ∷ ts)) 0 (sym e ∙ h) in absurd (omega arith)

pub open_place : (p : Position) → ((x : Bool) → p ≡ position.AfterMain x → ⊥) → IsOpen (place_at p)
open_place position.First h = tt
open_place position.AfterLanguage h = tt
open_place (position.Within second) h = tt
open_place (position.AfterMain second) h = h second refl

last_at : (ts : List Token) (t : Token) (line : ℕ) (x : Token) (k : ℕ) → k + 1 ≡ length (t ∷ ts) → x ≡ get_or (t ∷ ts) k x → x.line ≡ last_line line (tokens_of (t ∷ ts))
last_at [] t line x zero size e = ap (λ y. y.line) e
last_at [] t line x (suc k) size e = absurd (omega arith)
last_at (u ∷ ts) t line x zero size e = absurd (omega arith)
last_at (u ∷ ts) t line x (suc k) size e = last_at ts u t.line x k (omega arith) e

pub last_is : (ts : List Token) (line : ℕ) (x : Token) → 1 ≤ length ts → x ≡ get_or ts (length ts - 1) x → x.line ≡ last_line line (tokens_of ts)
last_is [] line x some e = absurd (omega arith)
last_is (t ∷ ts) line x some e = last_at ts t line x (length (t ∷ ts) - 1) (omega arith) e
