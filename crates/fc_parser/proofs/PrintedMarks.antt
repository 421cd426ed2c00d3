-- The pieces that are marks and spaces.
use Rattle.std.proofs.Common.{ℕ, List, [], ◌∷◌, refl}
use Rattle.fc_lexer.specs.declared.tokens.Mark.{Mark}
use Rattle.fc_lexer.specs.declared.tokens.Mark.TheVariants as mark
use Rattle.fc_lexer.specs.declared.bytes.Class.TheVariants.{Single, Equals, Space, Dot}
use Rattle.fc_lexer.specs.Bytes.{begun_class, mark_of}
use Rattle.fc_lexer.specs.Kinds.{MarkOf}
use Rattle.fc_lexer.specs.Apart.{Breaks}
use Rattle.fc_parser.proofs.PrintedRuns.{AtIs, InSpace, Free, Follows, Run, Inner, one_piece}

breaks_single : (m : Mark) (text : List ℕ) → Breaks (Single m) [] text
breaks_single m [] = tt
breaks_single m (c ∷ text) = tt

breaks_dots : (text : List ℕ) → Breaks Dot (46 ∷ []) text
breaks_dots [] = tt
breaks_dots (c ∷ text) = tt

breaks_is : (text : List ℕ) → Follows AtIs text → Breaks Equals [] text
breaks_is [] h = tt
breaks_is (c ∷ text) h = h

breaks_arrow : (text : List ℕ) → Breaks Equals (62 ∷ []) text
breaks_arrow [] = tt
breaks_arrow (c ∷ text) = tt

breaks_space : (text : List ℕ) → Follows InSpace text → Breaks Space [] text
breaks_space [] h = tt
breaks_space (c ∷ text) h = h

pub open_round : Inner Free (40 ∷ []) (MarkOf mark.OpenRound ∷ [])
unfolding begun_class mark_of
open_round = record { run = one_piece Free 40 [] _ refl (λ text f. breaks_single mark.OpenRound text) refl; no_semi = refl }

pub close_round : Inner Free (41 ∷ []) (MarkOf mark.CloseRound ∷ [])
unfolding begun_class mark_of
close_round = record { run = one_piece Free 41 [] _ refl (λ text f. breaks_single mark.CloseRound text) refl; no_semi = refl }

pub open_curly : Inner Free (123 ∷ []) (MarkOf mark.OpenCurly ∷ [])
unfolding begun_class mark_of
open_curly = record { run = one_piece Free 123 [] _ refl (λ text f. breaks_single mark.OpenCurly text) refl; no_semi = refl }

pub close_curly : Inner Free (125 ∷ []) (MarkOf mark.CloseCurly ∷ [])
unfolding begun_class mark_of
close_curly = record { run = one_piece Free 125 [] _ refl (λ text f. breaks_single mark.CloseCurly text) refl; no_semi = refl }

pub comma : Inner Free (44 ∷ []) (MarkOf mark.Comma ∷ [])
unfolding begun_class mark_of
comma = record { run = one_piece Free 44 [] _ refl (λ text f. breaks_single mark.Comma text) refl; no_semi = refl }

pub colon : Inner Free (58 ∷ []) (MarkOf mark.Colon ∷ [])
unfolding begun_class mark_of
colon = record { run = one_piece Free 58 [] _ refl (λ text f. breaks_single mark.Colon text) refl; no_semi = refl }

pub plus : Inner Free (43 ∷ []) (MarkOf mark.Plus ∷ [])
unfolding begun_class mark_of
plus = record { run = one_piece Free 43 [] _ refl (λ text f. breaks_single mark.Plus text) refl; no_semi = refl }

pub minus : Inner Free (45 ∷ []) (MarkOf mark.Minus ∷ [])
unfolding begun_class mark_of
minus = record { run = one_piece Free 45 [] _ refl (λ text f. breaks_single mark.Minus text) refl; no_semi = refl }

pub star : Inner Free (42 ∷ []) (MarkOf mark.Star ∷ [])
unfolding begun_class mark_of
star = record { run = one_piece Free 42 [] _ refl (λ text f. breaks_single mark.Star text) refl; no_semi = refl }

pub less : Inner Free (60 ∷ []) (MarkOf mark.Less ∷ [])
unfolding begun_class mark_of
less = record { run = one_piece Free 60 [] _ refl (λ text f. breaks_single mark.Less text) refl; no_semi = refl }

pub dots : Inner Free (46 ∷ 46 ∷ []) (MarkOf mark.Dots ∷ [])
unfolding begun_class mark_of
dots = record { run = one_piece Free 46 (46 ∷ []) _ refl (λ text f. breaks_dots text) refl; no_semi = refl }

pub equals : Inner AtIs (61 ∷ []) (MarkOf mark.Is ∷ [])
unfolding begun_class mark_of
equals = record { run = one_piece AtIs 61 [] _ refl breaks_is refl; no_semi = refl }

pub arrow : Inner Free (61 ∷ 62 ∷ []) (MarkOf mark.Arrow ∷ [])
unfolding begun_class mark_of
arrow = record { run = one_piece Free 61 (62 ∷ []) _ refl (λ text f. breaks_arrow text) refl; no_semi = refl }

pub space : Inner InSpace (32 ∷ []) []
unfolding begun_class mark_of
space = record { run = one_piece InSpace 32 [] _ refl breaks_space refl; no_semi = refl }

-- the end of a declaration
pub semi : Run Free (59 ∷ []) (MarkOf mark.Semi ∷ [])
unfolding begun_class mark_of
semi = one_piece Free 59 [] _ refl (λ text f. breaks_single mark.Semi text) refl

pub line_feed : Run InSpace (10 ∷ []) []
unfolding begun_class mark_of
line_feed = one_piece InSpace 10 [] _ refl breaks_space refl
