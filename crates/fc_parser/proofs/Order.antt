-- What may stand where: one declaration or none, one program or one first fault.
use Rattle.std.proofs.Common.{ℕ, ◌≡◌, ◌⊎◌, ◌+◌, inl, inr, Bool, List, [], ◌∷◌, refl, ap, ◌∙◌, sym, subst, Option, Some, None, Err}
use Rattle.fc_lexer.specs.Kinds.{TokenView}
use Rattle.fc_syntax.specs.Terms.{Declaration, declaration_of}
use Rattle.fc_parser.specs.Reading.{Read, Got, Not}
use Rattle.fc_parser.specs.Declarations.{declaration_read}
use Rattle.fc_parser.specs.Programs.{kinds, Place, First, AfterLanguage, AfterCeiling, AfterMain, is_second, next_place, Stands, Follow, ended, then}
use Rattle.fc_parser.specs.Faults.{line_of, last_line, IsOpen, FaultFrom, here, later, missing}
use Rattle.fc_parser.specs.Heads.{GivesWhole}
use Rattle.fc_parser.specs.Places.{StandsNever, GivesStanding}
use Rattle.fc_parser.specs.declared.refused.Refused.{Refused}
use Rattle.fc_parser.specs.declared.refused.Refused.TheVariants as refused
use Rattle.fc_parser.proofs.DeclarationsRead.{declaration_sound, declaration_complete}

pub stands : (place : Place) (piece : List TokenView) (d : Declaration) (after : Place) → declaration_read (is_second place) (kinds piece) ≡ Got d [] → next_place place d ≡ Some after → Stands place piece d after
stands place piece d after e order = record { spells = (declaration_sound (is_second place) (kinds piece) d [] e).spells; order = order }

pub stands_in_none : (place : Place) (piece : List TokenView) → declaration_read (is_second place) (kinds piece) ≡ Not → StandsNever place piece
stands_in_none place piece e d after s = let f = declaration_complete (is_second place) (kinds piece) d s.spells in cc

pub stands_elsewhere : (place : Place) (piece : List TokenView) (e : Declaration) → declaration_read (is_second place) (kinds piece) ≡ Got e [] → next_place place e ≡ None → StandsNever place piece
stands_elsewhere place piece e read none d after s =
    let f = declaration_complete (is_second place) (kinds piece) d s.spells in
    let same : e ≡ d = cc in
    let moved : next_place place e ≡ Some after = ap (next_place place) same ∙ s.order in
    let clash : None ≡ Some after = sym none ∙ moved in
    cc

pub stands_refused : (place : Place) (piece : List TokenView) (e : Refused) → GivesWhole declaration_of (Err e) (declaration_read (is_second place) (kinds piece)) → GivesStanding place piece (Err e)
stands_refused place piece refused.Outside g = stands_in_none place piece g
stands_refused place piece refused.Memory g = tt

pub one_standing : (place : Place) (piece : List TokenView) (d e : Declaration) (p q : Place) → Stands place piece d p → Stands place piece e q → (d ≡ e) × (p ≡ q)
one_standing place piece d e p q s t =
    let x = declaration_complete (is_second place) (kinds piece) d s.spells in
    let y = declaration_complete (is_second place) (kinds piece) e t.spells in
    let same : d ≡ e = cc in
    let both : Some p ≡ Some q = sym s.order ∙ ap (next_place place) same ∙ t.order in
    (same, cc)

-- a declaration stands here, or none
data Choice (place : Place) (piece : List TokenView) : Type 0 where
  one : (d : Declaration) (after : Place) → Stands place piece d after → Choice place piece
  nothing : StandsNever place piece → Choice place piece

placed : (place : Place) (piece : List TokenView) (d : Declaration) → declaration_read (is_second place) (kinds piece) ≡ Got d [] → (after : Option Place) → next_place place d ≡ after → Choice place piece
placed place piece d e (Some after) order = one d after (stands place piece d after e order)
placed place piece d e None order = nothing (stands_elsewhere place piece d e order)

chosen : (place : Place) (piece : List TokenView) (x : Read Declaration) → declaration_read (is_second place) (kinds piece) ≡ x → Choice place piece
chosen place piece (Got d r) e =
    let whole : declaration_read (is_second place) (kinds piece) ≡ Got d [] = e ∙ ap (Got d) (declaration_sound (is_second place) (kinds piece) d r e).all in
    placed place piece d whole (next_place place d) refl
chosen place piece Not e = nothing (stands_in_none place piece e)

choose : (place : Place) (piece : List TokenView) → Choice place piece
choose place piece = chosen place piece (declaration_read (is_second place) (kinds piece)) refl

-- programs, piece by piece
pub record Ended (place : Place) (ds : List Declaration) : Type 0 where
  pub second : Bool
  pub at : place ≡ AfterMain second
  pub none : ds ≡ []

pub record Begun (place : Place) (piece : List TokenView) (more : List (List TokenView)) (ds : List Declaration) : Type 0 where
  pub first : Declaration
  pub after : Place
  pub others : List Declaration
  pub stands_here : Stands place piece first after
  pub follow : Follow after more others
  pub all : ds ≡ first ∷ others

abbrev pub Opened : Place → List (List TokenView) → List Declaration → Type 0
Opened place [] ds = Ended place ds
Opened place (piece ∷ more) ds = Begun place piece more ds

pub opened : (place : Place) (ps : List (List TokenView)) (ds : List Declaration) → Follow place ps ds → Opened place ps ds
opened _ _ _ (ended second) = record { second = second; at = refl; none = refl }
opened _ _ _ (then place after piece more d ds s f) = record { first = d; after = after; others = ds; stands_here = s; follow = f; all = refl }

-- faults, piece by piece
record Missing (place : Place) (number line n l : ℕ) : Type 0 where
  is_open : IsOpen place
  number_is : n ≡ number
  line_is : l ≡ line

data Found (place : Place) (number line : ℕ) (piece : List TokenView) (more : List (List TokenView)) (n l : ℕ) : Type 0 where
  found_here : StandsNever place piece → n ≡ number → l ≡ line_of piece → Found place number line piece more n l
  found_later : (d : Declaration) (after : Place) → Stands place piece d after → FaultFrom after (number + 1) (last_line line piece) more n l → Found place number line piece more n l

abbrev Searched : Place → ℕ → ℕ → List (List TokenView) → ℕ → ℕ → Type 0
Searched place number line [] n l = Missing place number line n l
Searched place number line (piece ∷ more) n l = Found place number line piece more n l

searched : (place : Place) (number line : ℕ) (ps : List (List TokenView)) (n l : ℕ) → FaultFrom place number line ps n l → Searched place number line ps n l
searched _ _ _ _ _ _ (here place number line piece more never) = found_here never refl refl
searched _ _ _ _ _ _ (later place after number line piece more d n l s f) = found_later d after s f
searched _ _ _ _ _ _ (missing place number line is) = record { is_open = is; number_is = refl; line_is = refl }

pub one_program : (ps : List (List TokenView)) (place : Place) (ds es : List Declaration) → Follow place ps ds → Follow place ps es → ds ≡ es
one_program [] place ds es f g = (opened place [] ds f).none ∙ sym (opened place [] es g).none
one_program (piece ∷ more) place ds es f g =
    let x = opened place (piece ∷ more) ds f in
    let y = opened place (piece ∷ more) es g in
    let same = one_standing place piece x.first y.first x.after y.after x.stands_here y.stands_here in
    let others : x.others ≡ y.others = one_program more y.after x.others y.others (subst (λ p. Follow p more x.others) same.1 x.follow) y.follow in
    x.all ∙ ap (λ l. x.first ∷ l) others ∙ ap (λ d. d ∷ y.others) same.0 ∙ sym y.all

abbrev Alike : ℕ → ℕ → ℕ → ℕ → Type 0
Alike n l m k = (n ≡ m) × (l ≡ k)

abbrev HasOneFault : List (List TokenView) → Type 0
HasOneFault ps = (place : Place) (number line n l m k : ℕ) → FaultFrom place number line ps n l → FaultFrom place number line ps m k → Alike n l m k

found_alike : (piece : List TokenView) (more : List (List TokenView)) → HasOneFault more → (place : Place) (number line n l m k : ℕ) → Found place number line piece more n l → Found place number line piece more m k → Alike n l m k
found_alike piece more alike place number line n l m k (found_here never e f) (found_here _ g h) = (e ∙ sym g, f ∙ sym h)
found_alike piece more alike place number line n l m k (found_here never e f) (found_later d after s g) = absurd (never d after s)
found_alike piece more alike place number line n l m k (found_later d after s g) (found_here never e f) = absurd (never d after s)
found_alike piece more alike place number line n l m k (found_later d after s f) (found_later e other t g) =
    let same = one_standing place piece d e after other s t in
    alike other (number + 1) (last_line line piece) n l m k (subst (λ p. FaultFrom p (number + 1) (last_line line piece) more n l) same.1 f) g

pub one_fault : (ps : List (List TokenView)) → HasOneFault ps
one_fault [] place number line n l m k f g =
    let x = searched place number line [] n l f in
    let y = searched place number line [] m k g in
    (x.number_is ∙ sym y.number_is, x.line_is ∙ sym y.line_is)
one_fault (piece ∷ more) place number line n l m k f g = found_alike piece more (one_fault more) place number line n l m k (searched place number line (piece ∷ more) n l f) (searched place number line (piece ∷ more) m k g)

ended_is_closed : (place : Place) (second : Bool) → place ≡ AfterMain second → IsOpen place → ⊥
ended_is_closed place second e h = subst IsOpen e h

abbrev HasNeverBoth : List (List TokenView) → Type 0
HasNeverBoth ps = (place : Place) (number line n l : ℕ) (ds : List Declaration) → Follow place ps ds → FaultFrom place number line ps n l → ⊥

never_found : (piece : List TokenView) (more : List (List TokenView)) → HasNeverBoth more → (place : Place) (number line n l : ℕ) (ds : List Declaration) → Begun place piece more ds → Found place number line piece more n l → ⊥
never_found piece more clash place number line n l ds x (found_here never e f) = never x.first x.after x.stands_here
never_found piece more clash place number line n l ds x (found_later d after s g) =
    let same = one_standing place piece d x.first after x.after s x.stands_here in
    clash x.after (number + 1) (last_line line piece) n l x.others x.follow (subst (λ p. FaultFrom p (number + 1) (last_line line piece) more n l) same.1 g)

pub never_both : (ps : List (List TokenView)) → HasNeverBoth ps
never_both [] place number line n l ds f g =
    let x = opened place [] ds f in
    let y = searched place number line [] n l g in
    ended_is_closed place x.second x.at y.is_open
never_both (piece ∷ more) place number line n l ds f g = never_found piece more (never_both more) place number line n l ds (opened place (piece ∷ more) ds f) (searched place number line (piece ∷ more) n l g)

-- a program, or a fault
pub data Outcome (place : Place) (number line : ℕ) (ps : List (List TokenView)) : Type 0 where
  program : (ds : List Declaration) → Follow place ps ds → Outcome place number line ps
  fault : (n l : ℕ) → FaultFrom place number line ps n l → Outcome place number line ps

at_end : (place : Place) (number line : ℕ) → Outcome place number line []
at_end First number line = fault number line (missing First number line tt)
at_end AfterLanguage number line = fault number line (missing AfterLanguage number line tt)
at_end (AfterCeiling second) number line = fault number line (missing (AfterCeiling second) number line tt)
at_end (AfterMain second) number line = program [] (ended second)

go_on : (place after : Place) (number line : ℕ) (piece : List TokenView) (more : List (List TokenView)) (d : Declaration) → Stands place piece d after → Outcome after (number + 1) (last_line line piece) more → Outcome place number line (piece ∷ more)
go_on place after number line piece more d s (program ds f) = program (d ∷ ds) (then place after piece more d ds s f)
go_on place after number line piece more d s (fault n l f) = fault n l (later place after number line piece more d n l s f)

outcome_by : (piece : List TokenView) (more : List (List TokenView)) → ((place : Place) (number line : ℕ) → Outcome place number line more) → (place : Place) (number line : ℕ) → Choice place piece
    → Outcome place number line (piece ∷ more)
outcome_by piece more others place number line (one d after s) = go_on place after number line piece more d s (others after (number + 1) (last_line line piece))
outcome_by piece more others place number line (nothing never) = fault number (line_of piece) (here place number line piece more never)

pub outcome : (ps : List (List TokenView)) (place : Place) (number line : ℕ) → Outcome place number line ps
outcome [] place number line = at_end place number line
outcome (piece ∷ more) place number line = outcome_by piece more (outcome more) place number line (choose place piece)

pub either : (place : Place) (number line : ℕ) (ps : List (List TokenView)) → Outcome place number line ps → ((ds : List Declaration) × Follow place ps ds) ⊎ ((n : ℕ) × (l : ℕ) × FaultFrom place number line ps n l)
either place number line ps (program ds f) = inl (ds, f)
either place number line ps (fault n l f) = inr (n, l, f)
