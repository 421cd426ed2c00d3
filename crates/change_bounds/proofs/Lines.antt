-- One line more at the end of some.
use Rattle.std.proofs.Common.{◌≡◌, ℕ, ◌+◌, ◌<◌, Bool, true, false, ◌||◌, List, [], ◌∷◌, ◌++◌, length, take, map, get_or, refl, sym, ap, ◌∙◌, Some, None}
use Rattle.std.specs.Prelude.{Option, option_map}
use Rattle.std.proofs.lemmas.List.{append-nil, take_more, map-append}
use Rattle.changes.specs.declared.types.Change.{Change}
use Rattle.changes.specs.declared.types.ChangeLine.{ChangeLine}
use Rattle.changes.specs.Changes.{ChangeValue}
use Rattle.changes.specs.Code.{change_in, line_in}
use Rattle.changes.specs.Hand.{said, said_first, some_line}
use Rattle.change_bounds.specs.Bounds.{as_list}

said_more : (ls : List (ℕ × Option ChangeValue)) (l : ℕ × Option ChangeValue) → said (ls ++ l ∷ []) ≡ said ls ++ as_list l.1
said_more [] l = by_form l.1
  where
    by_form : (o : Option ChangeValue) → said_first o [] ≡ as_list o
    by_form None = refl
    by_form (Some c) = refl
said_more (x ∷ xs) l = by_form x.1 (said_more xs l)
  where
    by_form : (o : Option ChangeValue) → said (xs ++ l ∷ []) ≡ said xs ++ as_list l.1 → said_first o (said (xs ++ l ∷ [])) ≡ said_first o (said xs) ++ as_list l.1
    by_form None h = h
    by_form (Some c) h = ap (λ cs. c ∷ cs) h

pub some_more : (says : ChangeValue → Bool) (cs : List ChangeValue) (c : ChangeValue) → some_line says (cs ++ c ∷ []) ≡ (some_line says cs || says c)
some_more says [] c = none_else (says c)
  where
    none_else : (b : Bool) → (b || false) ≡ b
    none_else true = refl
    none_else false = refl
some_more says (x ∷ xs) c = by_test (says x) (some_more says xs c)
  where
    by_test : (b : Bool) → some_line says (xs ++ c ∷ []) ≡ (some_line says xs || says c) → (b || some_line says (xs ++ c ∷ [])) ≡ ((b || some_line says xs) || says c)
    by_test true h = refl
    by_test false h = h

-- what the first lines of a text say
abbrev pub said_to : List ChangeLine → ℕ → List ChangeValue
said_to ls k = said (map line_in (take k ls))

module _ (ls : List ChangeLine) (k : ℕ) (x : ChangeLine) (is : x ≡ get_or ls k x) (h : k < length ls) where
  one_more : said_to ls (k + 1) ≡ said_to ls k ++ as_list (option_map change_in x.change)
  one_more =
      ap (λ xs. said (map line_in xs)) (take_more ls k x h)
      ∙ ap (λ y. said (map line_in (take k ls ++ y ∷ []))) (sym is)
      ∙ ap said (map-append line_in (take k ls) (x ∷ []))
      ∙ said_more (map line_in (take k ls)) (line_in x)

  pub line_says : (c : Change) → x.change ≡ Some c → said_to ls (k + 1) ≡ said_to ls k ++ change_in c ∷ []
  line_says c e = one_more ∙ ap (λ o. said_to ls k ++ as_list (option_map change_in o)) e

  pub line_silent : x.change ≡ None → said_to ls (k + 1) ≡ said_to ls k
  line_silent e = one_more ∙ ap (λ o. said_to ls k ++ as_list (option_map change_in o)) e ∙ append-nil (said_to ls k)
