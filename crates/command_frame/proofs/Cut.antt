-- Steps of cutting an input into lines and sections.
use Rattle.std.proofs.Common.{ℕ, ◌≡◌, ◌+◌, ◌-◌, ◌≤◌, ◌<◌, Bool, true, false, cond, List, [], ◌∷◌, ◌++◌, length, take, drop, refl, ap, ◌∙◌, sym, arith, append_assoc, append-nil, slice_range, length-drop, subst}
use Rattle.std.proofs.Math.Seq.{take-add}
use Rattle.std.proofs.lemmas.List.{drop-drop, drop_all}
use Rattle.std.proofs.lemmas.Grind.{common_steps}
use Rattle.fc_values.proofs.Lists.{whole}
use Rattle.fc_io.specs.Lines.{lines_of, line_size}
use Rattle.command_frame.specs.Sections.{is_separator, onto_section, sections_from, sections_of}
use Rattle.fc_io.proofs.FirstLine.{lines-first}

-- a first line that is a separator ends an empty section
at_separator : (text : List ℕ) → 0 < length text → is_separator (take (line_size text) text) ≡ true → sections_of text ≡ [] ∷ sections_of (drop (line_size text) text)
at_separator text some separates =
    let first : List ℕ = take (line_size text) text in
    let rest : List (List ℕ) = sections_of (drop (line_size text) text) in
    ap sections_from (lines-first text some) ∙ ap (λ s. cond s ([] ∷ rest) (onto_section first rest)) separates

-- any other first line begins the first section
at_line : (text : List ℕ) → 0 < length text → is_separator (take (line_size text) text) ≡ false → sections_of text ≡ onto_section (take (line_size text) text) (sections_of (drop (line_size text) text))
at_line text some separates =
    let first : List ℕ = take (line_size text) text in
    let rest : List (List ℕ) = sections_of (drop (line_size text) text) in
    ap sections_from (lines-first text some) ∙ ap (λ s. cond s ([] ∷ rest) (onto_section first rest)) separates

onto_both : (p q : List ℕ) (ss : List (List ℕ)) → onto_section p (onto_section q ss) ≡ onto_section (p ++ q) ss
onto_both p q [] = refl
onto_both p q (s ∷ ss) = ap (λ l. l ∷ ss) (sym (append_assoc p q s))

-- there is always a first section
first_from : (ls : List (List ℕ)) → onto_section [] (sections_from ls) ≡ sections_from ls
first_from [] = refl
first_from (l ∷ ls) =
    let P : Bool → Type 0 = λ t. onto_section [] (cond t ([] ∷ sections_from ls) (onto_section l (sections_from ls))) ≡ cond t ([] ∷ sections_from ls) (onto_section l (sections_from ls)) in
    elim (is_separator l) as P [ true ↦ refl | false ↦ onto_both [] l (sections_from ls) ]

-- Sections that were found, a section that is open from start to at, and the rest: they are the sections of the input.
pub record IsCutTo (input : List ℕ) (found : List (List ℕ)) (start at : ℕ) : Type 0 where
  pub order : start ≤ at
  pub within : at ≤ length input
  pub cut : found ++ onto_section (slice_range input start at) (sections_of (drop at input)) ≡ sections_of input

pub cut_first : (input : List ℕ) → IsCutTo input [] 0 0
cut_first input = record { order = omega arith; within = omega arith; cut = first_from (lines_of input) }

-- the rest after a first line that is a separator, and after another
after_separator : (input : List ℕ) (at n : ℕ) → at < length input → n ≡ line_size (drop at input) → is_separator (take n (drop at input)) ≡ true
    → sections_of (drop at input) ≡ [] ∷ sections_of (drop (at + n) input)
after_separator input at n more e s =
    at_separator (drop at input) (omega (arith, length-drop at input)) (subst (λ k. is_separator (take k (drop at input)) ≡ true) e s)
    ∙ ap (λ k. [] ∷ sections_of (drop k (drop at input))) (sym e)
    ∙ ap (λ l. [] ∷ sections_of l) (drop-drop n at input)

after_line : (input : List ℕ) (at n : ℕ) → at < length input → n ≡ line_size (drop at input) → is_separator (take n (drop at input)) ≡ false
    → sections_of (drop at input) ≡ onto_section (take n (drop at input)) (sections_of (drop (at + n) input))
after_line input at n more e s =
    at_line (drop at input) (omega (arith, length-drop at input)) (subst (λ k. is_separator (take k (drop at input)) ≡ false) e s)
    ∙ ap (λ k. onto_section (take k (drop at input)) (sections_of (drop k (drop at input)))) (sym e)
    ∙ ap (λ l. onto_section (take n (drop at input)) (sections_of l)) (drop-drop n at input)

nothing : (xs : List ℕ) (m : ℕ) → slice_range xs m m ≡ []
nothing xs m = grind (arith, common_steps)

pub cut_separator : (input : List ℕ) (found : List (List ℕ)) (start at n : ℕ) → IsCutTo input found start at → at < length input → n ≡ line_size (drop at input)
    → n ≤ length (drop at input) → is_separator (take n (drop at input)) ≡ true
    → IsCutTo input (found ++ slice_range input start at ∷ []) (at + n) (at + n)
cut_separator input found start at n c more e le s =
    let slice : List ℕ = slice_range input start at in
    let rest : List (List ℕ) = sections_of (drop (at + n) input) in
    record {
      order = omega arith;
      within = omega (arith, length-drop at input);
      cut = ap (λ p. (found ++ slice ∷ []) ++ onto_section p rest) (nothing input (at + n))
          ∙ ap (λ ss. (found ++ slice ∷ []) ++ ss) (first_from (lines_of (drop (at + n) input)))
          ∙ append_assoc found (slice ∷ []) rest
          ∙ sym (ap (λ ss. found ++ onto_section slice ss) (after_separator input at n more e s) ∙ ap (λ l. found ++ l ∷ rest) (append-nil slice))
          ∙ c.cut;
    }

longer : (xs : List ℕ) (start at n : ℕ) → start ≤ at → slice_range xs start (at + n) ≡ slice_range xs start at ++ take n (drop at xs)
longer xs start at n le =
    let size : at + n - start ≡ at - start + n = omega arith in
    let there : start + (at - start) ≡ at = omega arith in
    ap (λ k. take k (drop start xs)) size
    ∙ take-add (at - start) n (drop start xs)
    ∙ ap (λ l. take (at - start) (drop start xs) ++ take n l) (drop-drop (at - start) start xs ∙ ap (λ k. drop k xs) there)

pub cut_line : (input : List ℕ) (found : List (List ℕ)) (start at n : ℕ) → IsCutTo input found start at → at < length input → n ≡ line_size (drop at input)
    → n ≤ length (drop at input) → is_separator (take n (drop at input)) ≡ false
    → IsCutTo input found start (at + n)
cut_line input found start at n c more e le s =
    let rest : List (List ℕ) = sections_of (drop (at + n) input) in
    record {
      order = omega arith;
      within = omega (arith, length-drop at input);
      cut = ap (λ p. found ++ onto_section p rest) (longer input start at n c.order)
          ∙ ap (λ ss. found ++ ss) (sym (onto_both (slice_range input start at) (take n (drop at input)) rest))
          ∙ ap (λ ss. found ++ onto_section (slice_range input start at) ss) (sym (after_line input at n more e s))
          ∙ c.cut;
    }

pub cut_last : (input : List ℕ) (found : List (List ℕ)) (start at : ℕ) → IsCutTo input found start at → length input ≤ at
    → found ++ slice_range input start (length input) ∷ [] ≡ sections_of input
cut_last input found start at c end =
    let same : at ≡ length input = omega (arith, c.within) in
    let done : drop at input ≡ [] = drop_all at input end in
    ap (λ k. found ++ slice_range input start k ∷ []) (sym same)
    ∙ ap (λ l. found ++ l ∷ []) (sym (append-nil (slice_range input start at)))
    ∙ ap (λ l. found ++ onto_section (slice_range input start at) (sections_of l)) (sym done)
    ∙ c.cut

-- The same in the words of the code's slices: from at on, and from at to the end of the line.
line_slice : (xs : List ℕ) (at n : ℕ) → slice_range xs at (at + n) ≡ take n (drop at xs)
line_slice xs at n = let size : at + n - at ≡ n = omega arith in ap (λ k. take k (drop at xs)) size

pub slice_separator : (input : List ℕ) (found pushed : List (List ℕ)) (start at n : ℕ) (t : Bool) → IsCutTo input found start at → at < length input
    → n ≡ line_size (take (length input - at) (drop at input)) → n ≤ length (take (length input - at) (drop at input)) → t ≡ is_separator (slice_range input at (at + n)) → t ≡ true
    → pushed ≡ found ++ slice_range input start at ∷ [] → IsCutTo input pushed (at + n) (at + n)
slice_separator input found pushed start at n t c more e le s is p =
    subst (λ f. IsCutTo input f (at + n) (at + n)) (sym p) (cut_separator input found start at n c more (e ∙ ap line_size (whole input at)) (omega (arith, le, ap length (whole input at)))
    (ap is_separator (sym (line_slice input at n)) ∙ sym s ∙ is))

pub slice_line : (input : List ℕ) (found : List (List ℕ)) (start at n : ℕ) (t : Bool) → IsCutTo input found start at → at < length input
    → n ≡ line_size (take (length input - at) (drop at input)) → n ≤ length (take (length input - at) (drop at input)) → t ≡ is_separator (slice_range input at (at + n)) → t ≡ false
    → IsCutTo input found start (at + n)
slice_line input found start at n t c more e le s isnt =
    cut_line input found start at n c more (e ∙ ap line_size (whole input at)) (omega (arith, le, ap length (whole input at)))
    (ap is_separator (sym (line_slice input at n)) ∙ sym s ∙ isnt)
