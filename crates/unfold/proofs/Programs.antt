-- The unfolding of a typed program is a program of nodes.
use Rattle.std.proofs.Common.{◌≡◌, refl, sym, ap, subst, ◌∙◌, ℕ, suc, ◌+◌, ◌<◌, ◌≤◌, ◌^◌, arith, Bool, true, false, cond, List, [], ◌∷◌, ◌++◌, length, Some, None, append_assoc}
use Rattle.std.specs.Prelude.{bytes_eq, slice_get}
use Rattle.std.specs.Option.{option_map}
use Rattle.std.proofs.lemmas.List.{length-append}
use Rattle.std.proofs.lemmas.Slice.Eq.{bytes_eq-Decides}
use Rattle.fc_values.specs.declared.types.InputTy.{InputTy}
use Rattle.fc_values.specs.declared.types.InputTy.TheVariants as input
use Rattle.fc_values.specs.Types.{LocalType, TypeLocal, Input, IsRange, Declarations}
use Rattle.fc_syntax.specs.Terms.{SourceTerm, Declaration, LanguageIs, CeilingIs, InputIs, MetricIs, DefIs, MainIs}
use Rattle.fc_syntax.specs.Printable.{IsPrintable, BeginWithCeiling, EndWithMain, IsInner, IsMain}
use Rattle.fc_types.specs.Before.{Function, Earlier, nothing_declared, with_declaration, with_declarations, input_named, declared_before, declared_by, metric_least, metric_greatest}
use Rattle.fc_types.specs.Typing.{IsTyped, AreTyped, IsTypedDeclaration, IsInputRange}
use Rattle.fc_nodes.specs.Program.{IsLawful, InputsAreLawful, InputIsLawful, NoneNamed}
use Rattle.unfold.specs.Unfolding.{Meaning, input_number, unfolded, meaning, meanings, main_expression, main_term}
use Rattle.unfold.proofs.Typed.{Typed, IsGood, AreGood, MeaningsHold, typed}

-- an input keeps its number where more are declared
number_stays : (x : List ℕ) (is more : List Input) (i : Input) → input_named x is ≡ Some i → (n : ℕ) × (input_number x (is ++ more) ≡ Some n) × (slice_get (is ++ more) n ≡ Some i)
number_stays x [] more i h = absurd cc
number_stays x (j ∷ is) more i h = go (bytes_eq x j.name) h (λ q. number_stays x is more i q)
  where
    go : (b : Bool) → cond b (Some j) (input_named x is) ≡ Some i → (input_named x is ≡ Some i → (n : ℕ) × (input_number x (is ++ more) ≡ Some n) × (slice_get (is ++ more) n ≡ Some i)) →
        (n : ℕ) × (cond b (Some 0) (option_map suc (input_number x (is ++ more))) ≡ Some n) × (slice_get (j ∷ (is ++ more)) n ≡ Some i)
    go true q f = (0, refl, q)
    go false q f = let r = f q in (suc r.0, ap (option_map suc) r.1, r.2)

-- the declarations after a ceiling leave it, and put their inputs behind
after_ceiling : (second : Bool) (ds : List Declaration) (B : Earlier) → EndWithMain second ds → (with_declarations B ds).ceiling ≡ B.ceiling
after_ceiling second [] B h = absurd h
after_ceiling second (MainIs e ∷ []) B h = refl
after_ceiling second (LanguageIs n ∷ []) B h = absurd h
after_ceiling second (CeilingIs n ∷ []) B h = absurd h
after_ceiling second (InputIs x t ∷ []) B h = absurd h
after_ceiling second (MetricIs l g ∷ []) B h = absurd h
after_ceiling second (DefIs f ps r e ∷ []) B h = absurd h
after_ceiling second (InputIs x t ∷ d ∷ ds) B h = after_ceiling second (d ∷ ds) (with_declaration B (InputIs x t)) h.1
after_ceiling second (MetricIs l g ∷ d ∷ ds) B h = after_ceiling second (d ∷ ds) (with_declaration B (MetricIs l g)) h.1
after_ceiling second (DefIs f ps r e ∷ d ∷ ds) B h = after_ceiling second (d ∷ ds) (with_declaration B (DefIs f ps r e)) h.1
after_ceiling second (LanguageIs n ∷ d ∷ ds) B h = absurd h.0
after_ceiling second (CeilingIs n ∷ d ∷ ds) B h = absurd h.0
after_ceiling second (MainIs e ∷ d ∷ ds) B h = absurd h.0

append_none : (xs : List Input) → xs ++ [] ≡ xs
append_none [] = refl
append_none (x ∷ xs) = ap (λ l. x ∷ l) (append_none xs)

inputs_behind : (ds : List Declaration) (B : Earlier) → (more : List Input) × ((with_declarations B ds).inputs ≡ B.inputs ++ more)
inputs_behind [] B = ([], sym (append_none B.inputs))
inputs_behind (LanguageIs n ∷ ds) B = inputs_behind ds (with_declaration B (LanguageIs n))
inputs_behind (CeilingIs n ∷ ds) B = inputs_behind ds (with_declaration B (CeilingIs n))
inputs_behind (InputIs x t ∷ ds) B =
    let r = inputs_behind ds (with_declaration B (InputIs x t)) in
    let i : Input = record { name = x; type = t } in
    (i ∷ r.0, r.1 ∙ append_assoc B.inputs (i ∷ []) r.0)
inputs_behind (MetricIs l g ∷ ds) B = inputs_behind ds (with_declaration B (MetricIs l g))
inputs_behind (DefIs f ps r e ∷ ds) B = inputs_behind ds (with_declaration B (DefIs f ps r e))
inputs_behind (MainIs e ∷ ds) B = inputs_behind ds (with_declaration B (MainIs e))

-- a function more
meanings_more : (is : List Input) (ms : List Meaning) (fs : List Function) (f : Function) → meanings is ms (fs ++ f ∷ []) ≡ meanings is ms fs ++ meaning is (meanings is ms fs) f ∷ []
meanings_more is ms [] f = refl
meanings_more is ms (g ∷ fs) f = meanings_more is (ms ++ meaning is ms g ∷ []) fs f

good_more : (D : Declarations) (fs : List Function) (ms : List Meaning) (f : Function) (m : Meaning) → AreGood D fs ms → IsGood D f m → AreGood D (fs ++ f ∷ []) (ms ++ m ∷ [])
good_more D [] [] f m h g = (g, tt)
good_more D (f' ∷ fs) (m' ∷ ms) f m h g = (h.0, good_more D fs ms f m h.1 g)
good_more D [] (m' ∷ ms) f m h g = absurd h
good_more D (f' ∷ fs) [] f m h g = absurd h

module _ (D : Declarations) where
  held : (B : Earlier) (second : Bool) (ds : List Declaration) → EndWithMain second ds → declared_before (with_declarations B ds) ≡ D → AreGood D B.functions (meanings D.inputs [] B.functions) →
      MeaningsHold D (meanings D.inputs [] B.functions) B
  held B second ds end e good =
      let b = inputs_behind ds B in
      let same : (with_declarations B ds).inputs ≡ D.inputs = ap (λ (E : Declarations). E.inputs) e in
      let all : D.inputs ≡ B.inputs ++ b.0 = sym same ∙ b.1 in
      record {
        ceiling = sym (after_ceiling second ds B end) ∙ ap (λ (E : Declarations). E.ceiling) e;
        inputs = λ x i h. (let r = number_stays x B.inputs b.0 i h in (r.0, rw all r.1, rw all r.2));
        functions = good;
      }

  -- the expression of `main`, and a definition more
  main_typed : (B : Earlier) (e : SourceTerm) → MeaningsHold D (meanings D.inputs [] B.functions) B → IsTypedDeclaration B (MainIs e) →
      (s : LocalType) × Typed D [] 0 (unfolded D.inputs (meanings D.inputs [] B.functions) [] 0 e) (TypeLocal s)
  main_typed B e k h = (h.0, typed D (meanings D.inputs [] B.functions) h.1 k [] [] 0 refl tt)

  rest_typed : (second : Bool) (ds : List Declaration) (B : Earlier) → EndWithMain second ds → AreTyped B ds → declared_before (with_declarations B ds) ≡ D → AreGood D B.functions (meanings D.inputs [] B.functions) →
      (s : LocalType) × Typed D [] 0 (unfolded D.inputs (meanings D.inputs [] (with_declarations B ds).functions) [] 0 (main_expression ds)) (TypeLocal s)
  rest_typed second [] B end a e good = absurd end
  rest_typed second (MainIs m ∷ []) B end a e good = main_typed B m (held B second (MainIs m ∷ []) end e good) a.0
  rest_typed second (LanguageIs n ∷ []) B end a e good = absurd end
  rest_typed second (CeilingIs n ∷ []) B end a e good = absurd end
  rest_typed second (InputIs x t ∷ []) B end a e good = absurd end
  rest_typed second (MetricIs l g ∷ []) B end a e good = absurd end
  rest_typed second (DefIs f ps r b ∷ []) B end a e good = absurd end
  rest_typed second (InputIs x t ∷ d ∷ ds) B end a e good = rest_typed second (d ∷ ds) (with_declaration B (InputIs x t)) end.1 a.1 e good
  rest_typed second (MetricIs l g ∷ d ∷ ds) B end a e good = rest_typed second (d ∷ ds) (with_declaration B (MetricIs l g)) end.1 a.1 e good
  rest_typed second (DefIs f ps r b ∷ d ∷ ds) B end a e good =
      let h = held B second (DefIs f ps r b ∷ d ∷ ds) end e good in
      let ms = meanings D.inputs [] B.functions in
      let g : Function = record { name = f; params = ps; result = r; body = b } in
      let q = meanings_more D.inputs [] B.functions g in
      let fine : IsGood D g (meaning D.inputs ms g) = record { name = refl; params = refl; body = λ given N p same s. typed D ms a.0.3 h given N p same s } in
      rest_typed second (d ∷ ds) (with_declaration B (DefIs f ps r b)) end.1 a.1 e (let P : List Meaning → Type 0 = (λ l. AreGood D (B.functions ++ g ∷ []) l) in subst P (sym q) (good_more D B.functions ms g (meaning D.inputs ms g) good fine))
  rest_typed second (LanguageIs n ∷ d ∷ ds) B end a e good = absurd end.0
  rest_typed second (CeilingIs n ∷ d ∷ ds) B end a e good = absurd end.0
  rest_typed second (MainIs m ∷ d ∷ ds) B end a e good = absurd end.0

  from_ceiling : (second : Bool) (ds : List Declaration) → BeginWithCeiling second ds → AreTyped nothing_declared ds → declared_before (with_declarations nothing_declared ds) ≡ D →
      (s : LocalType) × Typed D [] 0 (unfolded D.inputs (meanings D.inputs [] (with_declarations nothing_declared ds).functions) [] 0 (main_expression ds)) (TypeLocal s)
  from_ceiling second [] h a e = absurd h
  from_ceiling second (CeilingIs n ∷ ds) h a e = rest_typed second ds (with_declaration nothing_declared (CeilingIs n)) h.1 a.1 e tt
  from_ceiling second (LanguageIs n ∷ ds) h a e = absurd h
  from_ceiling second (InputIs x t ∷ ds) h a e = absurd h
  from_ceiling second (MetricIs l g ∷ ds) h a e = absurd h
  from_ceiling second (DefIs f ps r b ∷ ds) h a e = absurd h
  from_ceiling second (MainIs m ∷ ds) h a e = absurd h

  from_start : (ds : List Declaration) → IsPrintable ds → AreTyped nothing_declared ds → declared_before (with_declarations nothing_declared ds) ≡ D →
      (s : LocalType) × Typed D [] 0 (unfolded D.inputs (meanings D.inputs [] (with_declarations nothing_declared ds).functions) [] 0 (main_expression ds)) (TypeLocal s)
  from_start [] h a e = absurd h
  from_start (LanguageIs n ∷ ds) h a e = from_ceiling true ds h.1 a.1 e
  from_start (CeilingIs n ∷ ds) h a e = from_ceiling false (CeilingIs n ∷ ds) h a e
  from_start (InputIs x t ∷ ds) h a e = absurd h
  from_start (MetricIs l g ∷ ds) h a e = absurd h
  from_start (DefIs f ps r b ∷ ds) h a e = absurd h
  from_start (MainIs m ∷ ds) h a e = absurd h

pub unfolding_typed : (ds : List Declaration) → IsPrintable ds → IsTyped ds → (s : LocalType) × Typed (declared_by ds) [] 0 (main_term ds) (TypeLocal s)
unfolding_typed ds h a = from_start (declared_by ds) ds h a refl

-- the declarations are lawful
lawful_input : (ceiling : ℕ) (t : InputTy) → IsInputRange ceiling t → InputIsLawful ceiling t
lawful_input ceiling input.Truth h = tt
lawful_input ceiling (input.Whole l g) h = h

none_more : (x : List ℕ) (is : List Input) (i : Input) → NoneNamed x is → (i.name ≡ x → ⊥) → NoneNamed x (is ++ i ∷ [])
none_more x [] i h d = (d, tt)
none_more x (j ∷ is) i h d = (h.0, none_more x is i h.1 d)

named_none : (x : List ℕ) (is : List Input) (j : Input) → input_named x (j ∷ is) ≡ None → (x ≡ j.name → ⊥) × (input_named x is ≡ None)
named_none x is j h = go (bytes_eq x j.name) refl h
  where
    go : (b : Bool) → bytes_eq x j.name ≡ b → cond b (Some j) (input_named x is) ≡ None → (x ≡ j.name → ⊥) × (input_named x is ≡ None)
    go true e h = absurd cc
    go false e h = (λ q. (let t = (bytes_eq-Decides x j.name).1 q in cc), h)

lawful_more : (ceiling : ℕ) (is : List Input) (x : List ℕ) (t : InputTy) → InputsAreLawful ceiling is → input_named x is ≡ None → InputIsLawful ceiling t → InputsAreLawful ceiling (is ++ record { name = x; type = t } ∷ [])
lawful_more ceiling [] x t h n l = (l, tt, tt)
lawful_more ceiling (j ∷ is) x t h n l =
    let d = named_none x is j n in
    (h.0, none_more j.name is (record { name = x; type = t }) h.1 d.0, lawful_more ceiling is x t h.2 d.1 l)

-- what the declarations before are, once a ceiling stands
record AreLawful (B : Earlier) : Type 0 where
  some : 1 ≤ B.ceiling
  most : B.ceiling ≤ 1000000
  inputs : InputsAreLawful B.ceiling B.inputs
  metric : IsRange B.ceiling (metric_least B.metric) (metric_greatest B.metric)

lawful_one : (second : Bool) (B : Earlier) (d : Declaration) → IsInner second d → IsTypedDeclaration B d → AreLawful B → AreLawful (with_declaration B d)
lawful_one second B (InputIs x t) i h l = record { some = l.some; most = l.most; inputs = lawful_more B.ceiling B.inputs x t l.inputs h.0 (lawful_input B.ceiling t h.1); metric = l.metric }
lawful_one second B (MetricIs least greatest) i h l = record { some = l.some; most = l.most; inputs = l.inputs; metric = h.1 }
lawful_one second B (DefIs f ps r e) i h l = record { some = l.some; most = l.most; inputs = l.inputs; metric = l.metric }
lawful_one second B (LanguageIs n) i h l = absurd i
lawful_one second B (CeilingIs n) i h l = absurd i
lawful_one second B (MainIs e) i h l = absurd i

lawful_main : (second : Bool) (B : Earlier) (d : Declaration) → IsMain second d → AreLawful B → AreLawful (with_declaration B d)
lawful_main second B (MainIs e) i l = l
lawful_main second B (InputIs x t) i l = absurd i
lawful_main second B (MetricIs least greatest) i l = absurd i
lawful_main second B (DefIs f ps r e) i l = absurd i
lawful_main second B (LanguageIs n) i l = absurd i
lawful_main second B (CeilingIs n) i l = absurd i

lawful_all : (second : Bool) (ds : List Declaration) (B : Earlier) → EndWithMain second ds → AreTyped B ds → AreLawful B → AreLawful (with_declarations B ds)
lawful_all second [] B end a l = absurd end
lawful_all second (d ∷ []) B end a l = lawful_main second B d end l
lawful_all second (d ∷ next ∷ ds) B end a l = lawful_all second (next ∷ ds) (with_declaration B d) end.1 a.1 (lawful_one second B d end.0 a.0 l)

lawful_ceiling : (second : Bool) (ds : List Declaration) → BeginWithCeiling second ds → AreTyped nothing_declared ds → AreLawful (with_declarations nothing_declared ds)
lawful_ceiling second [] h a = absurd h
lawful_ceiling second (CeilingIs n ∷ ds) h a = let s = a.0 in lawful_all second ds (with_declaration nothing_declared (CeilingIs n)) h.1 a.1 (record { some = a.0; most = h.0; inputs = tt; metric = (omega arith, omega arith) })
lawful_ceiling second (LanguageIs n ∷ ds) h a = absurd h
lawful_ceiling second (InputIs x t ∷ ds) h a = absurd h
lawful_ceiling second (MetricIs l g ∷ ds) h a = absurd h
lawful_ceiling second (DefIs f ps r b ∷ ds) h a = absurd h
lawful_ceiling second (MainIs m ∷ ds) h a = absurd h

lawful_start : (ds : List Declaration) → IsPrintable ds → AreTyped nothing_declared ds → AreLawful (with_declarations nothing_declared ds)
lawful_start [] h a = absurd h
lawful_start (LanguageIs n ∷ ds) h a = lawful_ceiling true ds h.1 a.1
lawful_start (CeilingIs n ∷ ds) h a = lawful_ceiling false (CeilingIs n ∷ ds) h a
lawful_start (InputIs x t ∷ ds) h a = absurd h
lawful_start (MetricIs l g ∷ ds) h a = absurd h
lawful_start (DefIs f ps r b ∷ ds) h a = absurd h
lawful_start (MainIs m ∷ ds) h a = absurd h

-- no more inputs than declarations
pub few_inputs : (ds : List Declaration) (B : Earlier) → length (with_declarations B ds).inputs ≤ length B.inputs + length ds
few_inputs [] B = omega arith
few_inputs (LanguageIs n ∷ ds) B = let i = few_inputs ds (with_declaration B (LanguageIs n)) in omega (arith, i)
few_inputs (CeilingIs n ∷ ds) B = let i = few_inputs ds (with_declaration B (CeilingIs n)) in omega (arith, i)
few_inputs (InputIs x t ∷ ds) B =
    let i = few_inputs ds (with_declaration B (InputIs x t)) in
    let n : Input = record { name = x; type = t } in
    let l = length-append B.inputs (n ∷ []) in omega (arith, i, l)
few_inputs (MetricIs l g ∷ ds) B = let i = few_inputs ds (with_declaration B (MetricIs l g)) in omega (arith, i)
few_inputs (DefIs f ps r e ∷ ds) B = let i = few_inputs ds (with_declaration B (DefIs f ps r e)) in omega (arith, i)
few_inputs (MainIs e ∷ ds) B = let i = few_inputs ds (with_declaration B (MainIs e)) in omega (arith, i)

pub declared_lawful : (ds : List Declaration) → IsPrintable ds → IsTyped ds → length ds < 2 ^ 32 → IsLawful (declared_by ds)
declared_lawful ds h a few =
    let l = lawful_start ds h a in
    let f = few_inputs ds nothing_declared in
    record { some = l.some; most = l.most; few = omega (arith, f, few); inputs = l.inputs; metric = l.metric }
