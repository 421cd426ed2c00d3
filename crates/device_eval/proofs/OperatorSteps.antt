-- The value of an operator, out of its value in each row.
use Rattle.std.proofs.Common.{◌≡◌, ◌≢◌, ℕ, zero, suc, ◌<◌, ◌+◌, ◌*◌, List, [], ◌∷◌, length, refl, sym, ◌∙◌, ap, subst}
use Rattle.std.proofs.Common.{arith, Bool, true, false, Option, Some, option_map, get_or}
use Rattle.fc_values.specs.declared.builtins.Builtin.{Builtin}
use Rattle.fc_values.specs.declared.builtins.Builtin.TheVariants as op
use Rattle.fc_values.specs.Types.{LocalType, ValueType, TypeLocal, TypeField, leaves}
use Rattle.fc_values.specs.BuiltinTypes.{Takes, Lifts, HasRule, rule_by, lifted, inner, inners, has_field}
use Rattle.fc_values.specs.Values.{LocalValue}
use Rattle.fc_values.specs.Fields.{AnyValue, ValueLocal, ValueField, FitEachOver, Rises, rises}
use Rattle.fc_values.specs.Builtins.{is_hood, local_value, builtin_value, field_over}
use Rattle.fc_values.specs.Positions.{argument_nth, arguments_nth, value_over}
use Rattle.fc_values.proofs.BuiltinTyped.{no_devices, some_devices, fields_over}
use Rattle.fc_values.proofs.ByPosition.{none_value, value_over-nth}
use Rattle.fc_values.proofs.Rising.{rises_test}
use Rattle.value_columns.specs.Arguments.{leaves_of, arguments_in}
use Rattle.value_columns.specs.Columns.{row_in, entries_in}
use Rattle.scope_columns.specs.Words.{SameBelow, words_for, value_in}
use Rattle.device_eval.specs.Kids.{rows_for, words_of_all, StandIn, Applied}

-- ---- from each row to the value

-- a field whose values at its devices are those in the rows
rows_over : (f : ℕ → Option LocalValue) (ws : List ℕ) (t : LocalType) (n at j : ℕ) (es : List ℕ)
    → ((i : ℕ) → i < length es → f (get_or es i 0) ≡ Some (row_in ws t n at (j + i)))
    → field_over f es ≡ Some (entries_in ws t n at j es)
rows_over f ws t n at j [] h = refl
rows_over f ws t n at j (e ∷ es) h =
    let row : (i k : ℕ) → i ≡ k → Some (row_in ws t n at i) ≡ Some (row_in ws t n at k) =
    λ i k same. ap (λ m. Some (row_in ws t n at m)) same in
    let first : f e ≡ Some (row_in ws t n at j) = h 0 (omega arith) ∙ row (j + 0) j (omega arith) in
    let rest = rows_over f ws t n at (j + 1) es
    (λ i l. h (suc i) (omega arith) ∙ row (j + suc i) (j + 1 + i) (omega arith)) in
    rw (first, rest) refl

-- the value of a field in a row
entry_nth : (ws : List ℕ) (t : LocalType) (n at j : ℕ) (ds : List ℕ) (i : ℕ) → i < length ds
    → argument_nth i (ValueField (entries_in ws t n at j ds)) ≡ row_in ws t n at (j + i)
entry_nth ws t n at j [] i h = absurd (omega arith)
entry_nth ws t n at j (d ∷ ds) zero h = ap (row_in ws t n at) (omega arith)
entry_nth ws t n at j (d ∷ ds) (suc i) h =
    entry_nth ws t n at (j + 1) ds i (omega arith) ∙ ap (row_in ws t n at) (omega arith)

module _ (o : Builtin) (ceiling device : ℕ) (plain : is_hood o ≡ false) (ds : List ℕ) (ts : List ValueType)
    (vs : List AnyValue) (fit : FitEachOver ceiling ds ts vs) where
  local_operator : {v : LocalValue} → has_field ts ≡ false → local_value o ceiling (arguments_nth 0 vs) ≡ Some v
      → builtin_value o ceiling device vs ≡ Some (ValueLocal v)
  local_operator e h =
      none_value o ceiling device vs plain (no_devices ceiling ds ts vs e fit) ∙ ap (option_map ValueLocal) h

  field_operator : (ws : List ℕ) (t : LocalType) (n at : ℕ) → has_field ts ≡ true → rises ds ≡ true
      → ((i : ℕ) → i < length ds → local_value o ceiling (arguments_nth i vs) ≡ Some (row_in ws t n at i))
      → builtin_value o ceiling device vs ≡ Some (ValueField (entries_in ws t n at 0 ds))
  field_operator ws t n at e r h =
      let some = some_devices ceiling ds ts vs e fit in
      let over = fields_over ceiling ds ts vs fit in
      let f = value_over o ceiling vs in
      let all = rows_over f ws t n at 0 ds
      (λ i l. value_over-nth o ceiling ds i vs r over l ∙ h i l
      ∙ ap (λ k. Some (row_in ws t n at k)) (omega arith)) in
      let is : builtin_value o ceiling device vs ≡ option_map ValueField (field_over f ds) =
      rw (plain, some, r, over) refl in
      is ∙ ap (option_map ValueField) all

-- an operator gives a field where one of its arguments is one
lifted_local : (b : Bool) (t u : LocalType) → TypeLocal t ≡ lifted b u → b ≡ false
lifted_local true t u e = absurd cc
lifted_local false t u e = refl

lifted_field : (b : Bool) (t u : LocalType) → TypeField t ≡ lifted b u → b ≡ true
lifted_field true t u e = refl
lifted_field false t u e = absurd cc

operator_value : (o : Builtin) (ceiling device : ℕ) → is_hood o ≡ false → (ds : List ℕ) (ts : List ValueType)
    (vs : List AnyValue) → FitEachOver ceiling ds ts vs → Rises ds → (t : ValueType) (u : LocalType) (ws : List ℕ)
    (at : ℕ) → t ≡ lifted (has_field ts) u
    → ((i : ℕ) → i < rows_for t 1 (length ds) → local_value o ceiling (arguments_nth i vs)
    ≡ Some (row_in ws (inner t) (rows_for t 1 (length ds)) at i))
    → builtin_value o ceiling device vs ≡ Some (value_in ws t ds at)
operator_value o ceiling device plain ds ts vs fit r (TypeLocal t) u ws at e h =
    local_operator o ceiling device plain ds ts vs fit (lifted_local (has_field ts) t u e) (h 0 (omega arith))
operator_value o ceiling device plain ds ts vs fit r (TypeField t) u ws at e h =
    field_operator o ceiling device plain ds ts vs fit ws t (length ds) at (lifted_field (has_field ts) t u e)
    (rises_test ds r) h

-- ---- the arguments, where fields have so many rows as local values

all_words : (ts : List ValueType) (rows n : ℕ) → (has_field ts ≡ true → rows ≡ n)
    → words_of_all ts rows n ≡ rows * leaves_of (inners ts)
all_words [] rows n h = omega arith
all_words (TypeLocal t ∷ ts) rows n h = let rest = all_words ts rows n h in omega (arith, rest)
all_words (TypeField t ∷ ts) rows n h =
    let e : rows ≡ n = h refl in
    let rest = all_words ts rows n (λ f. e) in
    let first : rows * leaves t ≡ n * leaves t = ap (λ k. k * leaves t) e in
    omega (arith, rest, first)

row_arguments : (ws ds : List ℕ) (ts : List ValueType) (vs : List AnyValue) (rows at i : ℕ)
    → (has_field ts ≡ true → rows ≡ length ds) → i < rows → StandIn ws ds rows at ts vs
    → arguments_nth i vs ≡ arguments_in ws (inners ts) rows at i
row_arguments ws ds [] [] rows at i f h s = refl
row_arguments ws ds [] (v ∷ vs) rows at i f h s = absurd s
row_arguments ws ds (t ∷ ts) [] rows at i f h s = absurd s
row_arguments ws ds (TypeLocal t ∷ ts) (v ∷ vs) rows at i f h s =
    let first : argument_nth i v ≡ row_in ws t rows at i = ap (argument_nth i) (s.0 i h) in
    let rest = row_arguments ws ds ts vs rows (at + rows * leaves t) i f h s.1 in
    rw (first, rest) refl
row_arguments ws ds (TypeField t ∷ ts) (v ∷ vs) rows at i f h s =
    let e : rows ≡ length ds = f refl in
    let first : argument_nth i v ≡ row_in ws t rows at i =
    ap (argument_nth i) s.0 ∙ entry_nth ws t (length ds) at 0 ds i (omega (arith, h, e))
    ∙ ap (λ j. row_in ws t (length ds) at j) (omega arith) ∙ ap (λ n. row_in ws t n at i) (sym e) in
    let after = subst (λ n. StandIn ws ds rows (at + n * leaves t) ts vs) (sym e) s.1 in
    let rest = row_arguments ws ds ts vs rows (at + rows * leaves t) i (λ g. e) h after in
    rw (first, rest) refl

-- ---- an operator

-- what is none of the hoods
pub is_plain : (o : Builtin) → o ≢ op.SumHood → o ≢ op.AnyHood → o ≢ op.AllHood → o ≢ op.MinHoodLoc
    → o ≢ op.MaxHoodLoc → is_hood o ≡ false
is_plain op.SumHood a b c d e = absurd (a refl)
is_plain op.AnyHood a b c d e = absurd (b refl)
is_plain op.AllHood a b c d e = absurd (c refl)
is_plain op.MinHoodLoc a b c d e = absurd (d refl)
is_plain op.MaxHoodLoc a b c d e = absurd (e refl)
is_plain _ a b c d e = refl

-- how many words a value takes, by its rows
words_are : (t : ValueType) (n : ℕ) → words_for t n ≡ rows_for t 1 n * leaves (inner t)
words_are (TypeLocal t) n = omega arith
words_are (TypeField t) n = refl

some_rows : (t : ValueType) (n : ℕ) → 0 < n → 0 < rows_for t 1 n
some_rows (TypeLocal t) n h = omega arith
some_rows (TypeField t) n h = h

inner_lifted : (b : Bool) (s : LocalType) → inner (lifted b s) ≡ s
inner_lifted true s = refl
inner_lifted false s = refl

module _ (o : Builtin) (ts : List ValueType) (t : ValueType) (rule : HasRule o ts t) (plain : is_hood o ≡ false)
    (devices rows : ℕ) (is_rows : rows ≡ rows_for t 1 devices) where
  lifts : Lifts o ts t
  lifts = subst (λ b. rule_by b o ts t) plain rule

  pub operator_takes : (u : LocalType) → u ≡ inner t → Takes o (inners ts) u
  operator_takes u type =
      let l = lifts in
      let same : l.local ≡ u = sym (type ∙ ap inner l.value ∙ inner_lifted (has_field ts) l.local) in
      subst (Takes o (inners ts)) same l.takes

  -- fields are over so many devices as there are rows
  field_rows : has_field ts ≡ true → rows ≡ devices
  field_rows e =
      let l = lifts in
      is_rows ∙ ap (λ u. rows_for u 1 devices) (l.value ∙ ap (λ b. lifted b l.local) e)

  pub operator_rows : 0 < devices → 0 < rows
  operator_rows h = omega (arith, some_rows t devices h, is_rows)

  pub operator_long : (count at : ℕ) → count ≡ at + words_of_all ts (rows_for t 1 devices) devices
      → count ≡ at + rows * leaves_of (inners ts)
  operator_long count at long =
      long ∙ ap (λ k. at + words_of_all ts k devices) (sym is_rows)
      ∙ ap (λ k. at + k) (all_words ts rows devices field_rows)

  module _ (ceiling own at : ℕ) (old new : List ℕ) (u : LocalType) (type : u ≡ inner t)
      (values : (i : ℕ) → i < rows
      → local_value o ceiling (arguments_in old (inners ts) rows at i) ≡ Some (row_in new u rows at i)) where
    row_value : (ds : List ℕ) (vs : List AnyValue) → length ds ≡ devices → StandIn old ds rows at ts vs → (i : ℕ)
        → i < rows_for t 1 (length ds) → local_value o ceiling (arguments_nth i vs)
        ≡ Some (row_in new (inner t) (rows_for t 1 (length ds)) at i)
    row_value ds vs many s i h =
        let same : rows_for t 1 (length ds) ≡ rows = ap (rows_for t 1) many ∙ sym is_rows in
        let b : i < rows = omega (arith, h, same) in
        ap (local_value o ceiling) (row_arguments old ds ts vs rows at i (λ e. field_rows e ∙ sym many) b s)
        ∙ values i b ∙ ap (λ x. Some (row_in new x rows at i)) type
        ∙ ap (λ n. Some (row_in new (inner t) n at i)) (sym same)

    pub operator_applied : SameBelow at old new → length new ≡ at + rows * leaves u
        → Applied o ceiling ts t devices own at old new
    operator_applied kept long =
        let l = lifts in
        let size : rows * leaves u ≡ words_for t devices =
        ap (λ k. k * leaves u) is_rows ∙ ap (λ x. rows_for t 1 devices * leaves x) type ∙ sym (words_are t devices) in
        record {
          kept = kept;
          long = long ∙ ap (λ k. at + k) size;
          value = λ device ds vs many r d fit s.
              operator_value o ceiling device plain ds ts vs fit r t l.local new at l.value
              (row_value ds vs many (subst (λ k. StandIn old ds k at ts vs) (sym is_rows) s));
        }
