-- What the hoods make of arguments that stand in columns.
use Rattle.std.proofs.Common.{◌≡◌, ℕ, ◌<◌, ◌≤◌, ◌+◌, ◌*◌, List, [], ◌∷◌, length, refl, sym, ◌∙◌, ap, subst, arith}
use Rattle.std.proofs.Common.{true, Option, Some, option_map, min}
use Rattle.fc_values.specs.declared.builtins.Builtin.{Builtin}
use Rattle.fc_values.specs.declared.builtins.Builtin.TheVariants as op
use Rattle.fc_values.specs.Types.{LocalType, IntType, BoolType, ValueType, TypeLocal, TypeField, leaves}
use Rattle.fc_values.specs.BuiltinTypes.{Folds, folds_min, folds_max, folds_sum, folds_any, folds_all}
use Rattle.fc_values.specs.BuiltinTypes.{HasRule, rule_by, inner}
use Rattle.fc_values.specs.Values.{LocalValue, IntValue, BoolValue}
use Rattle.fc_values.specs.Fields.{Entries, AnyValue, ValueLocal, ValueField, Rises}
use Rattle.fc_values.specs.Builtins.{is_hood, builtin_value, others, sum_of, any_of, all_of, least_of, greatest_of}
use Rattle.value_columns.specs.Columns.{word_in, local_in, entries_in}
use Rattle.value_columns.specs.OtherRows.{other_rows}
use Rattle.value_columns.proofs.OtherReads.{others_are}
use Rattle.scope_columns.specs.Words.{SameBelow}
use Rattle.device_eval.specs.Kids.{rows_for, words_of_all, StandIn, Applied}

-- ---- the types of a hood's arguments

-- a field of a type
abbrev pub OneField : LocalType → List ValueType → ValueType → Type 0
OneField s ts t = (ts ≡ TypeField s ∷ []) × (t ≡ TypeLocal s)

-- a field and a local value of some type
abbrev pub FieldAndLocal : List ValueType → ValueType → Type 0
FieldAndLocal ts t = (s : LocalType) × (ts ≡ TypeField s ∷ TypeLocal s ∷ []) × (t ≡ TypeLocal s)

-- those of each hood
abbrev pub FoldsAs : Builtin → List ValueType → ValueType → Type 0
FoldsAs op.MinHoodLoc ts t = FieldAndLocal ts t
FoldsAs op.MaxHoodLoc ts t = FieldAndLocal ts t
FoldsAs op.SumHood ts t = OneField IntType ts t
FoldsAs op.AnyHood ts t = OneField BoolType ts t
FoldsAs op.AllHood ts t = OneField BoolType ts t
FoldsAs _ ts t = ⊥

folds_as : {b : Builtin} {ts : List ValueType} {t : ValueType} → Folds b ts t → FoldsAs b ts t
folds_as (folds_min s) = (s, refl, refl)
folds_as (folds_max s) = (s, refl, refl)
folds_as folds_sum = (refl, refl)
folds_as folds_any = (refl, refl)
folds_as folds_all = (refl, refl)

-- the types of a builtin that is this hood
pub hood_types : (o b : Builtin) (ts : List ValueType) (t : ValueType) → is_hood b ≡ true → o ≡ b → HasRule o ts t
    → FoldsAs b ts t
hood_types o b ts t hood e rule =
    folds_as (subst (λ k. rule_by k b ts t) hood (subst (λ x. HasRule x ts t) e rule))

-- ---- room

pub field_room : (s : LocalType) (ts : List ValueType) (t : ValueType) (rows n at count : ℕ) → OneField s ts t
    → count ≡ at + words_of_all ts rows n → at + n * leaves s ≤ count
field_room s ts t rows n at count types long =
    let size : words_of_all ts rows n ≡ n * leaves s + 0 = ap (λ us. words_of_all us rows n) types.0 in
    omega (arith, long, size)

pub two_room : (ts : List ValueType) (t : ValueType) (u : LocalType) (n at count : ℕ) → FieldAndLocal ts t
    → u ≡ inner t → count ≡ at + words_of_all ts (rows_for t 1 n) n → at + n * leaves u + leaves u ≤ count
two_room ts t u n at count types e long =
    let s : LocalType = types.0 in
    let one : leaves u ≡ leaves s = ap leaves (e ∙ ap inner types.2) in
    let many : n * leaves u ≡ n * leaves s = ap (λ k. n * k) one in
    let size : words_of_all ts (rows_for t 1 n) n ≡ n * leaves s + (1 * leaves s + 0) =
    ap (λ us. words_of_all us (rows_for t 1 n) n) types.1
    ∙ ap (λ x. n * leaves s + (rows_for x 1 n * leaves s + 0)) types.2 in
    omega (arith, long, size, one, many)

-- ---- the value

applied_as : {a b : Builtin} {ceiling : ℕ} {ts us : List ValueType} {t u : ValueType} {devices own at : ℕ}
    {old new : List ℕ} → a ≡ b → ts ≡ us → t ≡ u → Applied b ceiling us u devices own at old new
    → Applied a ceiling ts t devices own at old new
applied_as {a} {b} {ceiling} {ts} {us} {t} {u} {devices} {own} {at} {old} {new} e f g h =
    subst (λ x. Applied x ceiling ts t devices own at old new) (sym e)
    (subst (λ x. Applied b ceiling x t devices own at old new) (sym f)
    (subst (λ x. Applied b ceiling us x devices own at old new) (sym g) h))

module _ (ceiling devices own at : ℕ) (old new : List ℕ) (inside : own < devices) (kept : SameBelow at old new) where
  -- the values of a field at the devices other than the firing one
  others_here : (u : LocalType) (device : ℕ) (ds : List ℕ) → length ds ≡ devices → Rises ds → device ≡ word_in ds own
      → others device (entries_in old u (length ds) at 0 ds) ≡ other_rows old u devices at own
  others_here u device ds l r d =
      others_are device old u at own ds r (omega (arith, inside, l)) d ∙ ap (λ n. other_rows old u n at own) l

  -- a hood of a field alone
  module _ (o b : Builtin) (u : LocalType) (f : List LocalValue → Option LocalValue)
      (is : (device : ℕ) (es : Entries)
      → builtin_value b ceiling device (ValueField es ∷ []) ≡ option_map ValueLocal (f (others device es)))
      (long : length new ≡ at + leaves u) (made : f (other_rows old u devices at own) ≡ Some (local_in new u at)) where
    one_value : (device : ℕ) (ds : List ℕ) (vs : List AnyValue) → length ds ≡ devices → Rises ds
        → device ≡ word_in ds own → StandIn old ds 1 at (TypeField u ∷ []) vs
        → builtin_value b ceiling device vs ≡ Some (ValueLocal (local_in new u at))
    one_value device ds [] l r d s = absurd s
    one_value device ds (v ∷ []) l r d s =
        ap (λ w. builtin_value b ceiling device (w ∷ [])) s.0
        ∙ is device (entries_in old u (length ds) at 0 ds)
        ∙ ap (λ us. option_map ValueLocal (f us)) (others_here u device ds l r d)
        ∙ ap (option_map ValueLocal) made
    one_value device ds (v ∷ w ∷ vs) l r d s = absurd s.1

    of_field : {ts : List ValueType} {t : ValueType} → o ≡ b → OneField u ts t
        → Applied o ceiling ts t devices own at old new
    of_field e types = applied_as e types.0 types.1 (record {
      kept = kept;
      long = long;
      value = λ device ds vs l r d fit s. one_value device ds vs l r d s;
    })

  -- a hood of a field and a local value
  module _ (o b : Builtin) (u : LocalType) (f : LocalValue → List LocalValue → LocalValue)
      (is : (device : ℕ) (es : Entries) (v : LocalValue)
      → builtin_value b ceiling device (ValueField es ∷ ValueLocal v ∷ []) ≡ Some (ValueLocal (f v (others device es))))
      (long : length new ≡ at + leaves u)
      (made : local_in new u at ≡ f (local_in old u (at + devices * leaves u)) (other_rows old u devices at own)) where
    two_value : (device : ℕ) (ds : List ℕ) (vs : List AnyValue) → length ds ≡ devices → Rises ds
        → device ≡ word_in ds own → StandIn old ds 1 at (TypeField u ∷ TypeLocal u ∷ []) vs
        → builtin_value b ceiling device vs ≡ Some (ValueLocal (local_in new u at))
    two_value device ds [] l r d s = absurd s
    two_value device ds (v ∷ []) l r d s = absurd s.1
    two_value device ds (v ∷ w ∷ []) l r d s =
        let field = entries_in old u (length ds) at 0 ds in
        let local = local_in old u (at + devices * leaves u) in
        let alone : w ≡ ValueLocal local =
        s.1.0 0 (omega arith) ∙ ap (λ n. ValueLocal (local_in old u (at + n * leaves u))) l in
        ap (λ x. builtin_value b ceiling device (x ∷ w ∷ [])) s.0
        ∙ ap (λ x. builtin_value b ceiling device (ValueField field ∷ x ∷ [])) alone
        ∙ is device field local
        ∙ ap (λ us. Some (ValueLocal (f local us))) (others_here u device ds l r d)
        ∙ ap (λ x. Some (ValueLocal x)) (sym made)
    two_value device ds (v ∷ w ∷ x ∷ vs) l r d s = absurd s.1.1

    of_two : {ts : List ValueType} {t : ValueType} → o ≡ b → u ≡ inner t → FieldAndLocal ts t
        → Applied o ceiling ts t devices own at old new
    of_two {ts} {t} e g types =
        let same : types.0 ≡ u = sym (g ∙ ap inner types.2) in
        let args : ts ≡ TypeField u ∷ TypeLocal u ∷ [] = types.1 ∙ ap (λ x. TypeField x ∷ TypeLocal x ∷ []) same in
        applied_as e args (types.2 ∙ ap TypeLocal same) (record {
          kept = kept;
          long = long;
          value = λ device ds vs l r d fit s. two_value device ds vs l r d s;
        })

  module _ (o : Builtin) (ts : List ValueType) (t : ValueType) (rule : HasRule o ts t) where
    pub sum_applied : o ≡ op.SumHood → length new ≡ at + 1
        → option_map (λ n. IntValue (min ceiling n)) (sum_of (other_rows old IntType devices at own))
        ≡ Some (local_in new IntType at) → Applied o ceiling ts t devices own at old new
    sum_applied e long made =
        of_field o op.SumHood IntType (λ vs. option_map (λ n. IntValue (min ceiling n)) (sum_of vs)) (λ d es. refl)
        long made e (hood_types o op.SumHood ts t refl e rule)

    pub any_applied : o ≡ op.AnyHood → length new ≡ at + 1
        → option_map BoolValue (any_of (other_rows old BoolType devices at own)) ≡ Some (local_in new BoolType at)
        → Applied o ceiling ts t devices own at old new
    any_applied e long made =
        of_field o op.AnyHood BoolType (λ vs. option_map BoolValue (any_of vs)) (λ d es. refl) long made e
        (hood_types o op.AnyHood ts t refl e rule)

    pub all_applied : o ≡ op.AllHood → length new ≡ at + 1
        → option_map BoolValue (all_of (other_rows old BoolType devices at own)) ≡ Some (local_in new BoolType at)
        → Applied o ceiling ts t devices own at old new
    all_applied e long made =
        of_field o op.AllHood BoolType (λ vs. option_map BoolValue (all_of vs)) (λ d es. refl) long made e
        (hood_types o op.AllHood ts t refl e rule)

    module _ (u : LocalType) (type : u ≡ inner t) (long : length new ≡ at + leaves u) where
      pub least_applied : o ≡ op.MinHoodLoc
          → local_in new u at ≡ least_of (local_in old u (at + devices * leaves u)) (other_rows old u devices at own)
          → Applied o ceiling ts t devices own at old new
      least_applied e made =
          of_two o op.MinHoodLoc u least_of (λ d es v. refl) long made e type
          (hood_types o op.MinHoodLoc ts t refl e rule)

      pub greatest_applied : o ≡ op.MaxHoodLoc
          → local_in new u at ≡ greatest_of (local_in old u (at + devices * leaves u)) (other_rows old u devices at own)
          → Applied o ceiling ts t devices own at old new
      greatest_applied e made =
          of_two o op.MaxHoodLoc u greatest_of (λ d es v. refl) long made e type
          (hood_types o op.MaxHoodLoc ts t refl e rule)
