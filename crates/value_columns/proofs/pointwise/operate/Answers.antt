use Rattle.std.proofs.Common.{rules, ◌≡◌, ℕ, ◌+◌, ◌-◌, ◌*◌, ◌<◌, min, not, ◌&&◌, ◌||◌, length, refl}
use Rattle.fc_values.specs.declared.builtins.Builtin.TheVariants as op
use Rattle.fc_values.specs.Types.{LocalType, leaves, local_type_of}
use Rattle.fc_values.specs.Values.{compare_values, lesser, greater, is_less, is_equal}
use Rattle.value_columns.specs.Arguments.{types_in}
use Rattle.value_columns.specs.Columns.{row_in, truth_of, word_in}
use Rattle.value_columns.proofs.Operators as made
use Rattle.value_columns.proofs.pointwise.operate.Goals as goal

pub returns-in-Add : goal.returns-in-Add
returns-in-Add c =
    let types = made.typed_as c.args.builtin op.Add (types_in c.args.types.now) (local_type_of c.args.ty.now) c.in-Add.is c.requires.types in
    let values : (i : ℕ) → i < c.args.rows → word_in c.combine.new.words (c.args.at + i) ≡ min c.args.ceiling ((word_in c.args.words.now (c.args.at + i)) + (word_in c.args.words.now (c.args.at + c.args.rows + i))) =
    λ i h. let post = c.combine.ensures.values i h in search rules in
    made.made_as c.args.builtin op.Add c.args.ceiling (types_in c.args.types.now) _ (local_type_of c.args.ty.now) _ c.args.rows c.args.at
    c.args.words.now c.combine.new.words c.in-Add.is types.0 types.1
    (made.two_integers c.args.rows c.args.at c.args.words.now c.combine.new.words c.combine.ensures.before (λ a b. min c.args.ceiling (a + b)) values)

pub returns-in-Sub : goal.returns-in-Sub
returns-in-Sub c =
    let types = made.typed_as c.args.builtin op.Sub (types_in c.args.types.now) (local_type_of c.args.ty.now) c.in-Sub.is c.requires.types in
    let values : (i : ℕ) → i < c.args.rows → word_in c.combine-in-Sub.new.words (c.args.at + i) ≡ (word_in c.args.words.now (c.args.at + i)) - (word_in c.args.words.now (c.args.at + c.args.rows + i)) =
    λ i h. let post = c.combine-in-Sub.ensures.values i h in search rules in
    made.made_as c.args.builtin op.Sub c.args.ceiling (types_in c.args.types.now) _ (local_type_of c.args.ty.now) _ c.args.rows c.args.at
    c.args.words.now c.combine-in-Sub.new.words c.in-Sub.is types.0 types.1
    (made.two_integers c.args.rows c.args.at c.args.words.now c.combine-in-Sub.new.words c.combine-in-Sub.ensures.before (λ a b. a - b) values)

pub returns-in-Mul : goal.returns-in-Mul
returns-in-Mul c =
    let types = made.typed_as c.args.builtin op.Mul (types_in c.args.types.now) (local_type_of c.args.ty.now) c.in-Mul.is c.requires.types in
    let values : (i : ℕ) → i < c.args.rows → word_in c.combine-in-Mul.new.words (c.args.at + i) ≡ min c.args.ceiling ((word_in c.args.words.now (c.args.at + i)) * (word_in c.args.words.now (c.args.at + c.args.rows + i))) =
    λ i h. let post = c.combine-in-Mul.ensures.values i h in search rules in
    made.made_as c.args.builtin op.Mul c.args.ceiling (types_in c.args.types.now) _ (local_type_of c.args.ty.now) _ c.args.rows c.args.at
    c.args.words.now c.combine-in-Mul.new.words c.in-Mul.is types.0 types.1
    (made.two_integers c.args.rows c.args.at c.args.words.now c.combine-in-Mul.new.words c.combine-in-Mul.ensures.before (λ a b. min c.args.ceiling (a * b)) values)

pub returns-in-And : goal.returns-in-And
returns-in-And c =
    let types = made.typed_as c.args.builtin op.And (types_in c.args.types.now) (local_type_of c.args.ty.now) c.in-And.is c.requires.types in
    let values : (i : ℕ) → i < c.args.rows → truth_of (word_in c.combine-in-And.new.words (c.args.at + i)) ≡ (truth_of (word_in c.args.words.now (c.args.at + i)) && truth_of (word_in c.args.words.now (c.args.at + c.args.rows + i))) =
    λ i h. let post = c.combine-in-And.ensures.values i h in search rules in
    made.made_as c.args.builtin op.And c.args.ceiling (types_in c.args.types.now) _ (local_type_of c.args.ty.now) _ c.args.rows c.args.at
    c.args.words.now c.combine-in-And.new.words c.in-And.is types.0 types.1
    (made.two_truths c.args.rows c.args.at c.args.words.now c.combine-in-And.new.words c.combine-in-And.ensures.before (λ a b. a && b) values)

pub returns-in-Or : goal.returns-in-Or
returns-in-Or c =
    let types = made.typed_as c.args.builtin op.Or (types_in c.args.types.now) (local_type_of c.args.ty.now) c.in-Or.is c.requires.types in
    let values : (i : ℕ) → i < c.args.rows → truth_of (word_in c.combine-in-Or.new.words (c.args.at + i)) ≡ (truth_of (word_in c.args.words.now (c.args.at + i)) || truth_of (word_in c.args.words.now (c.args.at + c.args.rows + i))) =
    λ i h. let post = c.combine-in-Or.ensures.values i h in search rules in
    made.made_as c.args.builtin op.Or c.args.ceiling (types_in c.args.types.now) _ (local_type_of c.args.ty.now) _ c.args.rows c.args.at
    c.args.words.now c.combine-in-Or.new.words c.in-Or.is types.0 types.1
    (made.two_truths c.args.rows c.args.at c.args.words.now c.combine-in-Or.new.words c.combine-in-Or.ensures.before (λ a b. a || b) values)

pub returns-in-Not : goal.returns-in-Not
returns-in-Not c =
    let types = made.typed_as c.args.builtin op.Not (types_in c.args.types.now) (local_type_of c.args.ty.now) c.in-Not.is c.requires.types in
    made.made_as c.args.builtin op.Not c.args.ceiling (types_in c.args.types.now) _ (local_type_of c.args.ty.now) _ c.args.rows c.args.at
    c.args.words.now c.negate.new.words c.in-Not.is types.0 types.1
    (made.one_truth c.args.rows c.args.at c.args.words.now c.negate.new.words c.negate.ensures.before not c.negate.ensures.values)

pub returns-in-Rise : goal.returns-in-Rise
returns-in-Rise c =
    let types = made.typed_as c.args.builtin op.Rise (types_in c.args.types.now) (local_type_of c.args.ty.now) c.in-Rise.is c.requires.types in
    made.made_as c.args.builtin op.Rise c.args.ceiling (types_in c.args.types.now) _ (local_type_of c.args.ty.now) _ c.args.rows c.args.at
    c.args.words.now c.rise.new.words c.in-Rise.is types.0 types.1
    (made.three_integers c.args.rows c.args.at c.args.words.now c.rise.new.words c.rise.ensures.before (λ a b s. min a (b + s)) c.rise.ensures.values)

pub test_rows-requires-clause-within : goal.test_rows-requires-clause-within
test_rows-requires-clause-within c =
    let types = made.typed_as c.args.builtin op.Less (types_in c.args.types.now) (local_type_of c.args.ty.now) c.in-Less.is c.requires.types in
    made.room_for_two (types_in c.args.types.now) (local_type_of c.index-types-0.result.now) c.args.rows c.args.at (length c.args.words.now)
    (made.two_of_first c.args.types.now types.0 c.index-types-0.result types.1 c.index-types-0.is) c.requires.length

pub returns-in-Less : goal.returns-in-Less
returns-in-Less c =
    let types = made.typed_as c.args.builtin op.Less (types_in c.args.types.now) (local_type_of c.args.ty.now) c.in-Less.is c.requires.types in
    let s : LocalType = local_type_of c.index-types-0.result.now in
    let values : (i : ℕ) → i < c.args.rows → truth_of (word_in c.test_rows.new.words (c.args.at + i))
    ≡ is_less (compare_values (row_in c.args.words.now s c.args.rows c.args.at i)
    (row_in c.args.words.now s c.args.rows (c.args.at + c.args.rows * leaves s) i)) =
    λ i h. let post = c.test_rows.ensures.values i h in search rules in
    made.made_as c.args.builtin op.Less c.args.ceiling (types_in c.args.types.now) _ (local_type_of c.args.ty.now) _ c.args.rows c.args.at
    c.args.words.now c.test_rows.new.words c.in-Less.is
    (made.two_of_first c.args.types.now types.0 c.index-types-0.result types.1 c.index-types-0.is) types.2
    (made.order_test c.args.rows c.args.at c.args.words.now c.test_rows.new.words c.test_rows.ensures.before is_less s values)

pub test_rows-requires-in-Equal-clause-within : goal.test_rows-requires-in-Equal-clause-within
test_rows-requires-in-Equal-clause-within c =
    let types = made.typed_as c.args.builtin op.Equal (types_in c.args.types.now) (local_type_of c.args.ty.now) c.in-Equal.is c.requires.types in
    made.room_for_two (types_in c.args.types.now) (local_type_of c.index-types-0-in-Equal.result.now) c.args.rows c.args.at (length c.args.words.now)
    (made.two_of_first c.args.types.now types.0 c.index-types-0-in-Equal.result types.1 c.index-types-0-in-Equal.is) c.requires.length

pub returns-in-Equal : goal.returns-in-Equal
returns-in-Equal c =
    let types = made.typed_as c.args.builtin op.Equal (types_in c.args.types.now) (local_type_of c.args.ty.now) c.in-Equal.is c.requires.types in
    let s : LocalType = local_type_of c.index-types-0-in-Equal.result.now in
    let values : (i : ℕ) → i < c.args.rows → truth_of (word_in c.test_rows-in-Equal.new.words (c.args.at + i))
    ≡ is_equal (compare_values (row_in c.args.words.now s c.args.rows c.args.at i)
    (row_in c.args.words.now s c.args.rows (c.args.at + c.args.rows * leaves s) i)) =
    λ i h. let post = c.test_rows-in-Equal.ensures.values i h in search rules in
    made.made_as c.args.builtin op.Equal c.args.ceiling (types_in c.args.types.now) _ (local_type_of c.args.ty.now) _ c.args.rows c.args.at
    c.args.words.now c.test_rows-in-Equal.new.words c.in-Equal.is
    (made.two_of_first c.args.types.now types.0 c.index-types-0-in-Equal.result types.1 c.index-types-0-in-Equal.is) types.2
    (made.order_test c.args.rows c.args.at c.args.words.now c.test_rows-in-Equal.new.words c.test_rows-in-Equal.ensures.before is_equal s values)

pub keep_rows-requires-clause-within : goal.keep_rows-requires-clause-within
keep_rows-requires-clause-within c =
    let types = made.typed_as c.args.builtin op.Min (types_in c.args.types.now) (local_type_of c.args.ty.now) c.in-Min.is c.requires.types in
    made.room_for_two (types_in c.args.types.now) (local_type_of c.args.ty.now) c.args.rows c.args.at (length c.args.words.now) types c.requires.length

pub returns-in-Min : goal.returns-in-Min
returns-in-Min c =
    let types = made.typed_as c.args.builtin op.Min (types_in c.args.types.now) (local_type_of c.args.ty.now) c.in-Min.is c.requires.types in
    let t = local_type_of c.args.ty.now in
    made.made_as c.args.builtin op.Min c.args.ceiling (types_in c.args.types.now) _ (local_type_of c.args.ty.now) _ c.args.rows c.args.at
    c.args.words.now c.keep_rows.new.words c.in-Min.is types refl
    (made.two_values c.args.rows c.args.at c.args.words.now c.keep_rows.new.words c.keep_rows.ensures.before lesser t t t c.keep_rows.ensures.values)

pub keep_rows-requires-in-Max-clause-within : goal.keep_rows-requires-in-Max-clause-within
keep_rows-requires-in-Max-clause-within c =
    let types = made.typed_as c.args.builtin op.Max (types_in c.args.types.now) (local_type_of c.args.ty.now) c.in-Max.is c.requires.types in
    made.room_for_two (types_in c.args.types.now) (local_type_of c.args.ty.now) c.args.rows c.args.at (length c.args.words.now) types c.requires.length

pub returns-in-Max : goal.returns-in-Max
returns-in-Max c =
    let types = made.typed_as c.args.builtin op.Max (types_in c.args.types.now) (local_type_of c.args.ty.now) c.in-Max.is c.requires.types in
    let t = local_type_of c.args.ty.now in
    made.made_as c.args.builtin op.Max c.args.ceiling (types_in c.args.types.now) _ (local_type_of c.args.ty.now) _ c.args.rows c.args.at
    c.args.words.now c.keep_rows-in-Max.new.words c.in-Max.is types refl
    (made.two_values c.args.rows c.args.at c.args.words.now c.keep_rows-in-Max.new.words c.keep_rows-in-Max.ensures.before greater t t t c.keep_rows-in-Max.ensures.values)

pub select_rows-requires-clause-within : goal.select_rows-requires-clause-within
select_rows-requires-clause-within c =
    let types = made.typed_as c.args.builtin op.Mux (types_in c.args.types.now) (local_type_of c.args.ty.now) c.in-Mux.is c.requires.types in
    made.room_for_choice (types_in c.args.types.now) (local_type_of c.args.ty.now) c.args.rows c.args.at (length c.args.words.now) types c.requires.length

pub returns-in-Mux : goal.returns-in-Mux
returns-in-Mux c =
    let types = made.typed_as c.args.builtin op.Mux (types_in c.args.types.now) (local_type_of c.args.ty.now) c.in-Mux.is c.requires.types in
    made.made_as c.args.builtin op.Mux c.args.ceiling (types_in c.args.types.now) _ (local_type_of c.args.ty.now) _ c.args.rows c.args.at
    c.args.words.now c.select_rows.new.words c.in-Mux.is types refl
    (made.choice c.args.rows c.args.at c.args.words.now c.select_rows.new.words c.select_rows.ensures.before (local_type_of c.args.ty.now) c.select_rows.ensures.values)
