use Rattle.std.proofs.Common.{arith, ◌≡◌, ℕ, ◌+◌, ◌-◌, ◌*◌, ◌<◌, ◌≤◌, List, take, length, ap, subst, refl, ◌∙◌}
use Rattle.std.proofs.lemmas.List.{with_items_is, length-take-le}
use Rattle.fc_values.specs.declared.builtins.Builtin.TheVariants as op
use Rattle.fc_values.specs.Types.{leaves, local_type_of}
use Rattle.fc_values.specs.Builtins.{local_value}
use Rattle.value_columns.specs.Arguments.{leaves_of, types_in, Makes}
use Rattle.value_columns.specs.Columns.{row_in, word_in}
use Rattle.value_columns.proofs.Rows.{word_before_gap, length_after_gap}
use Rattle.value_columns.proofs.Standing.{row_moves}
use Rattle.value_columns.proofs.Operators as made
use Rattle.value_columns.proofs.pointwise.apply_operator.Goals as goal

pub overflow_mul-many : goal.overflow_mul-many
overflow_mul-many c =
    let fits = made.value_fits c.args.builtin (types_in c.args.types.now) (local_type_of c.args.ty.now) c.args.rows c.args.at
    (length c.args.words.now.items) c.requires.length c.requires.types in
    omega (arith, fits, ap (λ n. c.args.rows * n) c.width.ensures, c.args.words.now.ok.0)

pub overflow_sub-passed-in-Snd : goal.overflow_sub-passed-in-Snd
overflow_sub-passed-in-Snd c =
    let fits = made.value_fits c.args.builtin (types_in c.args.types.now) (local_type_of c.args.ty.now) c.args.rows c.args.at
    (length c.args.words.now.items) c.requires.length c.requires.types in
    omega (arith, fits, ap (λ n. c.args.rows * n) c.width.ensures, c.len.ensures, c.args.words.now.ok.0)

pub overflow_add-at : goal.overflow_add-at
overflow_add-at c =
    let fits = made.value_fits c.args.builtin (types_in c.args.types.now) (local_type_of c.args.ty.now) c.args.rows c.args.at
    (length c.args.words.now.items) c.requires.length c.requires.types in
    omega (arith, fits, ap (λ n. c.args.rows * n) c.width.ensures, c.args.words.now.ok.0)

pub returns-in-Snd-clause-values : goal.returns-in-Snd-clause-values
returns-in-Snd-clause-values c =
    let ts = types_in c.args.types.now in
    let t = local_type_of c.args.ty.now in
    let rows : ℕ = c.args.rows in
    let at : ℕ = c.args.at in
    let old = c.args.words.now.items in
    let new = c.close_gap.new.words.items in
    let passed : ℕ = c.len.result - at - rows * c.width.result in
    let fits = made.value_fits c.args.builtin ts t rows at (length old) c.requires.length c.requires.types in
    let types = made.typed_as c.args.builtin op.Snd ts t c.in-Snd.is c.requires.types in
    let same : rows * c.width.result ≡ rows * leaves t = ap (λ n. rows * n) c.width.ensures in
    let whole : rows * leaves_of ts ≡ rows * (leaves types.0 + leaves t + 0) = ap (λ x. rows * leaves_of x) types.1 in
    let within : at + passed ≤ length old = omega (arith, fits, c.len.ensures, c.args.words.now.ok.0) in
    let place : at + passed ≡ at + rows * leaves types.0 = omega (arith, fits, c.len.ensures, c.args.words.now.ok.0) in
    let before : (p : ℕ) → p < at → word_in new p ≡ word_in old p =
    λ p h. word_before_gap old new at passed p within c.close_gap.ensures h in
    let values : (i : ℕ) → i < rows → row_in new t rows at i ≡ row_in old t rows (at + rows * leaves types.0) i =
    λ i h. row_moves old new t rows at i at passed within c.close_gap.ensures (omega arith) ∙ ap (λ n. row_in old t rows n i) place in
    (made.made_as c.args.builtin op.Snd c.args.ceiling ts _ t _ rows at old new c.in-Snd.is types.1 refl
    (made.components rows at old new before (λ a b. b) types.0 t t values)).values

pub returns-in-Snd-clause-length : goal.returns-in-Snd-clause-length
returns-in-Snd-clause-length c =
    let old = c.args.words.now.items in
    let new = c.close_gap.new.words.items in
    let passed : ℕ = c.len.result - c.args.at - c.args.rows * c.width.result in
    let fits = made.value_fits c.args.builtin (types_in c.args.types.now) (local_type_of c.args.ty.now) c.args.rows c.args.at
    (length old) c.requires.length c.requires.types in
    let same : c.args.rows * c.width.result ≡ c.args.rows * leaves (local_type_of c.args.ty.now) = ap (λ n. c.args.rows * n) c.width.ensures in
    let within : c.args.at + passed ≤ length old = omega (arith, fits, c.len.ensures, c.args.words.now.ok.0) in
    omega (arith, fits, c.len.ensures, c.args.words.now.ok.0, length_after_gap old new c.args.at passed within c.close_gap.ensures)

pub returns-in_default : goal.returns-in_default
returns-in_default c =
    let ts = types_in c.args.types.now in
    let t = local_type_of c.args.ty.now in
    let rows : ℕ = c.args.rows in
    let at : ℕ = c.args.at in
    let old = c.args.words.now.items in
    let new = c.operate.new.words in
    let cut = c.truncate.new.self.items in
    let end : ℕ = at + rows * c.width.result in
    let fits = made.value_fits c.args.builtin ts t rows at (length old) c.requires.length c.requires.types in
    let same : rows * c.width.result ≡ rows * leaves t = ap (λ n. rows * n) c.width.ensures in
    let long : length new ≡ length old = omega (arith, c.operate.auto.words, ap length c.deref_mut.ensures.value) in
    let is_cut : cut ≡ take end new =
    c.truncate.ensures.items ∙ ap (take end) (with_items_is c.args.words.now new (omega (arith, c.args.words.now.ok.0))) in
    let there : Makes (local_value c.args.builtin c.args.ceiling) ts t rows at old new =
    subst (λ (xs : List ℕ). Makes (local_value c.args.builtin c.args.ceiling) ts t rows at xs new) c.deref_mut.ensures.value c.operate.ensures in
    let left = made.made_cut (local_value c.args.builtin c.args.ceiling) ts t rows at end old new cut (omega arith) is_cut there in
    record {
      values = left.values;
      before = left.before;
      length = omega (arith, ap length is_cut, length-take-le end new (omega arith));
    }
