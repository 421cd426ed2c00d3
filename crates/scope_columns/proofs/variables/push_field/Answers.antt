use Rattle.std.proofs.Common.{◌≡◌, ℕ, ◌+◌, ◌*◌, length, sym, ap, ◌∙◌, arith}
use Rattle.fc_values.specs.Types.{leaves, local_type_of}
use Rattle.value_columns.specs.Columns.{row_in, word_in}
use Rattle.value_columns.proofs.Standing.{leaves_below}
use Rattle.alignment.specs.References.{numbers_in}
use Rattle.scope_columns.specs.Scopes.{devices_in}
use Rattle.scope_columns.specs.Words.{stays}
use Rattle.scope_columns.proofs.DeviceRows.{rows_many}
use Rattle.scope_columns.proofs.KeptRows.{kept_within}
use Rattle.scope_columns.proofs.VariableSteps.{same_field, chosen_field}
use Rattle.scope_columns.proofs.variables.push_field.Goals as goal

pub width-requires : goal.width-requires
width-requires c =
    let ds = devices_in c.args.device c.args.bound.now.env.now in
    let rows = rows_many c.args.device c.args.bound.now.env.now c.len-rows.ensures.value in
    let all = leaves_below (length ds) (leaves (local_type_of c.args.bound.now.ty.now)) (omega (arith, rows)) in
    omega (arith, all, c.requires.within, c.args.words.now.ok.0)

-- so many words does the field take
field_long : (rows width many n : ℕ) → many ≡ rows → width ≡ n → rows * width ≡ many * n
field_long rows width many n e f = ap (λ k. rows * k) f ∙ ap (λ m. m * n) (sym e)

pub overflow_mul-rows : goal.overflow_mul-rows
overflow_mul-rows c =
    let ds = devices_in c.args.device c.args.bound.now.env.now in
    let rows = rows_many c.args.device c.args.bound.now.env.now c.len-rows.ensures.value in
    let n = leaves (local_type_of c.args.bound.now.ty.now) in
    let long = field_long (c.len-rows.result + 1) c.width.result (length ds) n rows c.width.ensures in
    omega (arith, long, c.requires.within, c.args.words.now.ok.0)

pub push_words-requires : goal.push_words-requires
push_words-requires c =
    let ds = devices_in c.args.device c.args.bound.now.env.now in
    let rows = rows_many c.args.device c.args.bound.now.env.now c.len-rows.ensures.value in
    let n = leaves (local_type_of c.args.bound.now.ty.now) in
    let long = field_long (c.len-rows.result + 1) c.width.result (length ds) n rows c.width.ensures in
    omega (arith, long, c.requires.within)

pub returns-then-rows-len : goal.returns-then-rows-len
returns-then-rows-len c =
    let d : ℕ = c.args.device in
    let t = local_type_of c.args.bound.now.ty.now in
    let ds = devices_in d c.args.bound.now.env.now in
    let rows = rows_many d c.args.bound.now.env.now c.len-rows.ensures.value in
    let now = rows_many d c.args.sight.now.env.now c.len.ensures.value in
    let long = field_long (c.len-rows.result + 1) c.width.result (length ds) (leaves t) rows c.width.ensures in
    let same = same_field d (numbers_in c.args.sight.now.env.now) ds t c.requires.aligned c.args.bound.now.at
    (omega (arith, rows, now)) long (omega (arith, long, c.requires.within)) c.in_ok-push_words.ensures in
    record { added = same.0; value = same.1 }

pub choose_rows-requires-clause-below : goal.choose_rows-requires-clause-below
choose_rows-requires-clause-below c =
    let rows = rows_many c.args.device c.args.bound.now.env.now c.len-rows.ensures.value in
    kept_within (stays c.args.device (numbers_in c.args.sight.now.env.now))
    (devices_in c.args.device c.args.bound.now.env.now) (c.as_slice.ensures ∙ c.in_ok-kept.ensures)
    (omega (arith, rows))

pub choose_rows-requires-clause-within : goal.choose_rows-requires-clause-within
choose_rows-requires-clause-within c =
    let rows = rows_many c.args.device c.args.bound.now.env.now c.len-rows.ensures.value in
    let same = ap (λ m. m * leaves (local_type_of c.args.bound.now.ty.now)) rows in
    omega (arith, same, c.requires.within)

pub returns : goal.returns
returns c =
    let d : ℕ = c.args.device in
    let t = local_type_of c.args.bound.now.ty.now in
    let ds = devices_in d c.args.bound.now.env.now in
    let ws = c.args.words.now.items in
    let at : ℕ = c.args.bound.now.at in
    let kept = c.as_slice.result.now in
    let rows = rows_many d c.args.bound.now.env.now c.len-rows.ensures.value in
    let chosen = c.in_ok-choose_rows.ensures in
    let field = chosen_field d (numbers_in c.args.sight.now.env.now) ds t c.requires.aligned at
    (c.as_slice.ensures ∙ c.in_ok-kept.ensures) (record { same = chosen.stay }) chosen.long
    (λ j h. chosen.chosen j h ∙ ap (λ n. row_in ws t n at (word_in kept j)) (sym rows)) in
    record { added = field.0; value = field.1 }
