use Rattle.std.proofs.Common.{◌≡◌, ◌-◌, ◌∙◌, ap, arith}
use Rattle.fc_values.specs.declared.values.Local.{Local}
use Rattle.fc_values.specs.Types.{leaves}
use Rattle.fc_values.specs.Values.{form_of, local_of}
use Rattle.value_columns.specs.Columns.{word_in}
use Rattle.value_columns.specs.LocalWords.{words_of}
use Rattle.value_columns.proofs.LocalReads.{first_leaf, second_leaf}
use Rattle.value_columns.proofs.locals.+leaf_at.Goals as goal

pub returns-then-leaf-many : goal.returns-then-leaf-many
returns-then-leaf-many t c =
    let a = local_of c.in-Pair.a.value in
    let count : c.leaf_count-many.result ≡ leaves (form_of a) =
    c.leaf_count-many.ensures ∙ ap (λ (v : Local). leaves (form_of (local_of v))) c.deref.ensures in
    c.leaf_at.ensures ∙ (ap (λ (v : Local). word_in (words_of (local_of v)) c.args.leaf) c.deref-then-leaf-many.ensures
    ∙ first_leaf (local_of c.args.value.now) a (local_of c.in-Pair.b.value) c.args.leaf (ap local_of c.in-Pair.is)
    (omega arith))

pub returns-else-leaf-many : goal.returns-else-leaf-many
returns-else-leaf-many t c =
    let a = local_of c.in-Pair.a.value in
    let b = local_of c.in-Pair.b.value in
    let count : c.leaf_count-many.result ≡ leaves (form_of a) =
    c.leaf_count-many.ensures ∙ ap (λ (v : Local). leaves (form_of (local_of v))) c.deref.ensures in
    c.leaf_at-else-leaf-many.ensures
    ∙ (ap (λ (v : Local). word_in (words_of (local_of v)) (c.args.leaf - c.leaf_count-many.result))
    c.deref-else-leaf-many.ensures
    ∙ (ap (λ n. word_in (words_of b) (c.args.leaf - n)) count
    ∙ second_leaf (local_of c.args.value.now) a b c.args.leaf (ap local_of c.in-Pair.is) (omega arith)))
