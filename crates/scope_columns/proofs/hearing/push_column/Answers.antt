use Rattle.std.proofs.Common.{◌≡◌, ℕ, [], ◌∷◌, ◌++◌, sym, ◌∙◌, ap, subst, arith}
use Rattle.fc_values.specs.Exports.{slot_at}
use Rattle.fc_values.specs.Types.{leaves, local_type_of}
use Rattle.fc_values.specs.Values.{local_of}
use Rattle.alignment.specs.Hearing.{slot_entries}
use Rattle.alignment.specs.Slots.{NearSlots}
use Rattle.alignment.specs.References.{flat_of, near_of, nears_of}
use Rattle.scope_columns.specs.Words.{leaf_word}
use Rattle.scope_columns.proofs.ColumnParts.{forms_apart, forms_before, forms_behind, have_before, have_behind}
use Rattle.scope_columns.proofs.ColumnParts.{parts_at, row_between}
use Rattle.scope_columns.proofs.HeardColumns.{heard_leaves}
use Rattle.scope_columns.proofs.hearing.push_column.Goals as goal

pub split_at-requires : goal.split_at-requires
split_at-requires c =
    parts_at c.args.device c.args.sight.now.own c.args.sight.now.env.now.near.items c.as_slice.ensures c.requires.row

pub push_slots-requires-clause-near : goal.push_slots-requires-clause-near
push_slots-requires-clause-near c =
    have_before c.args.slot c.args.sight.now.own c.args.sight.now.env.now.near.items c.as_slice.ensures
    c.split_at.ensures.front c.requires.near

pub push_slots-requires-clause-forms : goal.push_slots-requires-clause-forms
push_slots-requires-clause-forms c =
    let near = c.args.sight.now.env.now.near.items in
    let type = local_type_of c.args.ty.now in
    let forms = forms_apart type c.args.device (local_of c.args.own.now) (slot_entries c.args.slot (nears_of near))
    c.requires.forms in
    forms_before type c.args.slot c.args.sight.now.own near c.as_slice.ensures c.split_at.ensures.front forms.1

pub leaf_at-requires-clause-width : goal.leaf_at-requires-clause-width
leaf_at-requires-clause-width c =
    let heard = slot_entries c.args.slot (nears_of c.args.sight.now.env.now.near.items) in
    let forms = forms_apart (local_type_of c.args.ty.now) c.args.device (local_of c.args.own.now) heard
    c.requires.forms in
    omega (arith, ap leaves forms.0, c.requires.width)

pub leaf_at-requires-clause-leaf : goal.leaf_at-requires-clause-leaf
leaf_at-requires-clause-leaf c =
    let heard = slot_entries c.args.slot (nears_of c.args.sight.now.env.now.near.items) in
    let forms = forms_apart (local_type_of c.args.ty.now) c.args.device (local_of c.args.own.now) heard
    c.requires.forms in
    omega (arith, ap leaves forms.0, c.requires.leaf)

pub push_slots-requires-2-clause-near : goal.push_slots-requires-2-clause-near
push_slots-requires-2-clause-near c =
    have_behind c.args.slot c.args.sight.now.own c.args.sight.now.env.now.near.items c.as_slice.ensures
    c.split_at.ensures.back c.requires.near

pub push_slots-requires-2-clause-forms : goal.push_slots-requires-2-clause-forms
push_slots-requires-2-clause-forms c =
    let near = c.args.sight.now.env.now.near.items in
    let type = local_type_of c.args.ty.now in
    let forms = forms_apart type c.args.device (local_of c.args.own.now) (slot_entries c.args.slot (nears_of near))
    c.requires.forms in
    forms_behind type c.args.slot c.args.sight.now.own near c.as_slice.ensures c.split_at.ensures.back forms.1

pub returns : goal.returns
returns c =
    let own = local_of c.args.own.now in
    let row = c.args.sight.now.own in
    let own_leaf : c.push.new.self.items ≡ c.push_slots.new.words.items ++ leaf_word c.args.leaf own ∷ [] =
    subst (λ (w : ℕ). c.push.new.self.items ≡ c.push_slots.new.words.items ++ w ∷ []) c.leaf_at.ensures
    c.in_ok-push.ensures.items in
    row_between near_of (λ (n : NearSlots). leaf_word c.args.leaf (slot_at c.args.slot n.2).1) row
    (leaf_word c.args.leaf own) c.args.sight.now.env.now.near.items c.args.words.now.items c.as_slice.ensures
    c.split_at.ensures.front c.split_at.ensures.back c.in_ok-push_slots.ensures own_leaf c.in_ok-push_slots-2.ensures
    ∙ ap (λ ws. c.args.words.now.items ++ ws) (sym (heard_leaves c.args.device c.args.slot row own
    (flat_of c.args.sight.now.env.now) c.requires.row c.args.leaf))
