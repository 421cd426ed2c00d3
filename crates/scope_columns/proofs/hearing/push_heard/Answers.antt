use Rattle.std.proofs.Common.{◌≡◌, ℕ, subst, arith}
use Rattle.fc_values.specs.Fields.{Entries}
use Rattle.fc_values.specs.Types.{LocalType, leaves, local_type_of}
use Rattle.fc_values.specs.Values.{local_of}
use Rattle.alignment.specs.Hearing.{field_with}
use Rattle.alignment.specs.References.{flat_of}
use Rattle.scope_columns.specs.Scopes.{devices_in}
use Rattle.scope_columns.specs.Words.{values_in}
use Rattle.scope_columns.proofs.HeardColumns.{Columns, no_columns, one_column, columns_added, columns_value}
use Rattle.scope_columns.proofs.HeardColumns.{heard_devices}
use Rattle.scope_columns.proofs.hearing.push_heard.Goals as goal
use Rattle.scope_columns.proofs.hearing.push_heard.Goals.{After-loop-leaf}

pub loop-leaf-init : goal.loop-leaf-init
loop-leaf-init c =
    let field = field_with c.args.slot c.args.device (local_of c.args.own.now) (flat_of c.args.sight.now.env.now) in
    no_columns c.args.words.now.items (values_in field)

pub loop-leaf-preserved : goal.loop-leaf-preserved
loop-leaf-preserved c = one_column c.loop-leaf.leaf c.loop-leaf.invariant c.in_ok-push_column.ensures

-- all columns stand there at the end
module _ (c : After-loop-leaf) where
  abbrev type : LocalType
  type = local_type_of c.args.ty.now

  abbrev field : Entries
  field = field_with c.args.slot c.args.device (local_of c.args.own.now) (flat_of c.args.sight.now.env.now)

  all_columns : Columns c.args.words.now.items (values_in field) (leaves type) c.loop-leaf.words.items
  all_columns =
      let end : c.loop-leaf.leaf ≡ leaves type = omega (arith, c.width-leaf-end.ensures) in
      subst (λ (k : ℕ). Columns c.args.words.now.items (values_in field) k c.loop-leaf.words.items) end
      c.loop-leaf.invariant

pub returns-clause-added : goal.returns-clause-added
returns-clause-added c =
    columns_added (type c) (field c) (devices_in c.args.device c.args.sight.now.env.now)
    (heard_devices c.args.device c.args.slot c.args.sight.now.own (local_of c.args.own.now)
    (flat_of c.args.sight.now.env.now) c.requires.row) c.requires.forms (all_columns c)

pub returns-clause-value : goal.returns-clause-value
returns-clause-value c =
    columns_value (type c) (field c) (devices_in c.args.device c.args.sight.now.env.now)
    (heard_devices c.args.device c.args.slot c.args.sight.now.own (local_of c.args.own.now)
    (flat_of c.args.sight.now.env.now) c.requires.row) c.requires.forms (all_columns c)
