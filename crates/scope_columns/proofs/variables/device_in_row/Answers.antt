use Rattle.std.proofs.Common.{◌≡◌, ℕ, suc, ◌<◌, ◌-◌, length, get_or, refl, sym, ap, ◌∙◌, arith}
use Rattle.alignment.specs.References.{numbers_in}
use Rattle.scope_columns.specs.Scopes.{devices_in}
use Rattle.scope_columns.proofs.ColumnParts.{parts_at}
use Rattle.scope_columns.proofs.DeviceRows.{number_nth, device_before, device_there, device_behind}
use Rattle.scope_columns.proofs.variables.device_in_row.Goals as goal

pub bounds-near-row : goal.bounds-near-row
bounds-near-row c =
    let own = parts_at c.args.device c.args.own c.args.env.now.near.items c.as_slice-near.ensures c.requires.own in
    omega (arith, own)

pub bounds-near-row-then-row-own : goal.bounds-near-row-then-row-own
bounds-near-row-then-row-own c =
    let own = parts_at c.args.device c.args.own c.args.env.now.near.items c.as_slice-near.ensures c.requires.own in
    omega (arith, own)

pub returns-then-row-own : goal.returns-then-row-own
returns-then-row-own c =
    let row : ℕ = c.args.row in
    let near = c.args.env.now.near.items in
    let ns = numbers_in c.args.env.now in
    let own = parts_at c.args.device c.args.own near refl c.requires.own in
    let inside : row < length near = omega (arith, own) in
    ap (λ xs. (get_or xs row c.index-near-row.result).device) c.as_slice-near.ensures
    ∙ number_nth near row c.index-near-row.result inside
    ∙ sym (device_before c.args.device ns row (omega (arith, c.requires.own)))

pub returns-then-row-own-2 : goal.returns-then-row-own-2
returns-then-row-own-2 c =
    sym (device_there c.args.device (numbers_in c.args.env.now))
    ∙ ap (λ i. get_or (devices_in c.args.device c.args.env.now) i 0) (sym c.requires.own ∙ sym c.if-row-own-2.true)

pub returns-else-row-own-2 : goal.returns-else-row-own-2
returns-else-row-own-2 c =
    let row : ℕ = c.args.row in
    let i : ℕ = row - 1 in
    let near = c.args.env.now.near.items in
    let ns = numbers_in c.args.env.now in
    let next : suc i ≡ row = omega arith in
    ap (λ xs. (get_or xs i c.index-near-row-else-row-own-2.result).device) c.as_slice-near.ensures
    ∙ number_nth near i c.index-near-row-else-row-own-2.result (omega (arith, c.requires.within))
    ∙ sym (device_behind c.args.device ns i (omega (arith, c.requires.own)))
    ∙ ap (λ j. get_or (devices_in c.args.device c.args.env.now) j 0) next
