use Rattle.std.proofs.Common.{◌≡◌, ℕ, List, [], ◌∷◌, refl, ap, subst, map}
use Rattle.fc_values.specs.declared.exports.Export.{Export}
use Rattle.fc_values.specs.Fields.{Rises}
use Rattle.fc_nodes.specs.Program.{Unfolding, unfolding_of}
use Rattle.net_json.specs.SceneCode.{row_of}
use Rattle.net_json.specs.Tables.{row_number}
use Rattle.net_json.proofs.rows.gather_rows.Goals as goal

numbers_are : (U : Unfolding) (rows : List (ℕ × Export)) → map row_number (map (row_of U) rows) ≡ map (λ (r : ℕ × Export). r.0) rows
numbers_are U [] = refl
numbers_are U (r ∷ rs) = ap (λ (ns : List ℕ). r.0 ∷ ns) (numbers_are U rs)

pub returns-clause-rows : goal.returns-clause-rows
returns-clause-rows c =
    let U = unfolding_of c.args.program.now in
    let rows = c.in_ok-rows.rows.items in
    record {
      rising = subst Rises (numbers_are U rows) c.in_ok-rows.ensures.rising;
      there = λ i d l. (c.in_ok-rows.ensures.fit i d l).there;
      exports = λ i d l. (c.in_ok-rows.ensures.fit i d l).export;
    }
