use Rattle.std.proofs.Common.{◌≡◌, ℕ, List, [], ◌∷◌, refl, ap, subst, map}
use Rattle.fc_values.specs.Fields.{Rises}
use Rattle.fc_nodes.specs.Program.{Unfolding, unfolding_of}
use Rattle.value_trees.specs.declared.copies.Snap.{Snap}
use Rattle.value_trees.specs.Snaps.{snap_copy}
use Rattle.net_json.specs.Copies.{copy_number}
use Rattle.net_json.proofs.copies.read_copies.Goals as goal

numbers_are : (U : Unfolding) (copies : List Snap) → map copy_number (map (snap_copy U) copies) ≡ map (λ (s : Snap). s.device) copies
numbers_are U [] = refl
numbers_are U (s ∷ ss) = ap (λ (ns : List ℕ). s.device ∷ ns) (numbers_are U ss)

pub returns-clause-copies : goal.returns-clause-copies
returns-clause-copies c =
    let U = unfolding_of c.args.program.now in
    let copies = c.in_ok-copies.copies.items in
    record {
      rising = subst Rises (numbers_are U copies) c.in_ok-copies.ensures.rising;
      there = λ i d l. (c.in_ok-copies.ensures.fit i d l).there;
      fit = λ i d l. (c.in_ok-copies.ensures.fit i d l).snap;
    }
