use Rattle.std.proofs.Common.{◌≤◌, ◌∙◌, [], ◌∷◌, ◌++◌, sym, ap, arith, add-one, map, take}
use Rattle.std.proofs.lemmas.List.{map-append}
use Rattle.fc_values.specs.Values.{LocalValue}
use Rattle.fc_values.specs.Fields.{Entries, entry_of}
use Rattle.stable_field.specs.Columns.{joined_entries}
use Rattle.stable_field.proofs.JoinedPlaces.{joined_more, local_at, joined_whole}
use Rattle.stable_field.proofs.joining.joined.Goals as goal

pub joined_at-requires : goal.joined_at-requires
joined_at-requires c =
    let w = c.loop-place-test.true in
    let m = c.min-many.ensures in
    local_at c.args.builtin c.args.ceiling c.args.first.now c.args.second.now c.loop-place.place c.index-first-place.result c.index-second-place.result c.index-first-place.is c.index-second-place.is
    (omega (arith, w, m)) (omega (arith, w, m)) c.requires

pub loop-place-preserved : goal.loop-place-preserved
loop-place-preserved c = record {
  found =
      let w = c.loop-place-test.true in
      let m = c.min-many.ensures in
      let J : Entries = joined_entries c.args.builtin c.args.ceiling (map entry_of c.args.first.now) (map entry_of c.args.second.now) in
      rw add-one (ap (map entry_of) c.in_ok-push.ensures.items
      ∙ map-append entry_of c.loop-place.list.items ((c.index-first-place.result.0, c.in_ok-value.value) ∷ [])
      ∙ ap (λ (es : Entries). es ++ entry_of (c.index-first-place.result.0, c.in_ok-value.value) ∷ []) c.loop-place.invariant.found
      ∙ ap (λ (v : LocalValue). take c.loop-place.place J ++ (c.index-first-place.result.0, v) ∷ []) c.in_ok-value.ensures
      ∙ sym (joined_more c.args.builtin c.args.ceiling c.args.first.now c.args.second.now c.loop-place.place c.index-first-place.result c.index-second-place.result c.index-first-place.is c.index-second-place.is
      (omega (arith, w, m)) (omega (arith, w, m))));
}

pub returns : goal.returns
returns c =
    let u : c.min-many.result ≤ c.loop-place.place = c.loop-place-test.false in
    let m = c.min-many.ensures in
    c.loop-place.invariant.found
    ∙ joined_whole c.args.builtin c.args.ceiling c.args.first.now c.args.second.now c.loop-place.place (λ h. omega (arith, u, m, h)) (λ h. omega (arith, u, m, h))
