use Rattle.std.proofs.Common.{◌≡◌, ◌<◌, [], ◌∷◌, ◌++◌, length, get_or, ◌∙◌, ap, arith, Some, None, Vec, Global}
use Rattle.value_trees.specs.declared.copies.Near.{Near}
use Rattle.fc_values.specs.Exports.{export_of}
use Rattle.mail_book.specs.declared.letters.Letters.{Letters}
use Rattle.mail_book.proofs.HeardNear.{none_more, some_more, exports_more}
use Rattle.mail_book.proofs.rows.heard_in.Goals as goal
use Rattle.mail_book.proofs.rows.heard_in.Goals.{in-Some+in_ok-export+in_ok-push, in_default}

pub loop-at-preserved : goal.loop-at-preserved
loop-at-preserved c =
    let ns = c.args.neighbours.now in
    let row = c.args.row.now in
    let i = c.loop-at.at in
    let l = c.index-row-at.result in
    let k : i < length row = omega (arith, c.loop-at-test.true, c.requires) in
    let was = c.loop-at.invariant in
    elim c.match-row-at.branch [
      | in-Some+in_ok-export+in_ok-push w ↦
          let new : c.match-row-at.near.items ≡ c.loop-at.near.items ++ record { device = (get_or ns i (0, 0)).0; weight = (get_or ns i (0, 0)).1; export = w.in_ok-export.export } ∷ [] =
          ap (λ (v : Vec Near Global). v.items) w.near-is ∙ w.in_ok-push.ensures.items in
          let heard : l.heard ≡ Some w.in-Some.export = ap (λ (m : Letters). m.heard) c.index-row-at.is ∙ w.in-Some.is in
          record {
            copies = λ U. some_more ns row i l c.loop-at-test.true k c.index-row-at.is U c.loop-at.near.items c.match-row-at.near.items _ w.in-Some.export w.in_ok-export.export heard (ap export_of w.in_ok-export.ensures) new (was.copies U);
            exports = λ U all. exports_more ns row i l c.loop-at-test.true k c.index-row-at.is U c.loop-at.near.items c.match-row-at.near.items w.in-Some.export w.in_ok-export.export heard (ap export_of w.in_ok-export.ensures) new all (was.exports U all);
          }
      | in_default w ↦
          let heard : l.heard ≡ None = ap (λ (m : Letters). m.heard) c.index-row-at.is ∙ w.in_default.is in
          rw w.near-is (record {
            copies = λ U. none_more ns row i l c.loop-at-test.true k c.index-row-at.is U c.loop-at.near.items _ heard (was.copies U);
            exports = was.exports;
          })
    ]
