use Rattle.std.proofs.Common.{List, [], ◌∷◌, arith, subst, sym, ap, ◌∙◌}
use Rattle.fc_values.specs.Exports.{export_of}
use Rattle.topology.specs.Networks.{numbers}
use Rattle.mail_book.specs.declared.letters.Letters.{Letters}
use Rattle.mail_book.specs.Pairs.{AreRows}
use Rattle.mail_book.specs.Rows.{lists_of}
use Rattle.mail_book.specs.Starts.{Hears, post_of}
use Rattle.mail_book.proofs.LetterWrites.{row_there, item_there, item_is, written_is, rewritten_shape}
use Rattle.mail_book.proofs.Starting.{heard_one}
use Rattle.mail_book.proofs.starts.hear_one.Goals as goal

pub index_mut-requires : goal.index_mut-requires
index_mut-requires c =
    let w = row_there c.args.net.now c.pair_place.ensures.network c.args.rows.now.items c.requires c.args.post.now.from c.args.post.now.to c.in-Some.row c.in-Some.at c.in-Some.ensures.place in
    omega (arith, w, c.args.rows.now.ok.0)

pub index_mut-requires-2 : goal.index_mut-requires-2
index_mut-requires-2 c =
    let w = item_there c.args.net.now c.pair_place.ensures.network c.args.rows.now.items c.requires c.args.post.now.from c.args.post.now.to c.in-Some.row c.in-Some.at c.in-Some.ensures.place c.index_mut.result.now c.index_mut.ensures.value in
    omega (arith, w, c.index_mut.result.now.ok.0)

pub returns-clause-shape : goal.returns-clause-shape
returns-clause-shape c =
    subst (λ (rows : List (List Letters)). AreRows c.args.net.now (numbers c.args.net.now.devices) rows)
    (sym (written_is c.args.net.now c.pair_place.ensures.network c.args.rows.now.items c.requires c.args.post.now.from c.args.post.now.to c.in-Some.row c.in-Some.at c.in-Some.ensures.place c.index_mut.result.now c.index_mut.ensures.value c.hear.new.letters))
    (rewritten_shape c.args.net.now c.pair_place.ensures.network (lists_of c.args.rows.now.items) c.requires c.args.post.now.from c.args.post.now.to (c.in-Some.row, c.in-Some.at) c.in-Some.ensures.place c.hear.new.letters)

pub returns-clause-hears : goal.returns-clause-hears
returns-clause-hears c U all linked typed =
    let is = item_is c.args.net.now c.pair_place.ensures.network c.args.rows.now.items c.requires c.args.post.now.from c.args.post.now.to c.in-Some.row c.in-Some.at c.in-Some.ensures.place c.index_mut.result.now c.index_mut.ensures.value c.index_mut-2.result.now c.index_mut-2.ensures.value in
    subst (λ (rows : List (List Letters)). Hears U c.args.net.now (post_of U c.args.post.now ∷ []) (lists_of c.args.rows.now.items) rows)
    (sym (written_is c.args.net.now c.pair_place.ensures.network c.args.rows.now.items c.requires c.args.post.now.from c.args.post.now.to c.in-Some.row c.in-Some.at c.in-Some.ensures.place c.index_mut.result.now c.index_mut.ensures.value c.hear.new.letters))
    (heard_one c.args.net.now c.pair_place.ensures.network (lists_of c.args.rows.now.items) c.requires c.args.post.now.from c.args.post.now.to (c.in-Some.row, c.in-Some.at) c.in-Some.ensures.place U all c.args.post.now.export typed c.index_mut-2.result.now c.hear.new.letters c.in_ok-export.export is (ap export_of c.in_ok-export.ensures ∙ c.in_ok-copy_export.ensures) c.hear.ensures.heard c.hear.ensures.transit)
