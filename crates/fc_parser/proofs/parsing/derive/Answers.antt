use Rattle.std.proofs.Common.{◌≡◌, ◌∙◌, ap, subst, map, ◌++◌, ◌∷◌, [], Err}
use Rattle.std.proofs.lemmas.List.{map-append}
use Rattle.fc_lexer.specs.Kinds.{tokens_of}
use Rattle.fc_syntax.specs.Terms.{declaration_of}
use Rattle.fc_parser.specs.Places.{GivesStanding, place_at}
use Rattle.fc_parser.proofs.Turns.{derives_fault, derives_next, derives_done, derives_missing, nil_of, open_place, standing_size}
use Rattle.fc_parser.proofs.parsing.derive.Goals as goal

pub returns-in-Err-Outside-clause-fault : goal.returns-in-Err-Outside-clause-fault
returns-in-Err-Outside-clause-fault c =
    let place = place_at c.pieces.position in
    let piece = c.first_piece.result.0.now in
    rw c.first_line.ensures
    (derives_fault c.args.tokens.now c.pieces.rest.now piece c.first_piece.result.1.now (map declaration_of c.pieces.decls.items) place c.pieces.declaration c.pieces.line c.pieces.invariant c.first_piece.ensures.cut
    (subst (λ e. GivesStanding place (tokens_of piece) (Err e)) c.in-Err-Outside.field-0-is c.in-Err-Outside.ensures))

pub pieces-preserved : goal.pieces-preserved
pieces-preserved c =
    let place = place_at c.pieces.position in
    let next = place_at c.in-Ok.standing.1 in
    let piece = c.first_piece.result.0.now in
    let before = map declaration_of c.pieces.decls.items in
    let decl = declaration_of c.in-Ok.standing.0 in
    let made : map declaration_of c.push.new.self.items ≡ before ++ decl ∷ [] = ap (map declaration_of) c.in_ok-push.ensures.items ∙ map-append declaration_of c.pieces.decls.items (c.in-Ok.standing.0 ∷ []) in
    rw (made, c.last_line-line.ensures)
    (derives_next c.args.tokens.now c.pieces.rest.now piece c.first_piece.result.1.now before decl place next c.pieces.declaration c.pieces.line c.pieces.invariant c.first_piece.ensures.cut c.first_piece.ensures.sizes
    (standing_size place next piece decl c.in-Ok.ensures) c.in-Ok.ensures)

pub returns-in-AfterMain-clause-derives : goal.returns-in-AfterMain-clause-derives
returns-in-AfterMain-clause-derives c =
    derives_done c.args.tokens.now c.pieces.rest.now (map declaration_of c.pieces.decls.items) (place_at c.pieces.position) c.pieces.declaration c.pieces.line c.in-AfterMain.field-0 c.pieces.invariant
    (nil_of c.pieces.rest.now c.is_empty.result c.is_empty.ensures c.pieces-test.false) (ap place_at c.in-AfterMain.is)

pub returns-in_default : goal.returns-in_default
returns-in_default c = record {
  derives = tt;
  fault = derives_missing c.args.tokens.now c.pieces.rest.now (map declaration_of c.pieces.decls.items) (place_at c.pieces.position) c.pieces.declaration c.pieces.line c.pieces.invariant
      (nil_of c.pieces.rest.now c.is_empty.result c.is_empty.ensures c.pieces-test.false) (open_place c.pieces.position c.in_default.not-AfterMain);
}
