use Rattle.std.proofs.Common.{◌≡◌, ◌+◌, ◌-◌, ◌++◌, take, drop, ap, ◌∙◌, refl, arith}
use Rattle.fc_lexer.specs.Kinds.{token_kind, tokens_of}
use Rattle.fc_lexer.specs.Lexes.{token_as}
use Rattle.fc_lexer.proofs.Turns.{all_read, is_alone, next, next_piece, pushed_none, pushed_some, stops_alone, turn, turn_stuck}
use Rattle.fc_lexer.proofs.Few.{few}
use Rattle.fc_lexer.proofs.lexing.lex.Goals as goal
use Rattle.fc_lexer.proofs.lexing.lex.Goals.{in-Some+in_ok-push, in_default}

pub returns-then-size-eq0-clause-stops : goal.returns-then-size-eq0-clause-stops
returns-then-size-eq0-clause-stops c =
    turn_stuck c.args.text.now c.pieces.at c.pieces.line c.piece_size-size.result (tokens_of c.pieces.tokens.items) c.pieces.invariant c.pieces-test.true c.piece_size-size.ensures c.if-size-eq0.true

pub returns-then-size-eq0-clause-nowhere : goal.returns-then-size-eq0-clause-nowhere
returns-then-size-eq0-clause-nowhere c = stops_alone c.args.text.now c.pieces.at (returns-then-size-eq0-clause-stops c)

pub overflow_add-piece : goal.overflow_add-piece
overflow_add-piece c = let l = next c.args.text.now c.pieces.at c.piece_size-size.result c.pieces-test.true c.piece_size-size.ensures c.if-size-eq0.false in omega arith

pub slice_bounds-piece-end : goal.slice_bounds-piece-end
slice_bounds-piece-end c = let l = next c.args.text.now c.pieces.at c.piece_size-size.result c.pieces-test.true c.piece_size-size.ensures c.if-size-eq0.false in omega arith

pub kind_of-requires : goal.kind_of-requires
kind_of-requires c =
    next_piece c.args.text.now c.pieces.at c.piece_size-size.result (next c.args.text.now c.pieces.at c.piece_size-size.result c.pieces-test.true c.piece_size-size.ensures c.if-size-eq0.false)

pub pieces-preserved : goal.pieces-preserved
pieces-preserved c =
    let text = c.args.text.now in
    let at = c.pieces.at in
    let n = c.piece_size-size.result in
    let line = c.pieces.line in
    let piece = take (at + n - at) (drop at text) in
    let pushed : tokens_of c.match-branch-2.tokens.items ≡ tokens_of c.pieces.tokens.items ++ token_as (token_kind piece) at (at + n) line =
    elim c.match-branch-2.branch [
      | in-Some+in_ok-push w ↦
          pushed_some c.pieces.tokens.items c.match-branch-2.tokens.items (record { kind = w.in-Some.kind; start = at; end = at + n; line = line }) c.in_ok-kind.field-0 (token_kind piece)
          (ap (λ v. v.items) w.tokens-is ∙ w.in_ok-push.ensures.items) w.in-Some.is c.in_ok-kind.ensures
      | in_default w ↦
          pushed_none c.pieces.tokens.items c.match-branch-2.tokens.items at (at + n) line c.in_ok-kind.field-0 (token_kind piece) (ap (λ v. v.items) w.tokens-is) w.in_default.is c.in_ok-kind.ensures
    ] in
    turn text at line n (line + c.line_feeds.result) (tokens_of c.pieces.tokens.items) (tokens_of c.match-branch-2.tokens.items) piece c.pieces.invariant
    (next text at n c.pieces-test.true c.piece_size-size.ensures c.if-size-eq0.false) refl (ap (λ k. line + k) c.line_feeds.ensures.size) pushed

pub pieces-smaller : goal.pieces-smaller
pieces-smaller c = let l = next c.args.text.now c.pieces.at c.piece_size-size.result c.pieces-test.true c.piece_size-size.ensures c.if-size-eq0.false in omega arith

pub returns-clause-only : goal.returns-clause-only
returns-clause-only c =
    is_alone c.args.text.now (tokens_of c.pieces.tokens.items) (all_read c.args.text.now c.pieces.at c.pieces.line (tokens_of c.pieces.tokens.items) c.pieces.invariant c.pieces-test.false)

pub returns-clause-few : goal.returns-clause-few
returns-clause-few c = few c.args.text.now c.pieces.tokens.items (all_read c.args.text.now c.pieces.at c.pieces.line (tokens_of c.pieces.tokens.items) c.pieces.invariant c.pieces-test.false)
