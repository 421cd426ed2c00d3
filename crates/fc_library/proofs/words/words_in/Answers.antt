use Rattle.std.proofs.Common.{◌∷◌, ◌++◌, [], map, string_bytes, sym, ap, subst, ◌∙◌, arith}
use Rattle.std.proofs.lemmas.List.{map-append}
use Rattle.std.proofs.lemmas.Bool.Decides.{nat_tests}
use Rattle.fc_library.specs.Words.{AreTexts}
use Rattle.fc_library.proofs.Pieces.{no_word, one_word, all_words, all_texts, not_texts}
use Rattle.fc_library.proofs.words.words_in.Goals as goal

pub pieces-init : goal.pieces-init
pieces-init c =
    no_word _ _ (ap (map string_bytes) c.in_ok-push.ensures.items
    ∙ ap (λ xs. map string_bytes (xs ++ c.in_ok-from_str.field-0 ∷ [])) c.new-words.ensures.items
    ∙ ap (λ x. x ∷ []) c.in_ok-from_str.ensures.ok)

pub pieces-preserved : goal.pieces-preserved
pieces-preserved c =
    one_word c.deref-piece-items.result.now c.pieces.piece-index (map string_bytes c.pieces.words.items) _
    (record { ref_ptr = (0, 0); now = [] }) c.pieces.invariant (grind (arith, nat_tests)) c.in-Ok.ensures.cases.1
    (ap (map string_bytes) c.in_ok-push-2.ensures.items ∙ map-append string_bytes _ _
    ∙ ap (λ x. map string_bytes c.pieces.words.items ++ x ∷ [])
    (c.in_ok-from_str-2.ensures.ok ∙ c.in-Ok.ensures.cases.0))

pub returns-in_default-clause-other : goal.returns-in_default-clause-other
returns-in_default-clause-other c e texts =
    not_texts c.deref-piece-items.result.now c.pieces.piece-index _ (grind (arith, nat_tests))
    c.in_default.ensures.cases.0
    (subst AreTexts (sym (ap (map (λ w. w.now)) c.deref-piece-items.ensures.value ∙ c.in_ok-pieces.ensures)) texts)

pub returns-clause-words : goal.returns-clause-words
returns-clause-words c =
    all_words _ _ _ c.pieces.invariant (grind (arith, nat_tests))
    ∙ ap (λ ws. (102 ∷ 99 ∷ []) ∷ ws) (ap (map (λ w. w.now)) c.deref-piece-items.ensures.value ∙ c.in_ok-pieces.ensures)

pub returns-clause-texts : goal.returns-clause-texts
returns-clause-texts c =
    subst AreTexts (ap (map (λ w. w.now)) c.deref-piece-items.ensures.value ∙ c.in_ok-pieces.ensures)
    (all_texts _ _ _ c.pieces.invariant (grind (arith, nat_tests)))
