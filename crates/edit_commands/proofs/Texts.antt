-- Crates above cite this module: words one after another.
use Rattle.std.proofs.Common.{ℕ, ◌≡◌, ◌+◌, ◌-◌, ◌<◌, ◌≤◌, List, [], ◌∷◌, drop, take, length, get_or, ap, sym, ◌∙◌, arith}
use Rattle.std.proofs.lemmas.List.{drop_more, drop_all, take_rest}
use Rattle.std.specs.Borrow.{Bor}
use Rattle.edit_commands.specs.Code.{texts}

pub texts_more : (ws : List (Bor (List ℕ))) (i : ℕ) (d : Bor (List ℕ)) → i < length ws → texts (drop i ws) ≡ (get_or ws i d).now ∷ texts (drop (i + 1) ws)
texts_more ws i d within = ap texts (drop_more ws i d within)

pub texts_done : (ws : List (Bor (List ℕ))) (i : ℕ) → length ws ≤ i → texts (drop i ws) ≡ []
texts_done ws i end = ap texts (drop_all i ws end)

-- the first word, and those after it
pub texts_first : (ws : List (Bor (List ℕ))) (d : Bor (List ℕ)) → 1 ≤ length ws → texts ws ≡ (get_or ws 0 d).now ∷ texts (take (length ws - 1) (drop 1 ws))
texts_first ws d some = texts_more ws 0 d (omega arith) ∙ ap (λ rest. (get_or ws 0 d).now ∷ texts rest) (sym (take_rest ws 1))
