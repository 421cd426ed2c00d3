-- Crates above cite this module: a text that is written one item after another.
use Rattle.std.proofs.Common.{◌≡◌, ◌+◌, ◌<◌, ◌≤◌, ℕ, List, [], ◌∷◌, ◌++◌, length, get_or, take, sym, ap, ◌∙◌, append_assoc}
use Rattle.std.proofs.lemmas.List.{take_more, take_all}

-- each item adds its line
abbrev pub AddsLines : {X : Type 0} → (List X → List ℕ) → (X → List ℕ) → Type 0
AddsLines {X} text line = (xs : List X) (x : X) → text (xs ++ x ∷ []) ≡ text xs ++ line x

-- the text of the first n items is written after what stood there before
pub record Written {X : Type 0} (text : List X → List ℕ) (items : List X) (before out : List ℕ) (n : ℕ) : Type 0 where
  pub so_far : out ≡ before ++ text (take n items)

pub written_more : {X : Type 0} (text : List X → List ℕ) (line : X → List ℕ) (items : List X) (before out new : List ℕ) (n : ℕ) (x : X) → AddsLines text line → Written text items before out n → n < length items → x ≡ get_or items n x → new ≡ out ++ line x → Written text items before new (n + 1)
written_more text line items before out new n x adds w more is grown =
    let next : take (n + 1) items ≡ take n items ++ x ∷ [] = take_more items n x more ∙ ap (λ y. take n items ++ y ∷ []) (sym is) in
    record {
      so_far = grown
          ∙ ap (λ l. l ++ line x) w.so_far
          ∙ append_assoc before (text (take n items)) (line x)
          ∙ ap (λ l. before ++ l) (sym (adds (take n items) x) ∙ ap text (sym next));
    }

pub written_all : {X : Type 0} (text : List X → List ℕ) (items : List X) (before out : List ℕ) (n : ℕ) → Written text items before out n → length items ≤ n → out ≡ before ++ text items
written_all text items before out n w end = w.so_far ∙ ap (λ l. before ++ text l) (take_all n items end)
