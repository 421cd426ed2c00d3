-- Logs, and the entries of a pass with their places.
use Rattle.std.specs.Prelude.{ℕ, ◌≡◌, ◌⊎◌, ◌<◌, List, [], ◌∷◌, ◌++◌, length, Option, Some, ltb, eqb}
use mathlib.Core.Bool.{cond}
use mathlib.Core.Option.{some}
use lib.ListN.{get_elem?}

-- the log begins with what was seen
abbrev pub StartsWith : {E : Type 0} → List E → List E → Type 0
StartsWith {E} log seen = (rest : List E) × (log ≡ seen ++ rest)

-- x stands in the list
abbrev pub In : {A : Type 0} → A → List A → Type 0
In x [] = ⊥
In x (y ∷ ys) = (x ≡ y) ⊎ In x ys

-- the places of the entries rise
abbrev pub Rises : {E : Type 0} → List (ℕ × E) → Type 0
Rises [] = Unit {0}
Rises {E} (x ∷ xs) = ((q : ℕ) (e : E) → In (q, e) xs → x.0 < q) × Rises xs

-- what answers an entry stands behind it
abbrev pub IsEarlier : {E : Type 0} → (List E → ℕ → Option ℕ) → Type 0
IsEarlier {E} answers = (log : List E) (j p : ℕ) → answers log j ≡ Some p → p < j

-- which entry the entry at a place answers is decided by the entries up to there
abbrev pub StaysFrom : {E : Type 0} → (List E → ℕ → Option ℕ) → Type 0
StaysFrom {E} answers = (log : List E) (e : E) (j : ℕ) → j < length log → answers (log ++ e ∷ []) j ≡ answers log j

-- each entry of mine stands in the log at its place
abbrev pub ArePlaced : {E : Type 0} → List E → List (ℕ × E) → Type 0
ArePlaced {E} log mine = (p : ℕ) (e : E) → In (p, e) mine → get_elem? log p ≡ some e

-- no entry of the log answers the entry at the place p
abbrev pub IsUnanswered : {E : Type 0} → (List E → ℕ → Option ℕ) → List E → ℕ → Type 0
IsUnanswered answers log p = (j : ℕ) → j < length log → answers log j ≡ Some p → ⊥

-- no entry of mine answers the entry at the place p of the log
abbrev pub IsOpen : {E : Type 0} → (List E → ℕ → Option ℕ) → List E → List (ℕ × E) → ℕ → Type 0
IsOpen {E} answers log mine p = (q : ℕ) (f : E) → In (q, f) mine → answers log q ≡ Some p → ⊥

-- the list without the number k
abbrev pub without : ℕ → List ℕ → List ℕ
without k [] = []
without k (x ∷ xs) = cond (eqb k x) (without k xs) (x ∷ without k xs)

-- the last number of a name
abbrev pub last_of : List ℕ → ℕ
last_of [] = 0
last_of (x ∷ []) = x
last_of (x ∷ y ∷ ys) = last_of (y ∷ ys)

-- the longer of two lists
abbrev pub longer : {E : Type 0} → List E → List E → List E
longer xs ys = cond (ltb (length xs) (length ys)) ys xs

-- one more entry, before the first one with a greater place
abbrev pub put_in : {E : Type 0} → (ℕ × E) → List (ℕ × E) → List (ℕ × E)
put_in x [] = x ∷ []
put_in x (y ∷ ys) = cond (ltb x.0 y.0) (x ∷ y ∷ ys) (y ∷ put_in x ys)

-- the entries of two passes, by place
abbrev pub merged : {E : Type 0} → List (ℕ × E) → List (ℕ × E) → List (ℕ × E)
merged xs [] = xs
merged xs (y ∷ ys) = put_in y (merged xs ys)

-- an entry of mine that none of mine answers is answered by no entry of the log
abbrev pub AnswersOwn : {E : Type 0} → (List E → ℕ → Option ℕ) → List E → List (ℕ × E) → Type 0
AnswersOwn {E} answers log mine =
    (p : ℕ) (e : E) → In (p, e) mine → IsOpen answers log mine p → IsUnanswered answers log p
