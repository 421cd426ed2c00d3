-- Texts that are put together from the left, and from the right.
use Rattle.std.proofs.Common.{◌≡◌, List, ◌++◌, append_assoc}

pub seam_four : {A : Type 0} (a b c d : List A) → a ++ (b ++ (c ++ d)) ≡ a ++ b ++ c ++ d
seam_four a b c d = simp append_assoc

pub seam_five : {A : Type 0} (a b c d e : List A) → a ++ (b ++ (c ++ (d ++ e))) ≡ a ++ b ++ c ++ d ++ e
seam_five a b c d e = simp append_assoc

pub seam_six : {A : Type 0} (a b c d e f : List A) → a ++ (b ++ (c ++ (d ++ (e ++ f)))) ≡ a ++ b ++ c ++ d ++ e ++ f
seam_six a b c d e f = simp append_assoc

-- with a mark and the space behind it in one
pub seam_between : {A : Type 0} (a b c d e : List A) → a ++ (b ++ ((c ++ d) ++ e)) ≡ a ++ b ++ c ++ d ++ e
seam_between a b c d e = simp append_assoc

pub seam_three : {A : Type 0} (a b c : List A) → a ++ (b ++ c) ≡ a ++ b ++ c
seam_three a b c = simp append_assoc

-- with the closing bracket behind the parameters
pub seam_closed : {A : Type 0} (a b c d e f g h : List A) → a ++ (b ++ ((c ++ d) ++ (e ++ (f ++ (g ++ h))))) ≡ a ++ b ++ c ++ (d ++ e) ++ f ++ g ++ h
seam_closed a b c d e f g h = simp append_assoc
