-- Crates above cite this module: posts along two logs, one after the other.
use Rattle.std.proofs.Common.{◌≡◌, ℕ, suc, ◌+◌, List, [], ◌∷◌, ◌++◌, length, ◌∙◌, ap, arith}
use Rattle.topology.specs.Networks.{Network}
use Rattle.message_links.specs.MailCores.{MailEntryValue}
use Rattle.message_links.specs.MailRounds.{Posts, posts_after, posts_along}

pub along_more : (N : Network) (at : ℕ) (p : Posts) (xs ys : List MailEntryValue) → posts_along N at p (xs ++ ys) ≡ posts_along N (at + length xs) (posts_along N at p xs) ys
along_more N at p [] ys = let q : at ≡ at + 0 = omega arith in ap (λ i. posts_along N i p ys) q
along_more N at p (x ∷ xs) ys = along_more N (suc at) (posts_after N at p x) xs ys ∙ let q : suc at + length xs ≡ at + suc (length xs) = omega arith in ap (λ i. posts_along N i (posts_along N (suc at) (posts_after N at p x) xs) ys) q
