-- Rows of letters, and what they stand for.
use Rattle.std.specs.Prelude.{ℕ, ◌≡◌, List, [], ◌∷◌, map, Option, None, Vec, if◌then◌else◌}
use Rattle.std.specs.declared.alloc.Global.{Global}
use Rattle.fc_values.specs.Trees.{TreeExport, NearCopy}
use Rattle.fc_nodes.specs.Program.{Unfolding}
use Rattle.topology.specs.Networks.{Network, numbers}
use Rattle.firing_core.specs.Cores.{near_with}
use Rattle.message_links.specs.MailCores.{Message as MailMessage, Pairs, put_pair, pushed, posted, reaches}
use Rattle.mail_book.specs.declared.letters.Letters.{Letters}
use Rattle.mail_book.specs.Letters.{heard_of, transit_of, AllLetters, AllQuiet, SameRow}
use Rattle.mail_book.specs.Pairs.{at_pair, AreRows}

abbrev pub lists_of : List (Vec Letters Global) → List (List Letters)
lists_of rows = map (λ (r : Vec Letters Global). r.items) rows

-- what each row tells of what was heard, and of what is in transit
abbrev pub heard_rows : Unfolding → List (List Letters) → List (List (Option TreeExport))
heard_rows U rows = map (λ r. map (heard_of U) r) rows

abbrev pub transit_rows : Unfolding → List (List Letters) → List (List (List MailMessage))
transit_rows U rows = map (λ r. map (transit_of U) r) rows

abbrev pub heard_at : Unfolding → Network → List (List Letters) → Pairs (Option TreeExport)
heard_at U N rows = at_pair N None (heard_rows U rows)

abbrev pub transit_at : Unfolding → Network → List (List Letters) → Pairs (List MailMessage)
transit_at U N rows = at_pair N [] (transit_rows U rows)

-- all rows hold exports of the program alone
abbrev pub AllRows : Unfolding → List (List Letters) → Type 0
AllRows U [] = Unit {0}
AllRows U (r ∷ rows) = AllLetters U r × AllRows U rows

abbrev pub AreQuiet : List (List Letters) → Type 0
AreQuiet [] = Unit {0}
AreQuiet (r ∷ rows) = AllQuiet r × AreQuiet rows

-- the same is heard, and the same is in transit
abbrev pub SameRows : List (List Letters) → List (List Letters) → Type 0
SameRows [] [] = Unit {0}
SameRows (r ∷ rs) (s ∷ ss) = SameRow r s × SameRows rs ss
SameRows _ _ = ⊥

-- the copies of the neighbours of which a row has heard something
abbrev pub heard_copies : Unfolding → List (ℕ × ℕ) → List Letters → List NearCopy
heard_copies U [] ls = []
heard_copies U (n ∷ ns) [] = []
heard_copies U (n ∷ ns) (l ∷ ls) = near_with n (heard_of U l) (heard_copies U ns ls)

-- an export of a device was sent to each of its neighbours
pub record Posts (U : Unfolding) (N : Network) (d : ℕ) (sent : Option ℕ) (e : TreeExport) (old new : List (List Letters))
    : Type 0 where
  pub shape : AreRows N (numbers N.devices) new
  pub letters : AllRows U new
  pub heard : heard_at U N new ≡ heard_at U N old
  pub transit : transit_at U N new ≡ posted N (transit_at U N old) d (record { export = e; sent = sent })

-- an export was sent to one device, if it is a neighbour
pub record PostsTo (U : Unfolding) (N : Network) (d to : ℕ) (sent : Option ℕ) (e : TreeExport)
    (old new : List (List Letters)) : Type 0 where
  pub shape : AreRows N (numbers N.devices) new
  pub letters : AllRows U new
  pub heard : heard_at U N new ≡ heard_at U N old
  pub transit : transit_at U N new ≡ (
      if reaches N d to
      then put_pair (transit_at U N old) d to (pushed (transit_at U N old d to) (record { export = e; sent = sent }))
      else transit_at U N old)
