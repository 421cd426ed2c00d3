-- Rounds over message links: each device fires, and then on each ordered pair of neighbours a message is delivered that
-- a firing of the round sent.
use Rattle.std.specs.Prelude.{ℕ, zero, suc, ◌≡◌, ◌+◌, ◌⊎◌, List, [], ◌∷◌, ◌++◌, map, length}
use Rattle.std.specs.Prelude.{Option, Some, None}
use Rattle.topology.specs.Networks.{Network, Lives}
use Rattle.message_links.specs.MailCores.{Reaches, Message, Pairs, put_pair, MailCore, MailEntryValue, MailBegin}
use Rattle.message_links.specs.MailCores.{MailEnd, MailIdle, MailDeliver, MailAgain, MailLose, rest_of, without, posted}

-- the positions of the ends that sent the messages in transit
abbrev pub Posts : Type 0
Posts = Pairs (List (Option ℕ))

abbrev pub posts_of : MailCore → Posts
posts_of c = λ a b. map (λ (m : Message). m.sent) (c.transit a b)

-- those after an entry at a position, and after the entries of a log from a position on
abbrev pub posts_after : Network → ℕ → Posts → MailEntryValue → Posts
posts_after N at p (MailBegin d) = p
posts_after N at p (MailEnd d) = posted N p d (Some at)
posts_after N at p MailIdle = p
posts_after N at p (MailDeliver a b) = put_pair p a b (rest_of (p a b))
posts_after N at p (MailAgain a b) = p
posts_after N at p (MailLose a b i) = put_pair p a b (without i (p a b))

abbrev pub posts_along : Network → ℕ → Posts → List MailEntryValue → Posts
posts_along N at p [] = p
posts_along N at p (e ∷ es) = posts_along N (suc at) (posts_after N at p e) es

-- a device ends a firing; it begins one, and later ends one
abbrev pub HasMailEnd : ℕ → List MailEntryValue → Type 0
HasMailEnd d [] = ⊥
HasMailEnd d (e ∷ es) = (e ≡ MailEnd d) ⊎ HasMailEnd d es

abbrev pub HasMailFiring : ℕ → List MailEntryValue → Type 0
HasMailFiring d [] = ⊥
HasMailFiring d (e ∷ es) = ((e ≡ MailBegin d) × HasMailEnd d es) ⊎ HasMailFiring d es

-- at this index of a part of the log a device ends a firing that it begins in the part
pub record EndsOwnBegin (d : ℕ) (part : List MailEntryValue) (index : ℕ) : Type 0 where
  pub before : List MailEntryValue
  pub between : List MailEntryValue
  pub after : List MailEntryValue
  pub cut : part ≡ before ++ MailBegin d ∷ (between ++ MailEnd d ∷ after)
  pub flies : HasMailEnd d between → ⊥
  pub is : index ≡ length (before ++ MailBegin d ∷ between)

-- the oldest post of an ordered pair
abbrev pub oldest_post : List (Option ℕ) → Option ℕ
oldest_post [] = None
oldest_post (s ∷ ss) = s

-- After the first entries of a part, a message is delivered on an ordered pair that was sent by an end in the part,
-- of a firing that was begun in it. The part stands at a position of the log.
pub record Brings (N : Network) (at : ℕ) (p : Posts) (first second : List MailEntryValue) (a b : ℕ) : Type 0 where
  pub before : List MailEntryValue
  pub entry : MailEntryValue
  pub after : List MailEntryValue
  pub cut : second ≡ before ++ entry ∷ after
  pub hears : (entry ≡ MailDeliver a b) ⊎ (entry ≡ MailAgain a b)
  pub index : ℕ
  pub sent : oldest_post (posts_along N at p (first ++ before) a b) ≡ Some (at + index)
  pub own : EndsOwnBegin a (first ++ second) index

-- a part of the log, at a position, in which each device fires, and after that each ordered pair of neighbours delivers
-- a message of a firing of the part
pub record CoversMail (N : Network) (at : ℕ) (p : Posts) (part : List MailEntryValue) : Type 0 where
  pub first : List MailEntryValue
  pub second : List MailEntryValue
  pub cut : part ≡ first ++ second
  pub fires : (d : ℕ) → Lives N d → HasMailFiring d first
  pub brings : (a b : ℕ) → Reaches N a b → Brings N at p first second a b

-- a log, from a position on, that is so many covering parts and a rest
abbrev pub HasMailRounds : Network → ℕ → Posts → List MailEntryValue → ℕ → Type 0
HasMailRounds N at p log zero = Unit {0}
HasMailRounds N at p log (suc k) =
    (part : List MailEntryValue) × (rest : List MailEntryValue)
    × (log ≡ part ++ rest) × CoversMail N at p part
    × HasMailRounds N (at + length part) (posts_along N at p part) rest k
