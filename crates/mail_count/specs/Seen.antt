-- What was seen of a round over message links so far.
use Rattle.std.specs.Prelude.{ℕ, Bool, true, false, ◌≡◌, ◌+◌, ◌&&◌, ◌||◌, nat_eq, if◌then◌else◌}
use Rattle.std.specs.Prelude.{List, [], ◌∷◌, map}
use Rattle.topology.specs.Networks.{Network, Lives, numbers}
use Rattle.message_links.specs.MailCores.{Reaches, Pairs, put_pair, rest_of, without, posted}
use Rattle.message_links.specs.MailCores.{MailEntryValue, MailBegin, MailEnd, MailIdle}
use Rattle.message_links.specs.MailCores.{MailDeliver, MailAgain, MailLose}
use Rattle.message_links.specs.MailRounds.{Posts}

-- Of a device: whether its copy in flight was taken in the round, and whether it fired in the round. Of an ordered
-- pair: which messages in transit the round sent, the oldest first, and whether one came once each device had fired.
pub record Seen : Type 0 where
  pub flies : ℕ → Bool
  pub fired : ℕ → Bool
  pub own : Pairs (List Bool)
  pub brought : Pairs Bool

-- how many are false
abbrev pub missing : List Bool → ℕ
missing [] = 0
missing (b ∷ bs) = (if b then 0 else 1) + missing bs

-- each device has fired
abbrev pub ready : Network → Seen → Bool
ready N s = nat_eq (missing (map s.fired (numbers N.devices))) 0

abbrev pub oldest_own : List Bool → Bool
oldest_own [] = false
oldest_own (b ∷ bs) = b

-- at the beginning of a round
abbrev pub unseen : Pairs (List Bool) → Seen
unseen own = record { flies = λ d. false; fired = λ d. false; own = own; brought = λ a b. false }

abbrev pub fresh : Posts → Seen
fresh p = unseen (λ a b. map (λ s. false) (p a b))

-- one round is over, and the next begins
abbrev pub cleared : Seen → Seen
cleared s = unseen (λ a b. map (λ f. false) (s.own a b))

-- the oldest message of a pair is heard
abbrev pub brings : Network → Seen → ℕ → ℕ → Pairs Bool
brings N s c d = put_pair s.brought c d (s.brought c d || (ready N s && oldest_own (s.own c d)))

-- after one entry, and after several
abbrev pub noted : Network → Seen → MailEntryValue → Seen
noted N s (MailBegin d) = record {
  flies = λ a. if nat_eq d a then true else s.flies a;
  fired = s.fired;
  own = s.own;
  brought = s.brought;
}
noted N s (MailEnd d) = record {
  flies = λ a. if nat_eq d a then false else s.flies a;
  fired = λ a. if nat_eq d a then s.flies a || s.fired a else s.fired a;
  own = posted N s.own d (s.flies d);
  brought = s.brought;
}
noted N s MailIdle = s
noted N s (MailDeliver c d) = record {
  flies = s.flies;
  fired = s.fired;
  own = put_pair s.own c d (rest_of (s.own c d));
  brought = brings N s c d;
}
noted N s (MailAgain c d) = record { flies = s.flies; fired = s.fired; own = s.own; brought = brings N s c d }
noted N s (MailLose c d i) = record {
  flies = s.flies;
  fired = s.fired;
  own = put_pair s.own c d (without i (s.own c d));
  brought = s.brought;
}

abbrev pub noted_all : Network → Seen → List MailEntryValue → Seen
noted_all N s [] = s
noted_all N s (e ∷ es) = noted_all N (noted N s e) es

-- each device fired, and then each ordered pair brought a message of the round
pub record IsWhole (N : Network) (s : Seen) : Type 0 where
  pub fired : (d : ℕ) → Lives N d → s.fired d ≡ true
  pub brought : (a b : ℕ) → Reaches N a b → s.brought a b ≡ true
