-- Patterns: which `rep` and `share` stabilise, by the forms of their bodies. The variable has the place of its binder,
-- x.
use Rattle.std.specs.Prelude.{ℕ, suc, Bool, true, false, ◌+◌, ◌&&◌, ◌||◌, not, List, [], ◌∷◌, ◌++◌, nat_eq, if◌then◌else◌, Option, Some, None}
use Rattle.std.specs.declared.result.Result.{Result}
use Rattle.std.specs.declared.result.Result.TheVariants.{Ok, Err}
use Rattle.fc_values.specs.declared.builtins.Builtin.{Builtin}
use Rattle.fc_values.specs.declared.builtins.Builtin.TheVariants as op
use Rattle.fc_values.specs.Types.{IntType, TypeLocal}
use Rattle.fc_nodes.specs.Terms.{Variable, Evolution, ByRep, Term, Terms, Plain, Apply, Nbr, Evolve, If, Let, NoMore, More, size}
use Rattle.fc_nodes.specs.declared.verdicts.Reason.{Reason}
use Rattle.fc_nodes.specs.declared.verdicts.Reason.TheVariants as reason
use Rattle.interval_facts.specs.Ranges.{RangeValue, IntRange, BoolRange, PairRange}
use Rattle.fc_nodes.specs.Variables.{is_variable, occurs, is_own, is_heard}
use Rattle.growth_facts.specs.Leads.{least_integer, greatest_integer}
use Rattle.growth_facts.specs.Growth.{GrowthValue, Grows, Lacks, growth_of}
use Rattle.fragment_check.specs.declared.facts.Guarding.{Guarding}
use Rattle.fragment_check.specs.declared.facts.Guarding.TheVariants as guarding
use Rattle.fragment_check.specs.declared.kinds.Pattern.{Pattern}
use Rattle.fragment_check.specs.declared.kinds.Pattern.TheVariants as pattern

-- ---- where the variable occurs. `is_heard e x` says of a term that it is what is heard of the variable: `nbr` of it in a
-- `rep`, and itself in a `share`

-- some occurrence stands beneath a `let`, an `if`, a `rep`, a `share`, or an `nbr` that is not the `nbr` of what is
-- heard
abbrev mutual
  pub is_nested : Evolution → ℕ → Term → Bool
  is_nested e x (Plain t l) = false
  is_nested e x (Apply t o xs) = is_nested_in e x xs
  is_nested e x (Nbr t a) = not (is_heard e x (Nbr t a)) && occurs x a
  is_nested e x (Evolve t f a b) = occurs x a || occurs x b
  is_nested e x (If t c a b) = occurs x c || (occurs x a || occurs x b)
  is_nested e x (Let t a b) = occurs x a || occurs x b

  pub is_nested_in : Evolution → ℕ → Terms → Bool
  is_nested_in e x NoMore = false
  is_nested_in e x (More t ts) = is_nested e x t || is_nested_in e x ts

-- some occurrence is not that of what is heard
abbrev mutual
  pub is_bare : Evolution → ℕ → Term → Bool
  is_bare e x (Plain t l) = not (is_heard e x (Plain t l)) && is_variable x l
  is_bare e x (Apply t o xs) = is_bare_in e x xs
  is_bare e x (Nbr t a) = not (is_heard e x (Nbr t a)) && is_bare e x a
  is_bare e x (Evolve t f a b) = is_bare e x a || is_bare e x b
  is_bare e x (If t c a b) = is_bare e x c || (is_bare e x a || is_bare e x b)
  is_bare e x (Let t a b) = is_bare e x a || is_bare e x b

  pub is_bare_in : Evolution → ℕ → Terms → Bool
  is_bare_in e x NoMore = false
  is_bare_in e x (More t ts) = is_bare e x t || is_bare_in e x ts

-- ---- guards: `mux(nbr{a} < b, X, s)`, where X is what is heard and a, b and s are without x

-- the terms of a list of exactly two, and of three
abbrev pub two_of : Terms → Option (Term × Term)
two_of (More a (More b NoMore)) = Some (a, b)
two_of _ = None

abbrev pub three_of : Terms → Option (Term × Term × Term)
three_of (More a (More b (More c NoMore))) = Some (a, b, c)
three_of _ = None

-- the place of the binder whose variable a term is, where that is of type int
abbrev pub int_variable : Term → Option ℕ
int_variable (Plain (TypeLocal IntType) (Variable q)) = Some q
int_variable _ = None

-- the binder whose variable both terms are
abbrev pub same_binder : Option ℕ → Option ℕ → Guarding
same_binder (Some p) (Some q) = if nat_eq p q then guarding.Potential p else guarding.Others
same_binder _ _ = guarding.Others

-- what `nbr{a} < b` guards by, where a term is of that form
abbrev pub compared : Term → Term → Option Guarding
compared (Nbr t a) b = Some (same_binder (int_variable a) (int_variable b))
compared _ b = None

abbrev pub compared_two : Option (Term × Term) → Option Guarding
compared_two (Some (a, b)) = compared a b
compared_two None = None

abbrev pub comparison : Term → Option Guarding
comparison (Apply t op.Less xs) = compared_two (two_of xs)
comparison _ = None

-- what a `mux` of these guards by, where it guards an occurrence
abbrev pub guard_by : Evolution → ℕ → Option (Term × Term × Term) → Option Guarding
guard_by e x (Some (c, h, s)) = if is_heard e x h && (not (occurs x c) && not (occurs x s)) then comparison c else None
guard_by e x None = None

abbrev pub guard : Evolution → ℕ → Builtin → Terms → Option Guarding
guard e x op.Mux xs = guard_by e x (three_of xs)
guard e x _ xs = None

-- how the occurrences of two terms are guarded together
abbrev pub together : Guarding → Guarding → Guarding
together guarding.Unused g = g
together (guarding.Potential p) guarding.Unused = guarding.Potential p
together (guarding.Potential p) (guarding.Potential q) = if nat_eq p q then guarding.Potential p else guarding.Others
together (guarding.Potential p) guarding.Others = guarding.Others
together (guarding.Potential p) guarding.Missing = guarding.Missing
together guarding.Others guarding.Missing = guarding.Missing
together guarding.Others _ = guarding.Others
together guarding.Missing g = guarding.Missing

abbrev pub guarding_or : Option Guarding → Guarding → Guarding
guarding_or (Some g) kids = g
guarding_or None kids = kids

-- How the occurrences of x in a term are guarded: there is none; each is guarded, and each a and b is the variable of
-- the binder at one place, of type int; each is guarded, in another way; not each is guarded.
abbrev mutual
  pub guarding_of : Evolution → ℕ → Term → Guarding
  guarding_of e x (Plain t l) = if is_variable x l then guarding.Missing else guarding.Unused
  guarding_of e x (Apply t o xs) = guarding_or (guard e x o xs) (guarding_in e x xs)
  guarding_of e x (Nbr t a) = guarding_of e x a
  guarding_of e x (Evolve t f a b) = together (guarding_of e x a) (guarding_of e x b)
  guarding_of e x (If t c a b) = together (guarding_of e x c) (together (guarding_of e x a) (guarding_of e x b))
  guarding_of e x (Let t a b) = together (guarding_of e x a) (guarding_of e x b)

  pub guarding_in : Evolution → ℕ → Terms → Guarding
  guarding_in e x NoMore = guarding.Unused
  guarding_in e x (More t ts) = together (guarding_of e x t) (guarding_in e x ts)

-- ---- the form of a body

-- minHoodLoc(h, l) without x in l; rise(minHoodLoc(h, l), x, s) without x in l and s, in a `rep`; any other
pub data Form : Type 0 where
  IsHood : Term → Term → Form
  IsRise : Term → Term → Term → Form
  IsOther : Form

-- the arguments of `minHoodLoc`, where the second one is without x
abbrev pub settled_hood : ℕ → Option (Term × Term) → Option (Term × Term)
settled_hood x (Some (h, l)) = if occurs x l then None else Some (h, l)
settled_hood x None = None

abbrev pub hood_of : ℕ → Term → Option (Term × Term)
hood_of x (Apply t op.MinHoodLoc xs) = settled_hood x (two_of xs)
hood_of x _ = None

-- the arguments of `rise`
abbrev pub rise_of : Term → Option (Term × Term × Term)
rise_of (Apply t op.Rise xs) = three_of xs
rise_of _ = None

abbrev pub risen_hood : Option (Term × Term) → Term → Form
risen_hood (Some (h, l)) s = IsRise h l s
risen_hood None s = IsOther

abbrev pub risen_form : Evolution → ℕ → Option (Term × Term × Term) → Form
risen_form ByRep x (Some (a, own, s)) = if is_own x own && not (occurs x s) then risen_hood (hood_of x a) s else IsOther
risen_form _ x _ = IsOther

abbrev pub form_by : Option (Term × Term) → Form → Form
form_by (Some (h, l)) other = IsHood h l
form_by None other = other

abbrev pub evolution_form : Evolution → ℕ → Term → Form
evolution_form e x u = form_by (hood_of x u) (risen_form e x (rise_of u))

-- some occurrence of a body is neither that of what is heard nor, in a `rep`, the second argument of a body rise(a, x,
-- s)
abbrev pub bare_beside : Evolution → ℕ → Option (Term × Term × Term) → Bool → Bool
bare_beside ByRep x (Some (a, own, s)) bare = if is_own x own then is_bare ByRep x a || is_bare ByRep x s else bare
bare_beside _ x _ bare = bare

abbrev pub is_unguarded : Evolution → ℕ → Term → Bool
is_unguarded e x u = bare_beside e x (rise_of u) (is_bare e x u)

-- ---- the pattern

abbrev pub is_pair_range : RangeValue → Bool
is_pair_range (IntRange a b) = false
is_pair_range BoolRange = false
is_pair_range (PairRange r s) = true

-- a growth that raises, or why there is none
abbrev pub raising : GrowthValue → Result ℕ Reason
raising (Lacks q) = Err reason.NoGrowth
raising (Grows c) = if nat_eq c 0 then Err reason.GrowthZero else Ok c

-- minHoodLoc(h, l), by the growth of h and the range of l
abbrev pub minimising_by : ℕ → RangeValue → Result ℕ Reason → Result Pattern Reason
minimising_by m l (Err r) = Err r
minimising_by m l (Ok c) =
    if is_pair_range l && nat_eq (greatest_integer l) m then Err reason.LeadAtCeiling
    else Ok (pattern.Minimising (greatest_integer l) c)

abbrev pub minimising : ℕ → GrowthValue → RangeValue → Result Pattern Reason
minimising m g l = minimising_by m l (raising g)

-- rise(minHoodLoc(h, l), x, s), by the growth of h and the ranges of l and s
abbrev pub rising_by : RangeValue → RangeValue → Result ℕ Reason → Result Pattern Reason
rising_by l s (Err r) = Err r
rising_by l s (Ok c) =
    if nat_eq (least_integer s) 0 then Err reason.RiseZero
    else Ok (pattern.Rising (greatest_integer l) c (least_integer s))

abbrev pub rising : GrowthValue → RangeValue → RangeValue → Result Pattern Reason
rising g l s = rising_by l s (raising g)

-- no pattern: each occurrence is guarded, or not each is
abbrev pub no_pattern : Guarding → Reason
no_pattern guarding.Missing = reason.Converging
no_pattern _ = reason.Potential

-- a body at place p by its form; R has the ranges by places
abbrev pub by_form : ℕ → (ℕ → RangeValue) → Evolution → ℕ → ℕ → Guarding → Form → Result Pattern Reason
by_form m R e x p g (IsHood h l) = minimising m (growth_of m R e x (suc p) h) (R (suc p + size h))
by_form m R e x p g (IsRise h l s) =
    rising (growth_of m R e x (suc (suc p)) h) (R (suc (suc p) + size h)) (R (suc (suc (suc p + size h + size l))))
by_form m R e x p g IsOther = Err (no_pattern g)

abbrev pub by_guarding : Guarding → Result Pattern Reason → Result Pattern Reason
by_guarding (guarding.Potential q) other = Ok (pattern.Acyclic q)
by_guarding _ other = other

-- the pattern of a body at place p, or why it has none: the first line that applies
abbrev pub body_pattern : ℕ → (ℕ → RangeValue) → Evolution → ℕ → ℕ → Term → Result Pattern Reason
body_pattern m R e x p u =
    if not (occurs x u) then Ok pattern.Constant
    else (if is_nested e x u then Err reason.Nested
    else (if is_unguarded e x u then Err reason.Unguarded
    else by_guarding (guarding_of e x u) (by_form m R e x p (guarding_of e x u) (evolution_form e x u))))

-- the pattern of the `rep` or `share` at place p. Its first value isn't looked at
abbrev pub pattern_of : ℕ → (ℕ → RangeValue) → ℕ → Term → Result Pattern Reason
pattern_of m R p (Evolve t e a u) = body_pattern m R e p (suc p + size a) u
pattern_of m R p _ = Err reason.Converging

-- ---- the fragment

-- what is said of a `rep` or `share`, with its place
abbrev pub JudgedPlace : Type 0
JudgedPlace = ℕ × Result Pattern Reason

-- each `rep` and `share` outside the first values, in preorder
abbrev mutual
  pub judged : ℕ → (ℕ → RangeValue) → ℕ → Term → List JudgedPlace
  judged m R p (Plain t l) = []
  judged m R p (Apply t o xs) = all_judged m R (suc p) xs
  judged m R p (Nbr t a) = judged m R (suc p) a
  judged m R p (Evolve t e a b) = (p, pattern_of m R p (Evolve t e a b)) ∷ judged m R (suc p + size a) b
  judged m R p (If t c a b) =
      judged m R (suc p) c ++ (judged m R (suc p + size c) a ++ judged m R (suc p + size c + size a) b)
  judged m R p (Let t a b) = judged m R (suc p) a ++ judged m R (suc p + size a) b

  pub all_judged : ℕ → (ℕ → RangeValue) → ℕ → Terms → List JudgedPlace
  all_judged m R p NoMore = []
  all_judged m R p (More x xs) = judged m R p x ++ all_judged m R (p + size x) xs

-- the first that has no pattern, and its reason
abbrev pub refusal_first : ℕ → Result Pattern Reason → Option (ℕ × Reason) → Option (ℕ × Reason)
refusal_first p (Ok a) rest = rest
refusal_first p (Err r) rest = Some (p, r)

abbrev pub first_refused : List JudgedPlace → Option (ℕ × Reason)
first_refused [] = None
first_refused (j ∷ js) = refusal_first j.0 j.1 (first_refused js)

-- the patterns, with their places
abbrev pub pattern_first : ℕ → Result Pattern Reason → List (ℕ × Pattern) → List (ℕ × Pattern)
pattern_first p (Ok a) rest = (p, a) ∷ rest
pattern_first p (Err r) rest = rest

abbrev pub patterns_in : List JudgedPlace → List (ℕ × Pattern)
patterns_in [] = []
patterns_in (j ∷ js) = pattern_first j.0 j.1 (patterns_in js)
