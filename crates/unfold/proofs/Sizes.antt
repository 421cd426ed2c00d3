-- The counted number of nodes is that of the unfolding.
use Rattle.std.proofs.Common.{◌≡◌, refl, ap, ℕ, suc, ◌+◌, arith, Bool, true, false, cond, List, [], ◌∷◌, ◌++◌, length, Option, Some, None}
use Rattle.std.specs.Prelude.{bytes_eq, slice_get}
use Rattle.std.proofs.lemmas.List.{length-append}
use Rattle.fc_values.specs.Types.{Input}
use Rattle.fc_syntax.specs.Terms.{SourceTerm, IntTerm, TruthTerm, VarTerm, UidTerm, NbrLinkTerm, SenseTerm, ApplyTerm, NbrTerm, RepTerm, ShareTerm, IfTerm, LetTerm, CallTerm, SourceTerms, NoTerms, MoreTerms, Parameter, Declaration}
use Rattle.fc_types.specs.Before.{Function, nothing_declared, with_declarations}
use Rattle.fc_nodes.specs.Terms.{Term, Terms, Plain, Apply, Nbr, Evolve, If, Let, NoMore, More, term_type, size, sizes, ByShare, View}
use Rattle.unfold.specs.Unfolding.{Binder, NamesInScope, binder_of, Meaning, meaning_of, variable_term, numbered_term, input_number, sense_by, params_of, body_of, unfolded, unfolded_call, unfolded_all, with_argument, behind_first, with_binder, variable_type, meaning, meanings, main_expression, main_term}
use Rattle.unfold.specs.Nodes.{listed, all_listed}
use Rattle.unfold.specs.Counting.{Count, size_of, count, count_all, count_arguments, counts, main_count}

-- counts of what functions are: each body has its size at each place and in each scope
pub record IsCount (m : Meaning) (c : Count) : Type 0 where
  pub name : m.name ≡ c.name
  pub size : (given : NamesInScope) (p : ℕ) → size (m.body given p) ≡ c.size

abbrev pub AreCounts : List Meaning → List Count → Type 0
AreCounts [] [] = Unit {0}
AreCounts (m ∷ ms) (c ∷ cs) = IsCount m c × AreCounts ms cs
AreCounts _ _ = ⊥

named_size : (x : List ℕ) (ms : List Meaning) (cs : List Count) → AreCounts ms cs → (given : NamesInScope) (p : ℕ) → size (body_of (meaning_of x ms) given p) ≡ size_of x cs
named_size x [] [] h given p = refl
named_size x (m ∷ ms) (c ∷ cs) h given p = let e = h.0.name in go (bytes_eq x m.name) (bytes_eq x c.name) (ap (bytes_eq x) e) (meaning_of x ms) (named_size x ms cs h.1 given p)
  where
    go : (b b' : Bool) → b ≡ b' → (o : Option Meaning) → size (body_of o given p) ≡ size_of x cs → size (body_of (cond b (Some m) o) given p) ≡ cond b' c.size (size_of x cs)
    go true true e o i = h.0.size given p
    go true false e o i = absurd cc
    go false true e o i = absurd cc
    go false false e o i = i
named_size x [] (c ∷ cs) h given p = absurd h
named_size x (m ∷ ms) [] h given p = absurd h

variable_one : (o : Option Binder) → size (variable_term o) ≡ 1
variable_one None = refl
variable_one (Some b) = refl

sense_one : (is : List Input) (o : Option ℕ) → size (sense_by is o) ≡ 1
sense_one is None = refl
sense_one is (Some n) = go (slice_get is n)
  where
    go : (o : Option Input) → size (numbered_term n o) ≡ 1
    go None = refl
    go (Some i) = refl

module _ (is : List Input) (ms : List Meaning) (cs : List Count) (are : AreCounts ms cs) where
  mutual
    pub unfolded_size : (e : SourceTerm) (scope : NamesInScope) (p : ℕ) → size (unfolded is ms scope p e) ≡ count cs e
    unfolded_size (IntTerm n) scope p = refl
    unfolded_size (TruthTerm b) scope p = refl
    unfolded_size (VarTerm x) scope p = variable_one (binder_of x scope)
    unfolded_size UidTerm scope p = refl
    unfolded_size NbrLinkTerm scope p = refl
    unfolded_size (SenseTerm x) scope p = sense_one is (input_number x is)
    unfolded_size (ApplyTerm b es) scope p = ap suc (unfolded_all_size es scope (suc p))
    unfolded_size (NbrTerm e) scope p = ap suc (unfolded_size e scope (suc p))
    unfolded_size (RepTerm e x b) scope p =
        let a = unfolded is ms scope (suc p) e in
        let h = unfolded_size e scope (suc p) in
        let i = unfolded_size b (with_binder x p (term_type a) scope) (suc p + size a) in
        omega (arith, h, i)
    unfolded_size (ShareTerm e x b) scope p =
        let a = unfolded is ms scope (suc p) e in
        let h = unfolded_size e scope (suc p) in
        let i = unfolded_size b (with_binder x p (variable_type ByShare (term_type a)) scope) (suc p + size a) in
        omega (arith, h, i)
    unfolded_size (IfTerm c a b) scope p =
        let k = unfolded is ms scope (suc p) c in
        let l = unfolded is ms scope (suc p + size k) a in
        let h = unfolded_size c scope (suc p) in
        let i = unfolded_size a scope (suc p + size k) in
        let j = unfolded_size b scope (suc p + size k + size l) in
        omega (arith, h, i, j)
    unfolded_size (LetTerm x e b) scope p =
        let a = unfolded is ms scope (suc p) e in
        let h = unfolded_size e scope (suc p) in
        let i = unfolded_size b (with_binder x p (term_type a) scope) (suc p + size a) in
        omega (arith, h, i)
    unfolded_size (CallTerm f es) scope p =
        unfolded_call_size es scope (params_of (meaning_of f ms)) [] p (body_of (meaning_of f ms)) (size_of f cs) (λ given q. named_size f ms cs are given q)

    pub unfolded_call_size : (es : SourceTerms) (scope : NamesInScope) (params : List Parameter) (given : NamesInScope) (p : ℕ) (body : NamesInScope → ℕ → Term) (n : ℕ) →
        ((inner : NamesInScope) (q : ℕ) → size (body inner q) ≡ n) → size (unfolded_call is ms scope params given p body es) ≡ count_arguments cs es + n
    unfolded_call_size NoTerms scope params given p body n h = let e = h given p in omega (arith, e)
    unfolded_call_size (MoreTerms e es) scope params given p body n h =
        let a = unfolded is ms scope (suc p) e in
        let i = unfolded_size e scope (suc p) in
        let j = unfolded_call_size es scope (behind_first params) (with_argument params p (term_type a) given) (suc p + size a) body n h in
        omega (arith, i, j)

    pub unfolded_all_size : (es : SourceTerms) (scope : NamesInScope) (p : ℕ) → sizes (unfolded_all is ms scope p es) ≡ count_all cs es
    unfolded_all_size NoTerms scope p = refl
    unfolded_all_size (MoreTerms e es) scope p =
        let a = unfolded is ms scope p e in
        let i = unfolded_size e scope p in
        let j = unfolded_all_size es scope (p + size a) in
        omega (arith, i, j)

one_more : (ms : List Meaning) (cs : List Count) (m : Meaning) (c : Count) → AreCounts ms cs → IsCount m c → AreCounts (ms ++ m ∷ []) (cs ++ c ∷ [])
one_more [] [] m c h i = (i, tt)
one_more (n ∷ ms) (d ∷ cs) m c h i = (h.0, one_more ms cs m c h.1 i)
one_more [] (d ∷ cs) m c h i = absurd h
one_more (n ∷ ms) [] m c h i = absurd h

-- the counts of functions are counts of what they are
pub counts_are : (is : List Input) (ms : List Meaning) (cs : List Count) (fs : List Function) → AreCounts ms cs → AreCounts (meanings is ms fs) (counts cs fs)
counts_are is ms cs [] h = h
counts_are is ms cs (f ∷ fs) h =
    counts_are is (ms ++ meaning is ms f ∷ []) (cs ++ record { name = f.name; size = count cs f.body } ∷ []) fs
    (one_more ms cs (meaning is ms f) (record { name = f.name; size = count cs f.body }) h (record { name = refl; size = λ given p. unfolded_size is ms cs h f.body given p }))

pub main_size : (ds : List Declaration) → size (main_term ds) ≡ main_count ds
main_size ds =
    let is = (with_declarations nothing_declared ds).inputs in
    let fs = (with_declarations nothing_declared ds).functions in
    unfolded_size is (meanings is [] fs) (counts [] fs) (counts_are is [] [] fs tt) (main_expression ds) [] 0

two_long : (xs ys : List View) (m n : ℕ) → length xs ≡ m → length ys ≡ n → length (xs ++ ys) ≡ m + n
two_long xs ys m n e f = let l = length-append xs ys in omega (arith, l, e, f)

-- a term has as many nodes as its size says
mutual
  pub listed_long : (t : Term) (p : ℕ) → length (listed p t) ≡ size t
  listed_long (Plain t l) p = refl
  listed_long (Apply t b xs) p = ap suc (all_listed_long xs (suc p))
  listed_long (Nbr t a) p = ap suc (listed_long a (suc p))
  listed_long (Evolve t v a b) p = ap suc (two_long (listed (suc p) a) (listed (suc p + size a) b) (size a) (size b) (listed_long a (suc p)) (listed_long b (suc p + size a)))
  listed_long (Let t a b) p = ap suc (two_long (listed (suc p) a) (listed (suc p + size a) b) (size a) (size b) (listed_long a (suc p)) (listed_long b (suc p + size a)))
  listed_long (If t c a b) p =
      ap suc (two_long (listed (suc p) c ++ listed (suc p + size c) a) (listed (suc p + size c + size a) b) (size c + size a) (size b)
      (two_long (listed (suc p) c) (listed (suc p + size c) a) (size c) (size a) (listed_long c (suc p)) (listed_long a (suc p + size c)))
      (listed_long b (suc p + size c + size a)))

  pub all_listed_long : (xs : Terms) (p : ℕ) → length (all_listed p xs) ≡ sizes xs
  all_listed_long NoMore p = refl
  all_listed_long (More x xs) p = two_long (listed p x) (all_listed (p + size x) xs) (size x) (sizes xs) (listed_long x p) (all_listed_long xs (p + size x))
