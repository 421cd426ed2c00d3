-- A list of nodes that is that of a term is its preorder.
use Rattle.std.proofs.Common.{◌≡◌, refl, sym, ap, subst, ◌∙◌, ℕ, suc, ◌+◌, ◌<◌, arith, List, [], ◌∷◌, ◌++◌, length, map, Some, append_assoc}
use Rattle.std.proofs.lemmas.List.{length-append, length-map}
use Rattle.fc_nodes.specs.declared.nodes.Node.{Node}
use Rattle.fc_nodes.specs.Terms.{Term, Terms, Plain, Apply, Nbr, Evolve, If, Let, NoMore, More, size, View, Has, OfLeaf, OfApply, OfNbr, OfEvolve, OfIf, OfLet, places, view_of, view_at, Laid, AllLaid, Later, KidsLater, WellFormed, term_at}
use Rattle.fc_nodes.proofs.Places.{all_above}
use Rattle.fc_nodes.proofs.Kids.{laid_term}
use Rattle.unfold.specs.Nodes.{listed, all_listed}
use Rattle.unfold.proofs.Sizes.{listed_long}

-- the node behind so many others
view_behind : (ns : List Node) (before after : List View) (v : View) → map view_of ns ≡ before ++ v ∷ after → view_at ns (length before) ≡ Some v
view_behind [] [] after v e = absurd cc
view_behind [] (w ∷ before) after v e = absurd cc
view_behind (n ∷ ns) [] after v e = cc
view_behind (n ∷ ns) (w ∷ before) after v e = let e' : map view_of ns ≡ before ++ v ∷ after = cc in view_behind ns before after v e'

module _ (ns : List Node) where
  node_at : (before after : List View) (v : View) (p : ℕ) → map view_of ns ≡ before ++ v ∷ after → p ≡ length before → view_at ns p ≡ Some v
  node_at before after v p e q = rw q (view_behind ns before after v e)

  -- the nodes behind one more node, and behind those of a term
  past_one : (before after : List View) (v : View) (xs : List View) → map view_of ns ≡ before ++ ((v ∷ xs) ++ after) → map view_of ns ≡ (before ++ v ∷ []) ++ (xs ++ after)
  past_one before after v xs e = e ∙ sym (append_assoc before (v ∷ []) (xs ++ after))

  past_more : (before after xs ys : List View) → map view_of ns ≡ before ++ ((xs ++ ys) ++ after) → map view_of ns ≡ (before ++ xs) ++ (ys ++ after)
  past_more before after xs ys e = e ∙ ap (λ l. before ++ l) (append_assoc xs ys after) ∙ sym (append_assoc before xs (ys ++ after))

  front : (before after xs ys : List View) → map view_of ns ≡ before ++ ((xs ++ ys) ++ after) → map view_of ns ≡ before ++ (xs ++ (ys ++ after))
  front before after xs ys e = e ∙ ap (λ l. before ++ l) (append_assoc xs ys after)

  long_one : (before : List View) (v : View) (p : ℕ) → p ≡ length before → suc p ≡ length (before ++ v ∷ [])
  long_one before v p q = let e = length-append before (v ∷ []) in omega (arith, e, q)

  long_more : (before xs : List View) (p n : ℕ) → p ≡ length before → length xs ≡ n → p + n ≡ length (before ++ xs)
  long_more before xs p n q l = let e = length-append before xs in omega (arith, e, q, l)

  mutual
    pub laid_from : (t : Term) (p : ℕ) (before after : List View) → map view_of ns ≡ before ++ (listed p t ++ after) → p ≡ length before → Laid ns p t
    laid_from (Plain t l) p before after e q = node_at before after (Has (OfLeaf l) t []) p e q
    laid_from (Apply t b xs) p before after e q =
        let v = Has (OfApply b) t (places (suc p) xs) in
        (node_at before (all_listed (suc p) xs ++ after) v p e q, all_laid_from xs (suc p) (before ++ v ∷ []) after (past_one before after v (all_listed (suc p) xs) e) (long_one before v p q))
    laid_from (Nbr t a) p before after e q =
        let v = Has OfNbr t (suc p ∷ []) in
        (node_at before (listed (suc p) a ++ after) v p e q, laid_from a (suc p) (before ++ v ∷ []) after (past_one before after v (listed (suc p) a) e) (long_one before v p q))
    laid_from (Evolve t w a b) p before after e q =
        let v = Has (OfEvolve w) t (suc p ∷ (suc p + size a) ∷ []) in
        let xs = listed (suc p) a in
        let ys = listed (suc p + size a) b in
        let f = past_one before after v (xs ++ ys) e in
        let l = long_one before v p q in (
          node_at before ((xs ++ ys) ++ after) v p e q,
          laid_from a (suc p) (before ++ v ∷ []) (ys ++ after) (front (before ++ v ∷ []) after xs ys f) l,
          laid_from b (suc p + size a) ((before ++ v ∷ []) ++ xs) after (past_more (before ++ v ∷ []) after xs ys f) (long_more (before ++ v ∷ []) xs (suc p) (size a) l (listed_long a (suc p))),
        )
    laid_from (Let t a b) p before after e q =
        let v = Has OfLet t (suc p ∷ (suc p + size a) ∷ []) in
        let xs = listed (suc p) a in
        let ys = listed (suc p + size a) b in
        let f = past_one before after v (xs ++ ys) e in
        let l = long_one before v p q in (
          node_at before ((xs ++ ys) ++ after) v p e q,
          laid_from a (suc p) (before ++ v ∷ []) (ys ++ after) (front (before ++ v ∷ []) after xs ys f) l,
          laid_from b (suc p + size a) ((before ++ v ∷ []) ++ xs) after (past_more (before ++ v ∷ []) after xs ys f) (long_more (before ++ v ∷ []) xs (suc p) (size a) l (listed_long a (suc p))),
        )
    laid_from (If t c a b) p before after e q =
        let v = Has OfIf t (suc p ∷ (suc p + size c) ∷ (suc p + size c + size a) ∷ []) in
        let xs = listed (suc p) c in
        let ys = listed (suc p + size c) a in
        let zs = listed (suc p + size c + size a) b in
        let f = past_one before after v (xs ++ ys ++ zs) e in
        let l = long_one before v p q in
        let g = past_more (before ++ v ∷ []) after (xs ++ ys) zs f in
        let h = front (before ++ v ∷ []) after (xs ++ ys) zs f in
        let m = long_more (before ++ v ∷ []) xs (suc p) (size c) l (listed_long c (suc p)) in
        let two = length-append xs ys in
        let n = long_more (before ++ v ∷ []) (xs ++ ys) (suc p) (size c + size a) l (omega (arith, two, listed_long c (suc p), listed_long a (suc p + size c))) in (
          node_at before ((xs ++ ys ++ zs) ++ after) v p e q,
          laid_from c (suc p) (before ++ v ∷ []) (ys ++ (zs ++ after)) (front (before ++ v ∷ []) (zs ++ after) xs ys h) l,
          laid_from a (suc p + size c) ((before ++ v ∷ []) ++ xs) (zs ++ after) (past_more (before ++ v ∷ []) (zs ++ after) xs ys h) m,
          laid_from b (suc p + size c + size a) ((before ++ v ∷ []) ++ (xs ++ ys)) after g (omega (arith, n)),
        )

    pub all_laid_from : (xs : Terms) (p : ℕ) (before after : List View) → map view_of ns ≡ before ++ (all_listed p xs ++ after) → p ≡ length before → AllLaid ns p xs
    all_laid_from NoMore p before after e q = tt
    all_laid_from (More x xs) p before after e q = (
      laid_from x p before (all_listed (p + size x) xs ++ after) (front before after (listed p x) (all_listed (p + size x) xs) e) q,
      all_laid_from xs (p + size x) (before ++ listed p x) after (past_more before after (listed p x) (all_listed (p + size x) xs) e) (long_more before (listed p x) p (size x) q (listed_long x p)),
    )

-- kids come after their node
abbrev ViewsLater : ℕ → List View → Type 0
ViewsLater p [] = Unit {0}
ViewsLater p (Has s t ks ∷ vs) = Later p ks × ViewsLater (suc p) vs

views_append : (vs ws : List View) (p q : ℕ) → q ≡ p + length vs → ViewsLater p vs → ViewsLater q ws → ViewsLater p (vs ++ ws)
views_append [] ws p q e h i = let e' : q ≡ p = omega arith in rw e' at i
views_append (Has s t ks ∷ vs) ws p q e h i = (h.0, views_append vs ws (suc p) q (omega arith) h.1 i)

later_places : (xs : Terms) (p q : ℕ) → p < q → Later p (places q xs)
later_places NoMore p q l = tt
later_places (More x xs) p q l = (l, later_places xs p (q + size x) (omega arith))

two_later : (a b : Term) (p : ℕ) → ViewsLater p (listed p a) → ViewsLater (p + size a) (listed (p + size a) b) → ViewsLater p (listed p a ++ listed (p + size a) b)
two_later a b p h i = let l = listed_long a p in views_append (listed p a) (listed (p + size a) b) p (p + size a) (omega (arith, l)) h i

mutual
  views_later : (t : Term) (p : ℕ) → ViewsLater p (listed p t)
  views_later (Plain t l) p = (tt, tt)
  views_later (Apply t b xs) p = (later_places xs p (suc p) (omega arith), all_views_later xs (suc p))
  views_later (Nbr t a) p = ((omega arith, tt), views_later a (suc p))
  views_later (Evolve t v a b) p = ((omega arith, (omega arith, tt)), two_later a b (suc p) (views_later a (suc p)) (views_later b (suc p + size a)))
  views_later (Let t a b) p = ((omega arith, (omega arith, tt)), two_later a b (suc p) (views_later a (suc p)) (views_later b (suc p + size a)))
  views_later (If t c a b) p =
      let l = listed_long c (suc p) in
      let m = listed_long a (suc p + size c) in
      let n = length-append (listed (suc p) c) (listed (suc p + size c) a) in (
        (omega arith, (omega arith, (omega arith, tt))),
        views_append (listed (suc p) c ++ listed (suc p + size c) a) (listed (suc p + size c + size a) b) (suc p) (suc p + size c + size a) (omega (arith, l, m, n))
            (two_later c a (suc p) (views_later c (suc p)) (views_later a (suc p + size c))) (views_later b (suc p + size c + size a)),
      )

  all_views_later : (xs : Terms) (p : ℕ) → ViewsLater p (all_listed p xs)
  all_views_later NoMore p = tt
  all_views_later (More x xs) p = let l = listed_long x p in views_append (listed p x) (all_listed (p + size x) xs) p (p + size x) (omega (arith, l)) (views_later x p) (all_views_later xs (p + size x))

nodes_later : (ns : List Node) (p : ℕ) → ViewsLater p (map view_of ns) → KidsLater p ns
nodes_later [] p h = tt
nodes_later (n ∷ ns) p h = (h.0, nodes_later ns (suc p) h.1)

pub kids_later : (ns : List Node) (t : Term) → map view_of ns ≡ listed 0 t → KidsLater 0 ns
kids_later ns t e = nodes_later ns 0 (let P : List View → Type 0 = (λ vs. ViewsLater 0 vs) in subst P (sym e) (views_later t 0))

append_none : (xs : List View) → xs ++ [] ≡ xs
append_none [] = refl
append_none (x ∷ xs) = ap (λ l. x ∷ l) (append_none xs)

pub main_laid : (ns : List Node) (t : Term) → map view_of ns ≡ listed 0 t → Laid ns 0 t
main_laid ns t e = laid_from ns t 0 [] [] (e ∙ sym (append_none (listed 0 t))) refl

-- the term of the nodes
pub read_back : (ns : List Node) (t : Term) → map view_of ns ≡ listed 0 t → term_at ns 0 ≡ t
read_back ns t e = laid_term ns (all_above ns (kids_later ns t e)) t 0 (main_laid ns t e)

pub well_formed : (ns : List Node) (t : Term) → map view_of ns ≡ listed 0 t → WellFormed ns
well_formed ns t e =
    let r = read_back ns t e in
    let l = main_laid ns t e in
    let long : length ns ≡ size t = sym (length-map ns view_of) ∙ ap length e ∙ listed_long t 0 in
    record { later = kids_later ns t e; laid = rw r l; whole = rw r long }
