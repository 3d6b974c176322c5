-- Lemmas on lists of separations and on the list that a table holds. Assumes nothing.
use Rattle.std.proofs.Common.{◌≡◌, ℕ, zero, suc, ◌+◌, ◌<◌, Bool, true, false, cond, ◌⊎◌, List, [], ◌∷◌, length, get_or, set, ℤ, ◌≤ℤ◌, Some, None, Option, sym, refl, ap, ◌∙◌, subst, inl, inr, ⊎_elim, arith}
use Rattle.std.proofs.lemmas.Int.{ints}
use Rattle.std.proofs.lemmas.Bool.Decides.{nat_tests}
use Rattle.std.specs.List.{AllByRecursion}
use Rattle.separations.specs.Separations.{Separation, separation, Meets, MeetsAll, Table, spacing_in, is_of, precedes, larger, larger_than, placed, with_larger, held_in_row, held_from}

module _ (P : Separation → Type 0) where
  -- what holds of each place of a row holds of each separation that is read off it
  row_all :
      (a b : ℕ) (row : List (Option ℤ)) (rest : List Separation) →
      ((j c : ℕ) (s : ℤ) → b + j ≡ c → j < length row → get_or row j None ≡ Some s → P (separation a c s)) → AllByRecursion P rest →
      AllByRecursion P (held_in_row a b row rest)
  row_all a b [] rest h r = r
  row_all a b (None ∷ row) rest h r =
      row_all a (b + 1) row rest (λ j c s p l e. h (suc j) c s (omega arith) (omega arith) e) r
  row_all a b (Some s ∷ row) rest h r = (
    h 0 b s (omega arith) (omega arith) refl,
    row_all a (b + 1) row rest (λ j c s p l e. h (suc j) c s (omega arith) (omega arith) e) r,
  )

  row_at_lem :
      (a b : ℕ) (row : List (Option ℤ)) (rest : List Separation) → AllByRecursion P (held_in_row a b row rest) →
      (j c : ℕ) (s : ℤ) → b + j ≡ c → get_or row j None ≡ Some s → P (separation a c s)
  row_at_lem a b [] rest h j c s p e = cc
  row_at_lem a b (None ∷ row) rest h zero c s p e = cc
  row_at_lem a b (None ∷ row) rest h (suc j) c s p e = row_at_lem a (b + 1) row rest h j c s (omega arith) e
  row_at_lem a b (Some x ∷ row) rest h zero c s p e =
      let q : b ≡ c = omega arith in
      let here : separation a b x ≡ separation a c s = cc in subst P here h.0
  row_at_lem a b (Some x ∷ row) rest h (suc j) c s p e = row_at_lem a (b + 1) row rest h.1 j c s (omega arith) e

  row_rest : (a b : ℕ) (row : List (Option ℤ)) (rest : List Separation) → AllByRecursion P (held_in_row a b row rest) → AllByRecursion P rest
  row_rest a b [] rest h = h
  row_rest a b (None ∷ row) rest h = row_rest a (b + 1) row rest h
  row_rest a b (Some s ∷ row) rest h = row_rest a (b + 1) row rest h.1

  pub table_all :
      (a : ℕ) (table : Table) →
      ((i c b : ℕ) (s : ℤ) → a + i ≡ c → i < length table → b < length (get_or table i []) →
      get_or (get_or table i []) b None ≡ Some s → P (separation c b s)) →
      AllByRecursion P (held_from a table)
  table_all a [] h = tt
  table_all a (row ∷ rows) h =
      row_all a 0 row (held_from (a + 1) rows)
      (λ j c s p l e.
      let q : j ≡ c = omega arith in
      let e' : get_or row c None ≡ Some s = ap (λ i. get_or row i None) (sym q) ∙ e in
      h 0 a c s (omega arith) (omega arith) (omega arith) e')
      (table_all (a + 1) rows (λ i c b s p l m e. h (suc i) c b s (omega arith) (omega arith) m e))

  pub table_at :
      (a : ℕ) (table : Table) → AllByRecursion P (held_from a table) →
      (i c b : ℕ) (s : ℤ) → a + i ≡ c → get_or (get_or table i []) b None ≡ Some s → P (separation c b s)
  table_at a [] h i c b s p e = cc
  table_at a (row ∷ rows) h zero c b s p e =
      let q : a ≡ c = omega arith in
      subst (λ (i : ℕ). P (separation i b s)) q (row_at_lem a 0 row (held_from (a + 1) rows) h b b s (omega arith) e)
  table_at a (row ∷ rows) h (suc i) c b s p e =
      table_at (a + 1) rows (row_rest a 0 row (held_from (a + 1) rows) h) i c b s (omega arith) e

put_same :
    (a b : ℕ) (s : ℤ) (x : Separation) (xs : List Separation) → x.a ≡ a → x.b ≡ b →
    with_larger a b s (x ∷ xs) ≡ separation a b (larger s x.s) ∷ xs
put_same a b s x xs p q = grind (arith, nat_tests)

put_before :
    (a b : ℕ) (s : ℤ) (x : Separation) (xs : List Separation) → (a < x.a) ⊎ ((a ≡ x.a) × (b < x.b)) →
    with_larger a b s (x ∷ xs) ≡ separation a b s ∷ x ∷ xs
put_before a b s x xs p = grind (arith, nat_tests)

put_after :
    (a b : ℕ) (s : ℤ) (x : Separation) (xs : List Separation) → (x.a < a) ⊎ ((x.a ≡ a) × (x.b < b)) →
    with_larger a b s (x ∷ xs) ≡ x ∷ with_larger a b s xs
put_after a b s x xs p = grind (arith, nat_tests)

-- the pair (a, b) goes in front of the list
abbrev InFront : ℕ → ℕ → ℤ → List Separation → Type 0
InFront a b s xs = with_larger a b s xs ≡ separation a b s ∷ xs

row_front :
    (a b c : ℕ) (s : ℤ) (row : List (Option ℤ)) (rest : List Separation) → b < c → InFront a b s rest →
    InFront a b s (held_in_row a c row rest)
row_front a b c s [] rest l h = h
row_front a b c s (None ∷ row) rest l h = row_front a b (c + 1) s row rest (omega arith) h
row_front a b c s (Some x ∷ row) rest l h =
    put_before a b s (separation a c x) (held_in_row a (c + 1) row rest) (inr (refl, l))

table_front : (a b c : ℕ) (s : ℤ) (table : Table) → a < c → InFront a b s (held_from c table)
table_front a b c s [] l = refl
table_front a b c s (row ∷ rows) l = front 0 row (table_front a b (c + 1) s rows (omega arith))
  where
    front :
        (d : ℕ) (row : List (Option ℤ)) → InFront a b s (held_from (c + 1) rows) →
        InFront a b s (held_in_row c d row (held_from (c + 1) rows))
    front d [] h = h
    front d (None ∷ row) h = front (d + 1) row h
    front d (Some x ∷ row) h =
        put_before a b s (separation c d x) (held_in_row c (d + 1) row (held_from (c + 1) rows)) (inl l)

row_put :
    (a b j c : ℕ) (s : ℤ) (row : List (Option ℤ)) (rest : List Separation) → b + j ≡ c → j < length row →
    InFront a c s rest →
    held_in_row a b (set row j (Some (larger_than (get_or row j None) s))) rest ≡ with_larger a c s (held_in_row a b row rest)
row_put a b j c s [] rest p l h = absurd (omega arith)
row_put a b zero c s (None ∷ row) rest p l h =
    let q : b ≡ c = omega arith in
    ap (λ (i : ℕ). separation a i s ∷ held_in_row a (b + 1) row rest) q ∙
    sym (row_front a c (b + 1) s row rest (omega arith) h)
row_put a b (suc j) c s (None ∷ row) rest p l h = row_put a (b + 1) j c s row rest (omega arith) (omega arith) h
row_put a b zero c s (Some x ∷ row) rest p l h =
    let q : b ≡ c = omega arith in
    ap (λ (i : ℕ). separation a i (larger s x) ∷ held_in_row a (b + 1) row rest) q ∙
    sym (put_same a c s (separation a b x) (held_in_row a (b + 1) row rest) refl q)
row_put a b (suc j) c s (Some x ∷ row) rest p l h =
    ap (λ (xs : List Separation). separation a b x ∷ xs) (row_put a (b + 1) j c s row rest (omega arith) (omega arith) h) ∙
    sym (put_after a c s (separation a b x) (held_in_row a (b + 1) row rest) (inr (refl, omega arith)))

row_skip :
    (a b c d : ℕ) (s : ℤ) (row : List (Option ℤ)) (rest : List Separation) → a < c →
    held_in_row a b row (with_larger c d s rest) ≡ with_larger c d s (held_in_row a b row rest)
row_skip a b c d s [] rest l = refl
row_skip a b c d s (None ∷ row) rest l = row_skip a (b + 1) c d s row rest l
row_skip a b c d s (Some x ∷ row) rest l =
    ap (λ (xs : List Separation). separation a b x ∷ xs) (row_skip a (b + 1) c d s row rest l) ∙
    sym (put_after c d s (separation a b x) (held_in_row a (b + 1) row rest) (inl l))

pub table_put :
    (a i c b : ℕ) (s : ℤ) (table : Table) → a + i ≡ c → i < length table → b < length (get_or table i []) →
    held_from a (placed table i b s) ≡ with_larger c b s (held_from a table)
table_put a i c b s [] p l m = absurd (omega arith)
table_put a zero c b s (row ∷ rows) p l m =
    let q : a ≡ c = omega arith in
    row_put a 0 b b s row (held_from (a + 1) rows) (omega arith) m (table_front a b (a + 1) s rows (omega arith)) ∙
    ap (λ (i : ℕ). with_larger i b s (held_in_row a 0 row (held_from (a + 1) rows))) q
table_put a (suc i) c b s (row ∷ rows) p l m =
    ap (held_in_row a 0 row) (table_put (a + 1) i c b s rows (omega arith) (omega arith) m) ∙
    row_skip a 0 c b s row (held_from (a + 1) rows) (omega arith)

larger_is : (x y : ℤ) → (larger x y ≡ x) ⊎ (larger x y ≡ y)
larger_is x y = grind (arith, ints)

larger_both : (x y : ℤ) → (x ≤ℤ larger x y) × (y ≤ℤ larger x y)
larger_both x y = grind (arith, ints)

-- a separation of the pair (a, b)
of_pair : (a b : ℕ) (x : Separation) → is_of a b x ≡ true → (a ≡ x.a) × (b ≡ x.b)
of_pair a b x e = grind (arith, nat_tests)

-- what holds of the separation and of each of the list holds of each with the larger spacing
pub put_all :
    (P : Separation → Type 0) (a b : ℕ) (s : ℤ) (xs : List Separation) → P (separation a b s) → AllByRecursion P xs →
    AllByRecursion P (with_larger a b s xs)
put_all P a b s [] p h = (p, tt)
put_all P a b s (x ∷ xs) p h = go (is_of a b x) refl (precedes a b x) (put_all P a b s xs p h.1)
  where
    go :
        (t : Bool) → is_of a b x ≡ t → (u : Bool) → AllByRecursion P (with_larger a b s xs) →
        AllByRecursion P (cond t (separation a b (larger s x.s) ∷ xs) (cond u (separation a b s ∷ x ∷ xs) (x ∷ with_larger a b s xs)))
    go true e u rest = (
      ⊎_elim (λ (q : larger s x.s ≡ s). rw q p)
          (λ (q : larger s x.s ≡ x.s).
          let o = of_pair a b x e in
          let same : x ≡ separation a b (larger s x.s) = λ i. separation (sym o.0 i) (sym o.1 i) (sym q i) in subst P same h.0)
          (larger_is s x.s),
      h.1,
    )
    go false e true rest = (p, h)
    go false e false rest = (h.0, rest)

-- times that meet the list with the larger spacing meet the separation and the list
pub put_both :
    (times : ℕ → ℤ) (a b : ℕ) (s : ℤ) (xs : List Separation) → MeetsAll times (with_larger a b s xs) →
    Meets times (separation a b s) × MeetsAll times xs
put_both times a b s [] h = (h.0, tt)
put_both times a b s (x ∷ xs) h = go (is_of a b x) refl (precedes a b x) (put_both times a b s xs) h
  where
    go :
        (t : Bool) → is_of a b x ≡ t → (u : Bool) →
        (MeetsAll times (with_larger a b s xs) → Meets times (separation a b s) × MeetsAll times xs) →
        MeetsAll times (cond t (separation a b (larger s x.s) ∷ xs) (cond u (separation a b s ∷ x ∷ xs) (x ∷ with_larger a b s xs))) →
        Meets times (separation a b s) × MeetsAll times (x ∷ xs)
    go true e u rest h =
        let o = of_pair a b x e in
        let both = larger_both s x.s in
        let here = h.0 in
        let at_a = ap times o.0 in
        let at_b = ap times o.1 in (omega (arith, ints), (omega (arith, ints), h.1))
    go false e true rest h = (h.0, h.1)
    go false e false rest h = let r = rest h.1 in (r.0, (h.0, r.1))

-- ---- the spacing at a pair, read off the list

row_past :
    (a b c : ℕ) (row : List (Option ℤ)) (rest : List Separation) → c < b → spacing_in a c rest ≡ None →
    spacing_in a c (held_in_row a b row rest) ≡ None
row_past a b c [] rest l e = e
row_past a b c (None ∷ row) rest l e = row_past a (b + 1) c row rest (omega arith) e
row_past a b c (Some x ∷ row) rest l e =
    let other : is_of a c (separation a b x) ≡ false = grind (arith, nat_tests) in
    rw other (row_past a (b + 1) c row rest (omega arith) e)

row_other :
    (a b c d : ℕ) (row : List (Option ℤ)) (rest : List Separation) → (c ≡ a → ⊥) →
    spacing_in c d (held_in_row a b row rest) ≡ spacing_in c d rest
row_other a b c d [] rest n = refl
row_other a b c d (None ∷ row) rest n = row_other a (b + 1) c d row rest n
row_other a b c d (Some x ∷ row) rest n =
    let other : is_of c d (separation a b x) ≡ false = grind (arith, nat_tests) in rw other (row_other a (b + 1) c d row rest n)

row_in :
    (a b j c : ℕ) (row : List (Option ℤ)) (rest : List Separation) → b + j ≡ c → spacing_in a c rest ≡ None →
    spacing_in a c (held_in_row a b row rest) ≡ get_or row j None
row_in a b j c [] rest p e = e
row_in a b zero c (None ∷ row) rest p e = row_past a (b + 1) c row rest (omega arith) e
row_in a b (suc j) c (None ∷ row) rest p e = row_in a (b + 1) j c row rest (omega arith) e
row_in a b zero c (Some x ∷ row) rest p e =
    let here : is_of a c (separation a b x) ≡ true = grind (arith, nat_tests) in rw here
row_in a b (suc j) c (Some x ∷ row) rest p e =
    let other : is_of a c (separation a b x) ≡ false = grind (arith, nat_tests) in
    rw other (row_in a (b + 1) j c row rest (omega arith) e)

table_past : (a c b : ℕ) (table : Table) → c < a → spacing_in c b (held_from a table) ≡ None
table_past a c b [] l = refl
table_past a c b (row ∷ rows) l =
    row_other a 0 c b row (held_from (a + 1) rows) (omega arith) ∙ table_past (a + 1) c b rows (omega arith)

pub table_in :
    (a i c b : ℕ) (table : Table) → a + i ≡ c → spacing_in c b (held_from a table) ≡ get_or (get_or table i []) b None
table_in a i c b [] p = refl
table_in a zero c b (row ∷ rows) p =
    let q : c ≡ a = omega arith in
    ap (λ (i : ℕ). spacing_in i b (held_in_row a 0 row (held_from (a + 1) rows))) q ∙
    row_in a 0 b b row (held_from (a + 1) rows) (omega arith) (table_past (a + 1) a b rows (omega arith))
table_in a (suc i) c b (row ∷ rows) p =
    row_other a 0 c b row (held_from (a + 1) rows) (omega arith) ∙ table_in (a + 1) i c b rows (omega arith)

-- what holds of each separation of a list holds of the one that is found at a pair
pub found :
    (P : Separation → Type 0) (a b : ℕ) (s : ℤ) (xs : List Separation) → AllByRecursion P xs → spacing_in a b xs ≡ Some s →
    P (separation a b s)
found P a b s [] h e = cc
found P a b s (x ∷ xs) h e = go (is_of a b x) refl (found P a b s xs h.1) e
  where
    go :
        (t : Bool) → is_of a b x ≡ t → (spacing_in a b xs ≡ Some s → P (separation a b s)) →
        cond t (Some x.s) (spacing_in a b xs) ≡ Some s → P (separation a b s)
    go true p rest e =
        let o = of_pair a b x p in
        let q : x.s ≡ s = cc in
        let same : x ≡ separation a b s = λ i. separation (sym o.0 i) (sym o.1 i) (q i) in subst P same h.0
    go false p rest e = rest e
